-- Answers that stay when heights or limits grow.
use Rattle.std.specs.Prelude.{◌≡◌, ◌≤◌, Bool, true, false, IsFalse}
use Rattle.cx_base.specs.declared.limit.Limit.{Limit}
use Rattle.cx_base.specs.declared.limit.Limit.TheVariants as limit
use Rattle.cx_base.specs.declared.place.Place.{Place}
use Rattle.cx_term.specs.Term.{Term}
use Rattle.cx_questions.specs.Answers.{Answer, passed}
use Rattle.cx_questions.specs.Environments.{Environment, Form}
use Rattle.cx_questions.specs.Forms.{Expression}
use Rattle.cx_questions.specs.Program.{Limits}
use Rattle.cx_questions.specs.Questions.{Questions, Rule}

-- kinds of limits: the one on heights, and all
abbrev pub is_height : Limit → Bool
is_height limit.Height = true
is_height _ = false

abbrev pub is_any : Limit → Bool
is_any l = true

-- the answer is that a limit of a kind is passed
abbrev pub passes : {A : Type 0} → (Limit → Bool) → Answer A → Bool
passes kind (passed l at) = kind l
passes kind _ = false

-- an answer is the other one too, unless it is that a limit of the kind is passed
pub data Stays {A : Type 0} (kind : Limit → Bool) (a b : Answer A) : Type 0 where
  it_stays : (IsFalse (passes kind a) → b ≡ a) → Stays kind a b

abbrev pub stays : {A : Type 0} {kind : Limit → Bool} {a b : Answer A} → Stays kind a b → IsFalse (passes kind a) → b ≡ a
stays (it_stays s) = s

-- whatever is asked: an answer of the first is the answer of the second, unless a limit of the kind is passed
pub record AllStay (kind : Limit → Bool) (b c : Questions) : Type 0 where
  pub normal : (rule : Rule) → Stays kind (b.normal rule) (c.normal rule)
  pub satisfied : (at : Place) (p : Form) (env : Environment) → Stays kind (b.satisfied at p env) (c.satisfied at p env)
  pub class : (at : Place) (t : Term) → Stays kind (b.class at t) (c.class at t)
  pub constant : (e : Expression) (env : Environment) → Stays kind (b.constant e env) (c.constant e env)
  pub resolve : (e : Expression) (env : Environment) → Stays kind (b.resolve e env) (c.resolve e env)
  pub type_of : (e : Expression) (env : Environment) → Stays kind (b.type_of e env) (c.type_of e env)

-- each limit is at most the other one
pub record AtMost (l m : Limits) : Type 0 where
  pub nodes : l.nodes ≤ m.nodes
  pub depth : l.depth ≤ m.depth
  pub atoms : l.atoms ≤ m.atoms
  pub clauses : l.clauses ≤ m.clauses
  pub scalars : l.scalars ≤ m.scalars
  pub functions : l.functions ≤ m.functions
