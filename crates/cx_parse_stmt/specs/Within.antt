-- Where statements are read.
use Rattle.std.specs.Prelude.{◌≡◌, ◌≤◌, ℕ, ◌+◌, ◌*◌, ◌-◌, length, Result, IfOk}
use Rattle.cx_base.specs.declared.stop.Stop.{Stop}
use Rattle.cx_scope.specs.Frames.{Frames}
use Rattle.cx_tree.specs.Statements.{StmtTree}
use Rattle.cx_grammar.specs.Production.{Production, Gives}
use Rattle.cx_grammar.specs.Names.{Context, deeper}
use Rattle.cx_grammar.specs.Expressions.{levels, no_requires}
use Rattle.cx_grammar.specs.Types.{Named}
use Rattle.cx_grammar.specs.Statements.{Within, next_behind, for_head}
use Rattle.cx_grammar.specs.Declarations.{unit_levels}
use Rattle.cx_spots.specs.Spots.{left_at, weight}
use Rattle.cx_spots.specs.declared.spot.Spot.{Spot}

-- Where a statement stands: in no list of template arguments.
abbrev pub standing : Frames → ℕ → Context
standing names load = record { names = names; angle = 0; load = load }

-- The productions that stand where a context does, and those one construct deeper.
abbrev pub here : Context → Within
here c = unit_levels no_requires (264 - c.load)

abbrev pub within : Context → Within
within c = unit_levels no_requires (264 - (c.load + 1))

-- ... the latter by the load, said by those that statements are made of
abbrev pub opened : ℕ → Within
opened load = record {
  base = levels no_requires (264 - (load + 1));
  stmt = λ d n. (unit_levels no_requires (264 - (load + 1 + 1))).bare (deeper d) n;
  bare = (unit_levels no_requires (264 - (load + 1))).bare;
  head = for_head (levels no_requires (264 - (load + 1 + 1)));
  parameters = (unit_levels no_requires (264 - (load + 1))).parameters;
  members = (unit_levels no_requires (264 - (load + 1))).members;
  template_parameters = (unit_levels no_requires (264 - (load + 1))).template_parameters;
  decl = (unit_levels no_requires (264 - (load + 1))).decl;
}

-- What a call read from a spot on is what a production's reader gives, which numbers nodes and declares names.
abbrev pub ReadsNamed : {X A : Type 0} → (X → A) → (X → Frames) → (ℕ → Production (Named A)) → Spot → Result (X × Spot) Stop → Type 0
ReadsNamed view names p s r = Gives (λ x. ((view x.0, x.1.next, names x.0), left_at x.1)) r ((p s.next).read 256 (left_at s))

-- by how much at least the weight is less behind a statement; numbers are not given back, nor are they where an
-- expression is no statement of its own
abbrev pub LightensStmt : {X : Type 0} → (X → StmtTree) → ℕ → Spot → Result (X × Spot) Stop → Type 0
LightensStmt view by s r = IfOk r (λ x. (s.next ≤ next_behind (view x.0) x.1.next) × (next_behind (view x.0) x.1.next ≤ x.1.next) × (weight x.1 + by ≤ weight s))
