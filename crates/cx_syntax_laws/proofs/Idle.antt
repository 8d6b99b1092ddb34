-- What reads no piece and declares no name, before what needs one.
use Rattle.std.proofs.Common.{◌≡◌, ◌+◌, true, Ok, refl, ap, ◌∙◌}
use Rattle.cx_names.specs.Frames.{Frames}
use Rattle.cx_syntax.specs.States.{State, Reading, freed, ◌>>>◌}
use Rattle.cx_syntax.specs.Productions.{Production, Class, give, ◌>>=◌}
use Rattle.cx_syntax.specs.Combinators.{node}
use Rattle.cx_syntax_laws.proofs.Lawful.{Lawful, Filled, Opens}
use Rattle.cx_syntax_laws.proofs.Readings.{next_as, free_value}

-- what is read of a state with nothing taken
pub record Same_left {A : Type 0} (p : Production A) (s : State) : Type 0 where
  pub value : A
  pub after : State
  pub reads : p.read s ≡ Ok (value, after)
  pub left : after.left ≡ s.left
  pub names : after.names ≡ s.names

pub record Idle {A : Type 0} (p : Production A) : Type 0 where
  pub idle : (s : State) → Same_left p s

pub idle_give : {A : Type 0} (x : A) → Idle (give x)
idle_give x = record { idle = λ s. record { value = x; after = s; reads = refl; left = refl; names = refl } }

pub idle_node : Idle node
idle_node = record {
  idle = λ s. record { value = s.next; after = record { left = s.left; next = s.next + 1; names = s.names; free = s.free }; reads = refl; left = refl; names = refl };
}

module _ {A B : Type 0} {p : Production A} {f : A → Production B} where
  pub idle_bind : Idle p → ((x : A) → Idle (f x)) → Idle (p >>= f)
  idle_bind ip if' = record {
    idle = λ s.
        let a = ip.idle s in
        let b = (if' a.value).idle a.after in
        record {
          value = b.value;
          after = b.after;
          reads = ap (λ (r : Reading A). r >>> (λ q. (f q.0).read q.1)) a.reads ∙ b.reads;
          left = b.left ∙ a.left;
          names = b.names ∙ a.names;
        };
  }

  pub filled_idle : Idle p → ((x : A) → Filled (f x)) → Filled (p >>= f)
  filled_idle ip ff = record {
    filled = λ s e. let a = ip.idle s in ap (λ (r : Reading A). r >>> (λ q. (f q.0).read q.1)) a.reads ∙ (ff a.value).filled a.after (a.left ∙ e);
  }

  pub opens_idle : {q : Class} → Idle p → Lawful true p → ((x : A) → Opens q (f x)) → Opens q (p >>= f)
  opens_idle {q} ip hp of = record {
    opens = λ s t before e h.
        let a = ip.idle s in
        next_as refl (ap (λ (r : Reading A). r >>> (λ q'. (f q'.0).read q'.1)) a.reads)
        (ap (λ (r : Reading A). r >>> (λ q'. (f q'.0).read q'.1)) (free_value (p.read s) (p.read (freed s)) (hp.basic.unlimited s) a.value a.after a.reads))
        ((of a.value).opens a.after t before (a.left ∙ e) (ap (λ (n : Frames). q n t) a.names ∙ h));
  }
