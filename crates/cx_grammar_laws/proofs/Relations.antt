-- Sequences of what is printed.
use Rattle.cx_grammar.specs.Printed.{Relation, ◌>>=◌}

-- one, then another
abbrev pub chained : {A B : Type 0} → Relation A → (A → Relation B) → Relation B
chained p f = p >>= f
