-- At each number of levels what is read where requires-expressions are not is of the language.
use Rattle.std.proofs.Common.{ℕ, []}
use Rattle.cx_grammar.specs.Laws.{Levelled}
use Rattle.cx_grammar_laws.specs.Language.{IsPartOf}
use Rattle.cx_grammar_laws.proofs.Included.{Included}

pub part_of : {A : Type 0} (p q : Levelled A) → ((level : ℕ) → Included (p level) (q level)) → IsPartOf p q
part_of p q h = record {
  trees = λ limit ts x t. record { level = t.level; whole = (h t.level).whole limit ts [] x t.whole };
  beginnings = λ limit ts k. record { level = k.level; front = (h k.level).front limit ts k.front };
  answers = λ limit level ts. (h level).alike limit ts;
}
