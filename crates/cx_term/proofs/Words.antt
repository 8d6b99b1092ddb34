-- The derived equality of words is equality.
use Rattle.std.proofs.Common.{◌≡◌, Bool, true, false, List, [], ◌∷◌, refl, sym, ap, subst, eqb-true, eq-eqb, true≢false, inl, inr}
use Rattle.std.specs.Prelude.{◌==◌}
use denote.Struct.Field.{Field}
use denote.Struct.Values.{Values}
use denote.Enum.Declared.{Choice, values_one}
use denote.Enum.Compared.{Each, by}
use Rattle.cx_base.specs.declared.numbers.NodeId.{NodeId}
use Rattle.cx_term.specs.declared.word.Word.{Word}
use Rattle.cx_term.specs.declared.word.Word.TheVariants as word
use Rattle.cx_term.specs.contracts.word.Word.{enum}
use Rattle.cx_term.specs.contracts.word.WordPartialEq.TheImpl as derived

abbrev pub word_eq : Word → Word → Bool
word_eq = (derived.eq-value).it

word_itself : (v : Word) → word_eq v v ≡ true
word_itself (word.Requires e) = eq-eqb e.0 e.0 refl
word_itself _ = refl

pub words_same : (v w : Word) → v ≡ w → word_eq v w ≡ true
words_same v w e = subst (λ u. word_eq v u ≡ true) e (word_itself v)

-- of two values of each variant the test says whether they are equal
abbrev Tells : (Fss : List (List Field)) → Each Bool Fss → Type 0
Tells [] tests = Unit {0}
Tells (Fs ∷ Fss) tests = ((x y : Values Fs) → tests.0 x y ≡ true → x ≡ y) × Tells Fss tests.1

equal_by : (Fss : List (List Field)) (tests : Each Bool Fss) → Tells Fss tests → (c d : Choice Fss) → by false false Fss tests c d ≡ true → c ≡ d
equal_by [] tests h c d e = absurd c
equal_by (Fs ∷ Fss) tests h (inl x) (inl y) e = ap inl (h.0 x y e)
equal_by (Fs ∷ Fss) tests h (inr c) (inr d) e = ap inr (equal_by Fss tests.1 h.1 c d e)
equal_by (Fs ∷ Fss) tests h (inl x) (inr d) e = absurd (true≢false (sym e))
equal_by (Fs ∷ Fss) tests h (inr c) (inl y) e = absurd (true≢false (sym e))

-- a variant that carries nothing
bare : (x y : Unit {0}) → true ≡ true → x ≡ y
bare x y e = refl

-- the one that carries a node
one : (x y : NodeId × Unit {0}) → (x.0.0 == y.0.0) ≡ true → x ≡ y
one x y e = let f = eqb-true x.0.0 y.0.0 e in λ i. (record { 0 = f i }, tt)

pub word_from_same : (v w : Word) → word_eq v w ≡ true → v ≡ w
word_from_same v w e = values_one enum v w (equal_by enum.parts _ (search (bare, one)) (enum.as_values v) (enum.as_values w) e)
