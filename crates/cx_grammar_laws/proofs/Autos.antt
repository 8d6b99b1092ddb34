-- What is of a type or of `auto` is as it is printed.
use Rattle.std.proofs.Common.{inl, inr, ℕ, Bool, true, false, ◌||◌, List, [], codes, Option, None, Some, refl}
use Rattle.cx_base.specs.declared.place.Place.{Place}
use Rattle.cx_scope.specs.declared.name_kind.NameKind.TheVariants.{TypeName, ClassTemplate, Concept}
use Rattle.cx_tree.specs.Trees.{CoreTree, TypeTree}
use Rattle.cx_grammar.specs.Pieces.{Piece}
use Rattle.cx_grammar.specs.Production.{Production, ◌>>=◌, token, when}
use Rattle.cx_grammar.specs.Words.{word, any_name}
use Rattle.cx_grammar.specs.Names.{Context, deeper, concept_name, class_name, type_name, kind_name}
use Rattle.cx_grammar.specs.Types.{Numbered, Placed, Below, type_id, const_type, bare_type, type_behind, one_word}
use Rattle.cx_grammar.specs.Expressions.{levels}
use Rattle.cx_grammar.specs.Requires.{constraint}
use Rattle.cx_grammar.specs.Printed as relation
use Rattle.cx_grammar.specs.Printed.{Relation, trees_of, or}
use Rattle.cx_grammar.proofs.AloneTypes.{BelowAlone, type_id-Alone}
use Rattle.cx_grammar.proofs.AloneExpressions.{levels-Alone}
use Rattle.cx_grammar.proofs.Printed.{Starts, token-Starts, first-Starts}
use Rattle.cx_grammar_laws.proofs.Cases.{Where, Any, First, Alike, alike, ◌then◌, first-Alike, second-Alike, regrouped, take-Alike, Never, never_begins, PrintedWhere, printed_alike, by_first, starts-Idle, or-Idle, behind-Idle, only_first, only_second, first_alternative, behind-Printed, itself, or_same, or_grouped, or_exchanged, turned_same, both_same, printed_same}
use Rattle.cx_grammar_laws.proofs.Tokens.{word_Never, neither_Never}
use Rattle.cx_grammar_laws.proofs.Firsts.{core_first, type_first, type-Starts, level_core-Starts}
use Rattle.cx_grammar_laws.proofs.Statements.{concept_any, kind_Never, name_word, name_one_word, auto_concept}

-- ---- what no concept and no `auto` begins

concept_no_core : (c : Context) → Never (concept_name c) (core_first (deeper c))
unfolding kind_name
concept_no_core c =
    neither_Never {r = concept_name c} {q = λ t. class_name (deeper c) t || type_name (deeper c) t}
    (neither_Never {r = concept_name c} {q = class_name (deeper c)} {s = type_name (deeper c)} (kind_Never Concept ClassTemplate c refl) (kind_Never Concept TypeName c refl))
    (no_word (codes "typename") (no_word (codes "decltype") (no_word (codes "void") (neither_Never {r = concept_name c} {q = one_word} {s = word (codes "long")} (concept_any c one_word name_one_word) (concept_any c (word (codes "long")) (name_word (codes "long")))))))
  where
    no_word : {s : Piece → Bool} (text : List ℕ) → Never (concept_name c) s → Never (concept_name c) (λ t. word text t || s t)
    no_word {s} text h = neither_Never {r = concept_name c} {q = word text} {s = s} (concept_any c (word text) (name_word text)) h

concept_no_type : (c : Context) → Never (concept_name c) (type_first c)
concept_no_type c = neither_Never {r = concept_name c} {q = word (codes "const")} {s = core_first (deeper c)} (concept_any c (word (codes "const")) (name_word (codes "const"))) (concept_no_core c)

auto_no_type : (c : Context) → Never (word (codes "auto")) (type_first c)
unfolding word kind_name any_name one_word
auto_no_type c = word_Never (codes "auto") (type_first c) (λ t. refl)

auto_no_core : (c : Context) → Never (word (codes "auto")) (core_first (deeper c))
unfolding word kind_name any_name one_word
auto_no_core c = word_Never (codes "auto") (core_first (deeper c)) (λ t. refl)

const_concept : (c : Context) → Never (word (codes "const")) (concept_name c)
unfolding kind_name any_name
const_concept c = word_Never (codes "const") (concept_name c) (λ t. refl)

const_auto : Never (word (codes "const")) (word (codes "auto"))
unfolding word
const_auto = word_Never (codes "const") (word (codes "auto")) (λ t. refl)

pub constraint-Starts : (b : Below) (c : Context) (n : ℕ) → Starts (concept_name c) (constraint b c n)
unfolding constraint
constraint-Starts b c n = token-Starts _ _ _

-- ---- three alternatives: behind a concept's name, at `auto`, and a type

module _ {A : Type 0} (c : Context) (goes_on s : Piece → Bool) {constrained plain typed : Production A}
    (constrained-Starts : Starts (concept_name c) constrained) (plain-Starts : Starts (word (codes "auto")) plain) (typed-Starts : Starts s typed)
    (constrained-starts : (l : ℕ) → constrained.front l []) (plain-starts : (l : ℕ) → plain.front l []) (typed-starts : (l : ℕ) → typed.front l [])
    (no_concept : Never (concept_name c) s) (no_auto : Never (word (codes "auto")) s) where
  three_ways : (W : Where) → PrintedWhere W goes_on (when (concept_name c) constrained (when (word (codes "auto")) plain typed)) (or (trees_of typed) (or (trees_of constrained) (trees_of plain)))
  three_ways W =
      by_first (concept_name c)
      (only_second
      (only_first (printed_alike goes_on (alike (First (concept_name c)) constrained)) (starts-Idle (word (codes "auto")) plain-Starts (never_begins (concept_any c (word (codes "auto")) (name_word (codes "auto")))) constrained-starts))
      (starts-Idle s typed-Starts (never_begins no_concept) (λ l. inl (constrained-starts l))))
      (by_first (word (codes "auto"))
      (only_second
      (only_second (printed_alike goes_on (alike (First (word (codes "auto"))) plain)) (starts-Idle (concept_name c) constrained-Starts (never_begins (auto_concept c)) plain-starts))
      (starts-Idle s typed-Starts (never_begins no_auto) (λ l. inr (plain-starts l))))
      (only_first (printed_alike goes_on (alike _ typed))
      (or-Idle (starts-Idle (concept_name c) constrained-Starts (λ ts k. k.0.1) typed-starts) (starts-Idle (word (codes "auto")) plain-Starts (λ ts k. k.1) typed-starts))))

-- ---- a type, or `auto` behind `const` and a constraint, each there or not

module _ (requires : Bool) (depth : ℕ) (c : Context) (n : ℕ) where
  abbrev b : Below
  b = levels requires depth

  alone : BelowAlone requires b
  alone = levels-Alone depth

  module _ {A : Type 0} (behind : Numbered TypeTree → Production A) where
    -- ... a type
    abbrev pub of_type : Production A
    of_type = type_id b c n >>= behind

    of_type-Starts : Starts (type_first c) of_type
    of_type-Starts = first-Starts behind (type-Starts requires depth c n)

    of_type-starts : (l : ℕ) → of_type.front l []
    of_type-starts l = inl ((type_id-Alone alone c n).lawful.starts l)

    -- ... behind `const`
    abbrev of_core : Piece → Numbered (Placed CoreTree) → Production A
    of_core t k = type_behind c t.token.at true (k.0.1, k.1) >>= behind

    abbrev pub of_const : Piece → Production A
    of_const t = b.core (deeper c) n >>= of_core t

    of_const-starts : (t : Piece) (l : ℕ) → (of_const t).front l []
    of_const-starts t l = inl ((alone.core (deeper c) n).lawful.starts l)

    pub const_first : Alike (First (word (codes "const"))) of_type (token c.load (word (codes "const")) >>= of_const)
    unfolding type_id const_type
    const_first =
        first-Alike (take-Alike (word (codes "const")) (const_type b c n) (bare_type b c n) (λ ts e. e)) behind
        then regrouped (First (word (codes "const"))) (token c.load (word (codes "const"))) (λ t. b.core (deeper c) n >>= (λ k. type_behind c t.token.at true (k.0.1, k.1))) behind
        then second-Alike (First (word (codes "const"))) (token c.load (word (codes "const"))) (λ t. regrouped Any (b.core (deeper c) n) (λ k. type_behind c t.token.at true (k.0.1, k.1)) behind)

    module _ (goes_on : Piece → Bool) (constrained plain : Option Place → Bool → Production A)
        (constrained-Starts : (at : Option Place) (before : Bool) → Starts (concept_name c) (constrained at before))
        (plain-Starts : (at : Option Place) (before : Bool) → Starts (word (codes "auto")) (plain at before))
        (constrained-starts : (at : Option Place) (before : Bool) (l : ℕ) → (constrained at before).front l [])
        (plain-starts : (at : Option Place) (before : Bool) (l : ℕ) → (plain at before).front l []) where
      abbrev either : Option Place → Bool → Relation A
      either at before = or (trees_of (constrained at before)) (trees_of (plain at before))

      abbrev M : Relation A
      M = either None false

      abbrev N : Piece → Relation A
      N t = either (Some t.token.at) true

      abbrev const_N : Relation A
      const_N = relation.◌>>=◌ (trees_of (token c.load (word (codes "const")))) N

      -- behind `const` and without it
      abbrev behind_const : Piece → Production A
      behind_const t = when (concept_name c) (constrained (Some t.token.at) true) (when (word (codes "auto")) (plain (Some t.token.at) true) (of_const t))

      abbrev without_const : Production A
      without_const = when (concept_name c) (constrained None false) (when (word (codes "auto")) (plain None false) of_type)

      const_case : PrintedWhere (First (word (codes "const"))) goes_on (token c.load (word (codes "const")) >>= behind_const) (or (trees_of of_type) (or M const_N))
      const_case =
          printed_same (both_same (turned_same (or_grouped (trees_of of_type) const_N M)) (or_same (itself (trees_of of_type)) (or_exchanged const_N M)))
          (only_first
          (first_alternative const_first
          (behind-Printed (First (word (codes "const"))) (token c.load (word (codes "const"))) behind_const of_const N (λ t.
          three_ways c goes_on (core_first (deeper c)) (constrained-Starts (Some t.token.at) true) (plain-Starts (Some t.token.at) true) (first-Starts (of_core t) (level_core-Starts requires depth (deeper c) n)) (constrained-starts (Some t.token.at) true) (plain-starts (Some t.token.at) true) (of_const-starts t) (concept_no_core c) (auto_no_core c) Any)))
          (or-Idle
          (starts-Idle (concept_name c) (constrained-Starts None false) (never_begins (const_concept c)) (λ l. inl (of_type-starts l)))
          (starts-Idle (word (codes "auto")) (plain-Starts None false) (never_begins const_auto) (λ l. inl (of_type-starts l)))))

      pub type_or_auto : PrintedWhere Any goes_on (when (word (codes "const")) (token c.load (word (codes "const")) >>= behind_const) without_const) (or (trees_of of_type) (or M const_N))
      type_or_auto =
          by_first (word (codes "const")) const_case
          (printed_same (turned_same (or_grouped (trees_of of_type) M const_N))
          (only_first (three_ways c goes_on (type_first c) (constrained-Starts None false) (plain-Starts None false) of_type-Starts (constrained-starts None false) (plain-starts None false) of_type-starts (concept_no_type c) (auto_no_type c) _)
          (behind-Idle c.load (word (codes "const")) N (λ ts k. k.1) (λ l. inl (of_type-starts l)))))
