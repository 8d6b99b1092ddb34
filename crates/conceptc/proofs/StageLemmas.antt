-- The stages of the verdict, one behind the other.
use Rattle.std.proofs.Common.{◌≡◌, ◌≤◌, ◌<◌, ◌⊎◌, inl, inr, ℕ, Bool, true, false, ltb, List, [], ◌∷◌, length, Result, Ok, Err, if◌then◌else◌, refl, sym, ap, ◌∙◌, subst}
use Rattle.std.proofs.lemmas.Bool.{lt-ltb, le-ltb}
use Rattle.cx_base.specs.Refusal.{Refusal, Refused, Passed, ◌>>=◌}
use Rattle.cx_base.specs.declared.fault.Fault.{Fault}
use Rattle.cx_base.specs.declared.kind.Kind.{Kind}
use Rattle.cx_base.specs.declared.kind.Kind.TheVariants as fault
use Rattle.cx_base.specs.declared.limit.Limit.{Limit}
use Rattle.cx_base.specs.declared.limit.Limit.TheVariants as limit
use Rattle.cx_base.specs.declared.place.Place.{Place}
use Rattle.cx_lexer.specs.Division.{AreTokens, EndsOnce, AreSpelled, IsLexical}
use Rattle.cx_lexer.specs.Reading.{lexed}
use Rattle.cx_lexer.specs.Tokens.{TokenTree, fault_at}
use Rattle.cx_tree.specs.Declarations.{UnitTree}
use Rattle.cx_grammar.specs.Laws.{IsTree}
use Rattle.cx_grammar.specs.Pieces.{pieces}
use Rattle.cx_grammar.specs.Words.{is_unsupported, misfit}
use Rattle.cx_parse_decl.specs.Units.{load_limit, units, IsUnit, IsFaultOf, IsMisfit, IsTooDeep, unit_at}
use Rattle.cx_engine.specs.Definitions.{Definition}
use Rattle.cx_engine.specs.Forms.{IsFirstUnbuilt, unsupported, forms_unit}
use Rattle.cx_engine.specs.Names.{names_unit}
use Rattle.cx_engine.specs.Plain.{plain_unit, translated}
use Rattle.conceptc.specs.Decision.{IsTextOf, IsTooDeepText}
use Rattle.conceptc.specs.Verdict.{IsGrammatical, IsNaming, source_limit, no_place, tree_of, judged, verdict}

-- a stage that refuses, or the stage behind it
bind_err : {A B : Type 0} (m : Result A Refusal) (f : A → Result B Refusal) (r : Refusal) → (m >>= f) ≡ Err r → (m ≡ Err r) ⊎ ((x : A) × (m ≡ Ok x) × (f x ≡ Err r))
bind_err (Ok x) f r e = inr (x, refl, e)
bind_err (Err d) f r e = inl cc

-- ---- the kinds of fault of the stages

no_name_is_lexical : (k : Kind) → IsNaming k → IsLexical k → ⊥
no_name_is_lexical k (inl n) (inl h) = cc
no_name_is_lexical k (inl n) (inr (inl h)) = cc
no_name_is_lexical k (inl n) (inr (inr h)) = cc
no_name_is_lexical k (inr n) (inl h) = cc
no_name_is_lexical k (inr n) (inr (inl h)) = cc
no_name_is_lexical k (inr n) (inr (inr h)) = cc

no_name_is_grammatical : (k : Kind) → IsNaming k → IsGrammatical k → ⊥
no_name_is_grammatical k (inl n) (inl h) = cc
no_name_is_grammatical k (inl n) (inr h) = cc
no_name_is_grammatical k (inr n) (inl h) = cc
no_name_is_grammatical k (inr n) (inr h) = cc

no_token_is_grammatical : (k : Kind) → IsLexical k → IsGrammatical k → ⊥
no_token_is_grammatical k (inl n) (inl h) = cc
no_token_is_grammatical k (inl n) (inr h) = cc
no_token_is_grammatical k (inr (inl n)) (inl h) = cc
no_token_is_grammatical k (inr (inl n)) (inr h) = cc
no_token_is_grammatical k (inr (inr n)) (inl h) = cc
no_token_is_grammatical k (inr (inr n)) (inr h) = cc

same_fault : (f g : Fault) → Refused f ≡ Refused g → g ≡ f
same_fault f g e = cc

no_fault : (l : Limit) (at : Place) (f : Fault) → Passed l at ≡ Refused f → ⊥
no_fault l at f e = cc

by_test : (b : Bool) → IsGrammatical (if b then fault.Unsupported else fault.Syntax)
by_test true = inr refl
by_test false = inl refl

-- a refusal of the grammar's kinds
abbrev IsOfGrammar : Refusal → Type 0
IsOfGrammar r = (f : Fault) × (r ≡ Refused f) × IsGrammatical f.kind

misfit_kind : (t : TokenTree) → IsOfGrammar (misfit t)
unfolding misfit
misfit_kind t = (_, refl, by_test (is_unsupported t))

fault_kind : (t : TokenTree) (r : Refusal) → IsFaultOf t r → IsOfGrammar r
fault_kind t r (inl e) = subst (λ (z : Refusal). IsOfGrammar z) (sym e) (misfit_kind t)
fault_kind t r (inr h) = (_, h.1, inr refl)

-- ---- what the laws of the layers below say

pub record Laws : Type 0 where
  pub read : (bytes : List ℕ) → AreTokens bytes (lexed bytes)
  pub only_read : (bytes : List ℕ) (r : Result (List TokenTree) Refusal) → AreTokens bytes r → r ≡ lexed bytes
  pub ended : (bytes : List ℕ) (ts : List TokenTree) → AreTokens bytes (Ok ts) → EndsOnce ts
  pub texts : (bytes : List ℕ) (ts : List TokenTree) → AreTokens bytes (Ok ts) → AreSpelled ts
  pub faults : (bytes : List ℕ) (f : Refusal) → AreTokens bytes (Err f) → (k : Kind) × (at : Place) × IsLexical k × (f ≡ fault_at k at)
  pub found : (ts : List TokenTree) (u : UnitTree) → EndsOnce ts → AreSpelled ts → unit_at ts ≡ Ok u → IsUnit ts u
  pub only : (ts : List TokenTree) (u : UnitTree) → IsUnit ts u → unit_at ts ≡ Ok u
  pub stops : (ts : List TokenTree) (r : Refusal) → EndsOnce ts → AreSpelled ts → unit_at ts ≡ Err r → IsMisfit ts r ⊎ IsTooDeep ts r
  pub first : (u : UnitTree) (r : Refusal) → forms_unit u ≡ Err r → (at : Place) × (r ≡ Refused (unsupported at)) × IsFirstUnbuilt u at
  pub kinds : (ds : List Definition) (r : Refusal) → names_unit ds ≡ Err r → (f : Fault) × (r ≡ Refused f) × ((f.kind ≡ fault.Redeclared) ⊎ (f.kind ≡ fault.UnknownName))

-- what the reader finds is what the bytes are read as
pub are_tokens : ((bytes : List ℕ) → AreTokens bytes (lexed bytes)) → (bytes : List ℕ) (r : Result (List TokenTree) Refusal) → lexed bytes ≡ r → AreTokens bytes r
are_tokens read bytes r e = subst (λ (x : Result (List TokenTree) Refusal). AreTokens bytes x) e (read bytes)

-- what is no tokens has a fault of tokens
are_refused : Laws → (bytes : List ℕ) (r : Refusal) → AreTokens bytes (Err r) → (f : Fault) × (r ≡ Refused f) × IsLexical f.kind
are_refused laws bytes r are =
    let h = laws.faults bytes r are in
    (record { kind = h.0; at = h.1; also = []; chain = [] }, h.3, h.2)

-- ---- the tree of the bytes

tree_found : (m : Result (List TokenTree) Refusal) (u : UnitTree) → (m >>= unit_at) ≡ Ok u → (ts : List TokenTree) × (m ≡ Ok ts) × (unit_at ts ≡ Ok u)
tree_found (Ok ts) u e = (ts, refl, e)
tree_found (Err r) u e = absurd cc

pub is_spelled : Laws → (bytes : List ℕ) (u : UnitTree) → tree_of bytes ≡ Ok u → IsTextOf bytes u
unfolding tree_of
is_spelled laws bytes u e =
    let read = tree_found (lexed bytes) u e in
    let are : AreTokens bytes (Ok read.0) = are_tokens laws.read bytes (Ok read.0) read.1 in
    (read.0, are, laws.found read.0 u (laws.ended bytes read.0 are) (laws.texts bytes read.0 are) read.2)

pub is_read : Laws → (bytes : List ℕ) (u : UnitTree) → IsTextOf bytes u → tree_of bytes ≡ Ok u
unfolding tree_of
is_read laws bytes u text = rw (← laws.only_read bytes (Ok text.0) text.1) (laws.only text.0 u text.2)

-- ---- the stage that refuses

-- the tokens are refused by the grammar
abbrev IsNoUnit : List ℕ → Refusal → Type 0
IsNoUnit bytes r = (ts : List TokenTree) × AreTokens bytes (Ok ts) × (IsMisfit ts r ⊎ IsTooDeep ts r)

data StageOf (bytes : List ℕ) (r : Refusal) : Type 0 where
  Tokens : AreTokens bytes (Err r) → StageOf bytes r
  Grammar : IsNoUnit bytes r → StageOf bytes r
  Forms : (u : UnitTree) → tree_of bytes ≡ Ok u → forms_unit u ≡ Err r → StageOf bytes r
  Names : (u : UnitTree) (ds : List Definition) → tree_of bytes ≡ Ok u → forms_unit u ≡ Ok ds → names_unit ds ≡ Err r → StageOf bytes r

no_unit_at : Laws → (bytes : List ℕ) (ts : List TokenTree) (r : Refusal) → lexed bytes ≡ Ok ts → unit_at ts ≡ Err r → IsNoUnit bytes r
no_unit_at laws bytes ts r e d =
    let are : AreTokens bytes (Ok ts) = are_tokens laws.read bytes (Ok ts) e in
    (ts, are, laws.stops ts r (laws.ended bytes ts are) (laws.texts bytes ts are) d)

of_translated : (bytes : List ℕ) (u : UnitTree) (r : Refusal) → tree_of bytes ≡ Ok u → translated u ≡ Err r → StageOf bytes r
unfolding translated
of_translated bytes u r read e =
    elim (bind_err (forms_unit u) (λ ds. names_unit ds >>= λ _. Ok (plain_unit ds)) r e) [
      | inl h ↦ Forms u read h
      | inr h ↦ elim (bind_err (names_unit h.0) (λ _. Ok (plain_unit h.0)) r h.2) [
        | inl n ↦ Names u h.0 read h.1 n
        | inr n ↦ let apart = n.2 in absurd cc
      ]
    ]

stage_of : Laws → (bytes : List ℕ) (r : Refusal) → judged bytes ≡ Err r → StageOf bytes r
unfolding judged tree_of
stage_of laws bytes r e =
    elim (bind_err (tree_of bytes) translated r e) [
      | inl h ↦ elim (bind_err (lexed bytes) unit_at r h) [
        | inl l ↦ Tokens (are_tokens laws.read bytes (Err r) l)
        | inr g ↦ Grammar (no_unit_at laws bytes g.0 r g.1 g.2)
      ]
      | inr n ↦ of_translated bytes n.0 r n.1 n.2
    ]

judged_lexed : (bytes : List ℕ) (r : Refusal) → lexed bytes ≡ Err r → judged bytes ≡ Err r
unfolding judged tree_of
judged_lexed bytes r e = rw e refl

judged_tree : (bytes : List ℕ) (r : Refusal) → tree_of bytes ≡ Err r → judged bytes ≡ Err r
unfolding judged
judged_tree bytes r e = rw e refl

judged_forms : (bytes : List ℕ) (u : UnitTree) (r : Refusal) → tree_of bytes ≡ Ok u → forms_unit u ≡ Err r → judged bytes ≡ Err r
unfolding judged translated
judged_forms bytes u r read e = rw (read, e) refl

-- ---- kinds by stages

lexical_kind : Laws → (bytes : List ℕ) (f : Fault) → AreTokens bytes (Err (Refused f)) → IsLexical f.kind
lexical_kind laws bytes f are =
    let k = are_refused laws bytes (Refused f) are in
    subst (λ (g : Fault). IsLexical g.kind) (same_fault f k.0 k.1) k.2

misfit_of : (ts : List TokenTree) (f : Fault) → IsMisfit ts (Refused f) ⊎ IsTooDeep ts (Refused f) → IsMisfit ts (Refused f)
misfit_of ts f (inl m) = m
misfit_of ts f (inr d) = absurd (no_fault limit.Depth d.piece.token.at f (sym d.passed))

grammar_kind : (ts : List TokenTree) (f : Fault) → IsMisfit ts (Refused f) → IsGrammatical f.kind
grammar_kind ts f m =
    let k = fault_kind m.token (Refused f) m.refused in
    subst (λ (g : Fault). IsGrammatical g.kind) (same_fault f k.0 k.1) k.2

forms_are : Laws → (u : UnitTree) (f : Fault) → forms_unit u ≡ Err (Refused f) → (at : Place) × (f ≡ unsupported at) × IsFirstUnbuilt u at
forms_are laws u f e =
    let k = laws.first u (Refused f) e in
    (k.0, sym (same_fault f (unsupported k.0) k.1), k.2)

forms_kind : Laws → (u : UnitTree) (f : Fault) → forms_unit u ≡ Err (Refused f) → f.kind ≡ fault.Unsupported
forms_kind laws u f e = ap (λ (g : Fault). g.kind) (forms_are laws u f e).1

naming_kind : Laws → (ds : List Definition) (f : Fault) → names_unit ds ≡ Err (Refused f) → IsNaming f.kind
naming_kind laws ds f e =
    let k = laws.kinds ds (Refused f) e in
    subst (λ (g : Fault). IsNaming g.kind) (same_fault f k.0 k.1) k.2

-- ---- the laws of the stages

pub lexical : Laws → (bytes : List ℕ) (r : Refusal) → AreTokens bytes (Err r) → (judged bytes ≡ Err r) × (f : Fault) × (r ≡ Refused f) × IsLexical f.kind
lexical laws bytes r are =
    let f = are_refused laws bytes r are in
    (judged_lexed bytes r (sym (laws.only_read bytes (Err r) are)), f.0, f.1, f.2)

pub lexical_only : Laws → (bytes : List ℕ) (f : Fault) → judged bytes ≡ Err (Refused f) → IsLexical f.kind → AreTokens bytes (Err (Refused f))
lexical_only laws bytes f e is =
    elim (stage_of laws bytes (Refused f) e) [
      | Tokens l ↦ l
      | Grammar g ↦ absurd (no_token_is_grammatical f.kind is (grammar_kind g.0 f (misfit_of g.0 f g.2)))
      | Forms u read h ↦ absurd (no_token_is_grammatical f.kind is (inr (forms_kind laws u f h)))
      | Names u ds read built h ↦ absurd (no_name_is_lexical f.kind (naming_kind laws ds f h) is)
    ]

tree_refused : (bytes : List ℕ) (ts : List TokenTree) (r : Refusal) → lexed bytes ≡ Ok ts → tree_of bytes ≡ Err r → unit_at ts ≡ Err r
unfolding tree_of
tree_refused bytes ts r read e = rw read at e

pub is_syntax : Laws → (bytes : List ℕ) (ts : List TokenTree) (r : Refusal) → AreTokens bytes (Ok ts) → tree_of bytes ≡ Err r → (judged bytes ≡ Err r) × (IsMisfit ts r ⊎ IsTooDeep ts r)
is_syntax laws bytes ts r are e =
    (judged_tree bytes r e, laws.stops ts r (laws.ended bytes ts are) (laws.texts bytes ts are) (tree_refused bytes ts r (sym (laws.only_read bytes (Ok ts) are)) e))

no_syntax_is_lexical : (k : Kind) → k ≡ fault.Syntax → IsLexical k → ⊥
no_syntax_is_lexical k e is = no_token_is_grammatical k is (inl e)

syntax_is_no_form : (k : Kind) → k ≡ fault.Syntax → k ≡ fault.Unsupported → ⊥
syntax_is_no_form k e d = cc

pub is_misfit : Laws → (bytes : List ℕ) (f : Fault) → judged bytes ≡ Err (Refused f) → f.kind ≡ fault.Syntax → (ts : List TokenTree) × AreTokens bytes (Ok ts) × IsMisfit ts (Refused f)
is_misfit laws bytes f e is =
    elim (stage_of laws bytes (Refused f) e) [
      | Tokens l ↦ absurd (no_syntax_is_lexical f.kind is (lexical_kind laws bytes f l))
      | Grammar g ↦ (g.0, g.1, misfit_of g.0 f g.2)
      | Forms u read h ↦ absurd (syntax_is_no_form f.kind is (forms_kind laws u f h))
      | Names u ds read built h ↦ absurd (no_name_is_grammatical f.kind (naming_kind laws ds f h) (inl is))
    ]

pub is_form : Laws → (bytes : List ℕ) (u : UnitTree) (r : Refusal) → tree_of bytes ≡ Ok u → forms_unit u ≡ Err r
    → (judged bytes ≡ Err r) × (at : Place) × (r ≡ Refused (unsupported at)) × IsFirstUnbuilt u at
is_form laws bytes u r read e =
    let k = laws.first u r e in
    (judged_forms bytes u r read e, k.0, k.1, k.2)

pub is_unsupported_fault : Laws → (bytes : List ℕ) (f : Fault) → judged bytes ≡ Err (Refused f) → f.kind ≡ fault.Unsupported
    → ((ts : List TokenTree) × AreTokens bytes (Ok ts) × IsMisfit ts (Refused f)) ⊎ ((u : UnitTree) × (at : Place) × IsTextOf bytes u × (f ≡ unsupported at) × IsFirstUnbuilt u at)
is_unsupported_fault laws bytes f e is =
    elim (stage_of laws bytes (Refused f) e) [
      | Tokens l ↦ absurd (no_token_is_grammatical f.kind (lexical_kind laws bytes f l) (inr is))
      | Grammar g ↦ inl (g.0, g.1, misfit_of g.0 f g.2)
      | Forms u read h ↦ let k = forms_are laws u f h in inr (u, k.0, is_spelled laws bytes u read, k.1, k.2)
      | Names u ds read built h ↦ absurd (no_name_is_grammatical f.kind (naming_kind laws ds f h) (inr is))
    ]

pub is_naming : Laws → (bytes : List ℕ) (f : Fault) → judged bytes ≡ Err (Refused f) → IsNaming f.kind
    → (u : UnitTree) × (ds : List Definition) × IsTextOf bytes u × (forms_unit u ≡ Ok ds) × (names_unit ds ≡ Err (Refused f))
is_naming laws bytes f e is =
    elim (stage_of laws bytes (Refused f) e) [
      | Tokens l ↦ absurd (no_name_is_lexical f.kind is (lexical_kind laws bytes f l))
      | Grammar g ↦ absurd (no_name_is_grammatical f.kind is (grammar_kind g.0 f (misfit_of g.0 f g.2)))
      | Forms u read h ↦ absurd (no_name_is_grammatical f.kind is (inr (forms_kind laws u f h)))
      | Names u ds read built h ↦ (u, ds, is_spelled laws bytes u read, built, h)
    ]

no_two_trees : (bytes : List ℕ) (u : UnitTree) (r : Refusal) → tree_of bytes ≡ Ok u → tree_of bytes ≡ Err r → ⊥
no_two_trees bytes u r e d = cc

-- what is refused before the forms is no unit
lexed_tree : Laws → (bytes : List ℕ) (r : Refusal) → AreTokens bytes (Err r) → tree_of bytes ≡ Err r
unfolding tree_of
lexed_tree laws bytes r are = rw (← laws.only_read bytes (Err r) are) refl

same_tokens : Laws → (bytes : List ℕ) (ts us : List TokenTree) → AreTokens bytes (Ok ts) → AreTokens bytes (Ok us) → ts ≡ us
same_tokens laws bytes ts us a b =
    let e : ◌≡◌ {A = Result (List TokenTree) Refusal} (Ok ts) (Ok us) = laws.only_read bytes (Ok ts) a ∙ sym (laws.only_read bytes (Ok us) b) in
    cc

pub no_unit : Laws → ((ts : List TokenTree) (r : Refusal) (u : UnitTree) → IsMisfit ts r → IsTree units (pieces ts) u → ⊥) → (bytes : List ℕ) (f : Fault) → judged bytes ≡ Err (Refused f)
    → IsLexical f.kind ⊎ (f.kind ≡ fault.Syntax) → (u : UnitTree) → IsTextOf bytes u → ⊥
no_unit laws none bytes f e (inl is) u text =
    no_two_trees bytes u (Refused f) (is_read laws bytes u text) (lexed_tree laws bytes (Refused f) (lexical_only laws bytes f e is))
no_unit laws none bytes f e (inr is) u text =
    let m = is_misfit laws bytes f e is in
    none m.0 (Refused f) u m.2 (load_limit, subst (λ (ts : List TokenTree). IsUnit ts u) (same_tokens laws bytes text.0 m.0 text.1 m.1) text.2)

-- a limit is that on the depth
deep_of : (bytes : List ℕ) (ts : List TokenTree) (l : Limit) (at : Place) → AreTokens bytes (Ok ts) → IsMisfit ts (Passed l at) ⊎ IsTooDeep ts (Passed l at) → (l ≡ limit.Depth) × IsTooDeepText bytes at
deep_of bytes ts l at are (inl m) = let k = fault_kind m.token (Passed l at) m.refused in absurd (no_fault l at k.0 k.1)
deep_of bytes ts l at are (inr d) =
    let same : Passed l at ≡ Passed limit.Depth d.piece.token.at = d.passed in
    let depth : l ≡ limit.Depth = cc in
    (depth, (ts, are, subst (λ (z : Limit). IsTooDeep ts (Passed z at)) depth d))

pub is_deep : Laws → (bytes : List ℕ) (l : Limit) (at : Place) → judged bytes ≡ Err (Passed l at) → (l ≡ limit.Depth) × IsTooDeepText bytes at
is_deep laws bytes l at e =
    elim (stage_of laws bytes (Passed l at) e) [
      | Tokens h ↦ let k = are_refused laws bytes (Passed l at) h in absurd (no_fault l at k.0 k.1)
      | Grammar g ↦ deep_of bytes g.0 l at g.1 g.2
      | Forms u read h ↦ let k = laws.first u (Passed l at) h in absurd (no_fault l at (unsupported k.0) k.1)
      | Names u ds read built h ↦ let k = laws.kinds ds (Passed l at) h in absurd (no_fault l at k.0 k.1)
    ]

-- ---- the limit on the bytes

pub within : (bytes : List ℕ) → length bytes ≤ source_limit → verdict bytes ≡ judged bytes
unfolding verdict
within bytes h =
    let below : ltb source_limit (length bytes) ≡ false = le-ltb _ _ h in
    rw below refl

pub beyond : (bytes : List ℕ) → source_limit < length bytes → verdict bytes ≡ Err (Passed limit.Source no_place)
unfolding verdict
beyond bytes h =
    let above : ltb source_limit (length bytes) ≡ true = lt-ltb _ _ h in
    rw above refl
