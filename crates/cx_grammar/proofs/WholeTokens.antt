-- Pieces of tokens that end with a whole token are those of the first tokens.
use Rattle.std.proofs.Common.{inl, inr, ◌⊎◌, ◌≡◌, ℕ, Bool, true, false, ◌&&◌, ◌||◌, not, List, [], ◌∷◌, ◌++◌, if◌then◌else◌, refl, sym, ap, ◌∙◌, subst, true≢false}
use Rattle.std.specs.List.{list_all}
use Rattle.cx_lexer.specs.Tokens.{TokenTree}
use Rattle.cx_grammar.specs.Pieces.{Piece, All, First, Second, as_piece, is_double, halves, pieces}
use Rattle.cx_grammar.specs.Words.{is_punct_kind}
use Rattle.cx_grammar.specs.Laws.{Levelled, is_sound, WholeTokens, SplitTokens}
use Rattle.cx_grammar.proofs.Even.{is_split, ends_split, Even}

either : (b : Bool) → (b ≡ true) ⊎ (b ≡ false)
either true = inl refl
either false = inr refl

both_true : (a b : Bool) → (a && b) ≡ true → (a ≡ true) × (b ≡ true)
both_true true b e = (refl, e)
both_true false b e = absurd (true≢false (sym e))

double_punct : (d p : Bool) → (not d || p) ≡ true → d ≡ true → p ≡ true
double_punct true p e h = e
double_punct false p e h = absurd (true≢false (sym h))

behind_split : (u : Piece) (us : List Piece) → ends_split (u ∷ us) ≡ false → (us ≡ [] → is_split u ≡ false) × (ends_split us ≡ false)
behind_split u [] e = (λ h. e, refl)
behind_split u (v ∷ us) e = (λ h. absurd (cc), e)

halves_one : (t : TokenTree) → is_double t ≡ false → halves t ≡ as_piece t All ∷ []
halves_one t e = ap (λ (b : Bool). if b then as_piece t First ∷ as_piece t Second ∷ [] else as_piece t All ∷ []) e

halves_two : (t : TokenTree) → is_double t ≡ true → halves t ≡ as_piece t First ∷ as_piece t Second ∷ []
halves_two t e = ap (λ (b : Bool). if b then as_piece t First ∷ as_piece t Second ∷ [] else as_piece t All ∷ []) e

uncons : {X : Type 0} (a b : X) (s t : List X) → a ∷ s ≡ b ∷ t → (a ≡ b) × (s ≡ t)
uncons a b s t e = (cc, cc)

more_tokens : (t : TokenTree) (us rest : List Piece) (ts : List TokenTree) (front : List Piece) → halves t ≡ front → SplitTokens ts us rest → SplitTokens (t ∷ ts) (front ++ us) rest
more_tokens t us rest ts front e s = record {
  first = t ∷ s.first;
  last = s.last;
  split = ap (λ (z : List TokenTree). t ∷ z) s.split;
  firsts = (λ i. sym e i ++ s.firsts i);
  lasts = s.lasts;
}

one_piece : (t : TokenTree) (ts : List TokenTree) (u : Piece) (us rest : List Piece) → is_double t ≡ false → pieces (t ∷ ts) ≡ u ∷ (us ++ rest) → (pieces ts ≡ us ++ rest → SplitTokens ts us rest) → SplitTokens (t ∷ ts) (u ∷ us) rest
one_piece t ts u us rest b e again =
    let q = uncons (as_piece t All) u (pieces ts) (us ++ rest) (sym (ap (λ (z : List Piece). z ++ pieces ts) (halves_one t b)) ∙ e) in
    subst (λ (z : Piece). SplitTokens (t ∷ ts) (z ∷ us) rest) q.0 (more_tokens t us rest ts (as_piece t All ∷ []) (halves_one t b) (again q.1))

two_pieces : (t : TokenTree) (ts : List TokenTree) (u : Piece) (us rest : List Piece) → is_double t ≡ true → is_punct_kind t.kind ≡ true → ends_split (u ∷ us) ≡ false → pieces (t ∷ ts) ≡ u ∷ (us ++ rest)
    → ((vs : List Piece) → ends_split vs ≡ false → pieces ts ≡ vs ++ rest → SplitTokens ts vs rest) → SplitTokens (t ∷ ts) (u ∷ us) rest
two_pieces t ts u [] rest b p d e again =
    let q = uncons (as_piece t First) u (as_piece t Second ∷ pieces ts) rest (sym (ap (λ (z : List Piece). z ++ pieces ts) (halves_two t b)) ∙ e) in
    let split : is_split (as_piece t First) ≡ true = (λ i. p i && b i) in
    absurd (true≢false (sym split ∙ ap (λ (z : Piece). is_split z) q.0 ∙ d))
two_pieces t ts u (v ∷ us) rest b p d e again =
    let q = uncons (as_piece t First) u (as_piece t Second ∷ pieces ts) (v ∷ (us ++ rest)) (sym (ap (λ (z : List Piece). z ++ pieces ts) (halves_two t b)) ∙ e) in
    let r = uncons (as_piece t Second) v (pieces ts) (us ++ rest) q.1 in
    subst (λ (z : Piece). SplitTokens (t ∷ ts) (z ∷ v ∷ us) rest) q.0
    (subst (λ (z : Piece). SplitTokens (t ∷ ts) (as_piece t First ∷ z ∷ us) rest) r.0
    (more_tokens t us rest ts (as_piece t First ∷ as_piece t Second ∷ []) (halves_two t b) (again us (behind_split v us d).1 r.1)))

pub split_tokens : (ts : List TokenTree) (us rest : List Piece) → list_all is_sound ts ≡ true → pieces ts ≡ us ++ rest → ends_split us ≡ false → SplitTokens ts us rest
split_tokens [] [] rest a e d = record { first = []; last = []; split = refl; firsts = refl; lasts = sym e }
split_tokens [] (u ∷ us) rest a e d = absurd (cc)
split_tokens (t ∷ ts) [] rest a e d = record { first = []; last = t ∷ ts; split = refl; firsts = refl; lasts = sym e }
split_tokens (t ∷ ts) (u ∷ us) rest a e d =
    let sound = both_true (is_sound t) (list_all is_sound ts) a in
    let again : (vs : List Piece) → ends_split vs ≡ false → pieces ts ≡ vs ++ rest → SplitTokens ts vs rest = λ vs f q. split_tokens ts vs rest sound.1 q f in
    elim (either (is_double t)) [
      | inl b ↦ two_pieces t ts u us rest b (double_punct (is_double t) (is_punct_kind t.kind) sound.0 b) d e again
      | inr b ↦ one_piece t ts u us rest b e (again us (behind_split u us d).1)
    ]

pub even_tokens : {A : Type 0} (p : Levelled A) → ((level : ℕ) → Even (p level)) → WholeTokens p
even_tokens p h ts us rest x a e t = split_tokens ts us rest a e ((h t.1.level).even t.0 us [] x t.1.whole)
