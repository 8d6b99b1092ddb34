-- The tokens behind an index, and the index of the tokens that are left.
use Rattle.std.proofs.Common.{◌≡◌, ℕ, zero, suc, ◌+◌, ◌*◌, ◌-◌, ◌<◌, ◌≤◌, Bool, true, false, List, [], ◌∷◌, ◌++◌, length, map, drop, refl, sym, ap, ◌∙◌, subst, arith, IsTrue, codes, if◌then◌else◌, inl, inr, true≢false, take}
use Rattle.std.proofs.lemmas.Bool.{cases_Bool}
use Rattle.std.proofs.lemmas.List.{drop_at, length-append, take_rest, drop-map}
use Rattle.cx_lexer.specs.declared.token.TokenKind.{TokenKind}
use Rattle.cx_lexer.specs.declared.token.TokenKind.TheVariants as kind
use Rattle.cx_lexer.specs.Division.{EndsOnce, AreSpelled}
use Rattle.cx_lexer.specs.declared.token.Token.{Token}
use Rattle.cx_lexer.specs.Tokens.{TokenTree, token_tree}
use Rattle.cx_grammar.specs.Pieces.{Piece, Half, First, Second, All, as_piece, is_double, halves, pieces}
use Rattle.cx_spots.specs.Ends.{is_end, is_end_kind, ends, fits_half}
use Rattle.cx_spots.specs.Spots.{left}

end_of : (t : TokenTree) → t.kind ≡ kind.End → t.text ≡ [] → is_end t ≡ true
unfolding is_end
end_of t e d = rw (e, d) refl

-- the end stands last behind each index
pub rest_ends : (from : ℕ) (ts : List TokenTree) → from < length ts → EndsOnce ts → AreSpelled ts → IsTrue (ends (drop from ts))
unfolding ends
rest_ends from [] within once spelled = absurd once
rest_ends zero (t ∷ []) within once spelled = end_of t once (spelled.0.bare once)
rest_ends (suc from) (t ∷ []) within once spelled = absurd (omega (arith, within))
rest_ends zero (t ∷ u ∷ ts) within once spelled = rest_ends zero (u ∷ ts) (omega arith) once.1 spelled.1
rest_ends (suc from) (t ∷ u ∷ ts) within once spelled = rest_ends from (u ∷ ts) (omega (arith, within)) once.1 spelled.1

-- the tokens from an index on, as a slice has them
pub slice_rest : (from : ℕ) (ts : List Token) → map token_tree (take (length ts - from) (drop from ts)) ≡ drop from (map token_tree ts)
slice_rest from ts = ap (λ (us : List Token). map token_tree us) (take_rest ts from) ∙ sym (drop-map token_tree from ts)

-- a token is two pieces at most
pub count_pieces : (ts : List TokenTree) → length (pieces ts) ≤ 2 * length ts
count_pieces [] = omega arith
count_pieces (t ∷ ts) =
    elim (cases_Bool (is_double t)) [
      | inl e ↦ (let more = count_pieces ts in rw e (omega (arith, more)))
      | inr e ↦ (let more = count_pieces ts in rw e (omega (arith, more)))
    ]

pub count_rest : (from : ℕ) (ts : List TokenTree) → length (pieces (drop from ts)) ≤ 2 * length ts
count_rest zero ts = count_pieces ts
count_rest (suc from) [] = omega arith
count_rest (suc from) (t ∷ ts) = let more = count_rest from ts in omega (arith, more)

-- ---- pieces are of one list of tokens

abbrev first_half : List Piece → Half
first_half [] = Second
first_half (p ∷ ps) = p.half

-- tokens do not begin with a second half
no_second : (t : TokenTree) (ts : List TokenTree) (p : Piece) (ps : List Piece) → p.half ≡ Second → p ∷ ps ≡ pieces (t ∷ ts) → ⊥
no_second t ts p ps h e =
    elim (cases_Bool (is_double t)) [
      | inl d ↦ (let f : p ∷ ps ≡ as_piece t First ∷ as_piece t Second ∷ pieces ts = e ∙ rw d refl in let g : Second ≡ First = sym h ∙ ap first_half f in cc)
      | inr d ↦ (let f : p ∷ ps ≡ as_piece t All ∷ pieces ts = e ∙ rw d refl in let g : Second ≡ All = sym h ∙ ap first_half f in cc)
    ]

none_of_some : (t : TokenTree) (ts : List TokenTree) → [] ≡ pieces (t ∷ ts) → ⊥
none_of_some t ts e =
    elim (cases_Bool (is_double t)) [
      | inl d ↦ (let f : [] ≡ as_piece t First ∷ as_piece t Second ∷ pieces ts = e ∙ rw d refl in cc)
      | inr d ↦ (let f : [] ≡ as_piece t All ∷ pieces ts = e ∙ rw d refl in cc)
    ]

pieces_by : (b : Bool) (t : TokenTree) (ts : List TokenTree) → is_double t ≡ b → pieces (t ∷ ts) ≡ (if b then as_piece t First ∷ as_piece t Second ∷ [] else as_piece t All ∷ []) ++ pieces ts
pieces_by true t ts d = rw d refl
pieces_by false t ts d = rw d refl

tail_of : List Piece → List Piece
tail_of [] = []
tail_of (p ∷ ps) = ps

token_or : TokenTree → List Piece → TokenTree
token_or t [] = t
token_or t (p ∷ ps) = p.token

same_step : (a b : Bool) (t u : TokenTree) (ts us : List TokenTree) → is_double t ≡ a → is_double u ≡ b → pieces (t ∷ ts) ≡ pieces (u ∷ us) → (t ≡ u) × (pieces ts ≡ pieces us)
unfolding token_or tail_of
same_step true true t u ts us d f e =
    let g : as_piece t First ∷ as_piece t Second ∷ pieces ts ≡ as_piece u First ∷ as_piece u Second ∷ pieces us = sym (pieces_by true t ts d) ∙ (e ∙ pieces_by true u us f) in
    (ap (token_or t) g, ap (λ (ps : List Piece). tail_of (tail_of ps)) g)
same_step false false t u ts us d f e =
    let g : as_piece t All ∷ pieces ts ≡ as_piece u All ∷ pieces us = sym (pieces_by false t ts d) ∙ (e ∙ pieces_by false u us f) in
    (ap (token_or t) g, ap tail_of g)
same_step true false t u ts us d f e =
    let g : as_piece t First ∷ as_piece t Second ∷ pieces ts ≡ as_piece u All ∷ pieces us = sym (pieces_by true t ts d) ∙ (e ∙ pieces_by false u us f) in
    let h : First ≡ All = ap first_half g in
    absurd cc
same_step false true t u ts us d f e =
    let g : as_piece t All ∷ pieces ts ≡ as_piece u First ∷ as_piece u Second ∷ pieces us = sym (pieces_by false t ts d) ∙ (e ∙ pieces_by true u us f) in
    let h : All ≡ First = ap first_half g in
    absurd cc

one_list : (ts us : List TokenTree) → pieces ts ≡ pieces us → ts ≡ us
one_list [] [] e = refl
one_list [] (u ∷ us) e = absurd (none_of_some u us e)
one_list (t ∷ ts) [] e = absurd (none_of_some t ts (sym e))
one_list (t ∷ ts) (u ∷ us) e =
    let both = same_step (is_double t) (is_double u) t u ts us refl refl e in
    let rest : ts ≡ us = one_list ts us both.1 in
    rw (both.0, rest) refl

-- what is left of tokens, where it is of whole ones
one_rest : (half : Bool) (ts us : List TokenTree) → IsTrue (fits_half half ts) → left half ts ≡ pieces us → ts ≡ us
unfolding left fits_half
one_rest false ts us fits e = one_list ts us e
one_rest true [] us fits e = absurd (true≢false (sym fits))
one_rest true (t ∷ ts) [] fits e = absurd cc
one_rest true (t ∷ ts) (u ∷ us) fits e = absurd (no_second u us (as_piece t Second) (pieces ts) refl e)

-- the index of the tokens that are left
pub index_left : (half : Bool) (all ts first last : List TokenTree) → IsTrue (fits_half half ts) → all ≡ first ++ last → left half ts ≡ pieces last
    → (length ts ≤ length all) × (left half ts ≡ pieces (drop (length all - length ts) all))
index_left half all ts first last fits parts e =
    let same : ts ≡ last = one_rest half ts last fits e in
    let count : length all ≡ length first + length ts = ap length parts ∙ (length-append first last ∙ ap (λ (us : List TokenTree). length first + length us) (sym same)) in
    let rest : drop (length all - length ts) all ≡ last = ap (λ (us : List TokenTree). drop (length all - length ts) us) parts ∙ drop_at first last (length all - length ts) (omega (arith, count)) in
    (omega (arith, count), e ∙ ap pieces (sym rest))
