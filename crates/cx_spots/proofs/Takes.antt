-- Taking the next piece.
use Rattle.std.proofs.Common.{◌≡◌, ℕ, ◌+◌, ◌≤◌, Bool, true, false, cond, ◌&&◌, not, List, [], ◌∷◌, length, map, Result, Ok, Err, refl, sym, ap, ◌∙◌, ◌-◌, take, drop, get_or, IsTrue, codes, arith, subst, nat_le, inl, inr}
use Rattle.std.specs.Str.{bytes_eq}
use Rattle.std.proofs.lemmas.Bool.{cases_Bool, and_parts, both_ways, false_from_ne_true}
use Rattle.std.proofs.lemmas.Slice.Eq.{bytes_eq-Decides}
use Rattle.cx_base.specs.Refusal.{Refusal, Refused, Passed}
use Rattle.cx_base.specs.declared.limit.Limit.TheVariants as limits
use Rattle.cx_base.specs.declared.stop.Stop.{Stop}
use Rattle.cx_base.specs.declared.stop.Stop.TheVariants as stop
use Rattle.std.proofs.lemmas.List.{take_all}
use Rattle.cx_lexer.specs.declared.token.Token.{Token}
use Rattle.cx_lexer.specs.Tokens.{TokenTree, token_tree}
use Rattle.cx_lexer.specs.declared.token.TokenKind.{TokenKind}
use Rattle.cx_lexer.specs.declared.token.TokenKind.TheVariants as kind
use Rattle.cx_grammar.specs.Pieces.{Piece, All, First, Second, as_piece, is_double, pieces}
use Rattle.cx_grammar.specs.Words.{misfit}
use Rattle.cx_grammar.specs.Production.{Stopped, Ended, At, Stops, Gives, read_token, begins}
use Rattle.cx_base.specs.declared.place.Place.{Place}
use Rattle.cx_grammar.specs.Words.{word, punct, any_name, literal_token, second_half}
use Rattle.cx_grammar.specs.Names.{Context, kind_name}
use Rattle.cx_grammar.specs.Types.{one_word, closes}
use Rattle.cx_grammar.specs.Expressions.{is_prefix, is_operator, operator_of, is_assignment}
use Rattle.cx_spots.specs.declared.class.Class.{Class}
use Rattle.cx_spots.specs.declared.class.Class.TheVariants as class
use Rattle.cx_spots.specs.Classes.{meaning}
use Rattle.cx_spots.specs.Ends.{ends, is_end, is_end_kind, fits_half}
use Rattle.cx_spots.specs.Spots.{left, left_at, piece_tree, end_piece, IsFirst, IsStop}
use Rattle.std.specs.Result.{IfOk}
use Rattle.cx_spots.specs.declared.spot.Spot.{Spot}
use Rattle.cx_spots.specs.declared.piece.Piece.{Piece as RustPiece}

-- ---- what stands behind a piece

pub begins_end : (half : Bool) (t : TokenTree) (ts : List TokenTree) → begins end_piece (left half (t ∷ ts)) ≡ is_end t
unfolding begins left end_piece
begins_end true t ts = refl
begins_end false t ts =
    elim (cases_Bool (is_double t)) [
      | inl e ↦ rw e refl
      | inr e ↦ rw e refl
    ]

pub ends_rest : (half : Bool) (t : TokenTree) (ts : List TokenTree) → begins end_piece (left half (t ∷ ts)) ≡ false → IsTrue (ends (t ∷ ts)) → IsTrue (ends ts)
unfolding ends
ends_rest half t [] no_end all = absurd (cc (begins_end half t []))
ends_rest half t (u ∷ ts) no_end all = all

pub left_first : (t : TokenTree) (ts : List TokenTree) → is_double t ≡ true → left false (t ∷ ts) ≡ as_piece t First ∷ left true (t ∷ ts)
unfolding left
left_first t ts e = rw e refl

pub left_rest : (half : Bool) (t : TokenTree) (ts : List TokenTree) → (not half && is_double t) ≡ false → (p : Piece) × (left half (t ∷ ts) ≡ p ∷ left false ts)
unfolding left
left_rest true t ts e = (as_piece t Second, refl)
left_rest false t ts e = (as_piece t All, rw e refl)

-- the tokens behind the first one, as a pattern of a slice has them
pub rest_all : (t : Token) (ts : List Token) → take (length (t ∷ ts) - 1) (drop 1 (t ∷ ts)) ≡ ts
rest_all t ts = take_all _ ts (omega arith)

pub ends_behind : (half : Bool) (ts : List Token) → 1 ≤ length ts → begins end_piece (left half (map token_tree ts)) ≡ false → IsTrue (ends (map token_tree ts))
    → IsTrue (ends (map token_tree (take (length ts - 1) (drop 1 ts))))
ends_behind half [] some no_end all = absurd (omega arith)
ends_behind half (t ∷ ts) some no_end all = rw (rest_all t ts) (ends_rest half (token_tree t) (map token_tree ts) no_end all)

pub fits_any : (ts : List TokenTree) → IsTrue (fits_half false ts)
unfolding fits_half
fits_any ts = refl

pub fits_first : (half : Bool) (t : Token) (ts : List Token) → (not half && is_double (token_tree t)) ≡ true → IsTrue (fits_half true (map token_tree (t ∷ ts)))
unfolding fits_half
fits_first half t ts e = rw ((and_parts (not half) (is_double (token_tree t)) e).1) refl

pub left_behind : (half : Bool) (d : Token) (ts : List Token) → 1 ≤ length ts → (not half && is_double (token_tree (get_or ts 0 d))) ≡ false
    → (p : Piece) × (left half (map token_tree ts) ≡ p ∷ left false (map token_tree (take (length ts - 1) (drop 1 ts))))
left_behind half d [] some e = absurd (omega arith)
left_behind half d (t ∷ ts) some e = rw (rest_all t ts) (left_rest half (token_tree t) (map token_tree ts) e)

pub ruleset behind_lemmas = (ends_behind, fits_any, fits_first, left_first)

-- ---- what is read

abbrev Taken : Type 0
Taken = Piece × List Piece

same_first : (x p : Piece) (rest ts : List Piece) → IsFirst x ts → ts ≡ p ∷ rest → ts ≡ x ∷ rest
same_first x p rest ts is e =
    let h : p ≡ x = subst (λ (us : List Piece). IsFirst x us) e is in
    e ∙ ap (λ (q : Piece). q ∷ rest) h

pub read_misfit : (e : Stop) (load limit : ℕ) (fits : Bool) (x : Piece) (ts : List Piece) → fits ≡ false → IsFirst x ts → IsStop (misfit x.token) e
    → Stops {A = Taken} e (read_token load (λ p. fits) limit ts)
unfolding read_token
read_misfit e load limit fits x [] misfits is stops = absurd is
read_misfit stop.NoMemory load limit fits x (t ∷ ts) misfits is stops = tt
read_misfit (stop.Limit l at) load limit fits x (t ∷ ts) misfits is stops = absurd stops
read_misfit (stop.Fault f) load limit fits x (t ∷ ts) misfits is stops = rw (misfits, is, stops) refl

pub read_deep : (load limit : ℕ) (fits : Bool) (x : Piece) (ts : List Piece) → fits ≡ true → nat_le load limit ≡ false → IsFirst x ts
    → read_token load (λ p. fits) limit ts ≡ Err (At (Passed limits.Depth x.token.at))
unfolding read_token
read_deep load limit fits x [] fits_it deep is = absurd is
read_deep load limit fits x (t ∷ ts) fits_it deep is = rw (fits_it, deep, is) refl

pub read_taken : (load limit : ℕ) (fits : Bool) (x p : Piece) (rest ts : List Piece) → fits ≡ true → nat_le load limit ≡ true → IsFirst x ts → ts ≡ p ∷ rest
    → read_token load (λ p. fits) limit ts ≡ Ok (x, rest)
unfolding read_token
read_taken load limit fits x p rest ts fits_it deep is e = rw (same_first x p rest ts is e, fits_it, deep) refl

pub ruleset take_lemmas = (read_misfit, read_deep, read_taken)

-- ---- classes

-- a whole token of a class is not the end
no_whole_end : (class : Class) (c : Context) (text : List ℕ) (at : Place) → meaning class c (as_piece (record { kind = kind.End; text = text; at = at }) All) ≡ false
unfolding word punct any_name kind_name literal_token one_word closes is_prefix is_operator operator_of is_assignment second_half
no_whole_end (class.Word t) c text at = refl
no_whole_end (class.Punct t) c text at = refl
no_whole_end class.AnyName c text at = refl
no_whole_end (class.Named k) c text at = refl
no_whole_end class.HeadName c text at = refl
no_whole_end class.Literal c text at = refl
no_whole_end class.OneWord c text at = refl
no_whole_end class.CoreWord c text at = refl
no_whole_end class.Closing c text at = refl
no_whole_end class.GoesOn c text at = refl
no_whole_end class.Step c text at = refl
no_whole_end class.Prefix c text at = refl
no_whole_end (class.Operator level) c text at = refl
no_whole_end class.Assignment c text at =
    elim (cases_Bool (nat_le 1 c.angle)) [
      | inl e ↦ rw e refl
      | inr e ↦ rw e refl
    ]
no_whole_end class.SecondHalf c text at = refl
no_whole_end class.Nothing c text at = refl

end_text : (t : TokenTree) → is_end t ≡ true → bytes_eq t.text [] ≡ true
unfolding is_end
end_text t e = (and_parts (is_end_kind t.kind) (bytes_eq t.text []) e).1

end_kind : (k : TokenKind) (b : Bool) → (is_end_kind k && b) ≡ true → k ≡ kind.End
end_kind kind.End b e = refl
end_kind kind.Name b e = absurd cc
end_kind kind.Word b e = absurd cc
end_kind kind.Int b e = absurd cc
end_kind kind.Str b e = absurd cc
end_kind kind.Punct b e = absurd cc

end_is : (t : TokenTree) → is_end t ≡ true → t.kind ≡ kind.End
unfolding is_end
end_is t e = end_kind t.kind (bytes_eq t.text []) e

double_no_end : (t : TokenTree) → is_double t ≡ true → is_end t ≡ false
unfolding is_double
double_no_end t e = false_from_ne_true (is_end t) (λ end. absurd (both_ways (bytes_eq [] (codes ">>")) refl (rw ((bytes_eq-Decides t.text []).0 (end_text t end)) at e)))

whole_no_end : (class : Class) (c : Context) (t : TokenTree) → meaning class c (as_piece t All) ≡ true → is_end t ≡ false
whole_no_end class c t e = false_from_ne_true (is_end t) (λ end. absurd (both_ways _ (no_whole_end class c t.text t.at) (subst (λ (k : TokenKind). meaning class c (as_piece (record { kind = k; text = t.text; at = t.at }) All) ≡ true) (end_is t end) e)))

no_end : (class : Class) (c : Context) (half : Bool) (ts : List TokenTree) → IsTrue (fits_half half ts) → begins (meaning class c) (left half ts) ≡ true → begins end_piece (left half ts) ≡ false
unfolding left begins fits_half end_piece
no_end class c true [] fits e = refl
no_end class c true (t ∷ ts) fits e = double_no_end t fits
no_end class c false [] fits e = refl
no_end class c false (t ∷ ts) fits e =
    elim (cases_Bool (is_double t)) [
      | inl d ↦ rw d (double_no_end t d)
      | inr w ↦ rw w (whole_no_end class c t (rw w at e))
    ]

pub class_ends : (class : Class) (c : Context) (half fits : Bool) (ts : List TokenTree) → fits ≡ begins (meaning class c) (left half ts) → IsTrue (fits_half half ts) → fits ≡ true → begins end_piece (left half ts) ≡ false
class_ends class c half fits ts e h is = no_end class c half ts h (sym e ∙ is)

pub class_reads : (class : Class) (c : Context) (load limit : ℕ) (fits : Bool) (ts : List Piece) → fits ≡ begins (meaning class c) ts → read_token load (λ p. fits) limit ts ≡ read_token load (meaning class c) limit ts
unfolding read_token begins
class_reads class c load limit fits [] e = refl
class_reads class c load limit fits (t ∷ ts) e = rw e refl

pub ruleset class_lemmas = (class_ends, class_reads)

-- what is taken fits
token_fits : (load limit : ℕ) (p : Piece → Bool) (t : Piece) (ts us : List Piece) → read_token load p limit ts ≡ Ok (t, us) → p t ≡ true
unfolding read_token
token_fits load limit p t [] us e = absurd cc
token_fits load limit p t (x ∷ ts) us e =
    elim (cases_Bool (p x)) [
      | inl f ↦
          elim (cases_Bool (nat_le load limit)) [
            | inl l ↦ (let h = rw (f, l) at e in let both : (x, ts) ≡ (t, us) = cc in let same : x ≡ t = ap (λ (q : Piece × List Piece). q.0) both in subst (λ (y : Piece). p y ≡ true) same f)
            | inr l ↦ (let h = rw (f, l) at e in absurd cc)
          ]
      | inr f ↦ (let h = rw f at e in absurd cc)
    ]

pub all_fit : (load : ℕ) (p : Piece → Bool) (ts : List Piece) (r : Result (RustPiece × Spot) Stop) → Gives (λ x. (piece_tree x.0, left_at x.1)) r (read_token load p 256 ts)
    → IfOk r (λ x. p (piece_tree x.0) ≡ true)
all_fit load p ts (Ok x) e = token_fits load 256 p (piece_tree x.0) ts (left_at x.1) e
all_fit load p ts (Err e) h = tt
