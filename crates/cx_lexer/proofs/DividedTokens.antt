-- What holds of the tokens and of the fault that come of a division.
use Rattle.std.proofs.Common.{◌≡◌, ◌≢◌, ℕ, ◌+◌, ◌<◌, ◌≤◌, inl, inr, List, [], ◌∷◌, ◌++◌, length, Result, Ok, Err, append_assoc, refl, sym, ap, ◌∙◌, subst, arith}
use Rattle.std.specs.Str.{chars}
use Rattle.std.specs.Str.Lossy.{utf8_valid_len}
use Rattle.std.specs.List.{AllByRecursion}
use Rattle.std.proofs.lemmas.List.{length-append}
use Rattle.std.proofs.lemmas.Str.{encodes-append, encodes-chars, length-le-encodes}
use Rattle.cx_base.specs.Refusal.{Refusal}
use Rattle.cx_base.specs.declared.kind.Kind.{Kind}
use Rattle.cx_base.specs.declared.kind.Kind.TheVariants as fault
use Rattle.cx_base.specs.declared.place.Place.{Place}
use Rattle.cx_lexer.specs.declared.token.TokenKind.{TokenKind}
use Rattle.cx_lexer.specs.declared.token.TokenKind.TheVariants as kind
use Rattle.cx_lexer.specs.Places.{place_of, place_at}
use Rattle.cx_lexer.specs.Tokens.{text_of, IsSpelling, TokenTree, end_at, prepend, fault_at}
use Rattle.cx_lexer.specs.Division.{IsToken, IsStuck, Piece, Skipped, Read, IsLast, token_at, IsDivided, AreTokens, EndsOnce, IsSpelled, AreSpelled, StandsIn, IsLexical}
use Rattle.cx_lexer.proofs.FirstCharacters.{empty_unspelled}
use Rattle.cx_lexer.proofs.TokenKinds.{not_end, no_end}

abbrev err_of : Refusal → Result (List TokenTree) Refusal
err_of f = Err f

ends_more : (t : TokenTree) (ts : List TokenTree) → (t.kind ≢ kind.End) → EndsOnce ts → EndsOnce (t ∷ ts)
ends_more t [] more once = absurd once
ends_more t (u ∷ ts) more once = (more, once)

-- what holds of the tokens that come of the end of a unit's text
pub record Tokens (bytes text : List ℕ) (ts : List TokenTree) : Type 0 where
  pub ended : EndsOnce ts
  pub spelled : AreSpelled ts
  pub stand : AllByRecursion (StandsIn bytes) ts
  pub few : length ts ≤ length text + 1

token_spelled : (bytes text piece : List ℕ) (k : TokenKind) → IsToken k piece text → IsSpelled (token_at bytes k piece)
token_spelled bytes text piece k t = record {
  bare = λ is. absurd (no_end k (not_end piece k t.spelling) is);
  spelling = λ _. (piece, refl, t.spelling);
  typed = t.int;
}

end_spelled : (at : Place) → IsSpelled (end_at at)
end_spelled at = record { bare = λ _. refl; spelling = λ no. absurd (no refl); typed = λ is. absurd cc }

prepended : (t : TokenTree) (r : Result (List TokenTree) Refusal) (ts : List TokenTree) → prepend t r ≡ Ok ts → (us : List TokenTree) × (r ≡ Ok us) × (ts ≡ t ∷ us)
prepended t (Ok us) ts e = (us, refl, (let f : ts ≡ t ∷ us = cc in f))
prepended t (Err f) ts e = absurd cc

-- what stands in front moves on over a piece
over_piece : (bytes front text piece rest : List ℕ) → bytes ≡ front ++ text_of text → text ≡ piece ++ rest → bytes ≡ front ++ (text_of piece ++ text_of rest)
over_piece bytes front text piece rest e parts = e ∙ ap (λ (x : List ℕ). front ++ text_of x) parts ∙ ap (λ (x : List ℕ). front ++ x) (encodes-append piece rest)

behind_piece : (bytes front text piece rest : List ℕ) → bytes ≡ front ++ text_of text → text ≡ piece ++ rest → bytes ≡ (front ++ text_of piece) ++ text_of rest
behind_piece bytes front text piece rest e parts = over_piece bytes front text piece rest e parts ∙ sym (append_assoc front (text_of piece) (text_of rest))

spelled_some : (piece : List ℕ) (k : TokenKind) → IsSpelling k piece → 0 < length piece
spelled_some [] k e = absurd (empty_unspelled k e)
spelled_some (c ∷ cs) k e = omega arith

tokens_last : (bytes front text : List ℕ) (r : Result (List TokenTree) Refusal) (ts : List TokenTree) → bytes ≡ front ++ text_of text → IsLast front text r → r ≡ Ok ts → Tokens bytes text ts
tokens_last bytes front text r ts whole (inl none) e =
    let is : ts ≡ end_at (place_of front) ∷ [] = (let f : Ok ts ≡ Ok (end_at (place_of front) ∷ []) = sym e ∙ none.1 in cc) in
    let here : StandsIn bytes (end_at (place_of front)) = (front, text_of text, whole, refl) in
    subst (Tokens bytes text) (sym is) (record { ended = refl; spelled = (end_spelled (place_of front), tt); stand = (here, tt); few = omega arith })
tokens_last bytes front text r ts whole (inr k) e = absurd (let f : Ok ts ≡ Err (fault_at k.0 (place_of front)) = sym e ∙ k.2 in cc)

tokens_read : (ps : List Piece) (bytes front text : List ℕ) (r : Result (List TokenTree) Refusal) (ts : List TokenTree) → bytes ≡ front ++ text_of text → IsDivided front text ps r → r ≡ Ok ts → Tokens bytes text ts
tokens_read [] bytes front text r ts whole d e = tokens_last bytes front text r ts whole d.1 e
tokens_read (Skipped a ∷ ps) bytes front text r ts whole d e =
    let more : Tokens bytes d.0 ts = tokens_read ps bytes (front ++ text_of a) d.0 r ts (behind_piece bytes front text a d.0 whole d.1) d.3 e in
    record { ended = more.ended; spelled = more.spelled; stand = more.stand; few = omega (arith, more.few, ap length d.1, length-append a d.0) }
tokens_read (Read a ∷ ps) bytes front text r ts whole d e =
    let t : TokenTree = token_at front d.3 a in
    let p = prepended t d.5 ts (sym d.7 ∙ e) in
    let more : Tokens bytes d.0 p.0 = tokens_read ps bytes (front ++ text_of a) d.0 d.5 p.0 (behind_piece bytes front text a d.0 whole d.1) d.6 p.1 in
    let here : StandsIn bytes t = (front, text_of d.0, over_piece bytes front text a d.0 whole d.1, refl) in
    subst (Tokens bytes text) (sym p.2) (record {
      ended = ends_more t p.0 (no_end d.3 (not_end a d.3 d.4.spelling)) more.ended;
      spelled = (token_spelled front text a d.3 d.4, more.spelled);
      stand = (here, more.stand);
      few = omega (arith, more.few, ap length d.1, length-append a d.0, spelled_some a d.3 d.4.spelling);
    })

pub tokens_of : (bytes : List ℕ) (ts : List TokenTree) → AreTokens bytes (Ok ts) → Tokens bytes (chars bytes) ts
tokens_of bytes ts (inl text) = tokens_read text.1 bytes [] (chars bytes) (Ok ts) ts (sym (encodes-chars bytes text.0)) text.2 refl
tokens_of bytes ts (inr bad) = absurd (let f : Ok ts ≡ Err (fault_at fault.BadByte (place_at bytes (utf8_valid_len bytes))) = bad.1 in cc)

-- no more tokens than bytes, and the end
pub few_tokens : (bytes : List ℕ) (ts : List TokenTree) → AreTokens bytes (Ok ts) → length ts ≤ length bytes + 1
few_tokens bytes ts (inl text) =
    omega (arith, (tokens_of bytes ts (inl text)).few, length-le-encodes (chars bytes), ap length (encodes-chars bytes text.0))
few_tokens bytes ts (inr bad) = absurd (let f : Ok ts ≡ Err (fault_at fault.BadByte (place_at bytes (utf8_valid_len bytes))) = bad.1 in cc)

-- ---- faults of tokens

abbrev IsFaultOf : Refusal → Type 0
IsFaultOf f = (k : Kind) × (at : Place) × IsLexical k × (f ≡ fault_at k at)

same_fault : (f g : Refusal) → err_of f ≡ err_of g → f ≡ g
same_fault f g e = cc

stuck_lexical : (text : List ℕ) (k : Kind) → IsStuck text k → IsLexical k
stuck_lexical text k (inl big) = inr (inr big.1)
stuck_lexical text k (inr bad) = inr (inl bad.1)

fault_last : (bytes text : List ℕ) (r : Result (List TokenTree) Refusal) (f : Refusal) → IsLast bytes text r → r ≡ Err f → IsFaultOf f
fault_last bytes text r f (inl none) e = absurd (let g : Err f ≡ Ok (end_at (place_of bytes) ∷ []) = sym e ∙ none.1 in cc)
fault_last bytes text r f (inr k) e = (k.0, place_of bytes, stuck_lexical text k.0 k.1, same_fault f (fault_at k.0 (place_of bytes)) (sym e ∙ k.2))

not_prepended : (t : TokenTree) (r : Result (List TokenTree) Refusal) (f : Refusal) → prepend t r ≡ Err f → r ≡ Err f
not_prepended t (Ok us) f e = absurd cc
not_prepended t (Err g) f e = e

fault_read : (ps : List Piece) (bytes text : List ℕ) (r : Result (List TokenTree) Refusal) (f : Refusal) → IsDivided bytes text ps r → r ≡ Err f → IsFaultOf f
fault_read [] bytes text r f d e = fault_last bytes text r f d.1 e
fault_read (Skipped a ∷ ps) bytes text r f d e = fault_read ps (bytes ++ text_of a) d.0 r f d.3 e
fault_read (Read a ∷ ps) bytes text r f d e = fault_read ps (bytes ++ text_of a) d.0 d.5 f d.6 (not_prepended (token_at bytes d.3 a) d.5 f (sym d.7 ∙ e))

pub fault_of : (bytes : List ℕ) (f : Refusal) → AreTokens bytes (Err f) → (k : Kind) × (at : Place) × IsLexical k × (f ≡ fault_at k at)
fault_of bytes f (inl text) = fault_read text.1 [] (chars bytes) (Err f) f text.2 refl
fault_of bytes f (inr bad) = (fault.BadByte, place_at bytes (utf8_valid_len bytes), inl refl, same_fault f (fault_at fault.BadByte (place_at bytes (utf8_valid_len bytes))) bad.1)
