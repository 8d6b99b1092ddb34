-- Taking a string.
use Rattle.std.proofs.Common.{◌≡◌, ℕ, true, false, List, ◌∷◌, [], Err, Ok, refl, ap, ◌∙◌, subst, nat_le}
use Rattle.cx_base.specs.Refusal.{Passed}
use Rattle.cx_base.specs.declared.limit.Limit.TheVariants as limits
use Rattle.cx_lexer.specs.declared.token.TokenKind.{TokenKind}
use Rattle.cx_lexer.specs.declared.token.TokenKind.TheVariants as kind
use Rattle.cx_grammar.specs.Pieces.{Piece}
use Rattle.cx_grammar.specs.Production.{At, read_token, begins}
use Rattle.cx_grammar.specs.Statements.{string_token, is_string_kind}
use Rattle.cx_spots.specs.Ends.{is_end, is_end_kind}
use Rattle.cx_spots.specs.Spots.{end_piece, IsFirst}

-- what is no string is refused as a piece of any other class is
pub no_string : (load limit : ℕ) (ts : List Piece) → begins string_token ts ≡ false → read_token load string_token limit ts ≡ read_token load (λ p. false) limit ts
unfolding read_token begins
no_string load limit [] none = refl
no_string load limit (t ∷ ts) none =
    let h : string_token t ≡ false = none in
    rw h refl

pub deep_string : (load limit : ℕ) (x : Piece) (ts : List Piece) → begins string_token ts ≡ true → nat_le load limit ≡ false → IsFirst x ts
    → read_token load string_token limit ts ≡ Err (At (Passed limits.Depth x.token.at))
unfolding read_token begins
deep_string load limit x [] some deep is = absurd is
deep_string load limit x (t ∷ ts) some deep is =
    let h : string_token t ≡ true = some in
    rw (h, deep, is) refl

same_first : (x p : Piece) (rest ts : List Piece) → IsFirst x ts → ts ≡ p ∷ rest → ts ≡ x ∷ rest
same_first x p rest ts is e =
    let h : p ≡ x = subst (λ (us : List Piece). IsFirst x us) e is in
    e ∙ ap (λ (q : Piece). q ∷ rest) h

taken : (load limit : ℕ) (x : Piece) (rest : List Piece) → string_token x ≡ true → nat_le load limit ≡ true → read_token load string_token limit (x ∷ rest) ≡ Ok (x, rest)
unfolding read_token
taken load limit x rest some shallow = rw (some, shallow) refl

first_string : (x : Piece) (rest ts : List Piece) → ts ≡ x ∷ rest → begins string_token ts ≡ true → string_token x ≡ true
unfolding begins
first_string x rest ts e some = subst (λ (us : List Piece). begins string_token us ≡ true) e some

pub read_string : (load limit : ℕ) (x p : Piece) (rest ts : List Piece) → begins string_token ts ≡ true → nat_le load limit ≡ true → IsFirst x ts → ts ≡ p ∷ rest
    → read_token load string_token limit ts ≡ Ok (x, rest)
read_string load limit x p rest ts some shallow is e =
    let f : ts ≡ x ∷ rest = same_first x p rest ts is e in
    rw f (taken load limit x rest (first_string x rest ts f some) shallow)

-- a string is not the end
string_kind : (k : TokenKind) → is_string_kind k ≡ true → is_end_kind k ≡ false
string_kind kind.Str e = refl
string_kind kind.Name e = refl
string_kind kind.Word e = refl
string_kind kind.Int e = refl
string_kind kind.Punct e = refl
string_kind kind.End e = absurd cc

pub string_no_end : (ts : List Piece) → begins string_token ts ≡ true → begins end_piece ts ≡ false
unfolding begins string_token end_piece is_end
string_no_end [] some = refl
string_no_end (t ∷ ts) some =
    let h : is_string_kind t.token.kind ≡ true = some in
    rw (string_kind t.token.kind h) refl

pub ruleset string_lemmas = (no_string, deep_string, read_string, string_no_end)
