-- From what each level spends.
use Rattle.std.proofs.Common.{true, ◌≤◌, ◌+◌, ◌*◌, ℕ, List, [], ◌∷◌, length, arith, length-append}
use Rattle.cx_tokens.specs.Tokens.{TokenTree}
use Rattle.cx_tokens.specs.declared.token.TokenKind.{TokenKind}
use Rattle.cx_tokens.specs.declared.token.TokenKind.TheVariants as kind
use Rattle.cx_tokens.specs.declared.punctuator.Punctuator.TheVariants as punctuator
use Rattle.cx_tokens.specs.Pieces.{Piece, pieces, halves, halves_of}
use Rattle.cx_syntax.specs.States.{State, cut, freed}
use Rattle.cx_syntax_laws.specs.GrammarLaws.{Levelled, IsTree}
use Rattle.cx_syntax_laws.specs.NumberLaws.{NumberBounds}
use Rattle.cx_syntax_laws.proofs.Lawful.{Lawful}
use Rattle.cx_syntax_laws.proofs.Spending.{Spends}

two_halves : (k : TokenKind) (t : TokenTree) → length (halves_of k t) ≤ 2
two_halves (kind.Punct punctuator.GreaterGreater) t = omega arith
two_halves k t = omega arith

pub pieces_length : (ts : List TokenTree) → length (pieces ts) ≤ 2 * length ts
unfolding halves
pieces_length [] = omega arith
pieces_length (t ∷ ts) =
    let l = length-append (halves_of t.kind t) (pieces ts) in
    let a = two_halves t.kind t in
    let b = pieces_length ts in
    omega arith

pub number_bounds : {A : Type 0} {p : Levelled A} → ((n : ℕ) → Lawful true (p n)) → (want : ℕ) → ((n : ℕ) → Spends 0 want (p n)) → NumberBounds p
number_bounds {A} {p} h want spends = record {
  for_pieces = bound;
  for_tokens = λ s ts x w. let a = bound s (pieces ts) x w in let b = pieces_length ts in omega arith;
}
  where
    bound : (s : State) (us : List Piece) (x : A) (w : IsTree p s us x) → w.after.next ≤ s.next + 8 * length us
    bound s us x w =
        let a = (spends w.level).spends (cut (freed s) us) w.after x ((h w.level).basic.complete (cut (freed s) us) w.after x w.whole) in
        omega (arith, a)
