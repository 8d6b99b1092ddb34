-- Where a reader stands that has gone to what is left.
use Rattle.std.proofs.Common.{◌≡◌, ℕ, ◌+◌, ◌-◌, ◌≤◌, List, ◌++◌, length, take, drop, append_assoc, sym, ap, ◌∙◌, subst, arith}
use Rattle.std.specs.Prelude.{IsUtf8, IsCharBoundary, encode_utf8_all}
use Rattle.std.specs.Str.{chars}
use Rattle.std.proofs.Math.Seq.{take-append_seam, drop-append_seam}
use Rattle.std.proofs.lemmas.List.{length-append, take-append-drop}
use Rattle.std.proofs.lemmas.Str.{encodes-chars, encodes-append, IsCharBoundary-at_seam}
use Rattle.cx_lexer.specs.Places.{place_of, place_at, place_behind}
use Rattle.cx_lexer.specs.Tokens.{text_of}
use Rattle.cx_lexer.specs.Reading.{IsEndOf, before}
use Rattle.cx_lexer.proofs.PlaceLemmas.{place_of-append, place_of-line, place_of-col}

-- an end of a text is what lies behind its front
pub record Cut (text front rest : List ℕ) : Type 0 where
  pub le : length rest ≤ length text
  pub at : length text - length rest ≡ length front
  pub taken : take (length text - length rest) text ≡ front
  pub left : drop (length text - length rest) text ≡ rest

pub cut : (text front rest : List ℕ) → text ≡ front ++ rest → Cut text front rest
cut text front rest parts =
    let n : length text - length rest ≡ length front = omega (arith, ap length parts, length-append front rest) in
    record {
      le = omega (arith, ap length parts, length-append front rest);
      at = n;
      taken = ap (λ (i : ℕ). take i text) n ∙ ap (take (length front)) parts ∙ take-append_seam front rest;
      left = ap (λ (i : ℕ). drop i text) n ∙ ap (drop (length front)) parts ∙ drop-append_seam front rest;
    }

pub record Goes (src here rest : List ℕ) (from : ℕ) : Type 0 where
  pub text : List ℕ
  pub here_cut : Cut here text rest
  pub src_le : length rest ≤ length src
  pub src_left : drop (length src - length rest) src ≡ rest
  pub is : text ≡ text_of (before (chars (drop from src)) (chars rest))
  pub here_boundary : IsCharBoundary here (length here - length rest)
  pub src_boundary : IsCharBoundary src (length src - length rest)
  pub at : place_at src (length src - length rest) ≡ place_behind (place_at src from) text
  pub line : (place_at src from).line + length text ≤ 1 + length src
  pub col : (place_at src from).col + length text ≤ 1 + length src

pub goes : (src here rest : List ℕ) (from : ℕ) → IsUtf8 here → IsUtf8 rest → here ≡ drop from src → IsEndOf (chars rest) (chars (drop from src)) → Goes src here rest from
goes src here rest from u v here_is e =
    let text : List ℕ = text_of e.0 in
    let parts : here ≡ text ++ rest = sym (encodes-chars here u) ∙ ap (λ (x : List ℕ). encode_utf8_all (chars x)) here_is ∙ ap encode_utf8_all e.1 ∙ encodes-append e.0 (chars rest) ∙ ap (λ (x : List ℕ). text ++ x) (encodes-chars rest v) in
    let whole : src ≡ (take from src ++ text) ++ rest = sym (take-append-drop from src) ∙ ap (λ (x : List ℕ). take from src ++ x) (sym here_is ∙ parts) ∙ sym (append_assoc (take from src) text rest) in
    let h = cut here text rest parts in
    let s = cut src (take from src ++ text) rest whole in
    let long : length src ≡ length (take from src) + length text + length rest = omega (arith, ap length whole, length-append (take from src ++ text) rest, length-append (take from src) text) in
    record {
      text = text;
      here_cut = h;
      src_le = s.le;
      src_left = s.left;
      is = ap text_of (sym (cut (chars (drop from src)) e.0 (chars rest) e.1).taken);
      here_boundary = subst (IsCharBoundary here) (sym h.at) (IsCharBoundary-at_seam here text rest parts v);
      src_boundary = subst (IsCharBoundary src) (sym s.at) (IsCharBoundary-at_seam src (take from src ++ text) rest whole v);
      at = ap place_of s.taken ∙ place_of-append (take from src) text;
      line = omega (arith, place_of-line (take from src), long);
      col = omega (arith, place_of-col (take from src), long);
    }
