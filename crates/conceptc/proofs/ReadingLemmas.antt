-- One piece of the input after another.
use Rattle.std.proofs.Common.{ℕ, true, false, ◌≤◌, List, [], ◌++◌, length, Option, sym, subst, arith}
use Rattle.std.proofs.lemmas.List.{append-nil}
use Rattle.cx_io.specs.Source.{Consumes}
use Rattle.cx_io.proofs.Pieces.{consumes_then}
use Rattle.conceptc.specs.Verdict.{source_limit}
use Rattle.conceptc.specs.Reading.{ReadsWhole, ReadsPiece, PieceIsUnread, IsUnread}
use Rattle.conceptc.specs.declared.unread.Unread.{Unread}
use Rattle.conceptc.specs.declared.unread.Unread.TheVariants.{TooLong, Faulty, OutOfMemory}

-- what was read so far, of an input whose rest was `old` and whose count of faults was `before`
pub record HasRead (old new : Option (List ℕ)) (before now : ℕ) (text : List ℕ) : Type 0 where
  pub read : Consumes old new text
  pub within : length text ≤ source_limit
  pub counted : before ≤ now

pub goes_on : (old mid new : Option (List ℕ)) (before now later : ℕ) (text more : List ℕ) → HasRead old mid before now text → ReadsPiece mid new text more true → now ≤ later → HasRead old new before later more
goes_on old mid new before now later text more so_far piece counted = record {
  read = subst (λ (t : List ℕ). Consumes old new t) (sym piece.2) (consumes_then old mid new text piece.0 so_far.read piece.1);
  within = piece.3;
  counted = omega (arith, so_far.counted, counted);
}

pub ends : (old mid new : Option (List ℕ)) (before now : ℕ) (text more : List ℕ) → HasRead old mid before now text → ReadsPiece mid new text more false → ReadsWhole old new more
ends old mid new before now text more so_far piece =
    let all : Consumes old new (text ++ []) = consumes_then old mid new text [] so_far.read piece.0 in
    subst (λ (t : List ℕ). ReadsWhole old new t) (sym piece.2) (subst (λ (t : List ℕ). Consumes old new t) (append-nil text) all, piece.1, so_far.within)

pub stops : (old mid new : Option (List ℕ)) (before now later : ℕ) (text : List ℕ) (why : Unread) → HasRead old mid before now text → PieceIsUnread mid new now later text why → IsUnread old new before later why
stops old mid new before now later text TooLong so_far h = (text ++ h.0, consumes_then old mid new text h.0 so_far.read h.1, h.2)
stops old mid new before now later text Faulty so_far h = omega (arith, so_far.counted, h)
stops old mid new before now later text OutOfMemory so_far h = tt
