-- One read or put after another.
use Rattle.std.proofs.Common.{◌≡◌, ℕ, ◌+◌, ◌≤◌, List, [], ◌++◌, length, take, min, Option, Some, None, refl, sym, ap, ◌∙◌, append_assoc, arith}
use Rattle.std.proofs.lemmas.List.{append-nil, take-append-le, take_min}
use Rattle.std.proofs.Math.Seq.{take-length, take-append-add}
use Rattle.cx_io.specs.Source.{Consumes}
use Rattle.cx_io.specs.Sink.{Appends, AppendsFront}

pub consumes_nothing : (o : Option (List ℕ)) → Consumes o o []
consumes_nothing None = refl
consumes_nothing (Some left) = refl

pub consumes_then : (a b c : Option (List ℕ)) (x y : List ℕ) → Consumes a b x → Consumes b c y → Consumes a c (x ++ y)
consumes_then a b None x y first second = rw (first, second) refl
consumes_then a b (Some left) x y first second = rw (first, second) (ap Some (sym (append_assoc x y left)))

pub appends_nothing : (o : Option (List ℕ)) → Appends o o []
appends_nothing None = refl
appends_nothing (Some written) = ap Some (sym (append-nil written))

pub appends_then : (a b c : Option (List ℕ)) (x y : List ℕ) → Appends a b x → Appends b c y → Appends a c (x ++ y)
appends_then None b c x y first second = rw (second, first) refl
appends_then (Some written) b c x y first second = rw (second, first) (ap Some (append_assoc written x y))

-- nothing is a front of each piece
pub appends_no_front : (o : Option (List ℕ)) (x : List ℕ) → AppendsFront o o x
appends_no_front o x = (0, appends_nothing o)

-- a whole piece is a front of it
pub appends_whole : (a b : Option (List ℕ)) (x : List ℕ) → Appends a b x → AppendsFront a b x
appends_whole a b x all = (length x, rw take-length all)

-- a front of a piece is a front of what begins with the piece
pub appends_front_of : (a b : Option (List ℕ)) (x y : List ℕ) → AppendsFront a b x → AppendsFront a b (x ++ y)
appends_front_of a b x y front =
    let n = front.0 in
    let fits : min n (length x) ≤ length x = omega arith in
    let same : take (min n (length x)) (x ++ y) ≡ take n x = take-append-le (min n (length x)) x y fits ∙ take_min n x in
    (min n (length x), rw same front.1)

-- a front behind a whole piece is a front of both together
pub appends_then_front : (a b c : Option (List ℕ)) (x y : List ℕ) → Appends a b x → AppendsFront b c y → AppendsFront a c (x ++ y)
appends_then_front a b c x y first front =
    (length x + front.0, rw take-append-add (appends_then a b c x (take front.0 y) first front.1))
