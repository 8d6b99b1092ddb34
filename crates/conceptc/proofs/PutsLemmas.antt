-- One text put behind another.
use Rattle.std.proofs.Common.{◌≡◌, ℕ, ◌+◌, ◌≤◌, ◌<◌, List, [], ◌∷◌, ◌++◌, length, take, drop, get_or, Option, Some, Result, Ok, Err, sym, ap, ◌∙◌, subst, arith}
use Rattle.std.specs.Prelude.{slice_get}
use Rattle.std.specs.List.{flat_map}
use Rattle.std.proofs.lemmas.List.{take_more, take_all, take-append-drop, flat_map_more}
use Rattle.std.proofs.lemmas.Option.{slice_get_within, get_or_from_slice_get}
use Rattle.std.proofs.lemmas.List.Concat.{flat_map-append}
use Rattle.cx_base.specs.declared.place.Place.{Place}
use Rattle.cx_io.specs.Sink.{Appends}
use Rattle.cx_io.proofs.Pieces.{appends_nothing, appends_then, appends_front_of, appends_then_front}
use Rattle.conceptc.specs.Puts.{PutsText}

-- a text was taken whole
pub record HasPut (old new : Option (List ℕ)) (before now : ℕ) (text : List ℕ) : Type 0 where
  pub bytes : Appends old new text
  pub counted : before ≤ now

pub taken : {A E : Type 0} (old new : Option (List ℕ)) (before now : ℕ) (x : A) (text : List ℕ) → PutsText {A = A} {E = E} old new before now (Ok x) text → HasPut old new before now text
taken old new before now x text h = record { bytes = h.bytes; counted = h.counted }

pub put_whole : {A E : Type 0} (old new : Option (List ℕ)) (before now : ℕ) (x : A) (text : List ℕ) → HasPut old new before now text → PutsText {A = A} {E = E} old new before now (Ok x) text
put_whole old new before now x text h = record { bytes = h.bytes; counted = h.counted; cause = tt }

pub put_nothing : (o : Option (List ℕ)) (n : ℕ) → HasPut o o n n []
put_nothing o n = record { bytes = appends_nothing o; counted = omega arith }

pub put_then : (a b c : Option (List ℕ)) (k m n : ℕ) (x y : List ℕ) → HasPut a b k m x → HasPut b c m n y → HasPut a c k n (x ++ y)
put_then a b c k m n x y first second = record { bytes = appends_then a b c x y first.bytes second.bytes; counted = omega (arith, first.counted, second.counted) }

-- what was put before, and then what a call puts
pub behind : {A E : Type 0} (a b c : Option (List ℕ)) (k m n : ℕ) (x y : List ℕ) (r : Result A E) → HasPut a b k m x → PutsText b c m n r y → PutsText a c k n r (x ++ y)
behind a b c k m n x y (Ok v) first second = record { bytes = appends_then a b c x y first.bytes second.bytes; counted = omega (arith, first.counted, second.counted); cause = tt }
behind a b c k m n x y (Err e) first second = record { bytes = appends_then_front a b c x y first.bytes second.bytes; counted = omega (arith, first.counted, second.counted); cause = omega (arith, first.counted, second.cause) }

-- a call that failed failed at what begins with its text
pub stopped : {A B E F : Type 0} (a b : Option (List ℕ)) (k m : ℕ) (x y : List ℕ) (e : E) (f : F) → PutsText {A = A} {E = E} a b k m (Err e) x → PutsText {A = B} {E = F} a b k m (Err f) (x ++ y)
stopped a b k m x y e f h = record { bytes = appends_front_of a b x y h.bytes; counted = h.counted; cause = h.cause }

-- ---- a line for each place

pub lines_more : (line : Place → List ℕ) (ps : List Place) (i : ℕ) (p : Place) → slice_get ps i ≡ Some p → flat_map line (take (i + 1) ps) ≡ flat_map line (take i ps) ++ line p
lines_more line ps i p at =
    let below : i < length ps = slice_get_within ps i p at in
    let is : get_or ps i p ≡ p = get_or_from_slice_get ps i p p at in
    ap (flat_map line) (take_more ps i p below ∙ ap (λ (q : Place). take i ps ++ q ∷ []) is) ∙ sym (flat_map_more line [] (take i ps) p)

-- the lines so far and the next begin all the lines
pub lines_begin : (line : Place → List ℕ) (ps : List Place) (i : ℕ) (p : Place) → slice_get ps i ≡ Some p → flat_map line ps ≡ (flat_map line (take i ps) ++ line p) ++ flat_map line (drop (i + 1) ps)
lines_begin line ps i p at = ap (flat_map line) (sym (take-append-drop (i + 1) ps)) ∙ flat_map-append line (take (i + 1) ps) (drop (i + 1) ps) ∙ ap (λ (t : List ℕ). t ++ flat_map line (drop (i + 1) ps)) (lines_more line ps i p at)

-- the lines of the first i places were put, and then the next line
pub line_put : {A E : Type 0} (line : Place → List ℕ) (ps : List Place) (i : ℕ) (p : Place) (text : List ℕ) (a b c : Option (List ℕ)) (k m n : ℕ) (x : A) → slice_get ps i ≡ Some p → text ≡ line p
    → HasPut a b k m (flat_map line (take i ps)) → PutsText {A = A} {E = E} b c m n (Ok x) text → HasPut a c k n (flat_map line (take (i + 1) ps))
line_put line ps i p text a b c k m n x at is so_far next =
    rw (lines_more line ps i p at, ← is) (put_then a b c k m n (flat_map line (take i ps)) text so_far (taken b c m n x text next))

-- the next line failed
pub line_failed : {A B E F : Type 0} (line : Place → List ℕ) (ps : List Place) (i : ℕ) (p : Place) (text : List ℕ) (a b c : Option (List ℕ)) (k m n : ℕ) (e : E) (f : F) → slice_get ps i ≡ Some p → text ≡ line p
    → HasPut a b k m (flat_map line (take i ps)) → PutsText {A = A} {E = E} b c m n (Err e) text → PutsText {A = B} {E = F} a c k n (Err f) (flat_map line ps)
line_failed {A} {B} {E} {F} line ps i p text a b c k m n e f at is so_far next =
    let failed : PutsText {A = A} {E = E} a c k n (Err e) (flat_map line (take i ps) ++ text) = behind a b c k m n (flat_map line (take i ps)) text (Err e) so_far next in
    rw (lines_begin line ps i p at, ← is) (stopped a c k n (flat_map line (take i ps) ++ text) (flat_map line (drop (i + 1) ps)) e f failed)

pub all_lines : {A E : Type 0} (line : Place → List ℕ) (ps : List Place) (i : ℕ) (a b : Option (List ℕ)) (k m : ℕ) (x : A) → length ps ≤ i → HasPut a b k m (flat_map line (take i ps)) → PutsText {A = A} {E = E} a b k m (Ok x) (flat_map line ps)
all_lines line ps i a b k m x above so_far = put_whole a b k m x (flat_map line ps) (subst (λ (qs : List Place). HasPut a b k m (flat_map line qs)) (take_all i ps above) so_far)
