-- What holds of each production.
use Rattle.std.specs.Prelude.{◌++◌, ◌≡◌, IsTrue, ◌<◌, ◌⊎◌, Bool, true, false, List, [], ◌∷◌, length, Ok, Err}
use Rattle.cx_base.specs.declared.place.Place.{Place}
use Rattle.cx_tokens.specs.Pieces.{Piece, is_word}
use Rattle.cx_tokens.specs.declared.word.Word.TheVariants as word
use Rattle.cx_syntax.specs.declared.stopped.Stopped.TheVariants.{NoMemory, Ended, Exhausted, Fault, Deep}
use Rattle.cx_syntax.specs.States.{State, grow, freed, misfit, Reading}
use Rattle.cx_syntax.specs.Productions.{Production, Class}

abbrev pub grown : {A : Type 0} → Reading A → List Piece → Reading A
grown (Ok q) vs = Ok (q.0, grow q.1 vs)
grown (Err e) vs = Err e

abbrev pub freed_reading : {A : Type 0} → Reading A → Reading A
freed_reading (Ok q) = Ok (q.0, freed q.1)
freed_reading (Err e) = Err e

-- A reader came to the end of the pieces: within a tree, or after one with nothing left.
abbrev pub Open : {A : Type 0} → Reading A → Type 0
Open (Ok q) = q.1.left ≡ []
Open (Err Ended) = Unit {0}
Open (Err NoMemory) = ⊥
Open (Err Exhausted) = ⊥
Open (Err (Fault k at)) = ⊥
Open (Err (Deep at)) = ⊥

-- What one piece more does to a reading that came to the end of some pieces: what is read without it, with it, and with
-- it where constructs may be nested however deep.
pub data Next {A : Type 0} (strict : Bool) (ls : List Piece) (t : Piece) (before after free : Reading A) : Type 0 where
  -- the piece is read too
  Opened : Open after → Next strict ls t before after free
  -- there was a tree, and the piece stands after it
  Stays : (x : A) (u : State) → before ≡ Ok (x, u) → u.left ≡ [] → after ≡ Ok (x, grow u (t ∷ [])) → Next strict ls t before after free
  -- there was none, and the piece does not fit
  Misfits : before ≡ Err Ended → after ≡ Err (misfit t.token) → Next strict ls t before after free
  -- the piece fits, but is nested too deep
  TooDeep : after ≡ Err (Deep t.token.at) → Open free → Next strict ls t before after free
  -- the levels are used up
  Spent : after ≡ Err Exhausted → Next strict ls t before after free
  -- there was none, and the piece stands after one: a production may so be ended by what stands after it
  Early : strict ≡ false → before ≡ Err Ended → (x : A) (u : State) → u.left ≡ [] → after ≡ Ok (x, grow u (t ∷ [])) → Next strict ls t before after free
  -- there was a tree, but the piece neither goes on nor stands after it: a list may so go on up to what closes it
  Shut : strict ≡ false → (x : A) (u : State) → before ≡ Ok (x, u) → u.left ≡ [] → after ≡ Err (misfit t.token) → Next strict ls t before after free
  -- the last piece before is found to be nested too deep, now that the next is seen: so `void` at the front of parameters
  Late : (us : List Piece) (v : Piece) → ls ≡ us ++ v ∷ [] → IsTrue (is_word word.Void v.token.kind) → before ≡ Err Ended → after ≡ Err (Deep v.token.at) → Next strict ls t before after free

-- Where constructs may be nested however deep all is read alike, but for what is nested too deep.
pub data Freed {A : Type 0} (low high : Reading A) : Type 0 where
  Same : high ≡ freed_reading low → Freed low high
  Deeper : (at : Place) → low ≡ Err (Deep at) → Freed low high

-- what is left of a state is the end of what was
pub record Part (s t : State) : Type 0 where
  pub taken : List Piece
  pub split : s.left ≡ taken ++ t.left

-- What holds of each production, but for what one piece more does.
pub record Basic {A : Type 0} (p : Production A) : Type 0 where
  -- what is read is a whole tree, and a whole tree is read
  pub sound : (s t : State) (x : A) → p.read s ≡ Ok (x, t) → p.whole s x t
  pub complete : (s t : State) (x : A) → p.whole s x t → p.read s ≡ Ok (x, t)
  -- the pieces are the beginning of a tree where reading comes to their end
  pub begun : (s : State) → p.front s → Open (p.read s)
  pub ended : (s : State) → Open (p.read s) → p.front s
  pub nothing : (s : State) → s.left ≡ [] → Open (p.read s)
  -- what was read before the end stands whatever stands after it
  pub ahead : (s : State) (vs : List Piece) → Open (p.read s) ⊎ (p.read (grow s vs) ≡ grown (p.read s) vs)
  pub unlimited : (s : State) → Freed (p.read s) (p.read (freed s))
  -- pieces are only taken from the front, and whether there is a limit stays
  pub part : (s t : State) (x : A) → p.read s ≡ Ok (x, t) → Part s t
  pub limit : (s t : State) (x : A) → p.read s ≡ Ok (x, t) → t.free ≡ s.free

pub record Lawful {A : Type 0} (strict : Bool) (p : Production A) : Type 0 where
  pub basic : Basic p
  pub next : (s : State) (t : Piece) → Open (p.read s) → Next strict s.left t (p.read s) (p.read (grow s (t ∷ []))) (p.read (freed (grow s (t ∷ []))))

-- Where nothing is left no tree is read.
pub record Filled {A : Type 0} (p : Production A) : Type 0 where
  pub filled : (s : State) → s.left ≡ [] → p.read s ≡ Err Ended

-- A tree has a piece at least.
pub record Takes {A : Type 0} (p : Production A) : Type 0 where
  pub takes : (s t : State) (x : A) → p.read s ≡ Ok (x, t) → length t.left < length s.left

-- Each piece of a class begins a tree.
pub record Opens {A : Type 0} (q : Class) (p : Production A) : Type 0 where
  pub opens : (s : State) (t : Piece) (before : Reading A) → s.left ≡ t ∷ [] → q s.names t ≡ true → Next true [] t before (p.read s) (p.read (freed s))
