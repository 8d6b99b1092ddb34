-- What a production is, and the productions that others are made of.
use Rattle.std.specs.Prelude.{◌≡◌, ◌≢◌, ◌⊎◌, ℕ, zero, suc, Bool, true, false, List, [], ◌∷◌, length, Result, Ok, Err, IsTrue, if◌then◌else◌}
use Rattle.cx_tokens.specs.Pieces.{Piece}
use Rattle.cx_names.specs.Frames.{Frames}
use Rattle.cx_syntax.specs.declared.context.Context.{Context}
use Rattle.cx_syntax.specs.declared.stopped.Stopped.TheVariants as stopped
use Rattle.cx_syntax.specs.States.{State, Reading, cut, fits, ◌>>>◌, misfit}

-- A production of a value, from a state on: which value it has with which state after it; whether what is left is the
-- beginning of one, whole or partial; and what a reader gives. The first two speak of relations alone. What a text has
-- after a tree is part of the state, since some alternatives are chosen by the token that comes next.
pub record Production (A : Type 0) : Type 1 where
  pub whole : State → A → State → Type 0
  pub front : State → Type 0
  pub read : State → Reading A

-- A class of pieces, by the names that are known.
abbrev pub Class : Type 0
Class = Frames → Piece → Bool

-- whether what is left begins with a piece of a class
unfoldable pub begins_with : Class → Frames → List Piece → Bool
begins_with q names [] = false
begins_with q names (t ∷ ts) = q names t

abbrev pub begins : Class → State → Bool
begins q s = begins_with q s.names s.left

-- No token.
abbrev pub give : {A : Type 0} → A → Production A
give x = record {
  whole = λ s y t. (y ≡ x) × (t ≡ s);
  front = λ s. s.left ≡ [];
  read = λ s. Ok (x, s);
}

-- No token, but a number is taken or names are declared.
abbrev pub stepped : {A : Type 0} → (ℕ → Frames → A × ℕ × Frames) → State → A × State
stepped f s = ((f s.next s.names).0, record { left = s.left; next = (f s.next s.names).1; names = (f s.next s.names).2; free = s.free })

abbrev pub step : {A : Type 0} → (ℕ → Frames → A × ℕ × Frames) → Production A
step f = record {
  whole = λ s y t. (y, t) ≡ stepped f s;
  front = λ s. s.left ≡ [];
  read = λ s. Ok (stepped f s);
}

-- One production, then another: a beginning is one of the first, or the first whole and a beginning of the second.
infixl 10 ◌>>=◌
abbrev pub ◌>>=◌ : {A B : Type 0} → Production A → (A → Production B) → Production B
p >>= f = record {
  whole = λ s y u. (x : _) × (t : State) × p.whole s x t × (f x).whole t y u;
  front = λ s. p.front s ⊎ ((x : _) × (t : State) × p.whole s x t × (f x).front t);
  read = λ s. p.read s >>> (λ r. (f r.0).read r.1);
}

unfoldable pub read_token : Context → Class → State → List Piece → Reading Piece
read_token c q s [] = Err stopped.Ended
read_token c q s (t ∷ ts) =
    if q s.names t then (if fits c s then Ok (t, cut s ts) else Err (stopped.Deep t.token.at)) else Err (misfit t.token)

-- One piece of a class, in a context.
abbrev pub token : Context → Class → Production Piece
token c q = record {
  whole = λ s t u. (s.left ≡ t ∷ u.left) × (u ≡ cut s u.left) × IsTrue (q s.names t) × IsTrue (fits c s);
  front = λ s. (s.left ≡ []) ⊎ ((t : Piece) × (s.left ≡ t ∷ []) × IsTrue (q s.names t) × IsTrue (fits c s));
  read = λ s. read_token c q s s.left;
}

unfoldable pub read_counted : Context → Piece → State → List Piece → Reading (Unit {0})
read_counted c t s [] = Err stopped.Ended
read_counted c t s (next ∷ others) = if fits c s then Ok (tt, s) else Err (stopped.Deep t.token.at)

-- No token, but one that was read before counts as standing in a context: which one it is shows only when the piece
-- after it is seen.
abbrev pub counted : Context → Piece → Production (Unit {0})
counted c t = record {
  whole = λ s x u. (u ≡ s) × (s.left ≢ []) × IsTrue (fits c s);
  front = λ s. s.left ≡ [];
  read = λ s. read_counted c t s s.left;
}

abbrev pub Chosen : Bool → Type 0 → Type 0 → Type 0
Chosen true A B = A
Chosen false A B = B

-- The first of two productions where the next piece is of a class, else the second.
abbrev pub when : {A : Type 0} → Class → Production A → Production A → Production A
when q a b = record {
  whole = λ s x t. Chosen (begins q s) (a.whole s x t) (b.whole s x t);
  front = λ s. Chosen (begins q s) (a.front s) (b.front s);
  read = λ s. if begins q s then a.read s else b.read s;
}

-- The first of two productions where something holds, else the second.
abbrev pub given : {A : Type 0} → Bool → Production A → Production A → Production A
given is a b = record {
  whole = λ s x t. Chosen is (a.whole s x t) (b.whole s x t);
  front = λ s. Chosen is (a.front s) (b.front s);
  read = λ s. if is then a.read s else b.read s;
}

unfoldable pub read_closed : {A : Type 0} → List Piece → Reading A
read_closed [] = Err stopped.Ended
read_closed (t ∷ ts) = Err stopped.Exhausted

-- What has no tree, and no beginning but the empty one: a production that is nested deeper than a number of levels.
abbrev pub closed : {A : Type 0} → Production A
closed = record {
  whole = λ s x t. ⊥;
  front = λ s. s.left ≡ [];
  read = λ s. read_closed s.left;
}

-- A production again and again, each time from the value so far, as long as the next piece is of a class; at most so
-- many times.
abbrev pub times : {A : Type 0} → ℕ → (A → Class) → (A → Production A) → A → Production A
times zero q turn x = closed
times (suc n) q turn x = when (q x) (turn x >>= times n q turn) (give x)

-- ... any number of times: each turn takes a piece at least, so there are no more turns than pieces.
abbrev pub repeat : {A : Type 0} → (A → Class) → (A → Production A) → A → Production A
repeat q turn x = record {
  whole = λ s y t. (times (suc (length s.left)) q turn x).whole s y t;
  front = λ s. (times (suc (length s.left)) q turn x).front s;
  read = λ s. (times (suc (length s.left)) q turn x).read s;
}
