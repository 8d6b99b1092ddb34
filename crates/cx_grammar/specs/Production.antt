-- What a production is. In each definition `limit` is the greatest load that a token may have; the tokens behind those
-- of a tree are told, since some alternatives are chosen by the token that comes next.
use Rattle.std.specs.Prelude.{◌≡◌, ◌≤◌, ◌⊎◌, ℕ, zero, suc, Bool, true, false, List, [], ◌∷◌, ◌++◌, length, Result, Ok, Err, IsTrue, if◌then◌else◌, nat_le}
use Rattle.cx_base.specs.Refusal.{Refusal, Passed}
use Rattle.cx_base.specs.declared.limit.Limit.TheVariants as limits
use Rattle.cx_base.specs.declared.stop.Stop.{Stop}
use Rattle.cx_base.specs.declared.stop.Stop.TheVariants as stop
use Rattle.cx_base.specs.Refusal.{Refused}
use Rattle.cx_grammar.specs.Pieces.{Piece}
use Rattle.cx_base.specs.declared.kind.Kind.TheVariants as fault
use Rattle.cx_grammar.specs.Words.{misfit, refused}

-- Why a reader gives no tree: the tokens end within it, it is nested deeper than the reader goes, or it is refused.
pub data Stopped : Type 0 where
  Ended : Stopped
  Exhausted : Stopped
  At : Refusal → Stopped

infixl 10 ◌>>>◌
abbrev pub ◌>>>◌ : {A B : Type 0} → Result A Stopped → (A → Result B Stopped) → Result B Stopped
(Ok x) >>> f = f x
(Err e) >>> f = Err e

-- A production of a value: which pieces are a whole tree of it, with those behind and the value; which are the
-- beginning of one, whole or partial, where there are no others; and what a reader gives.
pub record Production (A : Type 0) : Type 1 where
  pub whole : ℕ → List Piece → List Piece → A → Type 0
  pub front : ℕ → List Piece → Type 0
  pub read : ℕ → List Piece → Result (A × List Piece) Stopped

-- No token.
abbrev pub give : {A : Type 0} → A → Production A
give x = record {
  whole = λ limit ts behind y. (ts ≡ []) × (y ≡ x);
  front = λ limit ts. ts ≡ [];
  read = λ limit ts. Ok (x, ts);
}

-- One production, then another: a beginning is one of the first, or the first whole and a beginning of the second.
infixl 10 ◌>>=◌
abbrev pub ◌>>=◌ : {A B : Type 0} → Production A → (A → Production B) → Production B
p >>= f = record {
  whole = λ limit ts behind y. (x : _) × (us vs : List Piece) × (ts ≡ us ++ vs) × p.whole limit us (vs ++ behind) x × (f x).whole limit vs behind y;
  front = λ limit ts. p.front limit ts ⊎ ((x : _) × (us vs : List Piece) × (ts ≡ us ++ vs) × p.whole limit us vs x × (f x).front limit vs);
  read = λ limit ts. p.read limit ts >>> (λ r. (f r.0).read limit r.1);
}

unfoldable pub read_token : ℕ → (Piece → Bool) → ℕ → List Piece → Result (Piece × List Piece) Stopped
read_token load p limit [] = Err Ended
read_token load p limit (t ∷ ts) =
    if p t then (if nat_le load limit then Ok (t, ts) else Err (At (Passed limits.Depth t.token.at))) else Err (At (misfit t.token))

-- One token of some kind, with a load.
abbrev pub token : ℕ → (Piece → Bool) → Production Piece
token load p = record {
  whole = λ limit ts behind t. (ts ≡ t ∷ []) × IsTrue (p t) × (load ≤ limit);
  front = λ limit ts. (ts ≡ []) ⊎ ((t : Piece) × (ts ≡ t ∷ []) × IsTrue (p t) × (load ≤ limit));
  read = read_token load p;
}

-- whether the next token is one of some kind
unfoldable pub begins : (Piece → Bool) → List Piece → Bool
begins p [] = false
begins p (t ∷ ts) = p t

abbrev pub Chosen : Bool → Type 0 → Type 0 → Type 0
Chosen true A B = A
Chosen false A B = B

-- The first of two productions where the next token is of some kind, else the second.
abbrev pub when : {A : Type 0} → (Piece → Bool) → Production A → Production A → Production A
when p a b = record {
  whole = λ limit ts behind x. Chosen (begins p (ts ++ behind)) (a.whole limit ts behind x) (b.whole limit ts behind x);
  front = λ limit ts. Chosen (begins p ts) (a.front limit ts) (b.front limit ts);
  read = λ limit ts. if begins p ts then a.read limit ts else b.read limit ts;
}

-- The first of two productions where something holds, else the second.
abbrev pub given : {A : Type 0} → Bool → Production A → Production A → Production A
given is a b = record {
  whole = λ limit ts behind x. Chosen is (a.whole limit ts behind x) (b.whole limit ts behind x);
  front = λ limit ts. Chosen is (a.front limit ts) (b.front limit ts);
  read = λ limit ts. if is then a.read limit ts else b.read limit ts;
}

unfoldable pub read_closed : {A : Type 0} → ℕ → List Piece → Result (A × List Piece) Stopped
read_closed limit [] = Err Ended
read_closed limit (t ∷ ts) = Err Exhausted

-- What has no tree and no beginning but the empty one: a production nested deeper than a number of levels.
abbrev pub closed : {A : Type 0} → Production A
closed = record {
  whole = λ limit ts behind x. ⊥;
  front = λ limit ts. ts ≡ [];
  read = read_closed;
}

unfoldable pub read_unread : {A : Type 0} → (Piece → Bool) → ℕ → List Piece → Result (A × List Piece) Stopped
read_unread p limit [] = Err Ended
read_unread p limit (t ∷ ts) = Err (At (if p t then refused fault.Unsupported t.token.at else misfit t.token))

-- What the language has and the parsers do not read yet: it has no tree and no beginning but the empty one, and is
-- unsupported at a first token of some kind.
abbrev pub unread : {A : Type 0} → (Piece → Bool) → Production A
unread p = record {
  whole = λ limit ts behind x. ⊥;
  front = λ limit ts. ts ≡ [];
  read = read_unread p;
}

-- A production again and again, as long as the next token is of some kind, at most so many times.
abbrev pub times : {A : Type 0} → ℕ → (Piece → Bool) → (A → Production A) → A → Production A
times zero p step x = closed
times (suc n) p step x = when p (step x >>= times n p step) (give x)

-- ... any number of times.
abbrev pub repeat : {A : Type 0} → (Piece → Bool) → (A → Production A) → A → Production A
repeat p step x = record {
  whole = λ limit ts behind y. (n : ℕ) × (times n p step x).whole limit ts behind y;
  front = λ limit ts. (n : ℕ) × (times n p step x).front limit ts;
  read = λ limit ts. (times (suc (length ts)) p step x).read limit ts;
}

-- ---- what it is for a call to answer a reader

abbrev pub Stops : {A : Type 0} → Stop → Result A Stopped → Type 0
Stops stop.NoMemory meant = Unit {0}
Stops (stop.Fault f) meant = meant ≡ Err (At (Refused f))
Stops (stop.Limit l at) meant = meant ≡ Err (At (Passed l at))

abbrev pub Gives : {X A : Type 0} → (X → A) → Result X Stop → Result A Stopped → Type 0
Gives view (Ok x) meant = meant ≡ Ok (view x)
Gives view (Err e) meant = Stops e meant
