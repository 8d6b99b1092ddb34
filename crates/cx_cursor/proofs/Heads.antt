-- What a class, or a token of one, makes of the first piece.
use Rattle.std.proofs.Common.{◌≡◌, ◌<◌, ◌≤◌, Bool, true, false, ◌||◌, ◌&&◌, if◌then◌else◌, List, [], ◌∷◌, Some, None, Ok, Err, refl, arith}
use Rattle.std.proofs.lemmas.Bool.{lt-leb, le-leb}
use Rattle.cx_names.specs.Frames.{Frames}
use Rattle.cx_tokens.specs.Pieces.{Piece}
use Rattle.cx_syntax.specs.declared.context.Context.{Context}
use Rattle.cx_syntax.specs.declared.stopped.Stopped.TheVariants as stopped
use Rattle.cx_syntax.specs.States.{State, cut, fits, misfit}
use Rattle.cx_syntax.specs.Productions.{Class, begins_with, read_token, read_counted}
use Rattle.cx_syntax.specs.Classes.{◌or◌, where_holds}
use Rattle.cx_cursor.specs.Pieces.{head_piece, tail_pieces}

pub begins_some : (q : Class) (names : Frames) (left : List Piece) (t : Piece) → Some t ≡ head_piece left → q names t ≡ begins_with q names left
unfolding begins_with
begins_some q names [] t e = cc
begins_some q names (u ∷ us) t e = cc

pub begins_none : (q : Class) (names : Frames) (left : List Piece) → None ≡ head_piece left → false ≡ begins_with q names left
unfolding begins_with
begins_none q names [] e = refl
begins_none q names (u ∷ us) e = cc

-- one class or another; a class where something holds
pub begins_or : (q r : Class) (names : Frames) (left : List Piece) → begins_with (q or r) names left ≡ (begins_with q names left || begins_with r names left)
unfolding begins_with
begins_or q r names [] = refl
begins_or q r names (u ∷ us) = refl

pub begins_where : (b : Bool) (q : Class) (names : Frames) (left : List Piece) → begins_with (where_holds b q) names left ≡ (b && begins_with q names left)
unfolding begins_with
begins_where true q names [] = refl
begins_where false q names [] = refl
begins_where b q names (u ∷ us) = refl

pub token_none : (c : Context) (q : Class) (s : State) (left : List Piece) → None ≡ head_piece left → read_token c q s left ≡ Err stopped.Ended
unfolding read_token
token_none c q s [] e = refl
token_none c q s (u ∷ us) e = cc

-- a piece that does not fit; one at which too much is open; one that is read
pub token_misfit : (c : Context) (q : Class) (s : State) (left : List Piece) (t : Piece) → Some t ≡ head_piece left → q s.names t ≡ false
    → read_token c q s left ≡ Err (misfit t.token)
unfolding read_token
token_misfit c q s [] t e h = cc
token_misfit c q s (u ∷ us) t e h = let same : t ≡ u = cc in rw (← same, h) refl

pub token_deep : (c : Context) (q : Class) (s : State) (left : List Piece) (t : Piece) → Some t ≡ head_piece left → q s.names t ≡ true
    → fits c s ≡ false → read_token c q s left ≡ Err (stopped.Deep t.token.at)
unfolding read_token
token_deep c q s [] t e h f = cc
token_deep c q s (u ∷ us) t e h f = let same : t ≡ u = cc in rw (← same, h, f) refl

pub token_taken : (c : Context) (q : Class) (s : State) (left : List Piece) (t : Piece) → Some t ≡ head_piece left → q s.names t ≡ true
    → fits c s ≡ true → read_token c q s left ≡ Ok (t, cut s (tail_pieces left))
unfolding read_token
token_taken c q s [] t e h f = cc
token_taken c q s (u ∷ us) t e h f = let same : t ≡ u = cc in rw (← same, h, f) refl

pub fits_none : (c : Context) (s : State) → s.free ≡ false → c.room ≡ 0 → fits c s ≡ false
fits_none c s f e = let few : c.room < 1 = omega arith in rw (f, lt-leb 1 c.room few) refl

pub fits_some : (c : Context) (s : State) → (c.room ≡ 0 → ⊥) → fits c s ≡ true
fits_some c s h = let some : 1 ≤ c.room = omega arith in rw (le-leb 1 c.room some) (or_true s.free)
  where
    or_true : (b : Bool) → (b || true) ≡ true
    or_true true = refl
    or_true false = refl

-- a token that was read before, with nothing after it, and with something
pub counted_none : (c : Context) (t : Piece) (s : State) (left : List Piece) → None ≡ head_piece left → read_counted c t s left ≡ Err stopped.Ended
unfolding read_counted
counted_none c t s [] e = refl
counted_none c t s (u ∷ us) e = cc

pub counted_some : (c : Context) (t : Piece) (s : State) (left : List Piece) (u : Piece) → Some u ≡ head_piece left
    → read_counted c t s left ≡ (if fits c s then Ok (tt, s) else Err (stopped.Deep t.token.at))
unfolding read_counted
counted_some c t s [] u e = cc
counted_some c t s (v ∷ vs) u e = refl
