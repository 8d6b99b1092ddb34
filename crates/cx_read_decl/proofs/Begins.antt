-- What a state begins with, where a class is asked for only if something holds.
use Rattle.std.proofs.Common.{◌≡◌, Bool, true, false, ◌&&◌, List, [], ◌∷◌, Ok, refl}
use Rattle.cx_tokens.specs.Pieces.{Piece}
use Rattle.cx_names.specs.Frames.{Frames}
use Rattle.cx_syntax.specs.States.{State}
use Rattle.cx_syntax.specs.Productions.{Class, begins, begins_with}
use Rattle.cx_syntax.specs.declared.context.Context.{Context}
use Rattle.cx_syntax.specs.Combinators.{flag}
use Rattle.cx_syntax.specs.Classes.{where_holds}

by_left : (is : Bool) (q : Class) (names : Frames) (left : List Piece) → begins_with (where_holds is q) names left ≡ is && begins_with q names left
unfolding begins_with
by_left true q names [] = refl
by_left true q names (t ∷ ts) = refl
by_left false q names [] = refl
by_left false q names (t ∷ ts) = refl

pub begins_where : (is : Bool) (q : Class) (s : State) → begins (where_holds is q) s ≡ is && begins q s
begins_where is q s = by_left is q s.names s.left

-- where it does not hold, nothing is passed over
pub flag_none : (c : Context) (q : Class) (s : State) → (flag c (where_holds false q)).read s ≡ Ok (false, s)
flag_none c q s = rw (begins_where false q s) refl
