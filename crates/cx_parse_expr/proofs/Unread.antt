-- What a reader answers at a requires-expression: none is read yet.
use Rattle.std.proofs.Common.{◌≡◌, ℕ, zero, suc, ◌+◌, ◌-◌, Bool, true, false, List, [], ◌∷◌, Result, Err, codes, if◌then◌else◌, refl, ap, ◌∙◌, sym, subst}
use Rattle.cx_base.specs.Refusal.{Refusal, Refused}
use Rattle.cx_base.specs.declared.kind.Kind.TheVariants as fault
use Rattle.cx_base.specs.declared.stop.Stop.{Stop}
use Rattle.cx_base.specs.declared.stop.Stop.TheVariants as stop
use Rattle.cx_tree.specs.Trees.{ExprTree}
use Rattle.cx_grammar.specs.Pieces.{Piece}
use Rattle.cx_grammar.specs.Words.{refused, misfit, word}
use Rattle.cx_grammar.specs.Names.{Context}
use Rattle.cx_grammar.specs.Production.{Stopped, At, Stops, given, begins, unread, read_unread}
use Rattle.cx_grammar.specs.Types.{Numbered}
use Rattle.cx_grammar.specs.Requires.{requires_expr, maybe_requires}
use Rattle.cx_grammar.specs.Expressions.{levels, no_requires, worded}
use Rattle.cx_spots.specs.Spots.{below, IsFirst, IsStop}

levels_read : (requires : Bool) (n : ℕ) → (levels requires n).requires ≡ requires
unfolding levels
levels_read requires zero = refl
levels_read requires (suc n) = levels_read requires n

none_read : {A : Type 0} (limit : ℕ) (x : Piece) (ts : List Piece) → IsFirst x ts → word (codes "requires") x ≡ true → read_unread {A = A} (word (codes "requires")) limit ts ≡ Err (At (refused fault.Unsupported x.token.at))
unfolding read_unread
none_read limit x [] is its = absurd is
none_read limit x (t ∷ ts) is its = rw (is, its) refl

-- the refusal at its word
pub unread_here : (c : Context) (n limit : ℕ) (x : Piece) (ts : List Piece) → IsFirst x ts → word (codes "requires") x ≡ true → (maybe_requires (below c) c n).read limit ts ≡ Err (At (refused fault.Unsupported x.token.at))
unfolding maybe_requires
unread_here c n limit x ts is its =
    subst (λ (z : Bool). (given z (requires_expr (below c) c n) (unread (word (codes "requires")))).read limit ts ≡ Err (At (refused fault.Unsupported x.token.at)))
    (sym (levels_read no_requires (264 - (c.load + 1)))) (none_read limit x ts is its)

first_is : (p : Piece → Bool) (x : Piece) (ts : List Piece) → IsFirst x ts → begins p ts ≡ true → p x ≡ true
unfolding begins
first_is p x [] is b = absurd is
first_is p x (t ∷ ts) is b = subst (λ (z : Piece). p z ≡ true) is b

stop_is : (A : Type 0) (e : Stop) (r : Refusal) → IsStop r e → Stops {A = A} e (Err (At r))
stop_is A stop.NoMemory r is = tt
stop_is A (stop.Limit l at) r is = absurd is
stop_is A (stop.Fault f) r is = ap (λ (q : Refusal). Err (At q)) is

-- behind the words that begin other primaries
pub worded_stops : (c : Context) (n : ℕ) (e : Stop) (x : Piece) (ts : List Piece)
    → begins (word (codes "true")) ts ≡ false → begins (word (codes "false")) ts ≡ false → begins (word (codes "__is_same")) ts ≡ false → begins (word (codes "__out")) ts ≡ false
    → begins (word (codes "requires")) ts ≡ true → IsFirst x ts → IsStop (refused fault.Unsupported x.token.at) e → Stops e ((worded (below c) c n).read 256 ts)
unfolding worded
worded_stops c n e x ts no_true no_false no_same no_out its is stops =
    rw (no_true, no_false, no_same, no_out, its, unread_here c n 256 x ts is (first_is (word (codes "requires")) x ts is its)) (stop_is _ e (refused fault.Unsupported x.token.at) stops)
