-- Implicit conversions and their ranking ([over.best.ics], [over.ics.rank]).
use Rattle.std.specs.Prelude.{Bool, true, false, not, ◌&&◌, ◌||◌, Option, Some, None, if◌then◌else◌}
use Rattle.cx_base.specs.declared.value.Scalar.{Scalar}
use Rattle.cx_base.specs.declared.value.Scalar.TheVariants as scalar
use Rattle.cx_term.specs.Same.{same_term}
use Rattle.cx_term.specs.Term.{Term, ref, const}
use Rattle.cx_questions.specs.Scalars.{same_scalar}
use Rattle.cx_questions.specs.TermTests.{is_const, without_const, scalar_of}
use Rattle.cx_questions.specs.Operators.{is_lvalue}
use Rattle.cx_questions.specs.Environments.{Typed, Rank, exact, promotion, conversion, Conversion}

-- ---- ranks ([over.ics.scs])

-- from one scalar type to another: no change is exact, bool to int a promotion, all else a conversion
abbrev pub changed : Scalar → Scalar → Rank
changed scalar.Bool scalar.Int = promotion
changed s t = if same_scalar s t then exact else conversion

-- between the scalar types of two types, where both are scalars
abbrev pub between_scalars : Option Scalar → Option Scalar → Option Rank
between_scalars (Some s) (Some t) = Some (changed s t)
between_scalars _ _ = None

-- from a type to another, const ignored: a type to itself is exact; besides scalars change into one another
abbrev pub rank_of : (from : Term) → (to : Term) → Option Rank
rank_of from to = if same_term (without_const from) (without_const to) then Some exact else between_scalars (scalar_of from) (scalar_of to)

-- ---- conversions ([over.best.ics], [dcl.init.ref])

-- a parameter by value
abbrev pub by_value : Term → Rank → Conversion
by_value t rank = record { rank = rank; reference = false; constant = false; to = without_const t }

-- a reference to const binds to the argument or to a temporary that the argument is converted to
abbrev pub by_const_reference : Term → Rank → Conversion
by_const_reference t rank = record { rank = rank; reference = true; constant = true; to = t }

-- another reference binds to the argument itself
abbrev pub by_reference : Term → Conversion
by_reference t = record { rank = exact; reference = true; constant = false; to = t }

abbrev pub with_rank : (Rank → Conversion) → Option Rank → Option Conversion
with_rank f None = None
with_rank f (Some rank) = Some (f rank)

-- The conversion of an argument to a parameter's type; None where there is none. A reference not to const wants an lvalue
-- of its very type.
abbrev pub convert : Typed → Term → Option Conversion
convert a (ref (const t)) = with_rank (by_const_reference t) (rank_of a.of t)
convert a (ref t) = if is_lvalue a && same_term a.of t then Some (by_reference t) else None
convert a t = with_rank (by_value t) (rank_of a.of t)

-- The object of a member function's call ([over.match.funcs]): it binds like a reference, to const where the function is
-- const; a reference not to const binds to every category of an object that is not const.
abbrev pub bind_object : Typed → (is_const : Bool) → Option Conversion
bind_object a true = Some (by_const_reference (without_const a.of) exact)
bind_object a false = if is_const a.of then None else Some (by_reference a.of)

-- ---- ranking ([over.ics.rank])

-- whether the first rank is the worse one
abbrev pub worse_rank : Rank → Rank → Bool
worse_rank promotion exact = true
worse_rank conversion exact = true
worse_rank conversion promotion = true
worse_rank _ _ = false

-- two references to one type, of which the first alone is one to const
abbrev pub binds_more_const : Conversion → Conversion → Bool
binds_more_const a b = a.reference && b.reference && same_term a.to b.to && a.constant && not b.constant

-- whether the first conversion is worse than the second: by its rank, or of one rank by the more const reference
abbrev pub worse : Conversion → Conversion → Bool
worse a b = worse_rank a.rank b.rank || (not (worse_rank b.rank a.rank) && binds_more_const a b)
