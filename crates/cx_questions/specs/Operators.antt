-- Type and category of operators by those of their operands ([expr.unary], [expr.post.incr], [expr.mul] to [expr.ass],
-- [expr.cond]). What no row names is invalid at the expression's first token.
use Rattle.std.specs.Prelude.{if◌then◌else◌, Bool, true, false, not, ◌&&◌, ◌||◌, Option, Some, None, is_some}
use Rattle.cx_base.specs.declared.kind.Kind.TheVariants as kind
use Rattle.cx_base.specs.declared.place.Place.{Place}
use Rattle.cx_base.specs.declared.value.Scalar.{Scalar}
use Rattle.cx_base.specs.declared.value.Scalar.TheVariants as scalars
use Rattle.cx_term.specs.Same.{same_term}
use Rattle.cx_term.specs.Term.{Term, scalar, void}
use Rattle.cx_term.specs.declared.typed.Cat.{Cat}
use Rattle.cx_term.specs.declared.typed.Cat.TheVariants as cat
use Rattle.cx_term.specs.declared.word.Word.{Word}
use Rattle.cx_term.specs.declared.word.Word.TheVariants as word
use Rattle.cx_questions.specs.Answers.{Answer, given, soft, hard, ◌>>=◌, ◌>>◌, must, present, either}
use Rattle.cx_machine.specs.Scalars.{promoted}
use Rattle.cx_questions.specs.Scalars.{common}
use Rattle.cx_questions.specs.Environments.{Typed}
use Rattle.cx_questions.specs.TermTests.{is_const, without_const, scalar_of, is_class, is_void}

-- ---- types with categories ([basic.lval])

abbrev pub typed : Cat → Term → Typed
typed c t = record { of = t; category = c; declared = None }

abbrev pub lvalue : Term → Typed
lvalue t = typed cat.Lvalue t

-- a prvalue of a scalar type
abbrev pub value_of : Scalar → Typed
value_of s = typed cat.Prvalue (scalar s)

abbrev pub is_l : Cat → Bool
is_l cat.Lvalue = true
is_l _ = false

abbrev pub is_x : Cat → Bool
is_x cat.Xvalue = true
is_x _ = false

abbrev pub is_lvalue : Typed → Bool
is_lvalue e = is_l e.category

abbrev pub is_xvalue : Typed → Bool
is_xvalue e = is_x e.category

abbrev pub same_category : Cat → Cat → Bool
same_category cat.Lvalue d = is_l d
same_category cat.Xvalue d = is_x d
same_category cat.Prvalue d = not (is_l d) && not (is_x d)

-- a prvalue: of a scalar or void its const is dropped; one of a const struct is not supported
abbrev pub prvalue : Place → Term → Answer Typed
prvalue at t = must (not (is_const t && is_class t)) (hard kind.Unsupported at) >> given (typed cat.Prvalue (without_const t))

-- an integer type: a scalar type other than bool
abbrev pub but_bool : Option Scalar → Option Scalar
but_bool (Some scalars.Bool) = None
but_bool s = s

abbrev pub integer_of : Term → Option Scalar
integer_of t = but_bool (scalar_of t)

-- types that differ in const alone, or not at all
abbrev pub is_alike : Term → Term → Bool
is_alike t u = same_term (without_const t) (without_const u)

module _ (at : Place) where
  abbrev invalid_here : {A : Type 0} → Answer A
  invalid_here = soft kind.InvalidExpr at

  -- a scalar operand
  abbrev pub scalar_operand : Typed → Answer Scalar
  scalar_operand e = present (scalar_of e.of) invalid_here

  -- ---- one operand

  -- what ++ and -- change: an lvalue of an integer type that is not const
  abbrev pub changed : Typed → Answer Scalar
  changed e = do
    s ← present (integer_of e.of) invalid_here
    must (is_lvalue e && not (is_const e.of)) invalid_here
    given s

  abbrev pub arithmetic_unary : Typed → Answer Typed
  arithmetic_unary e = scalar_operand e >>= λ s. given (value_of (promoted s))

  abbrev pub unary_row : Word → Typed → Answer Typed
  unary_row word.Plus e = arithmetic_unary e
  unary_row word.Minus e = arithmetic_unary e
  unary_row word.Complement e = arithmetic_unary e
  unary_row word.Not e = scalar_operand e >>= λ s. given (value_of scalars.Bool)
  unary_row word.PreIncrement e = changed e >>= λ s. given (lvalue (scalar s))
  unary_row word.PreDecrement e = changed e >>= λ s. given (lvalue (scalar s))
  unary_row word.PostIncrement e = changed e >>= λ s. given (value_of s)
  unary_row word.PostDecrement e = changed e >>= λ s. given (value_of s)
  unary_row w e = invalid_here

  -- ---- two operands

  -- two scalars, and what their types give
  abbrev pub of_scalars : (Scalar → Scalar → Scalar) → Typed → Typed → Answer Typed
  of_scalars gives a b = do
    s ← scalar_operand a
    t ← scalar_operand b
    given (value_of (gives s t))

  abbrev pub arithmetic : Typed → Typed → Answer Typed
  arithmetic = of_scalars common

  abbrev pub shift : Typed → Typed → Answer Typed
  shift = of_scalars (λ s t. promoted s)

  abbrev pub truth : Typed → Typed → Answer Typed
  truth = of_scalars (λ s t. scalars.Bool)

  -- two operands of one struct type
  abbrev pub of_one_struct : Typed → Typed → Bool
  of_one_struct a b = is_class a.of && is_alike a.of b.of

  abbrev pub both_scalar : Typed → Typed → Bool
  both_scalar a b = is_some (scalar_of a.of) && is_some (scalar_of b.of)

  -- a struct that is no lvalue may be assigned to in C++, which is not supported
  abbrev pub assignment : Typed → Typed → Answer Typed
  assignment a b = do
    must (not (is_const a.of) && (both_scalar a b || of_one_struct a b)) invalid_here
    must (is_lvalue a || not (is_class a.of)) (hard kind.Unsupported at)
    must (is_lvalue a) invalid_here
    given (lvalue a.of)

  abbrev pub compound_assignment : Typed → Typed → Answer Typed
  compound_assignment a b = do
    must (is_lvalue a && not (is_const a.of) && both_scalar a b) invalid_here
    given (lvalue a.of)

  abbrev pub binary_row : Word → Typed → Typed → Answer Typed
  binary_row word.Times a b = arithmetic a b
  binary_row word.Divide a b = arithmetic a b
  binary_row word.Remainder a b = arithmetic a b
  binary_row word.Plus a b = arithmetic a b
  binary_row word.Minus a b = arithmetic a b
  binary_row word.BitAnd a b = arithmetic a b
  binary_row word.BitXor a b = arithmetic a b
  binary_row word.BitOr a b = arithmetic a b
  binary_row word.ShiftLeft a b = shift a b
  binary_row word.ShiftRight a b = shift a b
  binary_row word.Less a b = truth a b
  binary_row word.LessEqual a b = truth a b
  binary_row word.Greater a b = truth a b
  binary_row word.GreaterEqual a b = truth a b
  binary_row word.Equal a b = truth a b
  binary_row word.NotEqual a b = truth a b
  binary_row word.LogicalAnd a b = truth a b
  binary_row word.LogicalOr a b = truth a b
  binary_row word.Assign a b = assignment a b
  binary_row word.PlusAssign a b = compound_assignment a b
  binary_row word.MinusAssign a b = compound_assignment a b
  binary_row word.TimesAssign a b = compound_assignment a b
  binary_row word.DivideAssign a b = compound_assignment a b
  binary_row word.RemainderAssign a b = compound_assignment a b
  binary_row word.XorAssign a b = compound_assignment a b
  binary_row word.AndAssign a b = compound_assignment a b
  binary_row word.OrAssign a b = compound_assignment a b
  binary_row word.ShiftLeftAssign a b = compound_assignment a b
  binary_row word.ShiftRightAssign a b = compound_assignment a b
  binary_row w a b = invalid_here

  -- ---- the conditional: the first row that fits

  abbrev pub same_typed : Typed → Typed → Bool
  same_typed a b = same_term a.of b.of && same_category a.category b.category

  -- two lvalues of one type of which one is const
  abbrev pub const_lvalues : Typed → Typed → Bool
  const_lvalues a b = is_lvalue a && is_lvalue b && is_alike a.of b.of

  abbrev pub the_const : Typed → Typed → Typed
  the_const a b = if is_const a.of then a else b

  -- two of one struct type that are no one lvalue
  abbrev pub structs_joined : Typed → Typed → Answer Typed
  structs_joined a b = do
    must (not (is_const a.of || is_const b.of || is_xvalue a || is_xvalue b)) (hard kind.Unsupported at)
    given (typed cat.Prvalue a.of)

  -- what no other row decides
  abbrev pub undecided : Typed → Typed → Answer Typed
  undecided a b = must (not (is_xvalue a || is_xvalue b)) (hard kind.Unsupported at) >> invalid_here

  abbrev pub joined : Typed → Typed → Answer Typed
  joined a b =
      either (same_typed a b) (λ _. given (typed a.category a.of)) (λ _.
      either (const_lvalues a b) (λ _. given (lvalue (the_const a b).of)) (λ _.
      either (both_scalar a b && is_alike a.of b.of) (λ _. given (typed cat.Prvalue (without_const a.of))) (λ _.
      either (both_scalar a b) (λ _. arithmetic a b) (λ _.
      either (of_one_struct a b) (λ _. structs_joined a b) (λ _.
      either (is_void a.of && is_void b.of) (λ _. given (typed cat.Prvalue void)) (λ _. undecided a b))))))

  abbrev pub conditional_row : Typed → Typed → Typed → Answer Typed
  conditional_row c a b = scalar_operand c >>= λ s. joined a b
