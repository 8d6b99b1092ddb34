-- T{..} and static_cast ([dcl.init.list], [expr.type.conv], [expr.static.cast]).
use Rattle.std.specs.Prelude.{Bool, false, not, ◌&&◌, ◌||◌, List, [], ◌∷◌, length, nat_le, is_some}
use Rattle.cx_base.specs.declared.kind.Kind.TheVariants as kind
use Rattle.cx_base.specs.declared.place.Place.{Place}
use Rattle.cx_base.specs.declared.value.Scalar.{Scalar}
use Rattle.cx_term.specs.Term.{Term, void}
use Rattle.cx_machine.specs.Values.{Val, Number}
use Rattle.cx_machine.specs.Values.{Struct as fields}
use Rattle.cx_questions.specs.Answers.{Answer, given, soft, hard, ◌>>=◌, ◌>>◌, either, must, present, instead, in_case}
use Rattle.cx_machine.specs.Scalars.{is_value}
use Rattle.cx_questions.specs.Scalars.{holds_all_of}
use Rattle.cx_questions.specs.Forms.{Expression}
use Rattle.cx_questions.specs.Environments.{Environment, Typed}
use Rattle.cx_questions.specs.Questions.{Questions}
use Rattle.cx_questions.specs.TermTests.{is_const, is_ref, is_void, is_class, without_const, without_ref, scalar_of}
use Rattle.cx_questions.specs.Operators.{lvalue, prvalue, is_lvalue, is_alike}

-- ---- T{..}

module _ (b : Questions) (env : Environment) (at : Place) where
  -- a constant's value is one of a scalar type
  abbrev pub value_fits : Scalar → Val → Bool
  value_fits s (Number t n) = is_value s n
  value_fits s (fields vs) = false

  -- an argument is converted without narrowing: to a type that holds all values of its own, or as a constant that fits
  abbrev pub not_narrowed : Scalar → Expression → Scalar → Answer (Unit {0})
  not_narrowed to e from = either (holds_all_of to from) (λ _. given tt) (λ _.
      instead (b.constant e env) (soft kind.InvalidExpr at) >>= λ v. must (value_fits to v) (soft kind.InvalidExpr at))

  abbrev pub to_scalar : Scalar → Expression → Typed → Answer (Unit {0})
  to_scalar to e x = present (scalar_of x.of) (soft kind.InvalidExpr at) >>= not_narrowed to e

  -- an argument for a field: to a scalar, or of the same struct type; from another type a struct is not supported
  abbrev pub to_field : Term → Expression → Typed → Answer (Unit {0})
  to_field t e x = in_case (scalar_of t) (λ s. to_scalar s e x) (λ _. must (is_alike t x.of) (hard kind.Unsupported at))

  -- at most as many arguments as fields
  abbrev pub to_fields : List Term → List Expression → List Typed → Answer (Unit {0})
  to_fields ts [] xs = given tt
  to_fields ts (e ∷ es) [] = given tt
  to_fields [] (e ∷ es) (x ∷ xs) = soft kind.InvalidExpr at
  to_fields (t ∷ ts) (e ∷ es) (x ∷ xs) = to_field t e x >> to_fields ts es xs

  -- one argument of the struct itself
  abbrev pub is_copy : Term → List Typed → Bool
  is_copy t (x ∷ []) = is_alike t x.of
  is_copy t _ = false

  abbrev pub struct_listed : Term → List Expression → List Typed → Answer (Unit {0})
  struct_listed t es xs = do
    c ← b.class at (without_const t)
    must (is_copy t xs || nat_le (length xs) (length c.fields)) (soft kind.InvalidExpr at)
    either (is_copy t xs) (λ _. given tt) (λ _. to_fields c.fields es xs)

  abbrev pub scalar_listed : Scalar → List Expression → List Typed → Answer (Unit {0})
  scalar_listed s (e ∷ []) (x ∷ []) = to_scalar s e x
  scalar_listed s es [] = given tt
  scalar_listed s es xs = soft kind.InvalidExpr at

  abbrev pub list_typed : Term → List Expression → List Typed → Answer Typed
  list_typed t es xs = do
    must (not (is_ref t || is_void t)) (hard kind.Unsupported at)
    in_case (scalar_of t) (λ s. scalar_listed s es xs) (λ _. struct_listed t es xs)
    prvalue at t

-- ---- static_cast

module _ (b : Questions) (at : Place) (type_at : Place) where
  -- a reference to an lvalue of its type, with const added or not
  abbrev pub binds : Term → Typed → Bool
  binds t e = is_lvalue e && is_alike t e.of && (is_const t || not (is_const e.of))

  -- a reference to const that a temporary, or what is no lvalue, could be bound to in C++
  abbrev pub would_bind : Term → Typed → Bool
  would_bind t e = is_const t && ((is_some (scalar_of t) && is_some (scalar_of e.of)) || (is_class t && is_alike t e.of))

  abbrev pub cast_to_reference : Term → Typed → Answer Typed
  cast_to_reference t e = do
    must (binds t e || not (would_bind t e)) (hard kind.Unsupported at)
    must (binds t e) (soft kind.InvalidExpr at)
    given (lvalue t)

  abbrev pub cast_to_struct : Term → Typed → Answer Typed
  cast_to_struct t e = do
    b.class type_at (without_const t) >>= λ c. must (is_alike t e.of) (soft kind.InvalidExpr at)
    prvalue at t

  abbrev pub cast_to_scalar : Term → Typed → Answer Typed
  cast_to_scalar t e = must (is_some (scalar_of e.of)) (soft kind.InvalidExpr at) >> prvalue at t

  abbrev pub cast_typed : Term → Typed → Answer Typed
  cast_typed t e =
      either (is_ref t) (λ _. cast_to_reference (without_ref t) e) (λ _.
      either (is_void t) (λ _. prvalue at void) (λ _.
      either (is_class t) (λ _. cast_to_struct t e) (λ _. cast_to_scalar t e)))
