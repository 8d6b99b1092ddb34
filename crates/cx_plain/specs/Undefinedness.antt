-- Where a run does what has no meaning.
use Rattle.std.specs.Prelude.{◌≡◌, ℕ, ℤ, List, Some, None, slice_get, ◌⊎◌}
use Rattle.cx_base.specs.Outcome.{Returned}
use Rattle.cx_plain.specs.PlainTree.{PlainExpr, PlainConstant, PlainCall, PlainUnary, PlainBinary, PlainStmt, PlainReturn, PlainFunction}
use Rattle.cx_plain.specs.PlainMeaning.{Calls, unary_result, binary_result, run_expr, run_call}

-- An expression with n steps comes to an operation that gives nothing for the values of its operands.
abbrev pub Fails : Calls → PlainExpr → ℕ → Type 0
Fails calls (PlainConstant value) n = ⊥
Fails calls (PlainCall k) n = ⊥
Fails calls (PlainUnary operator operand) n = Fails calls operand n
    ⊎ ((x : ℤ) × (left : ℕ) × (run_expr calls operand n ≡ Returned x left) × (unary_result operator x ≡ None))
Fails calls (PlainBinary operator first second) n = Fails calls first n
    ⊎ ((x : ℤ) × (left : ℕ) × (run_expr calls first n ≡ Returned x left) × (Fails calls second left
    ⊎ ((y : ℤ) × (left' : ℕ) × (run_expr calls second left ≡ Returned y left') × (binary_result operator x y ≡ None))))

abbrev pub FailsStmt : Calls → PlainStmt → ℕ → Type 0
FailsStmt calls (PlainReturn value) n = Fails calls value n

-- One of the functions does, with some number of steps and of calls.
pub record SomeFails (functions : List PlainFunction) : Type 0 where
  pub number : ℕ
  pub function : PlainFunction
  pub depth : ℕ
  pub steps : ℕ
  pub there : slice_get functions number ≡ Some function
  pub fails : FailsStmt (run_call depth functions) function.body steps
