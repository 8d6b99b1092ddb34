-- When a plain unit is typed: what it mentions is declared, and a constant is a value of its type. Each value of the forms
-- that are built is an int, and so is each operand.
use Rattle.std.specs.Prelude.{ℕ, ◌<◌, length, FitsSigned}
use Rattle.std.specs.Int.{w32}
use Rattle.std.specs.List.{AllByRecursion}
use Rattle.cx_plain.specs.PlainTree.{PlainExpr, PlainConstant, PlainCall, PlainUnary, PlainBinary, PlainStmt, PlainReturn, PlainFunction, PlainTree}

-- among so many functions
abbrev pub IsTypedExpr : ℕ → PlainExpr → Type 0
IsTypedExpr count (PlainConstant value) = FitsSigned w32 value
IsTypedExpr count (PlainCall k) = k < count
IsTypedExpr count (PlainUnary operator operand) = IsTypedExpr count operand
IsTypedExpr count (PlainBinary operator left right) = IsTypedExpr count left × IsTypedExpr count right

abbrev pub IsTypedStmt : ℕ → PlainStmt → Type 0
IsTypedStmt count (PlainReturn value) = IsTypedExpr count value

abbrev pub IsTypedFunction : ℕ → PlainFunction → Type 0
IsTypedFunction count f = IsTypedStmt count f.body

abbrev pub IsTyped : PlainTree → Type 0
IsTyped u = AllByRecursion (IsTypedFunction (length u.functions)) u.functions
