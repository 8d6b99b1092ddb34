-- The one text of a plain unit.
use Rattle.std.specs.Prelude.{ℕ, ℤ, pos, negsuc, ◌+◌, List, [], ◌∷◌, ◌++◌, codes, decimal, Option, Some, None, slice_get}
use Rattle.cx_plain.specs.declared.operators.UnaryOperator.{UnaryOperator}
use Rattle.cx_plain.specs.declared.operators.UnaryOperator.TheVariants as unary
use Rattle.cx_plain.specs.declared.operators.BinaryOperator.{BinaryOperator}
use Rattle.cx_plain.specs.declared.operators.BinaryOperator.TheVariants as binary
use Rattle.cx_plain.specs.PlainTree.{PlainExpr, PlainConstant, PlainCall, PlainUnary, PlainBinary, PlainStmt, PlainReturn, PlainFunction, PlainTree}

-- pK_NAME
unfoldable pub function_name : ℕ → List ℕ → List ℕ
function_name k name = codes "p" ++ decimal k ++ codes "_" ++ name

-- A number of type int: decimal, with `-` where it is negative.
unfoldable pub constant_text : ℤ → List ℕ
constant_text (pos n) = decimal n
constant_text (negsuc n) = codes "-" ++ decimal (n + 1)

-- The name of the function of a number: the plain name ends in it.
abbrev pub name_if : Option PlainFunction → List ℕ
name_if None = []
name_if (Some f) = f.name

abbrev pub name_in : List PlainFunction → ℕ → List ℕ
name_in functions k = name_if (slice_get functions k)

unfoldable pub unary_text : UnaryOperator → List ℕ
unary_text unary.Minus = codes "-"
unary_text unary.Complement = codes "~"

unfoldable pub binary_text : BinaryOperator → List ℕ
binary_text binary.Multiply = codes "*"
binary_text binary.Divide = codes "/"
binary_text binary.Remainder = codes "%"
binary_text binary.Add = codes "+"
binary_text binary.Subtract = codes "-"
binary_text binary.BitAnd = codes "&"
binary_text binary.BitXor = codes "^"
binary_text binary.BitOr = codes "|"

-- VALUE, pK_NAME(), (-X) and (X + X)
unfoldable pub expr_text : List PlainFunction → PlainExpr → List ℕ
expr_text functions (PlainConstant value) = constant_text value
expr_text functions (PlainCall k) = function_name k (name_in functions k) ++ codes "()"
expr_text functions (PlainUnary operator operand) = codes "(" ++ unary_text operator ++ expr_text functions operand ++ codes ")"
expr_text functions (PlainBinary operator left right) =
    codes "(" ++ expr_text functions left ++ codes " " ++ binary_text operator ++ codes " " ++ expr_text functions right ++ codes ")"

unfoldable pub stmt_text : List PlainFunction → PlainStmt → List ℕ
stmt_text functions (PlainReturn value) = codes "  return " ++ expr_text functions value ++ codes ";\n"

-- int pK_NAME();
unfoldable pub prototype_text : ℕ → PlainFunction → List ℕ
prototype_text k f = codes "int " ++ function_name k f.name ++ codes "();\n"

-- int pK_NAME() { and the body }
unfoldable pub function_text : List PlainFunction → ℕ → PlainFunction → List ℕ
function_text functions k f = codes "int " ++ function_name k f.name ++ codes "() {\n" ++ stmt_text functions f.body ++ codes "}\n"

-- the texts of functions, the first of which has the number k
unfoldable pub numbered : (ℕ → PlainFunction → List ℕ) → ℕ → List PlainFunction → List ℕ
numbered text k [] = []
numbered text k (f ∷ fs) = text k f ++ numbered text (k + 1) fs

-- The first line, the prototypes, the functions. There are no structs and no globals yet.
unfoldable pub plain_text : PlainTree → List ℕ
plain_text u = codes "// plain 1\n" ++ numbered prototype_text 0 u.functions ++ numbered (function_text u.functions) 0 u.functions
