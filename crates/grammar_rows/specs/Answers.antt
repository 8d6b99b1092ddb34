-- What the productions answer on tokens of one line.
use Rattle.std.specs.Prelude.{ℕ, ◌+◌, ◌-◌, ◌&&◌, Bool, true, false, List, [], ◌∷◌, ◌++◌, codes, Option, Some, None, if◌then◌else◌, length, Ok, Err}
use Rattle.cx_base.specs.Names.{kind_name}
use Rattle.cx_tokens.specs.Tokens.{TokenTree}
use Rattle.cx_tokens.specs.Pieces.{Piece, pieces, is_first}
use Rattle.cx_names.specs.declared.name_kind.NameKind.{NameKind}
use Rattle.cx_names.specs.declared.name_kind.NameKind.TheVariants as names
use Rattle.cx_names.specs.Frames.{Frames, noted, entered, kind_in}
use Rattle.cx_syntax.specs.declared.context.Context.{Context}
use Rattle.cx_syntax.specs.declared.context.OpenLists.TheVariants as lists
use Rattle.cx_syntax.specs.declared.stopped.Stopped.{Stopped}
use Rattle.cx_syntax.specs.declared.stopped.Stopped.TheVariants as stopped
use Rattle.cx_syntax.specs.States.{State, Reading}
use Rattle.cx_productions.specs.Trees.{ExprTree, TypeTree}
use Rattle.cx_productions.specs.Nodes.{expr_nodes, type_nodes}
use Rattle.cx_productions.specs.Levels.{levels}
use Rattle.cx_productions.specs.Types.{type_id}
use Rattle.cx_productions.specs.Clauses as clauses
use Rattle.cx_productions.specs.StatementTrees.{StmtTree}
use Rattle.cx_productions.specs.StatementNodes.{stmt_nodes}
use Rattle.cx_productions.specs.DeclarationTrees.{UnitTree}
use Rattle.cx_productions.specs.DeclarationNodes.{unit_nodes}
use Rattle.cx_productions.specs.Units as units
use Rattle.cx_productions.specs.Units.{unit_levels}
use Rattle.cx_syntax.specs.Contexts.{deeper}
use Rattle.grammar_rows.specs.StatementsPrinted.{stmt_short}
use Rattle.grammar_rows.specs.UnitsPrinted.{unit_short}
use Rattle.cx_syntax.specs.Precedence.{expression_level}
use Rattle.std.specs.Str.{bytes_eq}
use Rattle.grammar_rows.specs.Texts.{tokens}
use Rattle.grammar_rows.specs.Printed.{Text, decimal, expr_text, type_text, marks_text}

-- the names that are declared before: types T and U, class templates Box and Pair, function templates make and get,
-- concepts Small and Same, a function run, and a variable value
abbrev pub scope : Frames
scope = noted (noted (noted (noted (noted (noted (noted (noted (noted (noted (entered []) (codes "T") names.TypeName) (codes "U") names.TypeName) (codes "Box") names.ClassTemplate) (codes "Pair") names.ClassTemplate) (codes "make") names.FunctionTemplate) (codes "get") names.FunctionTemplate) (codes "Small") names.Concept) (codes "Same") names.Concept) (codes "run") names.Function) (codes "value") names.Value

abbrev pub start : List TokenTree → State
start ts = record { left = pieces ts; next = 0; names = scope; free = false }

abbrev pub context : ℕ → Context
context load = record { room = 257 - load; lists = lists.None }

-- how many tokens pieces are
abbrev pub token_count : List Piece → ℕ
token_count [] = 0
token_count (x ∷ xs) = (if is_first x.half then 0 else 1) + token_count xs

abbrev pub rest_of : List TokenTree → List Piece → Text
rest_of ts [] = []
rest_of ts (x ∷ []) = []
rest_of ts xs = codes " .." ++ decimal (length ts - token_count xs)

abbrev pub reason : Stopped → Text
reason (stopped.Fault k at) = kind_name k ++ codes " " ++ decimal at.col
reason (stopped.Deep at) = codes "Depth " ++ decimal at.col
reason stopped.Ended = codes "ended"
reason stopped.Exhausted = codes "exhausted"
reason stopped.NoMemory = codes "no memory"

abbrev pub said : {A : Type 0} → (A → Text) → List TokenTree → Reading A → Text
said text ts (Ok r) = text r.0 ++ rest_of ts r.1.left
said text ts (Err e) = reason e

-- ---- rows

-- What a text is read as, and what is told: what was read in short, or the numbers and columns of its nodes, or what some
-- names are after it.
pub data Asked : Type 0 where
  expr expr_nodes' type type_nodes' clause clause_nodes' stmt stmt_nodes' names' unit' unit_nodes' : Asked

-- how many levels are enough for a context
abbrev pub enough : ℕ → ℕ
enough load = 259 - load

abbrev pub kind_text : Option NameKind → Text
kind_text None = codes "none"
kind_text (Some names.Value) = codes "Value"
kind_text (Some names.TypeName) = codes "TypeName"
kind_text (Some names.ClassTemplate) = codes "ClassTemplate"
kind_text (Some names.Function) = codes "Function"
kind_text (Some names.FunctionTemplate) = codes "FunctionTemplate"
kind_text (Some names.Concept) = codes "Concept"

abbrev pub names_text : State → Text
names_text s = codes "T " ++ kind_text (kind_in s.names (codes "T")) ++ codes ", U " ++ kind_text (kind_in s.names (codes "U")) ++ codes ", Box " ++ kind_text (kind_in s.names (codes "Box")) ++ codes ", x " ++ kind_text (kind_in s.names (codes "x"))

abbrev pub names_said : {A : Type 0} → Reading A → Text
names_said (Ok r) = names_text r.1
names_said (Err e) = reason e

abbrev pub expr_reading : ℕ → List TokenTree → Reading ExprTree
expr_reading load ts = ((levels (enough load)).expr expression_level (context load)).read (start ts)

abbrev pub type_reading : ℕ → List TokenTree → Reading TypeTree
type_reading load ts = (type_id (levels (enough load)) (context load)).read (start ts)

abbrev pub clause_reading : ℕ → List TokenTree → Reading ExprTree
clause_reading load ts = (clauses.clause (levels (enough load)) (context load)).read (start ts)

-- a statement is a construct of its own
abbrev pub stmt_reading : ℕ → List TokenTree → Reading StmtTree
stmt_reading load ts = ((unit_levels (enough load)).stmt (deeper (context load))).read (start ts)

-- a whole unit, in which nothing is declared before
abbrev pub unit_reading : ℕ → List TokenTree → Reading UnitTree
unit_reading load ts = (units.unit (unit_levels (enough load)) (context load)).read (record { left = pieces ts; next = 0; names = entered []; free = false })

abbrev pub answer : Asked → ℕ → List TokenTree → Text
answer expr load ts = said expr_text ts (expr_reading load ts)
answer expr_nodes' load ts = said (λ x. marks_text (expr_nodes x)) ts (expr_reading load ts)
answer type load ts = said type_text ts (type_reading load ts)
answer type_nodes' load ts = said (λ x. marks_text (type_nodes x)) ts (type_reading load ts)
answer clause load ts = said expr_text ts (clause_reading load ts)
answer clause_nodes' load ts = said (λ x. marks_text (expr_nodes x)) ts (clause_reading load ts)
answer stmt load ts = said stmt_short ts (stmt_reading load ts)
answer stmt_nodes' load ts = said (λ x. marks_text (stmt_nodes x)) ts (stmt_reading load ts)
answer names' load ts = names_said (stmt_reading load ts)
answer unit' load ts = said unit_short ts (unit_reading load ts)
answer unit_nodes' load ts = said (λ x. marks_text (unit_nodes x)) ts (unit_reading load ts)

-- A row: how many constructs are open, a text, and what is answered on it.
pub record Row : Type 0 where
  pub asked : Asked
  pub load : ℕ
  pub text : Text
  pub answer : Text

abbrev pub row : Asked → ℕ → Text → Text → Row
row asked load text answer = record { asked = asked; load = load; text = text; answer = answer }

-- Whether all rows are answered as they say.
unfoldable pub all_right : List Row → Bool
all_right [] = true
all_right (r ∷ rs) = bytes_eq (answer r.asked r.load (tokens r.text)) r.answer && all_right rs
