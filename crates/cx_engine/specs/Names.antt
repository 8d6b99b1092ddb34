-- Which names a unit declares ([basic.scope], [basic.lookup.unqual]), and its first fault of names.
use Rattle.std.specs.Prelude.{ℕ, ◌+◌, List, [], ◌∷◌, ◌++◌, Option, Some, None, option_to_list, Result, Ok, Err, if◌then◌else◌}
use Rattle.std.specs.Option.{option_map}
use Rattle.std.specs.Str.{bytes_eq}
use Rattle.cx_base.specs.Refusal.{Refusal, Refused, ◌>>=◌}
use Rattle.cx_base.specs.declared.fault.Fault.{Fault}
use Rattle.cx_base.specs.declared.kind.Kind.TheVariants as fault
use Rattle.cx_base.specs.declared.place.Place.{Place}
use Rattle.cx_tree.specs.Trees.{ExprTree, GroupTree, CallTree, UnaryTree, BinaryTree}
use Rattle.cx_engine.specs.Definitions.{Definition}
use Rattle.cx_engine.specs.Forms.{Mention, mention_of}

-- A name, and where it is declared.
pub record Declared : Type 0 where
  pub name : List ℕ
  pub at : Place

abbrev pub declared : Definition → Declared
declared f = record { name = f.name; at = f.at }

-- The first declaration of a name.
abbrev pub declaration_of : List ℕ → List Declared → Option Declared
declaration_of name [] = None
declaration_of name (d ∷ ds) = if bytes_eq name d.name then Some d else declaration_of name ds

-- The number of a name: how many declarations stand before its own.
abbrev pub number_of : List ℕ → List Declared → Option ℕ
number_of name [] = None
number_of name (d ∷ ds) = if bytes_eq name d.name then Some 0 else option_map (λ k. k + 1) (number_of name ds)

-- A name that is declared again: the fault stands at the later name, and `also` has the earlier one.
abbrev pub redeclared : Place → Place → Fault
redeclared at earlier = record { kind = fault.Redeclared; at = at; also = earlier ∷ []; chain = [] }

-- A name that is not declared before.
abbrev pub unknown_name : Place → Fault
unknown_name at = record { kind = fault.UnknownName; at = at; also = []; chain = [] }

-- A name that stands at a place is new where nothing declares it.
unfoldable pub is_new : Place → Option Declared → Result (Unit {0}) Refusal
is_new at None = Ok tt
is_new at (Some d) = Err (Refused (redeclared at d.at))

-- A name that stands at a place is known where something declares it.
unfoldable pub is_known : Place → Option Declared → Result (Unit {0}) Refusal
is_known at None = Err (Refused (unknown_name at))
is_known at (Some d) = Ok tt

-- The names that an expression calls, in the order of the text.
abbrev pub calls_in : ExprTree → List Mention
calls_in (CallTree m callee arguments) = option_to_list (mention_of callee arguments)
calls_in (GroupTree m inner) = calls_in inner
calls_in (UnaryTree m operator operand) = calls_in operand
calls_in (BinaryTree m operator left right) = calls_in left ++ calls_in right
calls_in other = []

-- These names are declared.
unfoldable pub names_called : List Declared → List Mention → Result (Unit {0}) Refusal
names_called names [] = Ok tt
names_called names (c ∷ cs) = do
  _ ← is_known c.at (declaration_of c.name names)
  names_called names cs

-- A function behind these declarations: its name is new, and its body names those and itself.
unfoldable pub names_function : List Declared → Definition → Result (Unit {0}) Refusal
names_function names f = do
  _ ← is_new f.at (declaration_of f.name names)
  names_called (names ++ declared f ∷ []) (calls_in f.value)

-- The first fault of names of the functions behind these declarations, in unit order.
unfoldable pub names_functions : List Declared → List Definition → Result (Unit {0}) Refusal
names_functions names [] = Ok tt
names_functions names (f ∷ fs) = do
  _ ← names_function names f
  names_functions (names ++ declared f ∷ []) fs

-- The stage of names.
abbrev pub names_unit : List Definition → Result (Unit {0}) Refusal
names_unit fs = names_functions [] fs
