-- In what the questions of the language are asked, and what they answer.
use Rattle.std.specs.Prelude.{ℕ, Bool, List, [], Option, None}
use Rattle.cx_base.specs.declared.numbers.DeclId.{DeclId}
use Rattle.cx_prop.specs.Formula.{Formula, Atomic}
use Rattle.cx_machine.specs.Values.{Val}
use Rattle.cx_term.specs.Term.{Term}
use Rattle.cx_term.specs.declared.typed.Cat.{Cat}

-- a variable or parameter: its type, a reference among them, and its value where a constant knows it
pub record Variable : Type 0 where
  pub of : Term
  pub value : Option Val

-- the struct or instance whose member is judged, and whether its object is const ([class.this])
pub record Object : Type 0 where
  pub of : Term
  pub is_const : Bool

-- Where a tree is read: the argument of each position, the variable of each local that is there, the object. A position
-- without an argument stands for itself.
pub record Environment : Type 0 where
  pub arguments : List Term
  pub variables : List (Option Variable)
  pub object : Option Object

-- arguments alone
abbrev pub only_arguments : List Term → Environment
only_arguments xs = record { arguments = xs; variables = []; object = None }

-- Type and category of an expression; for a name or a member access also its declared type ([dcl.type.decltype])
pub record Typed : Type 0 where
  pub of : Term
  pub category : Cat
  pub declared : Option Term

-- a normal form ([temp.constr.normal])
abbrev pub Form : Type 0
Form = Formula (Atomic Term)

-- a member function's type
pub record Signature : Type 0 where
  pub parameters : List Term
  pub result : Term

-- A struct, or an instance of a class template: the declaration that it is made by with that declaration's arguments, the
-- types of its fields, its member types, the types of its member functions, and how many scalar values it has
pub record Class : Type 0 where
  pub declaration : DeclId
  pub arguments : List Term
  pub fields : List Term
  pub types : List Term
  pub functions : List Signature
  pub scalars : ℕ

-- the declaration that an instance is made by, with its arguments
pub record Chosen : Type 0 where
  pub declaration : DeclId
  pub arguments : List Term

-- how good a conversion is ([over.ics.rank])
pub data Rank : Type 0 where
  exact : Rank
  promotion : Rank
  conversion : Rank

-- an implicit conversion of an argument to a parameter's type: its rank, whether the parameter is a reference, one to
-- const, and the parameter's type without reference and const
pub record Conversion : Type 0 where
  pub rank : Rank
  pub reference : Bool
  pub constant : Bool
  pub to : Term

-- a viable function that the winner beats by its constraints alone
pub record Pair : Type 0 where
  pub loser : DeclId
  pub winner_form : Form
  pub loser_form : Option Form

pub record Winner : Type 0 where
  pub declaration : DeclId
  pub arguments : List Term
  pub conversions : List Conversion
  pub pairs : List Pair
  pub parameters : List Term
  pub result : Term
  pub form : Option Form

-- what overload resolution comes to: the best function, or none viable, or the viable ones that none is better than
pub data Choice : Type 0 where
  best_is : Winner → Choice
  none_viable : Choice
  ambiguous : List DeclId → Choice
