-- Types ([dcl.type]) and lists of template arguments ([temp.names]) are lawful.
use Rattle.std.proofs.Common.{ℕ, Bool, true, List}
use Rattle.cx_base.specs.declared.place.Place.{Place}
use Rattle.cx_tokens.specs.declared.punctuator.Punctuator.TheVariants as punctuator
use Rattle.cx_tokens.specs.Pieces.{Piece}
use Rattle.cx_syntax.specs.declared.context.Context.{Context}
use Rattle.cx_syntax.specs.Productions.{Production}
use Rattle.cx_syntax.specs.Combinators.{one_more}
use Rattle.cx_syntax.specs.Classes.{punct}
use Rattle.cx_productions.specs.Below.{Below}
use Rattle.cx_productions.specs.Scalars.{Core, maybe_int, long_long, after_sign, scalar_after, word_core, after_long_long, long_core, scalar_core}
use Rattle.cx_productions.specs.Types.{argument_list, member_name, more_names, member_names, as_type, class_core, type_name_core, head_core, member_core, decltype_core, void_core, core, const_after, type_after, const_type, plain_type, type_id}
use Rattle.cx_syntax_laws.proofs.Lawful.{Lawful, Filled, Takes, Opens}
use Rattle.cx_syntax_laws.proofs.Repeats.{Turn}
use Rattle.cx_syntax_laws.proofs.Rules.{laws, filling}

-- What stands within others again is lawful, and takes a piece.
pub record Lower (b : Below) : Type 0 where
  pub expr : (level : ℕ) (c : Context) → Lawful true (b.expr level c)
  pub argument : (c : Context) → Lawful true (b.argument c)
  pub filled : (level : ℕ) (c : Context) → Filled (b.expr level c)
  pub takes : (level : ℕ) (c : Context) → Takes (b.expr level c)

-- ---- scalars

pub lawful_scalar_after : (c : Context) (t : Piece) → Lawful true (scalar_after c t)
unfolding scalar_after after_sign long_long maybe_int
lawful_scalar_after c t = search laws depth 15 fits 3000

pub lawful_scalar : (c : Context) → Lawful true (scalar_core c)
unfolding scalar_core word_core long_core after_long_long maybe_int
lawful_scalar c = search (laws, lawful_scalar_after) depth 15 fits 3000

pub lawful_long : (c : Context) → Lawful true (long_core c)
unfolding long_core after_long_long maybe_int
lawful_long c = search laws depth 15 fits 3000

pub filled_scalar : (c : Context) → Filled (scalar_core c)
unfolding scalar_core word_core long_core
filled_scalar c = search filling

pub takes_scalar : (c : Context) → Takes (scalar_core c)
unfolding scalar_core word_core long_core after_long_long maybe_int
takes_scalar c = search (laws, lawful_scalar_after) depth 15 fits 3000

pub filled_long : (c : Context) → Filled (long_core c)
unfolding long_core
filled_long c = search filling

-- ---- names and lists

pub more_names_turn : (c : Context) (so_far : List (List ℕ)) → Turn (punct punctuator.ColonColon) (more_names c so_far)
unfolding more_names member_name
more_names_turn c so_far = search laws depth 15 fits 3000

pub lawful_names : (c : Context) → Lawful true (member_names c)
unfolding member_names member_name
lawful_names c = search (laws, more_names_turn) depth 15 fits 3000

pub filled_names : (c : Context) → Filled (member_names c)
unfolding member_names member_name
filled_names c = search filling

pub opens_names : (c : Context) → Opens (punct punctuator.ColonColon) (member_names c)
unfolding member_names member_name
opens_names c = search (laws, more_names_turn) depth 15 fits 3000

-- one more of a list with commas
pub more_turn : {A : Type 0} (c : Context) {item : Production A} → Lawful true item → (so_far : List A) → Turn (punct punctuator.Comma) (one_more c item so_far)
more_turn c h so_far = search laws depth 15 fits 3000

pub lawful_type_after : (c : Context) (at : Place) (before : Bool) (k : Core) → Lawful true (type_after c at before k)
unfolding type_after const_after
lawful_type_after c at before k = search laws depth 15 fits 3000

module _ {b : Below} (l : Lower b) where
  pub lawful_arguments : (c : Context) → Lawful true (argument_list b c)
  unfolding argument_list
  lawful_arguments c = search (laws, more_turn, l.argument) depth 15 fits 3000

  pub filled_arguments : (c : Context) → Filled (argument_list b c)
  unfolding argument_list
  filled_arguments c = search filling

  pub opens_arguments : (c : Context) → Opens (punct punctuator.Less) (argument_list b c)
  unfolding argument_list
  opens_arguments c = search (laws, more_turn, l.argument) depth 15 fits 3000

  -- ---- cores and types

  pub lawful_head : (c : Context) → Lawful true (head_core b c)
  unfolding head_core class_core type_name_core
  lawful_head c = search (laws, lawful_arguments) depth 15 fits 3000

  pub filled_head : (c : Context) → Filled (head_core b c)
  unfolding head_core class_core type_name_core
  filled_head c = search filling depth 15 fits 3000

  pub filled_core : (c : Context) → Filled (core b c)
  unfolding core member_core decltype_core void_core head_core class_core type_name_core
  filled_core c = search (filling, filled_scalar) depth 15 fits 3000

  pub lawful_core : (c : Context) → Lawful true (core b c)
  unfolding core member_core decltype_core void_core as_type head_core class_core type_name_core
  lawful_core c = search (laws, lawful_arguments, lawful_names, lawful_scalar, filled_scalar, l.expr) depth 20 fits 5000

  pub lawful_type : (c : Context) → Lawful true (type_id b c)
  unfolding type_id const_type plain_type core member_core decltype_core void_core head_core class_core type_name_core
  lawful_type c = search (laws, lawful_core, lawful_type_after, filled_scalar) depth 20 fits 5000

  pub filled_type : (c : Context) → Filled (type_id b c)
  unfolding type_id const_type plain_type
  filled_type c = search (filling, filled_core) depth 15 fits 3000

  pub takes_head : (c : Context) → Takes (head_core b c)
  unfolding head_core class_core type_name_core
  takes_head c = search (laws, lawful_arguments) depth 15 fits 3000

  pub takes_core : (c : Context) → Takes (core b c)
  unfolding core member_core decltype_core void_core as_type scalar_core word_core long_core after_long_long maybe_int
  takes_core c = search (laws, takes_head, lawful_head, lawful_arguments, lawful_names, lawful_scalar_after, l.expr) depth 20 fits 5000

  pub takes_type : (c : Context) → Takes (type_id b c)
  unfolding type_id const_type plain_type
  takes_type c = search (laws, takes_core, lawful_core, lawful_type_after) depth 15 fits 3000
