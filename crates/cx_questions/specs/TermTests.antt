-- What kind of tree a type or template argument is, and how const and & are put on a type ([dcl.ref], [basic.type.qualifier]).
use Rattle.std.specs.Prelude.{ℕ, Bool, true, false, not, ◌&&◌, List, ◌==◌, Option, Some, None, slice_index_or}
use Rattle.cx_base.specs.declared.value.Scalar.{Scalar}
use Rattle.cx_term.specs.Term.{Term, Arguments, param, scalar, void, struct, inst, const, ref, member, decltype, val, local, functions, form, nothing, argument}
use Rattle.cx_questions.specs.Scalars.{same_scalar}

abbrev pub is_ref : Term → Bool
is_ref (ref t) = true
is_ref _ = false

abbrev pub without_ref : Term → Term
without_ref (ref t) = t
without_ref t = t

abbrev pub is_const : Term → Bool
is_const (const t) = true
is_const _ = false

abbrev pub without_const : Term → Term
without_const (const t) = t
without_const t = t

-- const of const is one const, const of a reference is that reference
abbrev pub with_const : Term → Term
with_const (const t) = const t
with_const (ref t) = ref t
with_const t = const t

-- a reference to a reference is one reference
abbrev pub with_ref : Term → Term
with_ref (ref t) = ref t
with_ref t = ref t

abbrev pub const_if : Bool → Term → Term
const_if true t = with_const t
const_if false t = t

-- void, const or not
abbrev pub is_void : Term → Bool
is_void void = true
is_void (const void) = true
is_void _ = false

-- the scalar type, const ignored
abbrev pub scalar_of : Term → Option Scalar
scalar_of (scalar s) = Some s
scalar_of (const (scalar s)) = Some s
scalar_of _ = None

-- a struct or an instance, const ignored
abbrev pub is_class : Term → Bool
is_class (struct d) = true
is_class (inst d xs) = true
is_class (const (struct d)) = true
is_class (const (inst d xs)) = true
is_class _ = false

abbrev pub is_val_of : Scalar → Term → Bool
is_val_of s (val t n) = same_scalar s t
is_val_of s _ = false

abbrev pub is_type : Term → Bool
is_type (val s n) = false
is_type (local k) = false
is_type (functions name n) = false
is_type (form w xs) = false
is_type _ = true

abbrev mutual
  -- no position and no name of a local is left: the tree is made of types and values alone
  pub is_concrete : Term → Bool
  is_concrete (scalar s) = true
  is_concrete void = true
  is_concrete (struct d) = true
  is_concrete (inst d xs) = are_concrete xs
  is_concrete (const t) = is_concrete t
  is_concrete (ref t) = is_concrete t
  is_concrete (val s n) = true
  is_concrete _ = false

  pub are_concrete : Arguments → Bool
  are_concrete nothing = true
  are_concrete (argument t xs) = is_concrete t && are_concrete xs

abbrev mutual
  -- the tree with each position replaced, and nothing asked
  pub replaced : (ℕ → Term) → Term → Term
  replaced s (param i) = s i
  replaced s (inst d xs) = inst d (all_replaced s xs)
  replaced s (const t) = with_const (replaced s t)
  replaced s (ref t) = with_ref (replaced s t)
  replaced s (member t name) = member (replaced s t) name
  replaced s (decltype t) = decltype (replaced s t)
  replaced s (form w xs) = form w (all_replaced s xs)
  replaced s t = t

  pub all_replaced : (ℕ → Term) → Arguments → Arguments
  all_replaced s nothing = nothing
  all_replaced s (argument t xs) = argument (replaced s t) (all_replaced s xs)

abbrev mutual
  -- whether a test holds of each position in the tree
  pub each_position : (ℕ → Bool) → Term → Bool
  each_position p (param i) = p i
  each_position p (inst d xs) = each_position_of p xs
  each_position p (const t) = each_position p t
  each_position p (ref t) = each_position p t
  each_position p (member t name) = each_position p t
  each_position p (decltype t) = each_position p t
  each_position p (form w xs) = each_position_of p xs
  each_position p t = true

  pub each_position_of : (ℕ → Bool) → Arguments → Bool
  each_position_of p nothing = true
  each_position_of p (argument t xs) = each_position p t && each_position_of p xs

-- whether a position is in the tree
abbrev pub has_position : ℕ → Term → Bool
has_position i t = not (each_position (λ j. not (i == j)) t)

-- the argument at a position of a list; a position without one stands for itself
abbrev pub argument_of : List Term → ℕ → Term
argument_of ts i = slice_index_or ts i (param i)
