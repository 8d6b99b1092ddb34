-- Types as deduction and the orders of templates see them. In a template-id a literal is the value of its parameter's type
-- that it becomes ([temp.arg.nontype]), and the name of a unit's constant is an expression as any other.
use Rattle.std.specs.Prelude.{List, [], ◌∷◌, Some, None, if◌then◌else◌}
use Rattle.cx_base.specs.declared.value.Scalar.{Scalar}
use Rattle.cx_term.specs.declared.word.Word.TheVariants as word
use Rattle.cx_term.specs.Term.{Term, Arguments, struct, inst, const, ref, member, val, form, nothing, argument, arguments, members}
use Rattle.cx_machine.specs.Scalars.{is_value}
use Rattle.cx_questions.specs.Program.{Program, Parametric, struct_of, kinds}

-- a value argument for a position of a scalar type
abbrev pub value_as_compared : Scalar → Term → Term
value_as_compared s (val t n) = if is_value s n then val s n else val t n
value_as_compared s (struct d) = form word.Paren (argument (struct d) nothing)
value_as_compared s t = t

module _ (u : Program) where
  abbrev mutual
    pub as_compared : Term → Term
    as_compared (inst d xs) = inst d (arguments_as_compared (kinds (struct_of u d).template_parameters) xs)
    as_compared (const t) = const (as_compared t)
    as_compared (ref t) = ref (as_compared t)
    as_compared (member t name) = member (as_compared t) name
    as_compared t = t

    -- arguments for positions of these kinds
    pub arguments_as_compared : List Parametric → Arguments → Arguments
    arguments_as_compared ks nothing = nothing
    arguments_as_compared [] (argument t xs) = argument (as_compared t) (arguments_as_compared [] xs)
    arguments_as_compared (None ∷ ks) (argument t xs) = argument (as_compared t) (arguments_as_compared ks xs)
    arguments_as_compared (Some s ∷ ks) (argument t xs) = argument (value_as_compared s t) (arguments_as_compared ks xs)

  abbrev pub all_as_compared : List Parametric → List Term → List Term
  all_as_compared ks ts = members (arguments_as_compared ks (arguments ts))
