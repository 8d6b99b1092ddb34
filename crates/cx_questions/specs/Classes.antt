-- Structs and the instances of class templates ([class], [temp.inst]): their fields, member types and member functions.
use Rattle.std.specs.Prelude.{ℕ, ◌+◌, nat_le, Bool, not, ◌||◌, ◌&&◌, List, [], ◌∷◌, ◌++◌, Some}
use Rattle.cx_base.specs.declared.kind.Kind.TheVariants as kind
use Rattle.cx_base.specs.declared.limit.Limit.TheVariants as limit
use Rattle.cx_base.specs.declared.numbers.DeclId.{DeclId}
use Rattle.cx_base.specs.declared.place.Place.{Place}
use Rattle.cx_term.specs.Term.{Term, struct, inst, members}
use Rattle.cx_questions.specs.Answers.{Answer, given, soft, hard, passed, ◌>>=◌, ◌>>◌, either, must, harden, within, in_turn}
use Rattle.cx_questions.specs.Forms.{TypeForm, type_place}
use Rattle.cx_questions.specs.Program.{Program, Member, field, member_alias, static_constant, member_function, function_of, struct_of, kinds}
use Rattle.cx_questions.specs.Environments.{Environment, Class, Chosen, Signature}
use Rattle.cx_questions.specs.Questions.{Questions}
use Rattle.cx_questions.specs.TermTests.{is_ref, is_const, is_void, is_class, is_concrete, without_const}
use Rattle.cx_questions.specs.Substitution.{substitute_type, are_of_kinds}
use Rattle.cx_questions.specs.Signatures.{parameter_types, result_type}
use Rattle.cx_questions.specs.Specialisations.{choose}

module _ (u : Program) (b : Questions) where
  -- the type of a field: not void; a reference or a const field is not supported
  abbrev pub field_type : Environment → TypeForm → Answer Term
  field_type env form = do
    t ← substitute_type u b env form
    must (not (is_void t)) (soft kind.InvalidType (type_place form))
    must (not (is_ref t || is_const t)) (hard kind.Unsupported (type_place form))
    given t

  -- how many scalar values a field has; a struct is needed complete
  abbrev pub scalars_in : Place → Term → Answer ℕ
  scalars_in at t = either (is_class t) (λ _. b.class at t >>= λ c. given c.scalars) (λ _. given 1)

  -- the types of a member function: its result's before its parameters'
  abbrev pub signature : Environment → DeclId → Answer Signature
  signature env d = do
    result ← result_type u b env (function_of u d).result
    read ← parameter_types u b env (function_of u d).parameters
    given (record { parameters = read.1; result = result })

  -- where a member of an object of this type is read, const or not
  abbrev pub inside : Chosen → Term → Bool → Environment
  inside c t is_const = record { arguments = c.arguments; variables = []; object = Some (record { of = t; is_const = is_const }) }

  -- a class with the next of its members
  abbrev pub with_member : Chosen → Term → Class → Member → Answer Class
  with_member c t made (field name form) = do
    of ← field_type (inside c t Bool.false) form
    n ← scalars_in (type_place form) of
    given (record made { fields = made.fields ++ of ∷ []; scalars = made.scalars + n })
  with_member c t made (member_alias name form) = do
    of ← substitute_type u b (inside c t Bool.false) form
    given (record made { types = made.types ++ of ∷ [] })
  with_member c t made (static_constant name d) = given made
  with_member c t made (member_function name d) = do
    s ← signature (inside c t (function_of u d).is_const) d
    given (record made { functions = made.functions ++ s ∷ [] })

  -- the class without members
  abbrev pub without_members : Chosen → Class
  without_members c = record { declaration = c.declaration; arguments = c.arguments; fields = []; types = []; functions = []; scalars = 0 }

  -- all members in the order of the text; what is refused there is a fault of the unit
  abbrev pub all_members : Chosen → Term → Answer Class
  all_members c t = harden (do
    made ← in_turn (with_member c t) (without_members c) (struct_of u c.declaration).members
    must (nat_le made.scalars u.limits.scalars) (passed limit.Object (struct_of u c.declaration).at)
    given made)

  -- an instance: its template's arguments are of the right number and kinds, and no position is left
  abbrev pub is_complete_id : DeclId → Term → List Term → Bool
  is_complete_id d t ts = is_concrete t && are_of_kinds (kinds (struct_of u d).template_parameters) ts

  -- The class of a type, asked for at a place: of a struct, or of an instance, by the declaration that is chosen for it. A
  -- fault inside an instance is reached through that place.
  abbrev pub class_of : Place → Term → Answer Class
  class_of at (struct d) = all_members (record { declaration = d; arguments = [] }) (struct d)
  class_of at (inst d xs) = do
    must (is_complete_id d (inst d xs) (members xs)) (soft kind.InvalidType at)
    within at (choose u b at d (members xs) >>= λ c. all_members c (inst d xs))
  class_of at t = soft kind.InvalidType at

  abbrev pub class : Place → Term → Answer Class
  class at t = class_of at (without_const t)
