-- The nodes of declarations and units, in order.
use Rattle.std.proofs.Common.{ℕ, zero, suc, ◌+◌, ◌<◌, ◌≤◌, Bool, List, [], Option, Some, None, arith}
use Rattle.std.specs.List.{flat_map}
use Rattle.cx_base.specs.declared.place.Place.{Place}
use Rattle.cx_scope.specs.declared.name_kind.NameKind.{NameKind}
use Rattle.cx_scope.specs.Frames.{entered}
use Rattle.cx_tree.specs.Trees.{TypeTree, VoidTree, ConstraintTree}
use Rattle.cx_tree.specs.Statements.{WrittenType, OfType as OfType'}
use Rattle.cx_tree.specs.Declarations.{Specifiers, ParameterTree, MemberTree, TemplateParameterTree, DeclTree}
use Rattle.cx_grammar.specs.Pieces.{Piece}
use Rattle.cx_grammar.specs.Production.{Production}
use Rattle.cx_grammar.specs.Names.{Context, deeper}
use Rattle.cx_grammar.specs.Types.{Numbered, Below, scalar_core, type_id, Named}
use Rattle.cx_grammar.specs.Expressions.{above, levels}
use Rattle.cx_grammar.specs.Statements.{Within}
use Rattle.cx_grammar.specs.Declarations.{unit_levels, specifiers, parameter_behind, typed_parameter, auto_parameter, const_parameter, parameter, more_parameter, parameters_behind, void_parameters, parameters, trailing, maybe_const_member, function_body, function_behind, constant_behind, alias, variable_or_function, static_member, field_or_function, struct_member, more_member, members, struct_body, struct_behind, struct, maybe_name, default_type, default_value, type_parameter, constrained_parameter, value_parameter, template_parameter, more_template_parameter, template_parameters, Templated, concept, specialisation, templated_struct, templated_function, templated, maybe_clause, template, decl, more_decl, unit}
use Rattle.cx_grammar.proofs.Counts.{Yields, give-Yields, then-Yields, take, past, when-Yields, given-Yields, closed-Yields, repeat-Yields, Counted, seq, none, leaf, node, node_ahead, later, sooner, as_list}
use Rattle.cx_grammar.proofs.NumbersTypes.{Of, OfNamed, OfType, BelowCounts, type_behind-Yields, argument_list-Yields, type_id-Yields}
use Rattle.cx_grammar.proofs.NumbersRequires.{constraint-Yields}
use Rattle.cx_grammar.proofs.NumbersExpressions.{levels-Counts, unary-Yields, expr-Yields, clause-Yields}
use Rattle.cx_tree.specs.UnitNodes.{maybe_expr_nodes, maybe_type_nodes, maybe_stmt_nodes, maybe_constraint_nodes, written_nodes, parameter_nodes, function_nodes, alias_nodes, constant_nodes, member_nodes, struct_nodes, template_parameter_nodes, templated_nodes, decl_nodes, unit_nodes}
use Rattle.cx_grammar.proofs.Spared.{Spared, ahead, behind, after, paid, flat_one, flat_more}
use Rattle.cx_grammar_laws.proofs.NumbersBehind.{rests-Yields}
use Rattle.cx_grammar_laws.proofs.NumbersStatements.{WithinCounts, init-Yields, auto_behind-Yields, assertion-Yields, for_head-Yields, block-Yields, bare_stmt-Yields, stmt-Yields}

abbrev OfTemplated : ℕ → ℕ → ℕ → Templated → Type 0
OfTemplated n s k x = Counted n s (templated_nodes x.0) x.1 k

-- the nodes of a unit
abbrev pub OfUnit : ℕ → List DeclTree → Type 0
OfUnit k ds = (m : ℕ) × Counted 0 0 (unit_nodes ds) m k

-- a type behind other pieces
type_id-Typed : {b : Below} → BelowCounts b → (c : Context) (n s j : ℕ) → s ≤ j → Yields (type_id b c n) j (OfType n s)
type_id-Typed k c n s j up = record { yields = λ l us rest x w. sooner ((type_id-Yields k c n j).yields l us rest x w) up }

-- ---- parameters

parameter_behind-Yields : (c : Context) (at : Place) (of : Numbered WrittenType) {n s j : ℕ} → Spared n s (written_nodes of.0) of.1 j → Yields (parameter_behind c at of) j (OfNamed parameter_nodes n s)
unfolding parameter_behind
parameter_behind-Yields c at of h = when-Yields _ (take (λ t. give-Yields (later (paid _ h) (omega arith)))) (give-Yields (paid at h))

typed_parameter-Yields : (c : Context) (of : Numbered TypeTree) {n s j : ℕ} → Spared n s (written_nodes (OfType' of.0)) of.1 j → Yields (typed_parameter c of) j (OfNamed parameter_nodes n s)
unfolding typed_parameter
typed_parameter-Yields c of h = parameter_behind-Yields c _ _ h

auto_parameter-Yields : (c : Context) (at : Option Place) (before : Bool) (constrained : Option ConstraintTree) {n s i m j : ℕ} → s < i → Counted n i (maybe_constraint_nodes constrained) m j
    → Yields (auto_parameter c at before constrained m) j (OfNamed parameter_nodes n s)
unfolding auto_parameter
auto_parameter-Yields c at before constrained up h = then-Yields (auto_behind-Yields c at before constrained h) (λ a l g. parameter_behind-Yields c _ _ (ahead g up))

module _ {b : Below} (k : BelowCounts b) where
  const_parameter-Yields : (autos : Bool) (c : Context) (n s j : ℕ) → s < j → Yields (const_parameter autos b c n) j (OfNamed parameter_nodes n s)
  unfolding const_parameter
  const_parameter-Yields autos c n s j up = take (λ t. when-Yields _ (then-Yields (constraint-Yields k c n (j + 1)) (λ x i g. auto_parameter-Yields c _ _ (Some x.0) {i = j + 1} (omega arith) g))
      (when-Yields _ (auto_parameter-Yields c _ _ None {i = j + 1} (omega arith) (none (omega arith)))
      (then-Yields (k.core (deeper c) n (j + 1)) (λ x i g. then-Yields (type_behind-Yields c t.token.at _ (x.0.1, x.1) g) (λ of l g'. typed_parameter-Yields c of (ahead g' (omega arith)))))))

  parameter-Yields : (autos : Bool) (c : Context) (n s j : ℕ) → s < j → Yields (parameter autos b c n) j (OfNamed parameter_nodes n s)
  unfolding parameter
  parameter-Yields autos c n s j up = when-Yields _ (const_parameter-Yields autos c n s j up)
      (when-Yields _ (then-Yields (constraint-Yields k c n j) (λ x i g. auto_parameter-Yields c _ _ (Some x.0) up g))
      (when-Yields _ (auto_parameter-Yields c None _ None {i = j} up (none (omega arith)))
      (then-Yields (type_id-Yields k c n j) (λ of l g. typed_parameter-Yields c of (ahead g up)))))

  more_parameter-Yields : (autos : Bool) (c : Context) (n s : ℕ) (x : Named (List ParameterTree)) (j : ℕ) → OfNamed (flat_map parameter_nodes) n s j x → Yields (more_parameter autos b c x) j (OfNamed (flat_map parameter_nodes) n s)
  more_parameter-Yields autos c n s x j h = take (λ t. then-Yields (parameter-Yields autos _ x.1 j (j + 1) (omega arith)) (λ y i g. give-Yields (as_list (flat_more parameter_nodes x.0 y.0) (seq h g (omega arith)))))

  parameters_behind-Yields : (autos : Bool) (c : Context) (first : Named ParameterTree) {n s j : ℕ} → OfNamed parameter_nodes n s j first → Yields (parameters_behind autos b c first) j (OfNamed (flat_map parameter_nodes) n s)
  unfolding parameters_behind
  parameters_behind-Yields autos c first {n} {s} {j} h = repeat-Yields _ (more_parameter-Yields autos c n s) _ j (as_list (flat_one parameter_nodes first.0) h)

  void_parameters-Yields : (autos : Bool) (c : Context) (n s j : ℕ) → s < j → Yields (void_parameters autos b c n) j (OfNamed (flat_map parameter_nodes) n s)
  unfolding void_parameters
  void_parameters-Yields autos c n s j up = take (λ t. when-Yields _ (give-Yields (none (omega arith)))
      (then-Yields (type_behind-Yields c t.token.at _ (VoidTree, n) {s = j} (λ at. leaf (omega arith))) (λ of l g. then-Yields (typed_parameter-Yields c of (ahead g up)) (λ first i g'. parameters_behind-Yields autos c first g'))))

  pub parameters-Yields : (autos : Bool) (c : Context) (n s j : ℕ) → s < j → Yields (parameters autos b c n) j (OfNamed (flat_map parameter_nodes) n s)
  unfolding parameters
  parameters-Yields autos c n s j up = when-Yields _ (give-Yields (none (omega arith))) (when-Yields _ (void_parameters-Yields autos c n s j up)
      (then-Yields (parameter-Yields autos c n s j up) (λ first i g. parameters_behind-Yields autos c first g)))

  -- ---- functions, constants, aliases

  trailing-Yields : (templated : Bool) (c : Context) (n s : ℕ) → Yields (trailing templated b c n) s (Of maybe_expr_nodes n s)
  unfolding trailing
  trailing-Yields templated c n s = when-Yields _ (take (λ t. then-Yields (clause-Yields k c n (s + 1)) (λ e i g. give-Yields (sooner g (omega arith))))) (give-Yields (none (omega arith)))

  maybe_clause-Yields : (c : Context) (n s : ℕ) → Yields (maybe_clause b c n) s (Of maybe_expr_nodes n s)
  unfolding maybe_clause
  maybe_clause-Yields c n s = when-Yields _ (take (λ t. then-Yields (clause-Yields k c n (s + 1)) (λ e i g. give-Yields (sooner g (omega arith))))) (give-Yields (none (omega arith)))

  constant_behind-Yields : (c : Context) (s : Specifiers) (of : Numbered TypeTree) (name : Piece) {n i j : ℕ} → OfType n i j of → Yields (constant_behind b c s of name) j (OfNamed constant_nodes n i)
  unfolding constant_behind
  constant_behind-Yields c s of name {n} {i} {j} h = then-Yields (init-Yields k _ of.1 j) (λ x l g. take (λ t. give-Yields (node _ (seq h g (omega arith)) (omega arith))))

  alias-Yields : (c : Context) (n s : ℕ) → Yields (alias b c n) s (OfNamed alias_nodes n s)
  unfolding alias
  alias-Yields c n s = take (λ t. take (λ name. take (λ e. then-Yields (type_id-Yields k c n (s + 1 + 1 + 1)) (λ of i g. take (λ u. give-Yields (node_ahead _ (later g (omega arith)) (omega arith)))))))

  static_member-Yields : (c : Context) (n s : ℕ) → Yields (static_member b c n) s (OfNamed member_nodes n s)
  unfolding static_member
  static_member-Yields c n s = take (λ t. past (specifiers c _) (λ x j up. then-Yields (given-Yields x.is_constexpr (type_id-Typed k c n s j (omega arith)) (take (λ u. type_id-Typed k c n s (j + 1) (omega arith))))
      (λ of i g. take (λ name. then-Yields (constant_behind-Yields c x of name (later g (omega arith))) (λ v l g'. give-Yields g')))))

module _ {b : Within} (k : WithinCounts b) where
  function_body-Yields : (c : Context) (n s : ℕ) → Yields (function_body b c n) s (λ j x. Spared n s (maybe_stmt_nodes x.0) x.1 j)
  unfolding function_body
  function_body-Yields c n s = when-Yields _ (take (λ t. give-Yields (behind {i = s} (none (omega arith)) (omega arith)))) (then-Yields (block-Yields k c n s) (λ x i g. give-Yields g))

  function_behind-Yields : (is_member : Bool) (templated : Bool) (c : Context) (s : Specifiers) (result : Numbered TypeTree) (name : Piece) {n i j : ℕ} → OfType n i j result
      → Yields (function_behind is_member templated b c s result name) j (OfNamed function_nodes n i)
  unfolding function_behind
  function_behind-Yields is_member templated c s result name {n} {i} {j} h = take (λ t. then-Yields (k.parameters _ _ result.1 j (j + 1) (omega arith)) (λ ps l g. take (λ u. past (maybe_const_member is_member c) (λ is_const r up.
      then-Yields (trailing-Yields k.base _ _ ps.1 r) (λ e q g'. then-Yields (function_body-Yields _ e.1 q) (λ body z g''. give-Yields (paid _ (after (seq (seq h g (omega arith)) g' (omega arith)) g'' (omega arith)))))))))

  -- ---- variables and functions of a unit

  variable_or_function-Yields : (c : Context) (n s : ℕ) → Yields (variable_or_function b c n) s (OfNamed decl_nodes n s)
  unfolding variable_or_function
  variable_or_function-Yields c n s = past (specifiers c _) (λ x j up. then-Yields (type_id-Typed k.base c n s j up) (λ of i g. take (λ name. when-Yields _
      (then-Yields (constant_behind-Yields k.base c x of name (later g (omega arith))) (λ v l g'. give-Yields g'))
      (then-Yields (function_behind-Yields _ _ c x of name (later g (omega arith))) (λ f l g'. give-Yields g')))))

  -- ---- structs

  field_or_function-Yields : (templated : Bool) (c : Context) (n s : ℕ) → Yields (field_or_function templated b c n) s (OfNamed member_nodes n s)
  unfolding field_or_function
  field_or_function-Yields templated c n s = past (specifiers c _) (λ x j up. then-Yields (type_id-Typed k.base c n s j up) (λ of i g. take (λ name. when-Yields _
      (take (λ t. give-Yields (node _ g (omega arith))))
      (then-Yields (function_behind-Yields _ templated c _ of name (later g (omega arith))) (λ f l g'. give-Yields g')))))

  struct_member-Yields : (templated : Bool) (c : Context) (n s : ℕ) → Yields (struct_member templated b c n) s (OfNamed member_nodes n s)
  unfolding struct_member
  struct_member-Yields templated c n s = when-Yields _ (take (λ t. give-Yields (leaf (omega arith))))
      (when-Yields _ (then-Yields (alias-Yields k.base c n s) (λ a i g. give-Yields g))
      (when-Yields _ (static_member-Yields k.base c n s) (field_or_function-Yields templated c n s)))

  more_member-Yields : (templated : Bool) (c : Context) (n s : ℕ) (x : Named (List MemberTree)) (j : ℕ) → OfNamed (flat_map member_nodes) n s j x → Yields (more_member templated b c x) j (OfNamed (flat_map member_nodes) n s)
  more_member-Yields templated c n s x j h = then-Yields (struct_member-Yields templated _ x.1 j) (λ y i g. give-Yields (as_list (flat_more member_nodes x.0 y.0) (seq h g (omega arith))))

  members-Yields : (templated : Bool) (c : Context) (n s : ℕ) → Yields (members templated b c n) s (Of (flat_map member_nodes) n s)
  unfolding members
  members-Yields templated c n s = then-Yields (repeat-Yields _ (more_member-Yields templated c n s) _ s (none (omega arith))) (λ ms i g. give-Yields g)

  -- a brace is to spare
  struct_body-Yields : (templated : Bool) (c : Context) (n s : ℕ) → Yields (struct_body templated b c n) s (λ j x. Spared n s (flat_map member_nodes x.0) x.1 j)
  unfolding struct_body
  struct_body-Yields templated c n s = take (λ t. then-Yields (k.members templated _ n (s + 1)) (λ ms i g. take (λ u. take (λ v. give-Yields (ahead (later g (omega arith)) (omega arith))))))

  struct_behind-Yields : (templated : Bool) (c : Context) (kind : NameKind) (name : Piece) (n s : ℕ) → Yields (struct_behind templated b c kind name n) s (OfNamed struct_nodes n s)
  unfolding struct_behind
  struct_behind-Yields templated c kind name n s = then-Yields (struct_body-Yields templated _ n s) (λ ms i g. give-Yields (paid _ g))

  struct-Yields : (c : Context) (n s : ℕ) → Yields (struct b c n) s (OfNamed decl_nodes n s)
  unfolding struct
  struct-Yields c n s = take (λ t. take (λ name. then-Yields (struct_behind-Yields _ c _ name n (s + 1 + 1)) (λ x i g. give-Yields (sooner g (omega arith)))))

-- ---- template parameters

module _ {b : Below} (k : BelowCounts b) where
  default_type-Yields : (c : Context) (n s : ℕ) → Yields (default_type b c n) s (Of maybe_type_nodes n s)
  unfolding default_type
  default_type-Yields c n s = when-Yields _ (take (λ t. then-Yields (type_id-Yields k c n (s + 1)) (λ of i g. give-Yields (sooner g (omega arith))))) (give-Yields (none (omega arith)))

  default_value-Yields : (c : Context) (n s : ℕ) → Yields (default_value b c n) s (Of maybe_expr_nodes n s)
  unfolding default_value
  default_value-Yields c n s = when-Yields _ (take (λ t. then-Yields (expr-Yields k c n (s + 1)) (λ e i g. give-Yields (sooner g (omega arith))))) (give-Yields (none (omega arith)))

  type_parameter-Yields : (c : Context) (n s : ℕ) → Yields (type_parameter b c n) s (OfNamed template_parameter_nodes n s)
  unfolding type_parameter
  type_parameter-Yields c n s = take (λ t. past (maybe_name c) (λ name j up. then-Yields (default_type-Yields c n j) (λ x i g. give-Yields (node_ahead _ g (omega arith)))))

  constrained_parameter-Yields : (c : Context) (n s j : ℕ) → s < j → Yields (constrained_parameter b c n) j (OfNamed template_parameter_nodes n s)
  unfolding constrained_parameter
  constrained_parameter-Yields c n s j up = then-Yields (constraint-Yields k c n j) (λ x i g. past (maybe_name c) (λ name l more. then-Yields (default_type-Yields c x.1 l) (λ y r g'. give-Yields (node_ahead _ (seq g g' (omega arith)) up))))

  value_parameter-Yields : (c : Context) (n s j : ℕ) → s < j → Yields (value_parameter b c n) j (OfNamed template_parameter_nodes n s)
  unfolding value_parameter
  value_parameter-Yields c n s j up = past (scalar_core c) (λ x i more. past (maybe_name c) (λ name l more'. then-Yields (default_value-Yields c n l) (λ y r g. give-Yields (node_ahead _ g (omega arith)))))

  template_parameter-Yields : (c : Context) (n s j : ℕ) → s < j → Yields (template_parameter b c n) j (OfNamed template_parameter_nodes n s)
  unfolding template_parameter
  template_parameter-Yields c n s j up = when-Yields _ (sooner_parameter (type_parameter-Yields c n j)) (when-Yields _ (constrained_parameter-Yields c n s j up) (value_parameter-Yields c n s j up))
    where
      sooner_parameter : Yields (type_parameter b c n) j (OfNamed template_parameter_nodes n j) → Yields (type_parameter b c n) j (OfNamed template_parameter_nodes n s)
      sooner_parameter h = record { yields = λ l us rest x w. sooner (h.yields l us rest x w) (omega arith) }

  more_template_parameter-Yields : (c : Context) (n s : ℕ) (x : Named (List TemplateParameterTree)) (j : ℕ) → OfNamed (flat_map template_parameter_nodes) n s j x → Yields (more_template_parameter b c x) j (OfNamed (flat_map template_parameter_nodes) n s)
  more_template_parameter-Yields c n s x j h = take (λ t. then-Yields (template_parameter-Yields _ x.1 j (j + 1) (omega arith)) (λ y i g. give-Yields (as_list (flat_more template_parameter_nodes x.0 y.0) (seq h g (omega arith)))))

  template_parameters-Yields : (c : Context) (n s j : ℕ) → s < j → Yields (template_parameters b c n) j (OfNamed (flat_map template_parameter_nodes) n s)
  unfolding template_parameters
  template_parameters-Yields c n s j up = when-Yields _ (give-Yields (none (omega arith)))
      (then-Yields (template_parameter-Yields c n s j up) (λ first i g. repeat-Yields _ (more_template_parameter-Yields c n s) _ i (as_list (flat_one template_parameter_nodes first.0) g)))

-- ---- templates

module _ {b : Below} (k : BelowCounts b) (over : BelowCounts (above b)) where
  concept-Yields : (c : Context) (n s : ℕ) → Yields (concept b c n) s (OfTemplated n s)
  unfolding concept
  concept-Yields c n s = take (λ t. take (λ name. take (λ e. then-Yields (unary-Yields k c n (s + 1 + 1 + 1)) (λ u i g. then-Yields (rests-Yields k over 10 c u g) (λ x l g'. take (λ v. give-Yields (node_ahead _ (later g' (omega arith)) (omega arith))))))))

module _ {b : Within} (k : WithinCounts b) where
  specialisation-Yields : (full : Bool) (c : Context) (name : Piece) (n s : ℕ) → Yields (specialisation full b c name n) s (OfTemplated n s)
  unfolding specialisation
  specialisation-Yields full c name n s = then-Yields (argument_list-Yields k.base c n s) (λ args i g. then-Yields (struct_body-Yields k _ c args.1 i) (λ ms l g'. give-Yields (seq g.0 (paid _ g') (omega arith))))

  templated_struct-Yields : (full : Bool) (c : Context) (n s : ℕ) → Yields (templated_struct full b c n) s (OfTemplated n s)
  unfolding templated_struct
  templated_struct-Yields full c n s = take (λ t. take (λ name. when-Yields _ (sooner_struct (specialisation-Yields full c name n (s + 1 + 1)))
      (then-Yields (struct_behind-Yields k _ _ _ name n (s + 1 + 1)) (λ x i g. give-Yields (sooner g (omega arith))))))
    where
      sooner_struct : {p : Production Templated} → Yields p (s + 1 + 1) (OfTemplated n (s + 1 + 1)) → Yields p (s + 1 + 1) (OfTemplated n s)
      sooner_struct h = record { yields = λ l us rest x w. sooner (h.yields l us rest x w) (omega arith) }

  templated_function-Yields : (c : Context) (n s : ℕ) → Yields (templated_function b c n) s (OfTemplated n s)
  unfolding templated_function
  templated_function-Yields c n s = past (specifiers c _) (λ x j up. then-Yields (type_id-Typed k.base c n s j up) (λ of i g. take (λ name. then-Yields (function_behind-Yields k _ _ c x of name (later g (omega arith))) (λ f l g'. give-Yields g'))))

  templated-Yields : (ps : List TemplateParameterTree) (has_clause : Bool) (c : Context) (n s : ℕ) → Yields (templated ps has_clause b c n) s (OfTemplated n s)
  unfolding templated
  templated-Yields ps has_clause c n s = when-Yields _ (templated_struct-Yields _ c n s) (when-Yields _ (concept-Yields k.base k.over c n s) (templated_function-Yields c n s))

  template-Yields : (c : Context) (n s : ℕ) → Yields (template b c n) s (OfNamed decl_nodes n s)
  unfolding template
  template-Yields c n s = take (λ t. take (λ less. then-Yields (k.template_parameters _ n (s + 1) (s + 1 + 1) (omega arith)) (λ ps i g. take (λ greater. then-Yields (maybe_clause-Yields k.base _ ps.1 (i + 1)) (λ x l g'.
      then-Yields (templated-Yields ps.0 _ _ x.1 l) (λ y r g''. give-Yields (node_ahead _ (seq (seq g g' (omega arith)) g'' (omega arith)) (omega arith))))))))

  -- ---- declarations and units

  pub decl-Yields : (c : Context) (n s : ℕ) → Yields (decl b c n) s (OfNamed decl_nodes n s)
  unfolding decl
  decl-Yields c n s = when-Yields _ (take (λ t. give-Yields (leaf (omega arith))))
      (when-Yields _ (then-Yields (assertion-Yields k.base c n s) (λ a i g. give-Yields g))
      (when-Yields _ (then-Yields (alias-Yields k.base c n s) (λ a i g. give-Yields g))
      (when-Yields _ (struct-Yields k c n s) (when-Yields _ (template-Yields c n s) (variable_or_function-Yields k c n s)))))

  more_decl-Yields : (c : Context) (x : Named (List DeclTree)) (j : ℕ) → OfNamed unit_nodes 0 0 j x → Yields (more_decl b c x) j (OfNamed unit_nodes 0 0)
  more_decl-Yields c x j h = then-Yields (k.decl _ x.1 j) (λ y i g. give-Yields (as_list (flat_more decl_nodes x.0 y.0) (seq h g (omega arith))))

  pub unit-Yields : Yields (unit b) 0 OfUnit
  unfolding unit
  unit-Yields = then-Yields (repeat-Yields _ (more_decl-Yields (record { names = entered []; angle = 0; load = 0 })) _ 0 (none (omega arith))) (λ ds i g. take (λ t. give-Yields (ds.1, later g (omega arith))))

-- ---- the knot

pub unit_levels-Counts : (requires : Bool) (n : ℕ) → WithinCounts (unit_levels requires n)
unfolding unit_levels levels
unit_levels-Counts requires zero = record {
  base = levels-Counts requires 0;
  over = levels-Counts requires 1;
  stmt = λ c m s. closed-Yields;
  bare = λ c m s. closed-Yields;
  head = λ c m s. closed-Yields;
  parameters = λ autos c m s j up. closed-Yields;
  members = λ templated' c m s. closed-Yields;
  template_parameters = λ c m s j up. closed-Yields;
  decl = λ c m s. closed-Yields;
}
unit_levels-Counts requires (suc n) = record {
  base = levels-Counts requires (suc n);
  over = levels-Counts requires (suc (suc n));
  stmt = stmt-Yields (unit_levels-Counts requires n);
  bare = bare_stmt-Yields (unit_levels-Counts requires n);
  head = for_head-Yields (levels-Counts requires n) (levels-Counts requires (suc n));
  parameters = parameters-Yields (levels-Counts requires n);
  members = members-Yields (unit_levels-Counts requires n);
  template_parameters = template_parameters-Yields (levels-Counts requires n);
  decl = decl-Yields (unit_levels-Counts requires n);
}
