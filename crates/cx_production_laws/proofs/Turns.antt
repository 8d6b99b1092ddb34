-- For the loops of the code: each turn of a loop takes a piece at least.
use Rattle.std.proofs.Common.{ℕ, suc, Bool, true, List}
use Rattle.cx_tokens.specs.declared.punctuator.Punctuator.{Punctuator}
use Rattle.cx_syntax.specs.declared.context.Context.{Context}
use Rattle.cx_syntax.specs.declared.operators.BinaryOperator.{BinaryOperator}
use Rattle.cx_syntax.specs.Productions.{Production}
use Rattle.cx_syntax.specs.Combinators.{one_more, one_more_item}
use Rattle.cx_productions.specs.Trees.{ExprTree, ArgumentTree, LocalTree, RequirementTree}
use Rattle.cx_productions.specs.Levels.{levels}
use Rattle.cx_productions.specs.Types.{more_names}
use Rattle.cx_productions.specs.Requires.{local, requirement}
use Rattle.cx_productions.specs.Expressions.{Postfix, Chain, postfix_turn, chain_turn, binary_operator}
use Rattle.cx_productions.specs.Clauses.{clause_operand, clause_operator, conjunction}
use Rattle.cx_productions.specs.StatementTrees.{StmtTree}
use Rattle.cx_productions.specs.DeclarationTrees.{Specifiers, ParameterTree, MemberTree, TemplateParameterTree, DeclTree}
use Rattle.cx_productions.specs.Units.{unit_levels, statement_levels}
use Rattle.cx_productions.specs.Declarations.{one_more_specifier, parameter, member, template_parameter, decl}
use Rattle.cx_production_laws.proofs.StatementLaws.{within_levels, statement_item}
use Rattle.cx_production_laws.proofs.DeclarationLaws.{specifier_turns, lawful_parameter, lawful_template_parameter, member_item, declaration_item}
use Rattle.cx_syntax_laws.proofs.Lawful.{Lawful, Takes}
use Rattle.cx_production_laws.proofs.TypeLaws.{more_names_turn, more_turn}
use Rattle.cx_production_laws.proofs.ExpressionLaws.{lower_levels, requirement_item, postfix_turns, operator_turns, clause_turns, lawful_local, lawful_operand, lawful_conjunction}

-- more names after `::`; one more of a list with commas
pub takes_more_names : (c : Context) (so_far : List (List ℕ)) → Takes (more_names c so_far)
takes_more_names c so_far = (more_names_turn c so_far).takes

pub takes_one_more : {A : Type 0} (c : Context) (item : Production A) → Lawful true item → (so_far : List A) → Takes (one_more c item so_far)
takes_one_more c item h so_far = (more_turn c h so_far).takes

-- one more specifier
pub takes_specifier : (c : Context) (s : Specifiers) → Takes (one_more_specifier c s)
takes_specifier c s = (specifier_turns c s).takes

module _ (depth : ℕ) where
  pub takes_more_expr : (level : ℕ) (c d : Context) (so_far : List ExprTree) → Takes (one_more c ((levels depth).expr level d) so_far)
  takes_more_expr level c d so_far = (more_turn c ((lower_levels depth).expr level d) so_far).takes

  pub takes_more_argument : (c d : Context) (so_far : List ArgumentTree) → Takes (one_more c ((levels depth).argument d) so_far)
  takes_more_argument c d so_far = (more_turn c ((lower_levels depth).argument d) so_far).takes

  pub takes_more_local : (c d : Context) (so_far : List LocalTree) → Takes (one_more c (local (levels depth) d) so_far)
  takes_more_local c d so_far = (more_turn c (lawful_local (lower_levels depth) d) so_far).takes

  pub takes_requirement : (c : Context) (so_far : List RequirementTree) → Takes (one_more_item (requirement (levels depth) c) so_far)
  takes_requirement c so_far = (requirement_item (lower_levels depth) c so_far).takes

  pub takes_postfix_turn : (x : Postfix) → Takes (postfix_turn (levels depth) x)
  takes_postfix_turn x = (postfix_turns (lower_levels depth) x).takes

  pub takes_operator_turn : (level : ℕ) (x : Chain) → Takes (chain_turn (binary_operator (suc level)) ((levels depth).expr level) x)
  takes_operator_turn level x = (operator_turns (lower_levels depth) level x).takes

  pub takes_conjunction_turn : (p : Punctuator) (o : BinaryOperator) (x : Chain) → Takes (chain_turn (clause_operator p o) (clause_operand (levels depth)) x)
  takes_conjunction_turn p o x = (clause_turns (lower_levels depth) p o (clause_operand (levels depth)) (lawful_operand (lower_levels depth)) x).takes

  pub takes_clause_turn : (p : Punctuator) (o : BinaryOperator) (x : Chain) → Takes (chain_turn (clause_operator p o) (conjunction (levels depth)) x)
  takes_clause_turn p o x = (clause_turns (lower_levels depth) p o (conjunction (levels depth)) (lawful_conjunction (lower_levels depth)) x).takes

  -- ---- statements and declarations

  pub takes_statement : (c : Context) (so_far : List StmtTree) → Takes (one_more_item (statement_levels depth c) so_far)
  takes_statement c so_far = (statement_item (within_levels depth) c so_far).takes

  pub takes_more_parameter : (autos : Bool) (c d : Context) (so_far : List ParameterTree) → Takes (one_more c (parameter autos (levels depth) d) so_far)
  takes_more_parameter autos c d so_far = (more_turn c (lawful_parameter (lower_levels depth) autos d) so_far).takes

  pub takes_more_template_parameter : (c d : Context) (so_far : List TemplateParameterTree) → Takes (one_more c (template_parameter (levels depth) d) so_far)
  takes_more_template_parameter c d so_far = (more_turn c (lawful_template_parameter (lower_levels depth) d) so_far).takes

  pub takes_member : (templated : Bool) (c : Context) (so_far : List MemberTree) → Takes (one_more_item (member templated (unit_levels depth) c) so_far)
  takes_member templated c so_far = (member_item (within_levels depth) templated c so_far).takes

  pub takes_declaration : (c : Context) (so_far : List DeclTree) → Takes (one_more_item (decl (unit_levels depth) c) so_far)
  takes_declaration c so_far = (declaration_item (within_levels depth) c so_far).takes
