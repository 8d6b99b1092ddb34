-- The laws of requires-expressions and of requirements.
use Rattle.std.proofs.Common.{◌≡◌, ℕ, Bool, suc, ◌+◌, ◌≤◌, refl, arith}
use Rattle.cx_tree.specs.Trees.{RequirementTree, SimpleRequirement, TypeRequirement, CompoundRequirement, NestedRequirement}
use Rattle.cx_tree.specs.Nodes.{expr_nodes}
use Rattle.cx_grammar.specs.Names.{Context}
use Rattle.cx_grammar.specs.Types.{Below}
use Rattle.cx_grammar.specs.Expressions.{levels}
use Rattle.cx_grammar.specs.Requires.{simple_requirement, type_requirement, compound_requirement, nested_requirement, requirement, requires_expr}
use Rattle.cx_grammar.specs.Laws.{GrammarLaws, WholeTokens, NumberLaws}
use Rattle.cx_grammar.proofs.Requires.{requirement-Grows, requires_expr-Grows}
use Rattle.cx_grammar.proofs.Expressions.{levels-Grows}
use Rattle.cx_grammar.proofs.FirmTypes.{Enough}
use Rattle.cx_grammar.proofs.FirmRequires.{requirement-Firm, requires_expr-Firm}
use Rattle.cx_grammar.proofs.FirmExpressions.{levels-Firm}
use Rattle.cx_grammar.proofs.AloneRequires.{requirement-Alone, requires_expr-Alone}
use Rattle.cx_grammar.proofs.AloneExpressions.{levels-Alone}
use Rattle.cx_grammar.proofs.Even.{Even}
use Rattle.cx_grammar.proofs.EvenExpressions.{evenness, requires_expr-Even}
use Rattle.cx_grammar.proofs.Counts.{Yields, as_list}
use Rattle.cx_grammar.proofs.NumbersTypes.{Of}
use Rattle.cx_grammar.proofs.NumbersRequires.{requirement_marks, requirement-Yields, requires_expr-Yields}
use Rattle.cx_grammar.proofs.NumbersExpressions.{levels-Counts}
use Rattle.cx_grammar.proofs.GrammarLaws.{lasting_laws}
use Rattle.cx_grammar.proofs.WholeTokens.{even_tokens}
use Rattle.cx_grammar_laws.specs.RequirementNodes.{requirement_nodes}
use Rattle.cx_grammar_laws.proofs.NodeLaws.{number_laws}

-- a requirement ends with a token of its own
module _ (b : Below) where
  type_requirement-Even : (c : Context) (n : ℕ) → Even (type_requirement b c n)
  unfolding type_requirement
  type_requirement-Even c n = search evenness depth 8 fits 4000

  simple_requirement-Even : (c : Context) (n : ℕ) → Even (simple_requirement b c n)
  unfolding simple_requirement
  simple_requirement-Even c n = search evenness depth 8 fits 4000

  compound_requirement-Even : (c : Context) (n : ℕ) → Even (compound_requirement b c n)
  unfolding compound_requirement
  compound_requirement-Even c n = search evenness depth 11 fits 4000

  nested_requirement-Even : (c : Context) (n : ℕ) → Even (nested_requirement b c n)
  unfolding nested_requirement
  nested_requirement-Even c n = search evenness depth 8 fits 4000

  requirement-Even : (c : Context) (n : ℕ) → Even (requirement b c n)
  unfolding requirement
  requirement-Even c n = search (evenness, type_requirement-Even, simple_requirement-Even, compound_requirement-Even, nested_requirement-Even) depth 8 fits 4000

-- the nodes that are counted are those of the law
marks_are_nodes : (r : RequirementTree) → requirement_nodes r ≡ requirement_marks r
marks_are_nodes (SimpleRequirement m e) = refl
marks_are_nodes (TypeRequirement m head names) = refl
marks_are_nodes (CompoundRequirement m e constraint) = refl
marks_are_nodes (NestedRequirement m e) = refl

module _ (requires : Bool) (c : Context) (n : ℕ) where
  room : (limit m : ℕ) → limit + 2 ≤ m + c.load → 2 ≤ m → Enough limit (suc m) c.load
  room limit m h o = record { left = omega arith; more = omega arith }

  room_within : (limit m : ℕ) → limit + 2 ≤ m + c.load → 2 ≤ m → Enough limit m (c.load + 1)
  room_within limit m h o = record { left = omega arith; more = omega arith }

  pub requirement_laws : GrammarLaws requires c.load (λ level. requirement (levels requires level) c n)
  requirement_laws = lasting_laws c.load (λ level. requirement (levels requires level) c n) (record {
    grows = λ m. requirement-Grows (levels-Grows m) c n;
    alone = λ m. requirement-Alone (levels-Alone m) c n;
    firm = λ limit m h o. requirement-Firm (levels-Grows m) (levels-Firm limit requires m) c n (room_within limit m h o);
  })

  pub requires_laws : GrammarLaws requires c.load (λ level. requires_expr (levels requires level) c n)
  requires_laws = lasting_laws c.load (λ level. requires_expr (levels requires level) c n) (record {
    grows = λ m. requires_expr-Grows (levels-Grows m) c n;
    alone = λ m. requires_expr-Alone (levels-Alone m) c n;
    firm = λ limit m h o. requires_expr-Firm (levels-Grows m) (levels-Firm limit requires m) c n (room limit m h o);
  })

  pub requirement_tokens : WholeTokens (λ level. requirement (levels requires level) c n)
  requirement_tokens = even_tokens (λ level. requirement (levels requires level) c n) (λ m. requirement-Even (levels requires m) c n)

  pub requires_tokens : WholeTokens (λ level. requires_expr (levels requires level) c n)
  requires_tokens = even_tokens (λ level. requires_expr (levels requires level) c n) (λ m. requires_expr-Even (levels requires m) c n)

  requirement_yields : (level : ℕ) → Yields (requirement (levels requires level) c n) 0 (Of requirement_nodes n 0)
  requirement_yields level = record { yields = λ l us rest x w. as_list (marks_are_nodes x.0) ((requirement-Yields (levels-Counts requires level) c n 0).yields l us rest x w) }

  pub requirement_numbers : NumberLaws requirement_nodes n (λ level. requirement (levels requires level) c n)
  requirement_numbers = number_laws requirement_nodes n (λ level. requirement (levels requires level) c n) requirement_yields

  pub requires_numbers : NumberLaws expr_nodes n (λ level. requires_expr (levels requires level) c n)
  requires_numbers = number_laws expr_nodes n (λ level. requires_expr (levels requires level) c n) (λ level. requires_expr-Yields (levels-Counts requires level) c n 0)
