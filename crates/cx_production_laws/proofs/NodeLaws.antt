-- The nodes of what is public are numbered without a gap.
use Rattle.std.proofs.Common.{◌≡◌, ◌+◌, ℕ, true, List, [], ◌∷◌, length, refl, arith}
use Rattle.cx_tokens.specs.Pieces.{Piece}
use Rattle.cx_syntax.specs.declared.context.Context.{Context}
use Rattle.cx_syntax.specs.States.{State, cut, freed}
use Rattle.cx_productions.specs.Trees.{Mark}
use Rattle.cx_productions.specs.Nodes.{IsNumberedFrom, expr_nodes, type_nodes}
use Rattle.cx_productions.specs.Levels.{levels}
use Rattle.cx_productions.specs.Types.{type_id}
use Rattle.cx_productions.specs.Expressions.{expr}
use Rattle.cx_productions.specs.Clauses.{clause}
use Rattle.cx_productions.specs.StatementNodes.{stmt_nodes}
use Rattle.cx_productions.specs.Statements.{stmt}
use Rattle.cx_productions.specs.Units.{unit_levels}
use Rattle.cx_production_laws.proofs.StatementLaws.{within_levels, lawful_stmt}
use Rattle.cx_production_laws.proofs.StatementNumbers.{counting_within, numbers_stmt}
use Rattle.cx_syntax_laws.specs.GrammarLaws.{Levelled, IsTree}
use Rattle.cx_syntax_laws.proofs.Lawful.{Lawful}
use Rattle.cx_syntax_laws.proofs.Numbering.{From, Made, Numbered}
use Rattle.cx_production_laws.specs.NumberedNodes.{NumberedNodes}
use Rattle.cx_production_laws.proofs.TypeLaws.{lawful_type}
use Rattle.cx_production_laws.proofs.ExpressionLaws.{lower_levels, lawful_expr, lawful_clause}
use Rattle.cx_production_laws.proofs.NumberLaws.{numbers, counting_levels, numbers_type, numbers_expr, numbers_clause}

marks_numbered : (n : ℕ) (ms : List Mark) → From n (numbers ms) → IsNumberedFrom n ms
marks_numbered n [] h = tt
marks_numbered n (m ∷ ms) h = (h.0, marks_numbered (n + 1) ms h.1)

numbers_length : (ms : List Mark) → length (numbers ms) ≡ length ms
numbers_length [] = refl
numbers_length (m ∷ ms) = let h = numbers_length ms in omega arith

pub numbered_nodes : {A : Type 0} (nodes : A → List Mark) {p : Levelled A} → ((n : ℕ) → Lawful true (p n)) → ((n : ℕ) → Numbered [] (λ (x : A). numbers (nodes x)) (p n)) → NumberedNodes nodes p
numbered_nodes {A} nodes {p} h k = record {
  numbered = λ s us x w. marks_numbered s.next (nodes x) (made s us x w).numbered;
  next = λ s us x w. let l = numbers_length (nodes x) in let m = made s us x w in omega (arith, m.next_is);
}
  where
    made : (s : State) (us : List Piece) (x : A) (w : IsTree p s us x) → Made s.next (numbers (nodes x)) w.after.next
    made s us x w = (k w.level).made (cut (freed s) us) w.after x s.next (record { numbered = tt; next_is = omega arith }) ((h w.level).basic.complete (cut (freed s) us) w.after x w.whole)

pub nodes_of_expr : (level : ℕ) (c : Context) → NumberedNodes expr_nodes (λ n. expr (levels n) level c)
nodes_of_expr level c = numbered_nodes expr_nodes (λ n. lawful_expr (lower_levels n) level c) (λ n. numbers_expr (counting_levels n) level c)

pub nodes_of_type : (c : Context) → NumberedNodes type_nodes (λ n. type_id (levels n) c)
nodes_of_type c = numbered_nodes type_nodes (λ n. lawful_type (lower_levels n) c) (λ n. numbers_type (counting_levels n) c)

pub nodes_of_clause : (c : Context) → NumberedNodes expr_nodes (λ n. clause (levels n) c)
nodes_of_clause c = numbered_nodes expr_nodes (λ n. lawful_clause (lower_levels n) c) (λ n. numbers_clause (counting_levels n) c)

pub nodes_of_stmt : (c : Context) → NumberedNodes stmt_nodes (λ n. stmt (unit_levels n) c)
nodes_of_stmt c = numbered_nodes stmt_nodes (λ n. lawful_stmt (within_levels n) c) (λ n. numbers_stmt (counting_within n) c)
