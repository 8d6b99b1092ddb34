-- Walks over the nodes of one part behind those of another.
use Rattle.std.proofs.Common.{◌≡◌, ℕ, zero, suc, ◌+◌, ◌<◌, ◌≤◌, List, [], ◌∷◌, ◌++◌, length, get_or, drop, map, Some, refl, sym, ap, ◌∙◌, append-nil, arith}
use Rattle.std.specs.Prelude.{slice_get}
use Rattle.std.specs.Option.{option_map}
use Rattle.std.proofs.lemmas.List.{drop_more, drop_all}
use Rattle.cx_base.specs.declared.place.Place.{Place}
use Rattle.cx_tree.specs.declared.walk.Walk.{Walk}
use Rattle.cx_tree.specs.declared.walk.Walk.TheVariants.{Left, Found}
use Rattle.cx_tree.specs.declared.expression.Expr.{Expr}
use Rattle.cx_tree.specs.declared.expression.TemplateArgument.{TemplateArgument}
use Rattle.cx_tree.specs.Trees.{Mark, ArgumentTree, TypeArgument, ValueArgument, ArgumentTrees, no_argument, with_argument, exprs, arguments, expr_tree, argument_tree}
use Rattle.cx_tree.specs.Nodes.{stepped, walked, expr_nodes, exprs_nodes, type_nodes, argument_nodes}

pub walked_append : (walk : Walk) (ms ns : List Mark) → walked walk (ms ++ ns) ≡ walked (walked walk ms) ns
walked_append walk [] ns = refl
walked_append walk (m ∷ ms) ns = walked_append (stepped walk m.at) ms ns

-- one node behind two parts
pub two_parts : (w u v r : Walk) (m : Mark) (ps qs nodes : List Mark) → nodes ≡ ps ++ qs ++ m ∷ [] → u ≡ walked w ps → v ≡ walked u qs → r ≡ stepped v m.at → r ≡ walked w nodes
two_parts w u v r m ps qs nodes is first second own = rw (is, walked_append, walked_append, ← first, ← second) own

-- one expression further
pub next_expr : (es : List Expr) (i : ℕ) (d : Expr) (w v : Walk) → i < length es → v ≡ walked w (expr_nodes (expr_tree (get_or es i d)))
    → walked w (exprs_nodes (exprs (map expr_tree (drop i es)))) ≡ walked v (exprs_nodes (exprs (map expr_tree (drop (i + 1) es))))
next_expr es i d w v below is = rw (drop_more es i d below, walked_append w (expr_nodes (expr_tree (get_or es i d))) (exprs_nodes (exprs (map expr_tree (drop (i + 1) es)))), ← is) refl

-- one template argument further
more_argument : (a : ArgumentTree) (rest : ArgumentTrees) → argument_nodes (with_argument a rest) ≡ argument_nodes (with_argument a no_argument) ++ argument_nodes rest
more_argument (TypeArgument t) rest = rw (append-nil (type_nodes t)) refl
more_argument (ValueArgument e) rest = rw (append-nil (expr_nodes e)) refl

pub next_argument : (as' : List TemplateArgument) (i : ℕ) (d : TemplateArgument) (w v : Walk) → i < length as' → v ≡ walked w (argument_nodes (arguments (argument_tree (get_or as' i d) ∷ [])))
    → walked w (argument_nodes (arguments (map argument_tree (drop i as')))) ≡ walked v (argument_nodes (arguments (map argument_tree (drop (i + 1) as'))))
next_argument as' i d w v below is =
    let here = argument_tree (get_or as' i d) in
    let rest = arguments (map argument_tree (drop (i + 1) as')) in
    rw (drop_more as' i d below, more_argument here rest, walked_append w (argument_nodes (with_argument here no_argument)) (argument_nodes rest), ← is) refl
