-- A concept's name as an expression.
use Rattle.std.proofs.Common.{◌≡◌, ◌<◌, ℕ, List, [], ◌∷◌, length, refl, map, arith}
use Rattle.cx_tree.specs.Trees.{Mark, NameTree, TemplateTree, ArgumentTree, TypeArgument, ValueArgument, arguments, argument_tree}
use Rattle.cx_tree.specs.declared.expression.TemplateArgument.{TemplateArgument}
use Rattle.cx_grammar.specs.Statements.{with_arguments}

one_or_more : (m : Mark) (name : List ℕ) (a : ArgumentTree) (as' : List ArgumentTree) → with_arguments m name (arguments (a ∷ as')) ≡ TemplateTree m name (arguments (a ∷ as'))
one_or_more m name (TypeArgument t) as' = refl
one_or_more m name (ValueArgument e) as' = refl

pub some_arguments : (m : Mark) (name : List ℕ) (as' : List TemplateArgument) → 0 < length as' → with_arguments m name (arguments (map argument_tree as')) ≡ TemplateTree m name (arguments (map argument_tree as'))
some_arguments m name [] some = absurd (omega arith)
some_arguments m name (a ∷ as') some = one_or_more m name (argument_tree a) (map argument_tree as')

pub no_arguments : (m : Mark) (name : List ℕ) (as' : List TemplateArgument) → length as' ≡ 0 → with_arguments m name (arguments (map argument_tree as')) ≡ NameTree m name
no_arguments m name [] none = refl
no_arguments m name (a ∷ as') none = absurd (omega arith)

pub ruleset concept_lemmas = (some_arguments, no_arguments)
