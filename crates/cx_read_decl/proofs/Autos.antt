-- Whether a parameter is `auto`, or a template parameter is constrained.
use Rattle.std.proofs.Common.{◌≡◌, ℕ, suc, Bool, true, false, arith, ◌||◌, length, List, [], ◌∷◌, refl, ap}
use Rattle.std.specs.Prelude.{◌==◌, map}
use Rattle.std.specs.List.{list_any}
use Rattle.cx_productions.specs.Declarations.{is_auto_type, has_auto, is_constrained, any_constrained, is_empty}
use Rattle.cx_statement_trees.specs.StatementViews.{written_type}
use Rattle.cx_statement_trees.specs.DeclarationViews.{parameter_tree, template_parameter}
use Rattle.cx_statement_trees.specs.declared.declaration.Parameter.{Parameter}
use Rattle.cx_statement_trees.specs.declared.declaration.TemplateParameter.{TemplateParameter}

pub any_auto : (ps : List Parameter) → list_any (λ (p : Parameter). is_auto_type (written_type p.written)) ps ≡ has_auto (map parameter_tree ps)
any_auto [] = refl
any_auto (p ∷ ps) = ap (λ (b : Bool). is_auto_type (written_type p.written) || b) (any_auto ps)

pub any_constrained_of : (ps : List TemplateParameter) → list_any (λ (p : TemplateParameter). is_constrained (template_parameter p)) ps ≡ any_constrained (map template_parameter ps)
any_constrained_of [] = refl
any_constrained_of (p ∷ ps) = ap (λ (b : Bool). is_constrained (template_parameter p) || b) (any_constrained_of ps)

not_zero : (n : ℕ) → (suc n == 0) ≡ false
not_zero n = grind arith

pub empty_of : (ps : List TemplateParameter) → (length ps == 0) ≡ is_empty (map template_parameter ps)
empty_of [] = refl
empty_of (p ∷ ps) = not_zero (length ps)
