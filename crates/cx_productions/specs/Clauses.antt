-- The clause of a requires ([temp.pre], [expr.log.and], [expr.log.or]).
--
--     clause      = conjunction { "||" conjunction }
--     conjunction = operand { "&&" operand }
--     operand     = primary, but no list in braces and no static_cast
--
-- As no call stands there, a function template with arguments is no operand.
use Rattle.cx_tokens.specs.declared.punctuator.Punctuator.{Punctuator}
use Rattle.cx_tokens.specs.declared.punctuator.Punctuator.TheVariants as punctuator
use Rattle.cx_syntax.specs.declared.context.Context.{Context}
use Rattle.cx_syntax.specs.declared.operators.BinaryOperator.{BinaryOperator}
use Rattle.cx_syntax.specs.declared.operators.BinaryOperator.TheVariants as binary
use Rattle.cx_syntax.specs.Contexts.{deeper}
use Rattle.cx_syntax.specs.Productions.{Production, give, ◌>>=◌, token, when, given}
use Rattle.cx_syntax.specs.Classes.{punct, nothing}
use Rattle.cx_productions.specs.Trees.{ExprTree}
use Rattle.cx_productions.specs.Below.{Below}
use Rattle.cx_productions.specs.Types.{head_core}
use Rattle.cx_productions.specs.Primaries.{Operand, head_name, names_after, simple_primary}
use Rattle.cx_productions.specs.Expressions.{must_call, chain_from}

-- what must be called cannot be an operand: no token fits after it
unfoldable pub uncalled : Context → Operand → Production ExprTree
uncalled c operand = given (must_call operand.calling)
    (do
      t ← token c nothing
      give operand.tree)
    (give operand.tree)

-- head names
unfoldable pub head_operand : Below → Context → Production ExprTree
head_operand b c = do
  k ← head_core b (deeper c)
  names_after c k

unfoldable pub simple_operand : Below → Context → Production ExprTree
simple_operand b c = do
  operand ← simple_primary b c
  uncalled c operand

unfoldable pub clause_operand : Below → Context → Production ExprTree
clause_operand b c = when head_name (head_operand b c) (simple_operand b c)

-- "&&" or "||"
unfoldable pub clause_operator : Punctuator → BinaryOperator → Context → Production BinaryOperator
clause_operator p o c = do
  t ← token c (punct p)
  give o

unfoldable pub conjunction : Below → Context → Production ExprTree
conjunction b c = do
  first ← clause_operand b c
  chain_from (λ c. punct punctuator.AmpersandAmpersand) (clause_operator punctuator.AmpersandAmpersand binary.And) (clause_operand b) c first

unfoldable pub clause : Below → Context → Production ExprTree
clause b c = do
  first ← conjunction b c
  chain_from (λ c. punct punctuator.BarBar) (clause_operator punctuator.BarBar binary.Or) (conjunction b) c first
