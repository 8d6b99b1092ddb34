-- The laws of the production of a unit of functions, from those of blocks.
use Rattle.std.proofs.Common.{◌≤◌, Bool, ℕ, suc, ◌+◌, arith}
use Rattle.cx_tree.specs.Declarations.{UnitTree}
use Rattle.cx_grammar.specs.Production.{repeat}
use Rattle.cx_grammar.specs.Names.{Context}
use Rattle.cx_grammar.specs.Types.{Named}
use Rattle.cx_grammar.specs.Statements.{Within}
use Rattle.cx_grammar.specs.Expressions.{no_requires}
use Rattle.cx_grammar.specs.Declarations.{unit_levels, is_not_end}
use Rattle.cx_grammar.specs.Laws.{GrammarLaws, WholeTokens}
use Rattle.cx_grammar.proofs.Lawful.{Lawful, Grows}
use Rattle.cx_grammar.proofs.Combinators.{Takes, Firm, Steps, turns-Grows, repeat-Firm}
use Rattle.cx_grammar.proofs.Alone.{Alone, Filled, before-Alone, filled-Steps, token-Filled, first-Filled}
use Rattle.cx_grammar.proofs.Types.{growing}
use Rattle.cx_grammar.proofs.FirmTypes.{Enough, firmness}
use Rattle.cx_grammar.proofs.AloneTypes.{aloneness}
use Rattle.cx_grammar.proofs.Even.{Even}
use Rattle.cx_grammar.proofs.EvenExpressions.{evenness}
use Rattle.cx_grammar.proofs.UnitFilled.{WithinFilled, levels-Filled}
use Rattle.cx_grammar.proofs.UnitGrows.{WithinGrows, unit_levels-Grows, block-Grows}
use Rattle.cx_grammar.proofs.UnitFirm.{WithinFirm, unit_levels-Firm, block-Firm}
use Rattle.cx_grammar.proofs.UnitAlone.{WithinAlone, unit_levels-Alone, block-Alone}
use Rattle.cx_grammar.proofs.WholeTokens.{even_tokens}
use Rattle.cx_grammar.proofs.GrammarLaws.{lasting_laws}
use Rattle.cx_parse_decl.specs.Functions.{function, more_function, unit}
use Rattle.cx_parse_decl.specs.Units.{units}

ruleset filling = (token-Filled, first-Filled)

module _ (b : Within) where
  function-Filled : (c : Context) (n : ℕ) → Filled (function b c n)
  unfolding function
  function-Filled c n = search filling depth 5

  more_function-Filled : (c : Context) (so_far : Named UnitTree) → Filled (more_function b c so_far)
  unfolding more_function
  more_function-Filled c so_far = search (filling, function-Filled) depth 5

  unit-Even : Even (unit b)
  unfolding unit
  unit-Even = search evenness depth 7 fits 4000

module _ {requires : Bool} {b d : Within} (h : WithinGrows requires b d) (low : WithinFilled requires b) (high : WithinFilled requires d) where
  function-Grows : (c : Context) (n : ℕ) → Grows requires (function b c n) (function d c n)
  unfolding function
  function-Grows c n = search (growing, block-Grows h low high) depth 9

  more_function-Grows : (c : Context) (so_far : Named UnitTree) → Grows requires (more_function b c so_far) (more_function d c so_far)
  unfolding more_function
  more_function-Grows c so_far = search (growing, function-Grows) depth 5

  more_function-Steps : (c : Context) (so_far : Named UnitTree) → Steps requires (more_function b c so_far) (more_function d c so_far)
  more_function-Steps c so_far = filled-Steps (more_function-Grows c so_far) (more_function-Filled b c so_far) (more_function-Filled d c so_far)

  unit-Grows : Grows requires (unit b) (unit d)
  unfolding unit
  unit-Grows = search (growing, turns-Grows, more_function-Steps) depth 6

-- units at each number of levels, and at one more
pub units-Grows : (n : ℕ) → Grows no_requires (units n) (units (suc n))
units-Grows n = unit-Grows (unit_levels-Grows n) (levels-Filled n) (levels-Filled (suc n))

module _ {requires : Bool} {b d : Within} (g : WithinGrows requires b d) (low : WithinFilled requires b) (high : WithinFilled requires d) (h : WithinAlone requires b) where
  function-Alone : (c : Context) (n : ℕ) → Alone requires (function b c n)
  unfolding function
  function-Alone c n = search (aloneness, block-Alone g low high h) depth 11

  functions-Lawful : (c : Context) (x : Named UnitTree) → Lawful requires (repeat is_not_end (more_function b c) x)
  functions-Lawful c x = (turns-Grows is_not_end (more_function-Steps g low high c) x).low

  unit-Alone : Alone requires (unit b)
  unfolding unit
  unit-Alone = search (aloneness, before-Alone, functions-Lawful) depth 8

-- levels that are enough for a load are enough for a greater one
enough_up : (limit n load : ℕ) → Enough limit n load → Enough limit n (load + 1)
enough_up limit n load k = record { left = omega (arith, k.left); more = omega (arith, k.more) }

module _ {requires : Bool} {limit n : ℕ} {b d : Within} (g : WithinGrows requires b d) (low : WithinFilled requires b) (high : WithinFilled requires d) (f : WithinFirm limit n b d) where
  function-Firm : (c : Context) (m : ℕ) → Enough limit (suc n) c.load → Firm limit (function b c m) (function d c m)
  unfolding function
  function-Firm c m k = search (firmness, block-Firm g low high f) depth 11

  more_function-Takes : (c : Context) (so_far : Named UnitTree) → Takes (more_function b c so_far)
  more_function-Takes c so_far = (more_function-Steps g low high c so_far).low

  more_function-Firm : (c : Context) (so_far : Named UnitTree) → Enough limit (suc n) c.load → Firm limit (more_function b c so_far) (more_function d c so_far)
  unfolding more_function
  more_function-Firm c so_far k = search (firmness, function-Firm, enough_up) depth 7

  unit-Firm : Enough limit (suc n) 0 → Firm limit (unit b) (unit d)
  unfolding unit
  unit-Firm k = search (firmness, repeat-Firm, more_function-Firm, more_function-Takes) depth 8

room : (limit m : ℕ) → limit + 2 ≤ m + 0 → 2 ≤ m → Enough limit (suc m) 0
room limit m h o = record { left = omega arith; more = omega arith }

pub unit_laws : GrammarLaws no_requires 0 units
unit_laws = lasting_laws 0 units (record {
  grows = λ m. units-Grows m;
  alone = λ m. unit-Alone (unit_levels-Grows m) (levels-Filled m) (levels-Filled (suc m)) (unit_levels-Alone m);
  firm = λ limit m h o. unit-Firm (unit_levels-Grows m) (levels-Filled m) (levels-Filled (suc m)) (unit_levels-Firm limit no_requires m) (room limit m h o);
})

pub unit_tokens : WholeTokens units
unit_tokens = even_tokens units (λ m. unit-Even (unit_levels no_requires m))
