-- What a call answers that parses a production from an index of a unit's tokens on.
use Rattle.std.specs.Prelude.{ℕ, List, drop, Result}
use Rattle.cx_base.specs.declared.stop.Stop.{Stop}
use Rattle.cx_lexer.specs.Tokens.{TokenTree}
use Rattle.cx_grammar.specs.Expressions.{no_requires}
use Rattle.cx_grammar.specs.Pieces.{pieces}
use Rattle.cx_grammar.specs.Production.{Gives}
use Rattle.cx_grammar.specs.Types.{Numbered}
use Rattle.cx_grammar.specs.Laws.{Levelled, Answers}

-- The greatest load that a token may have.
abbrev pub load_limit : ℕ
load_limit = 256

-- What the call gives is what the production's reader gives for the tokens from the index on, going deep enough, and so
-- what the grammar answers: where the most of them that begin a tree are one, that tree, the number of the next node and
-- the index behind them; else the fault at the token behind, or the limit at the first token before it whose load passes
-- it. Which fault stands at the word of a requires-expression the reader says: it is unsupported where a primary
-- expression may begin, else it does not fit.
abbrev pub Parses : {X A : Type 0} → (X → A) → Levelled (Numbered A) → List TokenTree → ℕ → ℕ → Result (X × ℕ) Stop → Type 0
Parses view p tokens from next result =
    (level : ℕ)
    × Answers no_requires load_limit p (pieces (drop from tokens)) ((p level).read load_limit (pieces (drop from tokens)))
    × Gives (λ x. ((view x.0, next), pieces (drop x.1 tokens))) result ((p level).read load_limit (pieces (drop from tokens)))
