-- Tokens without where they lie in memory.
use Rattle.std.specs.Prelude.{ℕ, List}
use Rattle.cx_base.specs.declared.place.Place.{Place}
use Rattle.cx_tokens.specs.declared.token.Token.{Token}
use Rattle.cx_tokens.specs.declared.token.TokenKind.{TokenKind}

pub record TokenTree : Type 0 where
  pub kind : TokenKind
  pub text : List ℕ
  pub at : Place

-- what a token of the code stands for
abbrev pub token_tree : Token → TokenTree
token_tree t = record { kind = t.kind; text = t.text.now; at = t.at }
