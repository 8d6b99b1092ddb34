-- Where tokens end.
use Rattle.std.specs.Prelude.{◌≡◌, ◌≢◌, List, [], ◌∷◌}
use Rattle.cx_tokens.specs.declared.token.TokenKind.TheVariants as kind
use Rattle.cx_tokens.specs.Tokens.{TokenTree}

-- The end of the text stands last, and nowhere else.
abbrev pub EndsOnce : List TokenTree → Type 0
EndsOnce [] = ⊥
EndsOnce (t ∷ []) = t.kind ≡ kind.End
EndsOnce (t ∷ u ∷ ts) = (t.kind ≢ kind.End) × EndsOnce (u ∷ ts)
