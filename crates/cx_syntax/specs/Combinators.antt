-- What is built of productions: nodes, names and scopes; parts that may be left out; brackets and lists.
use Rattle.std.specs.Prelude.{ℕ, ◌+◌, Bool, true, false, List, [], ◌∷◌, ◌++◌, Option, Some, None}
use Rattle.cx_base.specs.declared.place.Place.{Place}
use Rattle.cx_tokens.specs.declared.punctuator.Punctuator.{Punctuator}
use Rattle.cx_tokens.specs.declared.punctuator.Punctuator.TheVariants as punctuator
use Rattle.cx_tokens.specs.Pieces.{Piece}
use Rattle.cx_names.specs.declared.name_kind.NameKind.{NameKind}
use Rattle.cx_names.specs.Frames.{noted, noted_around, entered, left}
use Rattle.cx_syntax.specs.declared.context.Context.{Context}
use Rattle.cx_syntax.specs.Contexts.{deeper, inside, listed}
use Rattle.cx_syntax.specs.Productions.{Production, Class, give, step, ◌>>=◌, token, when, repeat}
use Rattle.cx_syntax.specs.Classes.{word, punct, closing, any_but}

-- ---- nodes, names, scopes

-- A node takes the next number: a tree's own node comes after those of its parts.
abbrev pub node : Production ℕ
node = step (λ n names. (n, n + 1, names))

-- A name is declared in the innermost scope, or in one so many scopes around it.
abbrev pub note : List ℕ → NameKind → Production (Unit {0})
note name kind = step (λ n names. (tt, n, noted names name kind))

abbrev pub note_around : ℕ → List ℕ → NameKind → Production (Unit {0})
note_around depth name kind = step (λ n names. (tt, n, noted_around depth names name kind))

abbrev pub enter : Production (Unit {0})
enter = step (λ n names. (tt, n, entered names))

abbrev pub leave : Production (Unit {0})
leave = step (λ n names. (tt, n, left names))

-- A production in a scope of its own: the names that it declares are forgotten after it ([basic.scope]).
abbrev pub in_scope : {A : Type 0} → Production A → Production A
in_scope p = do
  opened ← enter
  x ← p
  closed ← leave
  give x

-- ---- parts that may be left out

-- A part that begins with a piece of a class, or its value where it is left out.
abbrev pub optional : {A : Type 0} → Class → Production A → A → Production A
optional q p x = when q p (give x)

-- A part, or none.
abbrev pub maybe : {A : Type 0} → Class → Production A → Production (Option A)
maybe q p = when q
    (do
      x ← p
      give (Some x))
    (give None)

-- Whether a piece of a class stands there; it is passed over.
abbrev pub flag : Context → Class → Production Bool
flag c q = when q
    (do
      t ← token c q
      give true)
    (give false)

-- ---- brackets: each pair is a construct, and its own two tokens stand within it

-- what stands in brackets, and where its opening bracket stands
pub record Bracketed (A : Type 0) : Type 0 where
  pub at : Place
  pub item : A

abbrev pub bracketed : {A : Type 0} → Punctuator → Punctuator → Context → (Context → Production A) → Production (Bracketed A)
bracketed left_one right_one c p = do
  opening ← token (deeper c) (punct left_one)
  x ← p (inside c)
  closing ← token (deeper c) (punct right_one)
  give (record { at = opening.token.at; item = x })

-- `(` p `)`
abbrev pub in_parentheses : {A : Type 0} → Context → (Context → Production A) → Production (Bracketed A)
in_parentheses = bracketed punctuator.LeftParenthesis punctuator.RightParenthesis

-- `{` p `}`
abbrev pub in_braces : {A : Type 0} → Context → (Context → Production A) → Production (Bracketed A)
in_braces = bracketed punctuator.LeftBrace punctuator.RightBrace

-- `<` p `>`, a list of template arguments or parameters, or the type of a cast: `>` may be a half of `>>`
abbrev pub in_angles : {A : Type 0} → Context → (Context → Production A) → Production A
in_angles c p = do
  less ← token (deeper c) (punct punctuator.Less)
  x ← p (listed c)
  greater ← token (deeper c) (closing (listed c).lists)
  give x

-- ---- lists

abbrev pub one_more : {A : Type 0} → Context → Production A → List A → Production (List A)
one_more c item so_far = do
  comma ← token c (punct punctuator.Comma)
  x ← item
  give (so_far ++ x ∷ [])

-- items { "," item }, the first of which is read
abbrev pub separated_after : {A : Type 0} → Context → Production A → A → Production (List A)
separated_after c item first = repeat (λ so_far. punct punctuator.Comma) (one_more c item) (first ∷ [])

-- item { "," item }
abbrev pub separated : {A : Type 0} → Context → Production A → Production (List A)
separated c item = do
  first ← item
  separated_after c item first

-- [ item { "," item } ], up to what closes the list
abbrev pub separated_until : {A : Type 0} → Class → Context → Production A → Production (List A)
separated_until close c item = when close (give []) (separated c item)

abbrev pub one_more_item : {A : Type 0} → Production A → List A → Production (List A)
one_more_item item so_far = do
  x ← item
  give (so_far ++ x ∷ [])

-- { item }, up to a piece of a class
abbrev pub items_until : {A : Type 0} → Class → Production A → Production (List A)
items_until close item = repeat (λ so_far. any_but close) (one_more_item item) []
