-- What a unit's bytes are: the first stop of the stages, else their plain unit.
--
-- The stages are, in this order: the limit on the bytes; BadByte; the other faults of tokens, by place; the grammar, with
-- the limit on the depth; the forms that are not built; the names; the plain unit.
use Rattle.std.specs.Prelude.{◌≡◌, ◌⊎◌, ℕ, List, length, nat_lt, Result, Err, if◌then◌else◌}
use Rattle.cx_base.specs.Refusal.{Refusal, Passed, ◌>>=◌}
use Rattle.cx_base.specs.declared.kind.Kind.{Kind}
use Rattle.cx_base.specs.declared.kind.Kind.TheVariants as fault
use Rattle.cx_base.specs.declared.limit.Limit.TheVariants as limit
use Rattle.cx_base.specs.declared.place.Place.{Place}
use Rattle.cx_lexer.specs.Reading.{lexed}
use Rattle.cx_lexer.specs.Tokens.{TokenTree}
use Rattle.cx_parse_decl.specs.Units.{unit_at}
use Rattle.cx_tree.specs.Declarations.{UnitTree}
use Rattle.cx_plain.specs.PlainTree.{PlainTree}
use Rattle.cx_engine.specs.Plain.{translated}

-- How many bytes a unit may have.
abbrev pub source_limit : ℕ
source_limit = 4194304

-- The place of what the whole input passes.
abbrev pub no_place : Place
no_place = record { line = 0; col = 0 }

-- The kinds of fault of the grammar.
abbrev pub IsGrammatical : Kind → Type 0
IsGrammatical k = (k ≡ fault.Syntax) ⊎ (k ≡ fault.Unsupported)

-- The kinds of fault of the names.
abbrev pub IsNaming : Kind → Type 0
IsNaming k = (k ≡ fault.Redeclared) ⊎ (k ≡ fault.UnknownName)

-- The tree of the bytes: all tokens, then the grammar.
unfoldable pub tree_of : List ℕ → Result UnitTree Refusal
tree_of bytes = do
  ts ← lexed bytes
  unit_at ts

-- The stages behind the tokens: the grammar, then the forms, the names and the plain unit.
abbrev pub judged_tokens : List TokenTree → Result PlainTree Refusal
judged_tokens ts = do
  unit ← unit_at ts
  translated unit

-- The stages behind the limit on the bytes: the tree, then the forms, the names and the plain unit.
unfoldable pub judged : List ℕ → Result PlainTree Refusal
judged bytes = do
  unit ← tree_of bytes
  translated unit

-- The verdict on a unit's bytes.
unfoldable pub verdict : List ℕ → Result PlainTree Refusal
verdict bytes = if nat_lt source_limit (length bytes) then Err (Passed limit.Source no_place) else judged bytes
