-- What a name is where it stands ([basic.lookup.unqual]).
use Rattle.std.specs.Prelude.{ℕ, Bool, List, Option, None, Some}
use denote.Enum.Bare.{sameb}
use Rattle.cx_names.specs.declared.name_kind.NameKind.{NameKind}
use Rattle.cx_names.specs.declared.name_kind.NameKind.TheVariants.{Value}
use Rattle.cx_names.specs.contracts.name_kind.NameKind.{the_type}
use Rattle.cx_names.specs.Frames.{Frames, kind_in}

-- whether two kinds are one: `==` on them
unfoldable pub same_kind : NameKind → NameKind → Bool
same_kind = sameb the_type

-- whether what is known of a name is a kind; a name that is not declared is a value
abbrev pub is_known_as : NameKind → Option NameKind → Bool
is_known_as kind None = same_kind Value kind
is_known_as kind (Some known) = same_kind known kind

-- Whether a name is of a kind, by its innermost declaration.
unfoldable pub is_kind : NameKind → Frames → List ℕ → Bool
is_kind kind frames name = is_known_as kind (kind_in frames name)
