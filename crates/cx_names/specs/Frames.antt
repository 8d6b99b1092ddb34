-- Scopes, and the names that they hold ([basic.scope]).
use Rattle.std.specs.Prelude.{◌≡◌, ℕ, zero, suc, Bool, true, false, ◌&&◌, not, List, [], ◌∷◌, Option, Some, None, if◌then◌else◌}
use Rattle.std.specs.Option.{option_map, option_map_or, option_or}
use Rattle.std.specs.Str.{bytes_eq}
use Rattle.cx_base.specs.declared.fault.Fault.{Fault}
use Rattle.cx_base.specs.declared.kind.Kind.TheVariants as fault
use Rattle.cx_base.specs.declared.place.Place.{Place}
use Rattle.cx_names.specs.declared.name_kind.NameKind.{NameKind}
use Rattle.cx_names.specs.declared.name_kind.NameKind.TheVariants.{Value, TypeName, ClassTemplate, Function, FunctionTemplate, Concept}

-- A name that a scope holds: its bytes, what it names, and where it was first declared.
pub record Entry : Type 0 where
  pub name : List ℕ
  pub kind : NameKind
  pub at : Place

-- One scope: its names in the order in which they were first noted.
abbrev pub Frame : Type 0
Frame = List Entry

-- The scopes that are open at a place, innermost first.
abbrev pub Frames : Type 0
Frames = List Frame

-- The place of a name that is only noted: no byte's.
abbrev pub nowhere : Place
nowhere = record { line = 0; col = 0 }

-- A function, or a function template: several of them may share a name ([over]).
abbrev pub is_function : NameKind → Bool
is_function Value = false
is_function TypeName = false
is_function ClassTemplate = false
is_function Function = true
is_function FunctionTemplate = true
is_function Concept = false

-- What a name is once it is said again: a function template stays one where a function follows.
abbrev pub kind_after : NameKind → NameKind → NameKind
kind_after FunctionTemplate Function = FunctionTemplate
kind_after earlier later = later

-- The entry of a name in one scope.
abbrev pub entry_in : Frame → List ℕ → Option Entry
entry_in [] name = None
entry_in (e ∷ es) name = if bytes_eq name e.name then Some e else entry_in es name

-- Each name stands once in a scope.
abbrev pub NamesOnce : Frame → Type 0
NamesOnce [] = Unit {0}
NamesOnce (e ∷ es) = (entry_in es e.name ≡ None) × NamesOnce es

-- Each name stands once in each of the scopes.
abbrev pub HasEachOnce : Frames → Type 0
HasEachOnce [] = Unit {0}
HasEachOnce (f ∷ fs) = NamesOnce f × HasEachOnce fs

-- Unqualified lookup ([basic.lookup.unqual]): what a name is in the innermost scope that has it.
abbrev pub kind_in : Frames → List ℕ → Option NameKind
kind_in [] name = None
kind_in (f ∷ fs) name = option_or (option_map (λ e. e.kind) (entry_in f name)) (kind_in fs name)

-- One scope with a name's kind set: an entry that is there keeps its place, a new one stands last.
abbrev pub with_name : Frame → List ℕ → NameKind → Place → Frame
with_name [] name kind at = record { name = name; kind = kind; at = at } ∷ []
with_name (e ∷ es) name kind at =
    if bytes_eq name e.name then record { name = e.name; kind = kind_after e.kind kind; at = e.at } ∷ es else e ∷ with_name es name kind at

-- A name is declared at a place in the innermost scope.
abbrev pub declared : Frames → List ℕ → NameKind → Place → Frames
declared [] name kind at = []
declared (f ∷ fs) name kind at = with_name f name kind at ∷ fs

-- A name is noted in the innermost scope: declared, but at no place.
abbrev pub noted : Frames → List ℕ → NameKind → Frames
noted frames name kind = declared frames name kind nowhere

-- A name is noted in the scope that stands so many scopes around the innermost one.
abbrev pub noted_around : ℕ → Frames → List ℕ → NameKind → Frames
noted_around zero frames name kind = noted frames name kind
noted_around (suc n) [] name kind = []
noted_around (suc n) (f ∷ fs) name kind = f ∷ noted_around n fs name kind

-- The entry that a name has in the innermost scope.
abbrev pub innermost_entry : Frames → List ℕ → Option Entry
innermost_entry [] name = None
innermost_entry (f ∷ fs) name = entry_in f name

-- A declaration conflicts with an earlier one of the name in its scope ([basic.scope.declarative]), if not both are functions.
abbrev pub is_redeclared : Frames → List ℕ → NameKind → Bool
is_redeclared frames name kind = option_map_or (λ e. not (is_function e.kind && is_function kind)) (innermost_entry frames name) false

-- The fault of a declaration that conflicts: it stands at the later one, and `also` has the earlier one alone.
abbrev pub redeclaration : Frames → List ℕ → Place → Fault
redeclaration frames name at =
    record { kind = fault.Redeclared; at = at; also = option_map_or (λ e. e.at) (innermost_entry frames name) nowhere ∷ []; chain = [] }

-- A scope opens, with no names.
abbrev pub entered : Frames → Frames
entered frames = [] ∷ frames

-- The innermost scope closes.
abbrev pub left : Frames → Frames
left [] = []
left (f ∷ fs) = fs
