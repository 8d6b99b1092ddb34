-- What follows from the definitions, as the layers above use it.
use Rattle.std.specs.Prelude.{◌≡◌, ◌≢◌, ℕ, List, ◌∷◌, Some, fold}
use Rattle.std.specs.Option.{option_map_or}
use Rattle.cx_base.specs.declared.place.Place.{Place}
use Rattle.cx_names.specs.declared.name_kind.NameKind.{NameKind}
use Rattle.cx_names.specs.Frames.{Frame, Frames, kind_after, entry_in, kind_in, noted, declared, entered, left}

-- a name that is noted, or declared, has then that kind, or stays a function template where a function follows
abbrev pub NotedHasKind : Type 0
NotedHasKind = (f : Frame) (fs : Frames) (name : List ℕ) (kind : NameKind)
    → kind_in (noted (f ∷ fs) name kind) name ≡ Some (option_map_or (λ e. kind_after e.kind kind) (entry_in f name) kind)

abbrev pub DeclaredHasKind : Type 0
DeclaredHasKind = (f : Frame) (fs : Frames) (name : List ℕ) (kind : NameKind) (at : Place)
    → kind_in (declared (f ∷ fs) name kind at) name ≡ Some (option_map_or (λ e. kind_after e.kind kind) (entry_in f name) kind)

-- every other name keeps what it is
abbrev pub NotedKeepsOthers : Type 0
NotedKeepsOthers = (frames : Frames) (name other : List ℕ) (kind : NameKind) → name ≢ other → kind_in (noted frames name kind) other ≡ kind_in frames other

abbrev pub DeclaredKeepsOthers : Type 0
DeclaredKeepsOthers = (frames : Frames) (name other : List ℕ) (kind : NameKind) (at : Place)
    → name ≢ other → kind_in (declared frames name kind at) other ≡ kind_in frames other

-- the scopes around the innermost stay as they are
abbrev pub NotedKeepsOuter : Type 0
NotedKeepsOuter = (frames : Frames) (name : List ℕ) (kind : NameKind) → left (noted frames name kind) ≡ left frames

abbrev pub DeclaredKeepsOuter : Type 0
DeclaredKeepsOuter = (frames : Frames) (name : List ℕ) (kind : NameKind) (at : Place) → left (declared frames name kind at) ≡ left frames

-- a scope that opens changes no name
abbrev pub EnteredKeepsKinds : Type 0
EnteredKeepsKinds = (frames : Frames) (name : List ℕ) → kind_in (entered frames) name ≡ kind_in frames name

-- whatever is noted in a scope, it leaves nothing behind
abbrev pub LeftAsEntered : Type 0
LeftAsEntered = (frames : Frames) (names : List (List ℕ × NameKind)) → left (fold (λ now n. noted now n.0 n.1) (entered frames) names) ≡ frames
