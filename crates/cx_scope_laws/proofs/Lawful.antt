-- The laws of noting, declaring, entering and leaving.
use Rattle.std.proofs.Common.{◌≡◌, ◌≢◌, ℕ, Bool, true, false, cond, List, [], ◌∷◌, Option, Some, refl, ap, sym, ◌∙◌}
use Rattle.std.specs.Prelude.{fold}
use Rattle.std.specs.Option.{option_map, option_map_or, option_or}
use Rattle.std.specs.Str.{bytes_eq}
use Rattle.std.proofs.lemmas.Bool.{false_from_ne_true}
use Rattle.std.proofs.lemmas.Slice.Eq.{bytes_eq-Decides}
use Rattle.cx_base.specs.declared.place.Place.{Place}
use Rattle.cx_names.specs.declared.name_kind.NameKind.{NameKind}
use Rattle.cx_names.specs.Frames.{Entry, Frame, Frames, kind_after, entry_in, kind_in, with_name, noted, nowhere, left}
use Rattle.cx_scope_laws.specs.Laws.{NotedHasKind, DeclaredHasKind, NotedKeepsOthers, DeclaredKeepsOthers, NotedKeepsOuter, DeclaredKeepsOuter, LeftAsEntered}

same-self : (name : List ℕ) → bytes_eq name name ≡ true
same-self name = (bytes_eq-Decides name name).1 refl

differ : (p q : List ℕ) → p ≢ q → bytes_eq q p ≡ false
differ p q d = false_from_ne_true (bytes_eq q p) (λ t. d (sym ((bytes_eq-Decides q p).0 t)))

abbrev entry_kind : Option Entry → Option NameKind
entry_kind r = option_map (λ e. e.kind) r

-- the entry of a name that is put has the kind that the name has from then on
kind-with_name : (f : Frame) (name : List ℕ) (kind : NameKind) (at : Place)
    → entry_kind (entry_in (with_name f name kind at) name) ≡ Some (option_map_or (λ e. kind_after e.kind kind) (entry_in f name) kind)
kind-with_name [] name kind at = rw (same-self name) refl
kind-with_name (e ∷ es) name kind at = here (bytes_eq name e.name) refl (kind-with_name es name kind at)
  where
    here : (b : Bool) → bytes_eq name e.name ≡ b
        → entry_kind (entry_in (with_name es name kind at) name) ≡ Some (option_map_or (λ e. kind_after e.kind kind) (entry_in es name) kind)
        → entry_kind (entry_in (cond b (record { name = e.name; kind = kind_after e.kind kind; at = e.at } ∷ es) (e ∷ with_name es name kind at)) name)
        ≡ Some (option_map_or (λ e. kind_after e.kind kind) (cond b (Some e) (entry_in es name)) kind)
    here true h k = rw h refl
    here false h k = rw h k

-- the entry of another name stays
entry-with_name : (f : Frame) (name other : List ℕ) (kind : NameKind) (at : Place) → name ≢ other → entry_in (with_name f name kind at) other ≡ entry_in f other
entry-with_name [] name other kind at d = rw (differ name other d) refl
entry-with_name (e ∷ es) name other kind at d = here (bytes_eq name e.name) refl (entry-with_name es name other kind at d)
  where
    here : (b : Bool) → bytes_eq name e.name ≡ b → entry_in (with_name es name kind at) other ≡ entry_in es other
        → entry_in (cond b (record { name = e.name; kind = kind_after e.kind kind; at = e.at } ∷ es) (e ∷ with_name es name kind at)) other
        ≡ cond (bytes_eq other e.name) (Some e) (entry_in es other)
    here true h k =
        let apart : bytes_eq other e.name ≡ false = differ e.name other (λ s. d ((bytes_eq-Decides name e.name).0 h ∙ s)) in
        rw apart refl
    here false h k = ap (cond (bytes_eq other e.name) (Some e)) k

pub declared_has_kind : DeclaredHasKind
declared_has_kind f fs name kind at = ap (λ (r : Option NameKind). option_or r (kind_in fs name)) (kind-with_name f name kind at)

pub noted_has_kind : NotedHasKind
noted_has_kind f fs name kind = declared_has_kind f fs name kind nowhere

pub declared_keeps_others : DeclaredKeepsOthers
declared_keeps_others [] name other kind at d = refl
declared_keeps_others (f ∷ fs) name other kind at d =
    ap (λ (r : Option Entry). option_or (entry_kind r) (kind_in fs other)) (entry-with_name f name other kind at d)

pub noted_keeps_others : NotedKeepsOthers
noted_keeps_others frames name other kind d = declared_keeps_others frames name other kind nowhere d

pub declared_keeps_outer : DeclaredKeepsOuter
declared_keeps_outer [] name kind at = refl
declared_keeps_outer (f ∷ fs) name kind at = refl

pub noted_keeps_outer : NotedKeepsOuter
noted_keeps_outer frames name kind = declared_keeps_outer frames name kind nowhere

left_behind : (f : Frame) (frames : Frames) (names : List (List ℕ × NameKind)) → left (fold (λ now n. noted now n.0 n.1) (f ∷ frames) names) ≡ frames
left_behind f frames [] = refl
left_behind f frames (n ∷ ns) = left_behind (with_name f n.0 n.1 nowhere) frames ns

pub left_as_entered : LeftAsEntered
left_as_entered frames names = left_behind [] frames names
