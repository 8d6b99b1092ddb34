-- What declaring keeps: each name stands once.
use Rattle.std.proofs.Common.{◌≡◌, ◌≢◌, ℕ, Bool, true, false, cond, length, List, [], ◌∷◌, Some, refl, ap, sym, ◌∙◌}
use Rattle.std.specs.Str.{bytes_eq}
use Rattle.std.proofs.lemmas.Bool.{false_from_ne_true}
use Rattle.std.proofs.lemmas.Slice.Eq.{bytes_eq-Decides}
use Rattle.cx_base.specs.declared.place.Place.{Place}
use Rattle.cx_names.specs.declared.name_kind.NameKind.{NameKind}
use Rattle.cx_names.specs.Frames.{Frame, Frames, NamesOnce, HasEachOnce, kind_after, entry_in, with_name, declared}

same-self : (name : List ℕ) → bytes_eq name name ≡ true
same-self name = (bytes_eq-Decides name name).1 refl

differ : (p q : List ℕ) → p ≢ q → bytes_eq q p ≡ false
differ p q d = false_from_ne_true (bytes_eq q p) (λ t. d (sym ((bytes_eq-Decides q p).0 t)))

-- the entry of another name stays
entry-with_name : (f : Frame) (name other : List ℕ) (kind : NameKind) (at : Place) → name ≢ other → entry_in (with_name f name kind at) other ≡ entry_in f other
entry-with_name [] name other kind at d = rw (differ name other d) refl
entry-with_name (e ∷ es) name other kind at d = here (bytes_eq name e.name) refl (entry-with_name es name other kind at d)
  where
    here : (b : Bool) → bytes_eq name e.name ≡ b → entry_in (with_name es name kind at) other ≡ entry_in es other
        → entry_in (cond b (record { name = e.name; kind = kind_after e.kind kind; at = e.at } ∷ es) (e ∷ with_name es name kind at)) other
        ≡ cond (bytes_eq other e.name) (Some e) (entry_in es other)
    here true h k =
        let apart : bytes_eq other e.name ≡ false = differ e.name other (λ s. d ((bytes_eq-Decides name e.name).0 h ∙ s)) in
        rw apart refl
    here false h k = ap (cond (bytes_eq other e.name) (Some e)) k

-- a name that is put stands once
once-with_name : (f : Frame) (name : List ℕ) (kind : NameKind) (at : Place) → NamesOnce f → NamesOnce (with_name f name kind at)
once-with_name [] name kind at h = (refl, tt)
once-with_name (e ∷ es) name kind at h = here (bytes_eq name e.name) refl (once-with_name es name kind at h.1)
  where
    here : (b : Bool) → bytes_eq name e.name ≡ b → NamesOnce (with_name es name kind at)
        → NamesOnce (cond b (record { name = e.name; kind = kind_after e.kind kind; at = e.at } ∷ es) (e ∷ with_name es name kind at))
    here true b k = h
    here false b k =
        let apart : name ≢ e.name = λ s. cc ((bytes_eq-Decides name e.name).1 s, b) in
        (entry-with_name es name e.name kind at apart ∙ h.0, k)

pub once-declared : (frames : Frames) (name : List ℕ) (kind : NameKind) (at : Place) → HasEachOnce frames → HasEachOnce (declared frames name kind at)
once-declared [] name kind at h = tt
once-declared (f ∷ fs) name kind at h = (once-with_name f name kind at h.0, h.1)

-- as many scopes are open as before
pub length-declared : (frames : Frames) (name : List ℕ) (kind : NameKind) (at : Place) → length (declared frames name kind at) ≡ length frames
length-declared [] name kind at = refl
length-declared (f ∷ fs) name kind at = refl
