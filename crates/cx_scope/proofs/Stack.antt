-- The vector of scopes, the innermost last, against the list of them, innermost first.
use Rattle.std.proofs.Common.{◌≡◌, ℕ, suc, ◌<◌, ◌≤◌, List, [], ◌∷◌, ◌++◌, Result, Ok, Err, OnOk, OnErr, length, get_or, set, take, reverse, ap, sym, ◌∙◌}
use Rattle.std.proofs.lemmas.List.{reverse-append, set_split, set-get_or, drop_all}
use Rattle.std.specs.Option.{option_map, option_or}
use Rattle.cx_base.specs.declared.place.Place.{Place}
use Rattle.cx_scope.specs.declared.name_kind.NameKind.{NameKind}
use Rattle.cx_scope.specs.Frames.{Frame, Frames, entry_in, kind_in, with_name, declared, HasEachOnce}
use Rattle.cx_scope.proofs.Lawful.{once-declared}

-- the last comes first
pub reverse-push : (fs : List Frame) (f : Frame) → reverse (fs ++ f ∷ []) ≡ f ∷ reverse fs
reverse-push fs f = reverse-append fs (f ∷ [])

-- also where it is replaced
pub reverse-set_last : (fs : List Frame) (i : ℕ) (f : Frame) → i < length fs → length fs ≤ suc i → reverse (set fs i f) ≡ f ∷ reverse (take i fs)
reverse-set_last fs i f h k = rw (set_split fs i f h, drop_all (suc i) fs k) (reverse-push (take i fs) f)

-- a name that is put into the last is declared in the first
pub declared-set_last : (fs : List Frame) (i : ℕ) (f g : Frame) (name : List ℕ) (kind : NameKind) (at : Place) → i < length fs → length fs ≤ suc i
    → f ≡ get_or fs i f → g ≡ with_name f name kind at → reverse (set fs i g) ≡ declared (reverse fs) name kind at
declared-set_last fs i f g name kind at h k e p =
    let whole : reverse fs ≡ f ∷ reverse (take i fs) =
    ap reverse (sym (set-get_or fs i f)) ∙ reverse-set_last fs i (get_or fs i f) h k ∙ ap (λ (x : Frame). x ∷ reverse (take i fs)) (sym e) in
    rw whole (reverse-set_last fs i g h k ∙ ap (λ (x : Frame). x ∷ reverse (take i fs)) p)

-- where the last stays, all stay
pub kept-set_last : (fs : List Frame) (i : ℕ) (f g : Frame) → f ≡ get_or fs i f → g ≡ f → reverse (set fs i g) ≡ reverse fs
kept-set_last fs i f g e p = ap (λ (x : Frame). reverse (set fs i x)) (p ∙ e) ∙ ap reverse (set-get_or fs i f)

-- the last is looked into first
pub kind_in-push : (fs : List Frame) (f : Frame) (name : List ℕ) → kind_in (reverse (fs ++ f ∷ [])) name ≡ option_or (option_map (λ e. e.kind) (entry_in f name)) (kind_in (reverse fs) name)
kind_in-push fs f name = ap (λ (gs : Frames). kind_in gs name) (reverse-push fs f)

-- either way each name stands once, if it did
pub once-put : {E : Type 0} (r : Result (Unit {0}) E) (old new : Frames) (name : List ℕ) (kind : NameKind) (at : Place)
    → OnOk r (new ≡ declared old name kind at) → OnErr r (new ≡ old) → HasEachOnce old → HasEachOnce new
once-put (Ok x) old new name kind at k e h = rw k (once-declared old name kind at h)
once-put (Err x) old new name kind at k e h = rw e h
