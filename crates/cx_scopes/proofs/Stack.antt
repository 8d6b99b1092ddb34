-- The vector of scopes, the innermost last, against the list of them, innermost first.
use Rattle.std.proofs.Common.{◌≡◌, ℕ, zero, suc, ◌+◌, ◌<◌, ◌≤◌, List, [], ◌∷◌, ◌++◌, Result, Ok, Err, OnOk, OnErr, length, get_or, set, take, drop, reverse, refl, ap, sym, ◌∙◌, arith}
use Rattle.std.proofs.lemmas.List.{reverse-append, set_split, set-get_or, drop_all, length-reverse, length-drop, append_assoc}
use Rattle.std.specs.Option.{option_map, option_or}
use Rattle.cx_base.specs.declared.place.Place.{Place}
use Rattle.cx_names.specs.declared.name_kind.NameKind.{NameKind}
use Rattle.cx_names.specs.Frames.{Frame, Frames, entry_in, kind_in, with_name, declared, noted_around, nowhere, HasEachOnce}
use Rattle.cx_scopes.proofs.Lawful.{once-declared}

-- the last comes first
pub reverse-push : (fs : List Frame) (f : Frame) → reverse (fs ++ f ∷ []) ≡ f ∷ reverse fs
reverse-push fs f = reverse-append fs (f ∷ [])

-- also where it is replaced
pub reverse-set_last : (fs : List Frame) (i : ℕ) (f : Frame) → i < length fs → length fs ≤ suc i → reverse (set fs i f) ≡ f ∷ reverse (take i fs)
reverse-set_last fs i f h k = rw (set_split fs i f h, drop_all (suc i) fs k) (reverse-push (take i fs) f)

-- a name that is put into the last is declared in the first
pub declared-set_last : (fs : List Frame) (i : ℕ) (f g : Frame) (name : List ℕ) (kind : NameKind) (at : Place) → i < length fs → length fs ≤ suc i
    → f ≡ get_or fs i f → g ≡ with_name f name kind at → reverse (set fs i g) ≡ declared (reverse fs) name kind at
declared-set_last fs i f g name kind at h k e p =
    let whole : reverse fs ≡ f ∷ reverse (take i fs) =
    ap reverse (sym (set-get_or fs i f)) ∙ reverse-set_last fs i (get_or fs i f) h k ∙ ap (λ (x : Frame). x ∷ reverse (take i fs)) (sym e) in
    rw whole (reverse-set_last fs i g h k ∙ ap (λ (x : Frame). x ∷ reverse (take i fs)) p)

-- where the last stays, all stay
pub kept-set_last : (fs : List Frame) (i : ℕ) (f g : Frame) → f ≡ get_or fs i f → g ≡ f → reverse (set fs i g) ≡ reverse fs
kept-set_last fs i f g e p = ap (λ (x : Frame). reverse (set fs i x)) (p ∙ e) ∙ ap reverse (set-get_or fs i f)

-- the last is looked into first
pub kind_in-push : (fs : List Frame) (f : Frame) (name : List ℕ) → kind_in (reverse (fs ++ f ∷ [])) name ≡ option_or (option_map (λ e. e.kind) (entry_in f name)) (kind_in (reverse fs) name)
kind_in-push fs f name = ap (λ (gs : Frames). kind_in gs name) (reverse-push fs f)

-- either way each name stands once, if it did
pub once-put : {E : Type 0} (r : Result (Unit {0}) E) (old new : Frames) (name : List ℕ) (kind : NameKind) (at : Place)
    → OnOk r (new ≡ declared old name kind at) → OnErr r (new ≡ old) → HasEachOnce old → HasEachOnce new
once-put (Ok x) old new name kind at k e h = rw k (once-declared old name kind at h)
once-put (Err x) old new name kind at k e h = rw e h

-- ---- a scope around the innermost

around : (xs ys : List Frame) (f : Frame) (name : List ℕ) (kind : NameKind) → noted_around (length xs) (xs ++ f ∷ ys) name kind ≡ xs ++ with_name f name kind nowhere ∷ ys
around [] ys f name kind = refl
around (x ∷ xs) ys f name kind = ap (λ (gs : Frames). x ∷ gs) (around xs ys f name kind)

-- what comes after the one that is replaced comes before it
reverse-set : (fs : List Frame) (i : ℕ) (g : Frame) → i < length fs → reverse (set fs i g) ≡ reverse (drop (suc i) fs) ++ g ∷ reverse (take i fs)
reverse-set fs i g h =
    ap reverse (set_split fs i g h) ∙ reverse-append (take i fs) (g ∷ drop (suc i) fs)
    ∙ ap (λ (gs : Frames). gs ++ reverse (take i fs)) (reverse-append (g ∷ []) (drop (suc i) fs))
    ∙ append_assoc (reverse (drop (suc i) fs)) (g ∷ []) (reverse (take i fs))

-- a name that is put into one is noted in the one that stands so many around the innermost
pub noted-set : (fs : List Frame) (i depth : ℕ) (f g : Frame) (name : List ℕ) (kind : NameKind) → i + suc depth ≡ length fs
    → f ≡ get_or fs i f → g ≡ with_name f name kind nowhere → reverse (set fs i g) ≡ noted_around depth (reverse fs) name kind
noted-set fs i depth f g name kind h e p =
    let within : i < length fs = omega arith in
    let whole : reverse fs ≡ reverse (drop (suc i) fs) ++ f ∷ reverse (take i fs) =
    ap reverse (sym (set-get_or fs i f)) ∙ reverse-set fs i (get_or fs i f) within ∙ ap (λ (x : Frame). reverse (drop (suc i) fs) ++ x ∷ reverse (take i fs)) (sym e) in
    let many : length (reverse (drop (suc i) fs)) ≡ depth = length-reverse (drop (suc i) fs) ∙ length-drop (suc i) fs ∙ (omega arith) in
    reverse-set fs i g within
    ∙ ap (λ (x : Frame). reverse (drop (suc i) fs) ++ x ∷ reverse (take i fs)) p
    ∙ sym (around (reverse (drop (suc i) fs)) (reverse (take i fs)) f name kind)
    ∙ ap (λ (n : ℕ). noted_around n (reverse (drop (suc i) fs) ++ f ∷ reverse (take i fs)) name kind) many
    ∙ ap (λ (gs : Frames). noted_around depth gs name kind) (sym whole)

-- each name stands once, if it did
once-around : (depth : ℕ) (frames : Frames) (name : List ℕ) (kind : NameKind) → HasEachOnce frames → HasEachOnce (noted_around depth frames name kind)
once-around zero frames name kind h = once-declared frames name kind nowhere h
once-around (suc n) [] name kind h = tt
once-around (suc n) (f ∷ fs) name kind h = (h.0, once-around n fs name kind h.1)

pub once-put_around : {E : Type 0} (r : Result (Unit {0}) E) (depth : ℕ) (old new : Frames) (name : List ℕ) (kind : NameKind)
    → OnOk r (new ≡ noted_around depth old name kind) → OnErr r (new ≡ old) → HasEachOnce old → HasEachOnce new
once-put_around (Ok x) depth old new name kind k e h = rw k (once-around depth old name kind h)
once-put_around (Err x) depth old new name kind k e h = rw e h

-- where so many are not open, none is changed
around_none : (depth : ℕ) (frames : Frames) (name : List ℕ) (kind : NameKind) → length frames ≤ depth → noted_around depth frames name kind ≡ frames
around_none zero [] name kind h = refl
around_none zero (f ∷ fs) name kind h = absurd (omega arith)
around_none (suc n) [] name kind h = refl
around_none (suc n) (f ∷ fs) name kind h = ap (λ (gs : Frames). f ∷ gs) (around_none n fs name kind (omega arith))

pub reverse_none : (depth : ℕ) (fs : List Frame) (name : List ℕ) (kind : NameKind) → length fs ≤ depth → reverse fs ≡ noted_around depth (reverse fs) name kind
reverse_none depth fs name kind h = sym (around_none depth (reverse fs) name kind (rw (length-reverse fs) h))
