-- What a table keeps, as formulas are added.
use Rattle.std.proofs.Common.{◌≡◌, ℕ, zero, suc, ◌+◌, ◌<◌, ◌≤◌, Bool, true, false, List, [], ◌∷◌, ◌++◌, map, take, length, get_or, Option, Some, refl, sym, ap, subst, ◌∙◌, ◌⊎◌, inl, inr, length-append, arith}
use Rattle.std.specs.Prelude.{slice_get, fold, IsOk, Result, Ok, Err, IfOk, OnOk, OnErr, cond, option_map}
use Rattle.std.specs.Global.{Vec}
use Rattle.std.specs.Map.{keys_of}
use Rattle.std.proofs.lemmas.List.{take_all}
use Rattle.cx_base.specs.declared.numbers.FormulaId.{FormulaId}
use Rattle.cx_base.specs.declared.numbers.NodeId.{NodeId}
use Rattle.cx_base.specs.declared.numbers.TermId.{TermId}
use Rattle.cx_base.specs.declared.stop.Stop.{Stop}
use Rattle.cx_numbered.specs.Numbered.{HasEachOnce, IsNumberOf, Grows, is_among, put}
use Rattle.cx_numbered.proofs.Numbered.{either, get_front, get_last, get_push_cases, get_below, get_or_is, get_is, get_or_front, grows_self, once_from_get, number_from_get, number_alone, put_at, put_last, put_grows, get_among}
use Rattle.cx_prop.specs.declared.counts.Counts.{Counts}
use Rattle.cx_prop.specs.declared.shape.Noted.{Noted}
use Rattle.cx_prop.specs.declared.shape.Shape.{Shape}
use Rattle.cx_prop.specs.declared.shape.Shape.TheVariants as shape
use Rattle.cx_prop.specs.Formula.{Formula, Atom, And, Or}
use Rattle.cx_prop.specs.Interned.{Interned, same_interned, no_atom}
use Rattle.cx_prop.specs.Truth.{truth, assigned}
use Rattle.cx_prop.specs.Counting.{counts_of, saturated}
use Rattle.cx_prop.specs.Table.{atoms_of, formula_at, same_stored}
use Rattle.cx_prop.specs.Kept.{Mapping, mappings, spelled, formulas_of, PointsBelow, Keeps, IsTable, Puts, Places}
use Rattle.cx_prop.proofs.Same.{same_interned-Decides, same_stored-Decides}

abbrev id : ℕ → FormulaId
id i = record { 0 = i }

formula_at-push : (ps : List (Formula Interned)) (p : Formula Interned) (i : ℕ) → i < length ps → formula_at (ps ++ p ∷ []) (id i) ≡ formula_at ps (id i)
formula_at-push ps p i h = get_or_front ps (p ∷ []) i (Atom no_atom) h

spelled-push : (maps : List Mapping) (ps : List (Formula Interned)) (p : Formula Interned) (i : ℕ) (s : Shape) → PointsBelow maps i s → i ≤ length ps → spelled maps (ps ++ p ∷ []) s ≡ spelled maps ps s
spelled-push maps ps p i (shape.Atom n m) h le = refl
spelled-push maps ps p i (shape.And f g) h le = λ j. And (formula_at-push ps p f (omega (arith, h.0)) j) (formula_at-push ps p g (omega (arith, h.1)) j)
spelled-push maps ps p i (shape.Or f g) h le = λ j. Or (formula_at-push ps p f (omega (arith, h.0)) j) (formula_at-push ps p g (omega (arith, h.1)) j)

spelled-map : (maps : List Mapping) (m : Mapping) (ps : List (Formula Interned)) (i : ℕ) (s : Shape) → PointsBelow maps i s → spelled (maps ++ m ∷ []) ps s ≡ spelled maps ps s
spelled-map maps m ps i (shape.Atom n k) h = ap (λ (o : Mapping). Atom (record { node = n; mapping = o })) (get_or_front maps (m ∷ []) k [] h)
spelled-map maps m ps i (shape.And f g) h = refl
spelled-map maps m ps i (shape.Or f g) h = refl

below-map : (maps : List Mapping) (m : Mapping) (i : ℕ) (s : Shape) → PointsBelow maps i s → PointsBelow (maps ++ m ∷ []) i s
below-map maps m i (shape.Atom n k) h = omega (arith, h, length-append maps (m ∷ []))
below-map maps m i (shape.And f g) h = h
below-map maps m i (shape.Or f g) h = h

-- ---- the formulas that shapes spell

fold-push : {A B : Type 0} (f : B → A → B) (b : B) (xs : List A) (x : A) → fold f b (xs ++ x ∷ []) ≡ f (fold f b xs) x
fold-push f b [] x = refl
fold-push f b (y ∷ xs) x = fold-push f (f b y) xs x

formulas_of-push : (maps : List Mapping) (shapes : List Shape) (s : Shape) → formulas_of maps (shapes ++ s ∷ []) ≡ formulas_of maps shapes ++ spelled maps (formulas_of maps shapes) s ∷ []
unfolding formulas_of
formulas_of-push maps shapes s = fold-push (λ ps t. ps ++ spelled maps ps t ∷ []) [] shapes s

fold-map : (maps : List Mapping) (m : Mapping) (shapes : List Shape) (ps : List (Formula Interned)) → ((i : ℕ) (s : Shape) → slice_get shapes i ≡ Some s → (k : ℕ) × PointsBelow maps k s)
    → fold (λ qs t. qs ++ spelled (maps ++ m ∷ []) qs t ∷ []) ps shapes ≡ fold (λ qs t. qs ++ spelled maps qs t ∷ []) ps shapes
fold-map maps m [] ps h = refl
fold-map maps m (s ∷ shapes) ps h =
    let here = h 0 s refl in
    ap (λ (qs : List (Formula Interned)). fold (λ rs t. rs ++ spelled (maps ++ m ∷ []) rs t ∷ []) qs shapes) (ap (λ (q : Formula Interned). ps ++ q ∷ []) (spelled-map maps m ps here.0 s here.1))
    ∙ fold-map maps m shapes (ps ++ spelled maps ps s ∷ []) (λ i t e. h (suc i) t e)

keys_at : (es : List (Shape × Noted)) (i : ℕ) (s : Shape) → slice_get (keys_of es) i ≡ Some s → (c : Noted) × (slice_get es i ≡ Some (s, c))
keys_at [] i s h = absurd cc
keys_at (e ∷ es) zero s h =
    let same : e.0 ≡ s = cc in
    (e.1, ap (λ (t : Shape). Some (t, e.1)) same)
keys_at (e ∷ es) (suc i) s h = keys_at es i s h

formulas_of-map : (maps : List Mapping) (m : Mapping) (es : List (Shape × Noted)) (ps : List (Formula Interned)) → Keeps maps es ps → formulas_of (maps ++ m ∷ []) (keys_of es) ≡ formulas_of maps (keys_of es)
unfolding formulas_of
formulas_of-map maps m es ps k = fold-map maps m (keys_of es) [] (λ i s e. (i, k.below i (s, (keys_at es i s e).0) (keys_at es i s e).1))

-- ---- one more mapping

Keeps-map : (maps : List Mapping) (m : Mapping) (es : List (Shape × Noted)) (ps : List (Formula Interned)) → Keeps maps es ps → ((j : ℕ) → slice_get maps j ≡ Some m → ⊥) → Keeps (maps ++ m ∷ []) es ps
Keeps-map maps m es ps k absent = record {
  long = k.long;
  below = λ i e h. below-map maps m i e.0 (k.below i e h);
  spells = λ i e h. k.spells i e h ∙ ap Some (sym (spelled-map maps m ps i e.0 (k.below i e h)));
  counted = λ i e h. k.counted i e h ∙ ap counts_of (sym (spelled-map maps m ps i e.0 (k.below i e h)));
  before = k.before;
  alone = k.alone;
  maps_alone = once_more maps m k.maps_alone absent;
}
  where
    once_more : {X : Type 0} (xs : List X) (x : X) → ((i j : ℕ) (y : X) → slice_get xs i ≡ Some y → slice_get xs j ≡ Some y → i ≡ j) → ((j : ℕ) → slice_get xs j ≡ Some x → ⊥)
        → (i j : ℕ) (y : X) → slice_get (xs ++ x ∷ []) i ≡ Some y → slice_get (xs ++ x ∷ []) j ≡ Some y → i ≡ j
    once_more xs x alone absent i j y h l =
        elim (get_push_cases xs x i y h) [
          | inl oldi ↦ elim (get_push_cases xs x j y l) [
            | inl oldj ↦ alone i j y oldi oldj
            | inr newj ↦ absurd (absent i (oldi ∙ ap Some newj.1))
          ]
          | inr newi ↦ elim (get_push_cases xs x j y l) [
            | inl oldj ↦ absurd (absent j (oldj ∙ ap Some newi.1))
            | inr newj ↦ newi.0 ∙ sym newj.0
          ]
        ]

-- ---- one more formula

take_front : {X : Type 0} (xs ys : List X) (i : ℕ) → i ≤ length xs → take i (xs ++ ys) ≡ take i xs
take_front [] ys zero h = refl
take_front [] ys (suc i) h = absurd (omega arith)
take_front (x ∷ xs) ys zero h = refl
take_front (x ∷ xs) ys (suc i) h = ap (λ zs. x ∷ zs) (take_front xs ys i (omega arith))

module _ (maps : List Mapping) (es : List (Shape × Noted)) (ps : List (Formula Interned)) (s : Shape) (c : Noted) (k : Keeps maps es ps)
    (here : PointsBelow maps (length es) s)
    (absent : (i : ℕ) → slice_get ps i ≡ Some (spelled maps ps s) → ⊥)
    (counted : c.counts ≡ counts_of (spelled maps ps s))
    (before : c.atoms ≡ length (atoms_of ps)) where
  abbrev q : Formula Interned
  q = spelled maps ps s

  Cases : ℕ → Shape × Noted → Type 0
  Cases i e = ((slice_get es i ≡ Some e) × (spelled maps (ps ++ q ∷ []) e.0 ≡ spelled maps ps e.0)) ⊎ ((i ≡ length es) × (e ≡ (s, c)))

  same_here : spelled maps (ps ++ q ∷ []) s ≡ q
  same_here = spelled-push maps ps q (length es) s here (omega (arith, k.long))

  cases : (i : ℕ) (e : Shape × Noted) → slice_get (es ++ (s, c) ∷ []) i ≡ Some e → Cases i e
  unfolding Cases
  cases i e h =
      elim (get_push_cases es (s, c) i e h) [
        | inl old ↦ inl (old, spelled-push maps ps q i e.0 (k.below i e old) (omega (arith, k.long, get_below es i e old)))
        | inr new ↦ inr new
      ]

  below_of : (i : ℕ) (e : Shape × Noted) → Cases i e → PointsBelow maps i e.0
  unfolding Cases
  below_of i e (inl old) = k.below i e old.0
  below_of i e (inr new) = subst (λ (t : Shape × Noted). PointsBelow maps i t.0) (sym new.1) (subst (λ (j : ℕ). PointsBelow maps j s) (sym new.0) here)

  spells_of : (i : ℕ) (e : Shape × Noted) → Cases i e → slice_get (ps ++ q ∷ []) i ≡ Some (spelled maps (ps ++ q ∷ []) e.0)
  unfolding Cases
  spells_of i e (inl old) = get_front ps (q ∷ []) i (spelled maps ps e.0) (k.spells i e old.0) ∙ ap Some (sym old.1)
  spells_of i e (inr new) =
      ap (λ (j : ℕ). slice_get (ps ++ q ∷ []) j) (new.0 ∙ sym k.long) ∙ get_last ps q ∙ ap Some (sym same_here) ∙ ap (λ (t : Shape × Noted). Some (spelled maps (ps ++ q ∷ []) t.0)) (sym new.1)

  counted_of : (i : ℕ) (e : Shape × Noted) → Cases i e → e.1.counts ≡ counts_of (spelled maps (ps ++ q ∷ []) e.0)
  unfolding Cases
  counted_of i e (inl old) = k.counted i e old.0 ∙ ap counts_of (sym old.1)
  counted_of i e (inr new) =
      ap (λ (t : Shape × Noted). t.1.counts) new.1 ∙ counted ∙ ap counts_of (sym same_here) ∙ ap (λ (t : Shape × Noted). counts_of (spelled maps (ps ++ q ∷ []) t.0)) (sym new.1)

  before_of : (i : ℕ) (e : Shape × Noted) → Cases i e → e.1.atoms ≡ length (atoms_of (take i (ps ++ q ∷ [])))
  unfolding Cases
  before_of i e (inl old) = k.before i e old.0 ∙ ap (λ (qs : List (Formula Interned)). length (atoms_of qs)) (sym (take_front ps (q ∷ []) i (omega (arith, k.long, get_below es i e old.0))))
  before_of i e (inr new) =
      ap (λ (t : Shape × Noted). t.1.atoms) new.1 ∙ before
      ∙ ap (λ (qs : List (Formula Interned)). length (atoms_of qs)) (sym (ap (λ (j : ℕ). take j (ps ++ q ∷ [])) (new.0 ∙ sym k.long) ∙ take_front ps (q ∷ []) (length ps) (omega arith) ∙ take_all (length ps) ps (omega arith)))

  alone_of : (i j : ℕ) (p : Formula Interned) → slice_get (ps ++ q ∷ []) i ≡ Some p → slice_get (ps ++ q ∷ []) j ≡ Some p → i ≡ j
  alone_of i j p h l =
      elim (get_push_cases ps q i p h) [
        | inl oldi ↦ elim (get_push_cases ps q j p l) [
          | inl oldj ↦ k.alone i j p oldi oldj
          | inr newj ↦ absurd (absent i (oldi ∙ ap Some newj.1))
        ]
        | inr newi ↦ elim (get_push_cases ps q j p l) [
          | inl oldj ↦ absurd (absent j (oldj ∙ ap Some newi.1))
          | inr newj ↦ newi.0 ∙ sym newj.0
        ]
      ]

  Keeps-push : Keeps maps (es ++ (s, c) ∷ []) (ps ++ spelled maps ps s ∷ [])
  Keeps-push = record {
    long = omega (arith, k.long, length-append ps (q ∷ []), length-append es ((s, c) ∷ []));
    below = λ i e h. below_of i e (cases i e h);
    spells = λ i e h. spells_of i e (cases i e h);
    counted = λ i e h. counted_of i e (cases i e h);
    before = λ i e h. before_of i e (cases i e h);
    alone = alone_of;
    maps_alone = k.maps_alone;
  }

-- ---- a formula's operands are smaller

abbrev pub connectives : {A : Type 0} → Formula A → ℕ
connectives (Atom a) = 0
connectives (And p q) = 1 + connectives p + connectives q
connectives (Or p q) = 1 + connectives p + connectives q

-- ---- a shape and its formula are found at one number

abbrev atom_of : NodeId → Mapping → Interned
atom_of n o = record { node = n; mapping = o }

module _ (maps : List Mapping) (es : List (Shape × Noted)) (ps : List (Formula Interned)) (k : Keeps maps es ps) where
  numbers_same : (f g : ℕ) → f < length ps → g < length ps → formula_at ps (id f) ≡ formula_at ps (id g) → f ≡ g
  numbers_same f g hf hg e = k.alone f g (formula_at ps (id g)) (get_is ps f (Atom no_atom) hf ∙ ap Some e) (get_is ps g (Atom no_atom) hg)

  maps_same : (n m : ℕ) → n < length maps → m < length maps → get_or maps n [] ≡ get_or maps m [] → n ≡ m
  maps_same n m hn hm e = k.maps_alone n m (get_or maps m []) (get_is maps n [] hn ∙ ap Some e) (get_is maps m [] hm)

  spelled-same : (i j : ℕ) (s t : Shape) → i ≤ length es → j ≤ length es → PointsBelow maps i s → PointsBelow maps j t → spelled maps ps s ≡ spelled maps ps t → s ≡ t
  spelled-same i j (shape.Atom n m) (shape.Atom n' m') li lj h l e =
      let r : atom_of n (get_or maps m []) ≡ atom_of n' (get_or maps m' []) = cc in
      λ x. shape.Atom (r x).node (maps_same m m' h l (ap (λ (a : Interned). a.mapping) r) x)
  spelled-same i j (shape.Atom n m) (shape.And f g) li lj h l e = absurd cc
  spelled-same i j (shape.Atom n m) (shape.Or f g) li lj h l e = absurd cc
  spelled-same i j (shape.And f g) (shape.Atom n m) li lj h l e = absurd cc
  spelled-same i j (shape.And f g) (shape.And f' g') li lj h l e =
      let a : formula_at ps (id f) ≡ formula_at ps (id f') = cc in
      let b : formula_at ps (id g) ≡ formula_at ps (id g') = cc in
      λ x. shape.And (numbers_same f f' (omega (arith, k.long, h.0)) (omega (arith, k.long, l.0)) a x) (numbers_same g g' (omega (arith, k.long, h.1)) (omega (arith, k.long, l.1)) b x)
  spelled-same i j (shape.And f g) (shape.Or f' g') li lj h l e = absurd cc
  spelled-same i j (shape.Or f g) (shape.Atom n m) li lj h l e = absurd cc
  spelled-same i j (shape.Or f g) (shape.And f' g') li lj h l e = absurd cc
  spelled-same i j (shape.Or f g) (shape.Or f' g') li lj h l e =
      let a : formula_at ps (id f) ≡ formula_at ps (id f') = cc in
      let b : formula_at ps (id g) ≡ formula_at ps (id g') = cc in
      λ x. shape.Or (numbers_same f f' (omega (arith, k.long, h.0)) (omega (arith, k.long, l.0)) a x) (numbers_same g g' (omega (arith, k.long, h.1)) (omega (arith, k.long, l.1)) b x)

  -- the shape of a formula that the table has
  spelled_key : (s : Shape) → PointsBelow maps (length es) s → (j : ℕ) → slice_get ps j ≡ Some (spelled maps ps s) → slice_get (keys_of es) j ≡ Some s
  spelled_key s below j h =
      let none : Noted = record { counts = record { dnf = 0; cnf = 0; atoms = 0 }; atoms = 0 } in
      let lt : j < length es = omega (arith, k.long, get_below ps j (spelled maps ps s) h) in
      let e = get_or es j (s, none) in
      let at : slice_get es j ≡ Some e = get_is es j (s, none) lt in
      let both : spelled maps ps e.0 ≡ spelled maps ps s = some_same (sym (k.spells j e at) ∙ h) in
      key_of es j e at ∙ ap Some (spelled-same j (length es) e.0 s (omega arith) (omega arith) (k.below j e at) below both)
    where
      some_same : {x y : Formula Interned} → Some x ≡ Some y → x ≡ y
      some_same e = cc

      key_of : (es : List (Shape × Noted)) (i : ℕ) (e : Shape × Noted) → slice_get es i ≡ Some e → slice_get (keys_of es) i ≡ Some e.0
      key_of [] i e h = absurd cc
      key_of (d ∷ es) zero e h =
          let same : d ≡ e = cc in
          ap (λ (t : Shape × Noted). Some t.0) same
      key_of (d ∷ es) (suc i) e h = key_of es i e h

keys_of-push : (es : List (Shape × Noted)) (s : Shape) (c : Noted) → keys_of (es ++ (s, c) ∷ []) ≡ keys_of es ++ s ∷ []
keys_of-push [] s c = refl
keys_of-push (e ∷ es) s c = ap (λ (ks : List Shape). e.0 ∷ ks) (keys_of-push es s c)

-- ---- how many atoms there are

abbrev IsAtom : Formula Interned → ℕ
IsAtom (Atom a) = 1
IsAtom (And p q) = 0
IsAtom (Or p q) = 0

atoms-push : (ps : List (Formula Interned)) (p : Formula Interned) → length (atoms_of (ps ++ p ∷ [])) ≡ length (atoms_of ps) + IsAtom p
atoms-push [] (Atom a) = refl
atoms-push [] (And p q) = refl
atoms-push [] (Or p q) = refl
atoms-push (Atom b ∷ ps) p = omega (arith, atoms-push ps p)
atoms-push (And r s ∷ ps) p = atoms-push ps p
atoms-push (Or r s ∷ ps) p = atoms-push ps p

pub atoms_fit : (ps : List (Formula Interned)) → length (atoms_of ps) ≤ length ps
atoms_fit [] = omega arith
atoms_fit (Atom a ∷ ps) = omega (arith, atoms_fit ps)
atoms_fit (And p q ∷ ps) = omega (arith, atoms_fit ps)
atoms_fit (Or p q ∷ ps) = omega (arith, atoms_fit ps)

-- an atom's number is how many stand before it
atom_at : (ps : List (Formula Interned)) (i : ℕ) (a : Interned) → slice_get ps i ≡ Some (Atom a) → slice_get (atoms_of ps) (length (atoms_of (take i ps))) ≡ Some a
atom_at [] i a h = absurd cc
atom_at (Atom b ∷ ps) zero a h =
    let same : b ≡ a = cc in
    ap Some same
atom_at (And p q ∷ ps) zero a h = absurd cc
atom_at (Or p q ∷ ps) zero a h = absurd cc
atom_at (Atom b ∷ ps) (suc i) a h = atom_at ps i a h
atom_at (And p q ∷ ps) (suc i) a h = atom_at ps i a h
atom_at (Or p q ∷ ps) (suc i) a h = atom_at ps i a h

-- ---- what a call that makes a formula leaves

pub record Added (maps : List Mapping) (es : List (Shape × Noted)) (ps : List (Formula Interned)) (p : Formula Interned) (old i : ℕ) : Type 0 where
  pub kept : Keeps maps es (formulas_of maps (keys_of es))
  pub number : IsNumberOf (formulas_of maps (keys_of es)) i p
  pub is : formulas_of maps (keys_of es) ≡ put same_stored ps p
  pub atoms : ((i ≡ old) × (length (atoms_of (formulas_of maps (keys_of es))) ≡ length (atoms_of ps) + IsAtom p)) ⊎ ((i < old) × (length (atoms_of (formulas_of maps (keys_of es))) ≡ length (atoms_of ps)))

module _ (maps : List Mapping) (es : List (Shape × Noted)) (ps : List (Formula Interned)) (s : Shape) (view : formulas_of maps (keys_of es) ≡ ps) (k : Keeps maps es ps) (below : PointsBelow maps (length es) s) where
  Added-present : (i : ℕ) → slice_get (keys_of es) i ≡ Some s → Added maps es ps (spelled maps ps s) (length es) i
  Added-present i h =
      let e = keys_at es i s h in
      let at : slice_get ps i ≡ Some (spelled maps ps s) = k.spells i (s, e.0) e.1 in
      record {
        kept = subst (Keeps maps es) (sym view) k;
        number = subst (λ (qs : List (Formula Interned)). IsNumberOf qs i (spelled maps ps s)) (sym view) (number_from_get ps i (spelled maps ps s) (once_from_get ps k.alone) at);
        is = view ∙ sym (put_at same_stored same_stored-Decides ps (spelled maps ps s) i at);
        atoms = inr (get_below es i (s, e.0) e.1, ap (λ (qs : List (Formula Interned)). length (atoms_of qs)) view);
      }

  module _ (c : Noted) (counted : c.counts ≡ counts_of (spelled maps ps s)) (before : c.atoms ≡ length (atoms_of ps)) where
    Added-new : (i : ℕ) → i ≡ length es → ((j : ℕ) → slice_get (keys_of es) j ≡ Some s → ⊥) → Added maps (es ++ (s, c) ∷ []) ps (spelled maps ps s) (length es) i
    Added-new i end none =
        let q = spelled maps ps s in
        let absent : (j : ℕ) → slice_get ps j ≡ Some q → ⊥ = λ j h. none j (spelled_key maps es ps k s below j h) in
        let kept = Keeps-push maps es ps s c k below absent counted before in
        let made : formulas_of maps (keys_of (es ++ (s, c) ∷ [])) ≡ ps ++ q ∷ [] = ap (formulas_of maps) (keys_of-push es s c) ∙ formulas_of-push maps (keys_of es) s ∙ (λ j. view j ++ spelled maps (view j) s ∷ []) in
        let at : slice_get (ps ++ q ∷ []) i ≡ Some q = ap (slice_get (ps ++ q ∷ [])) (end ∙ sym k.long) ∙ get_last ps q in
        record {
          kept = subst (Keeps maps (es ++ (s, c) ∷ [])) (sym made) kept;
          number = subst (λ (qs : List (Formula Interned)). IsNumberOf qs i q) (sym made) (number_from_get (ps ++ q ∷ []) i q (once_from_get (ps ++ q ∷ []) kept.alone) at);
          is = made ∙ sym (put_last same_stored same_stored-Decides ps q absent);
          atoms = inl (end, ap (λ (qs : List (Formula Interned)). length (atoms_of qs)) made ∙ atoms-push ps q);
        }

    pub Added-placed : (es' : List (Shape × Noted)) (i : ℕ) → Places es es' s c i → Added maps es' ps (spelled maps ps s) (length es) i
    Added-placed es' i (inl there) = subst (λ (ds : List (Shape × Noted)). Added maps ds ps (spelled maps ps s) (length es) i) (sym there.1) (Added-present i there.0)
    Added-placed es' i (inr new) = subst (λ (ds : List (Shape × Noted)). Added maps ds ps (spelled maps ps s) (length es) i) (sym new.1) (Added-new i new.2 new.0)

-- ---- a conjunction or a disjunction

module _ (maps : List Mapping) (es es' : List (Shape × Noted)) (n : ℕ) (ps : List (Formula Interned)) (s : Shape) (c : Noted) (view : formulas_of maps (keys_of es) ≡ ps) (t : IsTable maps es n)
    (below : PointsBelow maps (length es) s) (counted : c.counts ≡ counts_of (spelled maps ps s)) (before : c.atoms ≡ n) (compound : IsAtom (spelled maps ps s) ≡ 0) where
  k : Keeps maps es ps
  k = subst (Keeps maps es) view t.keeps

  many : n ≡ length (atoms_of ps)
  many = t.atoms_are ∙ ap (λ (qs : List (Formula Interned)). length (atoms_of qs)) view

  added : (i : ℕ) → Places es es' s c i → Added maps es' ps (spelled maps ps s) (length es) i
  added i p = Added-placed maps es ps s view k below c counted (before ∙ many) es' i p

  same_count : (i : ℕ) → Added maps es' ps (spelled maps ps s) (length es) i → n ≡ length (atoms_of (formulas_of maps (keys_of es')))
  same_count i a = elim a.atoms [ inl new ↦ omega (arith, new.1, many, compound) | inr old ↦ omega (arith, old.1, many) ]

  pub kept_joined : (r : Result FormulaId Stop) → IfOk r (λ f. Places es es' s c f.0) → OnErr r (es' ≡ es) → IsTable maps es' n
  kept_joined (Ok f) ok err = record { keeps = (added f.0 ok).kept; atoms_are = same_count f.0 (added f.0 ok) }
  kept_joined (Err e) ok err = subst (λ (ds : List (Shape × Noted)). IsTable maps ds n) (sym err) t

  pub number_joined : (r : Result FormulaId Stop) → IfOk r (λ f. Places es es' s c f.0) → IfOk r (λ f. IsNumberOf (formulas_of maps (keys_of es')) f.0 (spelled maps ps s))
  number_joined (Ok f) ok = (added f.0 ok).number
  number_joined (Err e) ok = tt

  pub is_joined : (r : Result FormulaId Stop) → IfOk r (λ f. Places es es' s c f.0) → OnOk r (formulas_of maps (keys_of es') ≡ put same_stored ps (spelled maps ps s))
  is_joined (Ok f) ok = (added f.0 ok).is
  is_joined (Err e) ok = tt

  pub grows_joined : (r : Result FormulaId Stop) → IfOk r (λ f. Places es es' s c f.0) → OnErr r (es' ≡ es) → Grows ps (formulas_of maps (keys_of es'))
  grows_joined (Ok f) ok err = subst (Grows ps) (sym (added f.0 ok).is) (put_grows same_stored ps (spelled maps ps s))
  grows_joined (Err e) ok err = subst (Grows ps) (sym (ap (λ (ds : List (Shape × Noted)). formulas_of maps (keys_of ds)) err ∙ view)) (grows_self ps)

  pub there_joined : {P : Type 0} → ((j : ℕ) → slice_get (keys_of es) j ≡ Some s → P) → is_among same_stored ps (spelled maps ps s) ≡ true → P
  there_joined ok there =
      let at = get_among same_stored same_stored-Decides ps (spelled maps ps s) there in
      ok at.0 (spelled_key maps es ps k s below at.0 at.1)

-- ---- an atom

-- with one more mapping, or none, the table is as before
record More (maps' : List Mapping) (es : List (Shape × Noted)) (ps : List (Formula Interned)) (m : Mapping) (i : ℕ) : Type 0 where
  pub view : formulas_of maps' (keys_of es) ≡ ps
  pub kept : Keeps maps' es ps
  pub at : slice_get maps' i ≡ Some m

module _ (maps maps' : List Mapping) (es : List (Shape × Noted)) (n : ℕ) (ps : List (Formula Interned)) (view : formulas_of maps (keys_of es) ≡ ps) (t : IsTable maps es n) (m : Mapping) (i : ℕ) (puts : Puts maps maps' m i) where
  more : More maps' es ps m i
  more =
      let k = subst (Keeps maps es) view t.keeps in
      elim puts [
        | inl there ↦ subst (λ (ms : List Mapping). More ms es ps m i) (sym there.1) (record { view = view; kept = k; at = there.0 })
        | inr new ↦ subst (λ (ms : List Mapping). More ms es ps m i) (sym new.1) (record {
          view = formulas_of-map maps m es ps k ∙ view;
          kept = Keeps-map maps m es ps k new.0;
          at = ap (slice_get (maps ++ m ∷ [])) new.2 ∙ get_last maps m;
        })
      ]

  pub view_more : formulas_of maps' (keys_of es) ≡ ps
  view_more = more.view

  many_atoms : n ≡ length (atoms_of ps)
  many_atoms = t.atoms_are ∙ ap (λ (qs : List (Formula Interned)). length (atoms_of qs)) view

  pub table_more : (es' : List (Shape × Noted)) → es' ≡ es → IsTable maps' es' n
  table_more es' e =
      subst (λ (ds : List (Shape × Noted)). IsTable maps' ds n) (sym e)
      (record { keeps = subst (Keeps maps' es) (sym more.view) more.kept; atoms_are = many_atoms ∙ ap (λ (qs : List (Formula Interned)). length (atoms_of qs)) (sym more.view) })

  pub few_atoms : n ≤ length es
  few_atoms = omega (arith, many_atoms, atoms_fit ps, more.kept.long)

  module _ (node : NodeId) where
    abbrev p : Formula Interned
    p = Atom (record { node = node; mapping = m })

    spells_p : spelled maps' ps (shape.Atom node i) ≡ p
    spells_p = ap (λ (o : Mapping). Atom (record { node = node; mapping = o })) (get_or_is maps' i m [] more.at)

    below : PointsBelow maps' (length es) (shape.Atom node i)
    below = get_below maps' i m more.at

    pub there_atom : {P : Type 0} → ((j : ℕ) → slice_get (keys_of es) j ≡ Some (shape.Atom node i) → P) → is_among same_stored ps (Atom (record { node = node; mapping = m })) ≡ true → P
    there_atom ok there =
        let at = get_among same_stored same_stored-Decides ps p there in
        ok at.0 (spelled_key maps' es ps more.kept (shape.Atom node i) below at.0 (at.1 ∙ ap Some (sym spells_p)))

    module _ (c : Noted) (one : (a : Interned) → c.counts ≡ counts_of (Atom a)) (before : c.atoms ≡ n) (es' : List (Shape × Noted)) (f : ℕ) (places : Places es es' (shape.Atom node i) c f) where
      added_atom : Added maps' es' ps p (length es) f
      added_atom =
          subst (λ (q : Formula Interned). Added maps' es' ps q (length es) f) spells_p
          (Added-placed maps' es ps (shape.Atom node i) more.view more.kept below c (one (record { node = node; mapping = get_or maps' i [] })) (before ∙ many_atoms) es' f places)

      pub kept_atom : (r : ℕ) → (f ≡ length es → r ≡ n + 1) → (f < length es → r ≡ n) → IsTable maps' es' r
      kept_atom r new old = record {
        keeps = added_atom.kept;
        atoms_are = elim added_atom.atoms [ inl last ↦ omega (arith, new last.0, last.1, many_atoms) | inr there ↦ omega (arith, old there.0, there.1, many_atoms) ];
      }

      pub number_atom : IsNumberOf (formulas_of maps' (keys_of es')) f (Atom (record { node = node; mapping = m }))
      number_atom = added_atom.number

      pub is_atom : formulas_of maps' (keys_of es') ≡ put same_stored ps (Atom (record { node = node; mapping = m }))
      is_atom = added_atom.is

      pub grows_atom : Grows ps (formulas_of maps' (keys_of es'))
      grows_atom = subst (Grows ps) (sym added_atom.is) (put_grows same_stored ps p)

-- a mapping that is there gets its number: a formula of it that is there says so
pub there_map : {P : Type 0} (maps : List Mapping) (es : List (Shape × Noted)) (n : ℕ) (ps : List (Formula Interned)) → formulas_of maps (keys_of es) ≡ ps → IsTable maps es n → (node : NodeId) (m : Mapping)
    → ((j : ℕ) → slice_get maps j ≡ Some m → P) → is_among same_stored ps (Atom (record { node = node; mapping = m })) ≡ true → P
there_map {P = P} maps es n ps view t node m ok there =
    let k = subst (Keeps maps es) view t.keeps in
    let p : Formula Interned = Atom (record { node = node; mapping = m }) in
    let at = get_among same_stored same_stored-Decides ps p there in
    let none : Shape × Noted = (shape.And 0 0, record { counts = record { dnf = 0; cnf = 0; atoms = 0 }; atoms = 0 }) in
    let e = get_or es at.0 none in
    let got : slice_get es at.0 ≡ Some e = get_is es at.0 none (omega (arith, k.long, get_below ps at.0 p at.1)) in
    by at.0 e.0 (k.below at.0 e got) (sym (k.spells at.0 e got) ∙ at.1)
  where
    by : (i : ℕ) (s : Shape) → PointsBelow maps i s → Some (spelled maps ps s) ≡ Some (Atom (record { node = node; mapping = m })) → P
    by i (shape.Atom l j) h e =
        let same : atom_of l (get_or maps j []) ≡ atom_of node m = cc in
        ok j (get_is maps j [] h ∙ ap (λ (a : Interned). Some a.mapping) same)
    by i (shape.And f g) h e = absurd cc
    by i (shape.Or f g) h e = absurd cc

-- what holds of each refusal
pub on_err : {T E : Type 0} {P : Type 0} (r : Result T E) → P → OnErr r P
on_err (Ok x) h = tt
on_err (Err e) h = h

-- an atom's counts are 1
abbrev pub one_of_each : Counts
one_of_each = record { dnf = 1; cnf = 1; atoms = 1 }

pub one_each : (a : Interned) → one_of_each ≡ counts_of (Atom a)
unfolding saturated
one_each a = refl

-- ---- reading the table

module _ (maps : List Mapping) (es : List (Shape × Noted)) (n : ℕ) (ps : List (Formula Interned)) (view : formulas_of maps (keys_of es) ≡ ps) (t : IsTable maps es n) where
  held : Keeps maps es ps
  held = subst (Keeps maps es) view t.keeps

  pub long_as : length es ≡ length ps
  long_as = sym held.long

  pub once_each : HasEachOnce ps
  once_each = once_from_get ps held.alone

  pub count_atoms : n ≡ length (atoms_of ps)
  count_atoms = t.atoms_are ∙ ap (λ (qs : List (Formula Interned)). length (atoms_of qs)) view

  module _ (f : FormulaId) (below : f.0 < length ps) where
    pub in_entries : f.0 < length es
    in_entries = omega (arith, held.long)

    pub spelled_at : (e : Shape × Noted) → slice_get es f.0 ≡ Some e → formula_at ps f ≡ spelled maps ps e.0
    spelled_at e h = get_or_is ps f.0 (spelled maps ps e.0) (Atom no_atom) (held.spells f.0 e h)

    pub number_of : IsNumberOf ps f.0 (formula_at ps f)
    number_of = number_from_get ps f.0 (formula_at ps f) once_each (get_is ps f.0 (Atom no_atom) below)

    pub counts_at : (e : Shape × Noted) → slice_get es f.0 ≡ Some e → e.1.counts ≡ counts_of (formula_at ps f)
    counts_at e h = held.counted f.0 e h ∙ ap counts_of (sym (spelled_at e h))

    pub map_below : (e : Shape × Noted) (l : NodeId) (j : ℕ) → slice_get es f.0 ≡ Some e → e.0 ≡ shape.Atom l j → j < length maps
    map_below e l j h s = subst (PointsBelow maps f.0) s (held.below f.0 e h)

    pub atom_top : (e : Shape × Noted) (l : NodeId) (j : ℕ) (m : Mapping) → slice_get es f.0 ≡ Some e → e.0 ≡ shape.Atom l j → slice_get maps j ≡ Some m
        → (formula_at ps f ≡ Atom (record { node = l; mapping = m })) × (slice_get (atoms_of ps) e.1.atoms ≡ Some (record { node = l; mapping = m }))
    atom_top e l j m h s at =
        let is : formula_at ps f ≡ Atom (record { node = l; mapping = m }) =
        spelled_at e h ∙ ap (spelled maps ps) s ∙ ap (λ (o : Mapping). Atom (record { node = l; mapping = o })) (get_or_is maps j m [] at) in
        (is, ap (slice_get (atoms_of ps)) (held.before f.0 e h) ∙ atom_at ps f.0 (record { node = l; mapping = m }) (get_is ps f.0 (Atom no_atom) below ∙ ap Some is))

    pub and_top : (e : Shape × Noted) (p q : ℕ) → slice_get es f.0 ≡ Some e → e.0 ≡ shape.And p q → (formula_at ps f ≡ And (formula_at ps (id p)) (formula_at ps (id q))) × (p < length ps) × (q < length ps)
    and_top e p q h s =
        let lt : (p < f.0) × (q < f.0) = subst (PointsBelow maps f.0) s (held.below f.0 e h) in
        (spelled_at e h ∙ ap (spelled maps ps) s, omega (arith, lt.0), omega (arith, lt.1))

    pub or_top : (e : Shape × Noted) (p q : ℕ) → slice_get es f.0 ≡ Some e → e.0 ≡ shape.Or p q → (formula_at ps f ≡ Or (formula_at ps (id p)) (formula_at ps (id q))) × (p < length ps) × (q < length ps)
    or_top e p q h s =
        let lt : (p < f.0) × (q < f.0) = subst (PointsBelow maps f.0) s (held.below f.0 e h) in
        (spelled_at e h ∙ ap (spelled maps ps) s, omega (arith, lt.0), omega (arith, lt.1))

-- what `get_index` found
pub entry_found : {A B : Type 0} (shown : A → B) (o : Option A) (x : A) (y : Option B) → o ≡ Some x → option_map shown o ≡ y → y ≡ Some (shown x)
entry_found shown o x y h e = sym e ∙ ap (option_map shown) h

-- ---- the empty table

formulas_of-empty : (maps : List Mapping) → formulas_of maps [] ≡ []
unfolding formulas_of
formulas_of-empty maps = refl

pub formulas_of-nothing : (maps : List Mapping) (es : List (Shape × Noted)) → es ≡ [] → formulas_of maps (keys_of es) ≡ []
formulas_of-nothing maps es h = ap (λ (ds : List (Shape × Noted)). formulas_of maps (keys_of ds)) h ∙ formulas_of-empty maps

Keeps-empty : Keeps [] [] []
Keeps-empty = record {
  long = refl;
  below = λ i e h. absurd cc;
  spells = λ i e h. absurd cc;
  counted = λ i e h. absurd cc;
  before = λ i e h. absurd cc;
  alone = λ i j p h l. absurd cc;
  maps_alone = λ i j a h l. absurd cc;
}

pub nothing_kept : (kept : List (Vec (ℕ × TermId))) (es : List (Shape × Noted)) → kept ≡ [] → es ≡ [] → IsTable (mappings kept) es 0
nothing_kept kept es h l =
    subst (λ (vs : List (Vec (ℕ × TermId))). IsTable (mappings vs) es 0) (sym h)
    (subst (λ (ds : List (Shape × Noted)). IsTable [] ds 0) (sym l)
    (record { keeps = subst (Keeps [] []) (sym (formulas_of-empty [])) Keeps-empty; atoms_are = ap (λ (qs : List (Formula Interned)). length (atoms_of qs)) (sym (formulas_of-empty [])) }))

-- ---- truth of an atom by its number

assigned_at : (xs : List Interned) (bs : List Bool) (n : ℕ) (a : Interned) → length bs ≡ length xs → ((j : ℕ) → slice_get xs j ≡ Some a → j ≡ n)
    → slice_get xs n ≡ Some a → slice_get bs n ≡ Some (assigned same_interned xs bs a)
assigned_at [] bs n a len alone h = absurd cc
assigned_at (x ∷ xs) [] n a len alone h = absurd (omega arith)
assigned_at (x ∷ xs) (b ∷ bs) zero a len alone h =
    let same : a ≡ x = cc in
    ap (λ (t : Bool). Some (cond t b (assigned same_interned xs bs a))) (sym ((same_interned-Decides a x).1 same))
assigned_at (x ∷ xs) (b ∷ bs) (suc n) a len alone h =
    let other : a ≡ x → ⊥ = λ e. absurd (omega (arith, alone 0 (ap Some (sym e)))) in
    elim (either (same_interned a x)) [
      | inl is_same ↦ absurd (other ((same_interned-Decides a x).0 is_same))
      | inr differs ↦
          assigned_at xs bs n a (omega (arith, len)) (λ j g. omega (arith, alone (suc j) g)) h
          ∙ ap (λ (t : Bool). Some (cond t b (assigned same_interned xs bs a))) (sym differs)
    ]

atom_place : (ps : List (Formula Interned)) (i : ℕ) (a : Interned) → slice_get (atoms_of ps) i ≡ Some a → (g : ℕ) × (slice_get ps g ≡ Some (Atom a))
atom_place [] i a h = absurd cc
atom_place (Atom b ∷ ps) zero a h =
    let same : b ≡ a = cc in
    (0, ap (λ (x : Interned). Some (Atom x)) same)
atom_place (Atom b ∷ ps) (suc i) a h = let r = atom_place ps i a h in (suc r.0, r.1)
atom_place (And p q ∷ ps) i a h = let r = atom_place ps i a h in (suc r.0, r.1)
atom_place (Or p q ∷ ps) i a h = let r = atom_place ps i a h in (suc r.0, r.1)

atoms_once : (ps : List (Formula Interned)) (a : Interned) → ((g h : ℕ) → slice_get ps g ≡ Some (Atom a) → slice_get ps h ≡ Some (Atom a) → g ≡ h)
    → (i j : ℕ) → slice_get (atoms_of ps) i ≡ Some a → slice_get (atoms_of ps) j ≡ Some a → i ≡ j
atoms_once [] a once i j h l = absurd cc
atoms_once (Atom b ∷ ps) a once zero zero h l = refl
atoms_once (Atom b ∷ ps) a once zero (suc j) h l =
    let r = atom_place ps j a l in
    let same : b ≡ a = cc in
    absurd (omega (arith, once 0 (suc r.0) (ap (λ (x : Interned). Some (Atom x)) same) r.1))
atoms_once (Atom b ∷ ps) a once (suc i) zero h l =
    let r = atom_place ps i a h in
    let same : b ≡ a = cc in
    absurd (omega (arith, once 0 (suc r.0) (ap (λ (x : Interned). Some (Atom x)) same) r.1))
atoms_once (Atom b ∷ ps) a once (suc i) (suc j) h l = ap suc (atoms_once ps a (λ g m x y. omega (arith, once (suc g) (suc m) x y)) i j h l)
atoms_once (And p q ∷ ps) a once i j h l = atoms_once ps a (λ g m x y. omega (arith, once (suc g) (suc m) x y)) i j h l
atoms_once (Or p q ∷ ps) a once i j h l = atoms_once ps a (λ g m x y. omega (arith, once (suc g) (suc m) x y)) i j h l

-- the truth value at an atom's number is the atom's
pub truth_at : (ps : List (Formula Interned)) (bs : List Bool) (f : FormulaId) (p : Formula Interned) (n : ℕ) (a : Interned) (b : Bool) → length bs ≡ length (atoms_of ps) → IsNumberOf ps f.0 p → p ≡ Atom a → slice_get (atoms_of ps) n ≡ Some a
    → b ≡ get_or bs n false → b ≡ truth (assigned same_interned (atoms_of ps) bs) p
truth_at ps bs f p n a b len number is at h =
    let once : (g m : ℕ) → slice_get ps g ≡ Some (Atom a) → slice_get ps m ≡ Some (Atom a) → g ≡ m = λ g m x y. number_alone ps f.0 g p number (x ∙ ap Some (sym is)) ∙ sym (number_alone ps f.0 m p number (y ∙ ap Some (sym is))) in
    let there = assigned_at (atoms_of ps) bs n a len (λ j l. atoms_once ps a once j n l at) at in
    h ∙ get_or_is bs n (assigned same_interned (atoms_of ps) bs a) false there ∙ ap (truth (assigned same_interned (atoms_of ps) bs)) (sym is)
