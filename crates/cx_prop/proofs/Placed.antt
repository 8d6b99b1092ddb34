-- Where a shape and a mapping are placed.
use Rattle.std.proofs.Common.{◌≡◌, ℕ, zero, suc, ◌<◌, ◌≤◌, Bool, true, false, ◌||◌, cond, ◌==◌, List, [], ◌∷◌, ◌++◌, map, length, get_or, Option, Some, None, refl, sym, ap, ◌∙◌, ◌⊎◌, inl, inr, true≢false, length-append, arith}
use Rattle.std.specs.Prelude.{slice_get, position, nat_lt}
use Rattle.std.specs.Bool.{Decides}
use Rattle.std.specs.Cmp.{unsigned_Decides}
use Rattle.std.specs.Cmp.Lexicographic.{pointwise}
use Rattle.std.specs.Global.{Vec}
use Rattle.std.specs.List.{list_any, position_or_len}
use Rattle.std.specs.Map.{keys_of}
use Rattle.std.proofs.lemmas.Map.Entries.{length-keys_of}
use Rattle.std.proofs.lemmas.Bool.{ltb-false}
use Rattle.std.proofs.lemmas.Bool.Decides.{Decides-like, Decides-and}
use Rattle.std.proofs.lemmas.List.Quantifiers.{position-Some}
use Rattle.std.proofs.lemmas.List.Sums.{fails_before_first}
use Rattle.std.proofs.lemmas.Slice.Eq.{slice_eq-Decides}
use Rattle.indexmap.specs.IndexMap.{insert_entry}
use Rattle.indexmap.specs.IndexSet.{insert_key}
use Rattle.cx_base.specs.declared.numbers.NodeId.{NodeId}
use Rattle.cx_base.specs.declared.numbers.TermId.{TermId}
use Rattle.cx_numbered.proofs.Numbered.{either, get_or_is, get_is, get_below, get_push_cases, get_map, map_push}
use Rattle.cx_prop.specs.declared.shape.Noted.{Noted}
use Rattle.cx_prop.specs.declared.shape.Shape.{Shape}
use Rattle.cx_prop.specs.declared.shape.Shape.TheVariants as shape
use Rattle.cx_prop.specs.contracts.shape.ShapePartialEq.TheImpl as derived
use Rattle.cx_prop.specs.Formula.{same_pair}
use Rattle.cx_prop.specs.Interned.{same_term}
use Rattle.cx_prop.specs.Kept.{Mapping, mappings, Puts, Places}
use Rattle.cx_prop.proofs.Same.{same_term-Decides, same_pair-Decides}

abbrev pub shape_eq : Shape → Shape → Bool
shape_eq = (derived.eq-value).it

never : (s t : Shape) → (s ≡ t → ⊥) → Decides false (s ≡ t)
never s t h = (λ b. absurd (true≢false (sym b)), λ e. absurd (h e))

pub shape_eq-Decides : (s t : Shape) → Decides (shape_eq s t) (s ≡ t)
shape_eq-Decides (shape.Atom n m) (shape.Atom k l) =
    Decides-like (shape_eq (shape.Atom n m) (shape.Atom k l)) (λ (e : (n.0 ≡ k.0) × (m ≡ l)) i. shape.Atom (record { 0 = e.0 i }) (e.1 i)) (λ e. (cc, cc)) (Decides-and (n.0 == k.0) (m == l) (unsigned_Decides n.0 k.0) (unsigned_Decides m l))
shape_eq-Decides (shape.Atom n m) (shape.And f g) = never (shape.Atom n m) (shape.And f g) (λ e. cc)
shape_eq-Decides (shape.Atom n m) (shape.Or f g) = never (shape.Atom n m) (shape.Or f g) (λ e. cc)
shape_eq-Decides (shape.And f g) (shape.Atom n m) = never (shape.And f g) (shape.Atom n m) (λ e. cc)
shape_eq-Decides (shape.And f g) (shape.And h i) =
    Decides-like (shape_eq (shape.And f g) (shape.And h i)) (λ (e : (f ≡ h) × (g ≡ i)). cc) (λ e. (cc, cc)) (Decides-and (f == h) (g == i) (unsigned_Decides f h) (unsigned_Decides g i))
shape_eq-Decides (shape.And f g) (shape.Or h i) = never (shape.And f g) (shape.Or h i) (λ e. cc)
shape_eq-Decides (shape.Or f g) (shape.Atom n m) = never (shape.Or f g) (shape.Atom n m) (λ e. cc)
shape_eq-Decides (shape.Or f g) (shape.And h i) = never (shape.Or f g) (shape.And h i) (λ e. cc)
shape_eq-Decides (shape.Or f g) (shape.Or h i) =
    Decides-like (shape_eq (shape.Or f g) (shape.Or h i)) (λ (e : (f ≡ h) × (g ≡ i)). cc) (λ e. (cc, cc)) (Decides-and (f == h) (g == i) (unsigned_Decides f h) (unsigned_Decides g i))

-- ---- where a test finds an item

none_false : {X : Type 0} (b : Bool) (x : X) → cond b (Some x) None ≡ None → b ≡ false
none_false true x h = absurd cc
none_false false x h = refl

module _ {X : Type 0} (test : X → Bool) where
  pub past_end : (xs : List X) → position test xs ≡ None → length xs ≤ position_or_len test xs
  past_end xs h = ltb-false (position_or_len test xs) (length xs) (none_false (nat_lt (position_or_len test xs) (length xs)) (position_or_len test xs) h)

  pub fails_each : (xs : List X) (j : ℕ) (x : X) → position test xs ≡ None → slice_get xs j ≡ Some x → test x ≡ false
  fails_each xs j x h l =
      ap test (sym (get_or_is xs j x x l)) ∙ fails_before_first test xs j x (omega (arith, past_end xs h, get_below xs j x l))

  pub found_one : (xs : List X) (i : ℕ) (x : X) → position test xs ≡ Some i → (slice_get xs i ≡ Some (get_or xs i x)) × (test (get_or xs i x) ≡ true)
  found_one xs i x h = let at = position-Some test xs i x h in (get_is xs i x at.0, at.1)

  pub found_some : (xs : List X) (i : ℕ) → position test xs ≡ Some i → (x : X) × (slice_get xs i ≡ Some x) × (test x ≡ true)
  found_some [] i h = absurd cc
  found_some (x ∷ xs) i h = let at = found_one (x ∷ xs) i x h in (get_or (x ∷ xs) i x, at.0, at.1)

-- ---- shapes

pub placed_present : (es : List (Shape × Noted)) (s : Shape) (c : Noted) (i : ℕ) → position (shape_eq s) (keys_of es) ≡ Some i → Places es es s c i
placed_present es s c i h =
    let at = found_one (shape_eq s) (keys_of es) i s h in
    inl (at.0 ∙ ap Some (sym ((shape_eq-Decides s (get_or (keys_of es) i s)).0 at.1)), refl)

not_there : (ks : List Shape) (s : Shape) → position (shape_eq s) ks ≡ None → (j : ℕ) → slice_get ks j ≡ Some s → ⊥
not_there ks s h j l = true≢false (sym ((shape_eq-Decides s s).1 refl) ∙ fails_each (shape_eq s) ks j s h l)

entry_new : (es : List (Shape × Noted)) (s : Shape) (c : Noted) → ((j : ℕ) → slice_get (keys_of es) j ≡ Some s → ⊥) → insert_entry shape_eq es s c ≡ es ++ (s, c) ∷ []
entry_new [] s c h = refl
entry_new (e ∷ es) s c h =
    elim (either (shape_eq s e.0)) [
      | inl same ↦ absurd (h 0 (ap Some (sym ((shape_eq-Decides s e.0).0 same))))
      | inr differs ↦ ap (λ (b : Bool). cond b ((e.0, c) ∷ es) (e ∷ insert_entry shape_eq es s c)) differs ∙ ap (λ (ds : List (Shape × Noted)). e ∷ ds) (entry_new es s c (λ j l. h (suc j) l))
    ]

pub placed_new : (es new : List (Shape × Noted)) (s : Shape) (c : Noted) (i : ℕ) → position (shape_eq s) (keys_of es) ≡ None → new ≡ insert_entry shape_eq es s c → i ≡ position_or_len (shape_eq s) (keys_of es) → i < length new → Places es new s c i
placed_new es new s c i none made is within =
    let absent = not_there (keys_of es) s none in
    let new_is : new ≡ es ++ (s, c) ∷ [] = made ∙ entry_new es s c absent in
    inr (absent, new_is, omega (arith, past_end (shape_eq s) (keys_of es) none, is, within, ap length new_is, length-append es ((s, c) ∷ []), length-keys_of es))

-- a shape that is there is found
pub shape_found : {P : Type 0} (ks : List Shape) (s : Shape) (j : ℕ) → position (shape_eq s) ks ≡ None → slice_get ks j ≡ Some s → P
shape_found ks s j none h = absurd (not_there ks s none j h)

-- ---- mappings

abbrev pub same_map : Mapping → Mapping → Bool
same_map = pointwise (same_pair same_term)

pub same_map-Decides : (m n : Mapping) → Decides (same_map m n) (m ≡ n)
same_map-Decides m n = slice_eq-Decides (same_pair-Decides same_term same_term-Decides) m n (same_map m n) refl

abbrev pub is_map : Mapping → Vec (ℕ × TermId) → Bool
is_map m v = same_map m v.items

abbrev pub vec_eq : Vec (ℕ × TermId) → Vec (ℕ × TermId) → Bool
vec_eq v w = same_map v.items w.items

maps_at : (kept : List (Vec (ℕ × TermId))) (i : ℕ) (v : Vec (ℕ × TermId)) → slice_get kept i ≡ Some v → slice_get (mappings kept) i ≡ Some v.items
maps_at kept i v h = get_map (λ (w : Vec (ℕ × TermId)). w.items) kept i v h

map_missing : (kept : List (Vec (ℕ × TermId))) (m : Mapping) → ((k : ℕ) (v : Vec (ℕ × TermId)) → slice_get kept k ≡ Some v → is_map m v ≡ false) → (j : ℕ) → slice_get (mappings kept) j ≡ Some m → ⊥
map_missing [] m f j h = absurd cc
map_missing (v ∷ kept) m f zero h =
    let same : v.items ≡ m = cc in
    true≢false (sym ((same_map-Decides m v.items).1 (sym same)) ∙ f 0 v refl)
map_missing (v ∷ kept) m f (suc j) h = map_missing kept m (λ k w l. f (suc k) w l) j h

map_found : (kept : List (Vec (ℕ × TermId))) (m : Mapping) → position (is_map m) kept ≡ None → (j : ℕ) → slice_get (mappings kept) j ≡ Some m → ⊥
map_found kept m none j h = map_missing kept m (λ k v l. fails_each (is_map m) kept k v none l) j h

-- a mapping that is there is found
pub mapping_found : {P : Type 0} (kept : List (Vec (ℕ × TermId))) (m : Mapping) (j : ℕ) → position (is_map m) kept ≡ None → slice_get (mappings kept) j ≡ Some m → P
mapping_found kept m j none h = absurd (map_found kept m none j h)

none_equal : (kept : List (Vec (ℕ × TermId))) (v : Vec (ℕ × TermId)) → ((j : ℕ) → slice_get (mappings kept) j ≡ Some v.items → ⊥) → list_any (vec_eq v) kept ≡ false
none_equal [] v f = refl
none_equal (w ∷ kept) v f =
    elim (either (vec_eq v w)) [
      | inl same ↦ absurd (f 0 (ap Some (sym ((same_map-Decides v.items w.items).0 same))))
      | inr differs ↦ ap (λ (b : Bool). b || list_any (vec_eq v) kept) differs ∙ none_equal kept v (λ j h. f (suc j) h)
    ]

pub map_present : (kept : List (Vec (ℕ × TermId))) (m : Mapping) (i : ℕ) → position (is_map m) kept ≡ Some i → Puts (mappings kept) (mappings kept) m i
map_present kept m i h =
    let at = found_some (is_map m) kept i h in
    inl (maps_at kept i at.0 at.1 ∙ ap Some (sym ((same_map-Decides m at.0.items).0 at.2)), refl)

pub map_new : (kept new : List (Vec (ℕ × TermId))) (m : Mapping) (v : Vec (ℕ × TermId)) (i : ℕ) → position (is_map m) kept ≡ None → v.items ≡ m → new ≡ insert_key vec_eq kept v
    → (l : Vec (ℕ × TermId)) × (slice_get new i ≡ Some l) × (vec_eq v l ≡ true) → Puts (mappings kept) (mappings new) m i
map_new kept new m v i none is made stored =
    let absent : (j : ℕ) → slice_get (mappings kept) j ≡ Some m → ⊥ = λ j h. map_found kept m none j h in
    let missing : list_any (vec_eq v) kept ≡ false = none_equal kept v (λ j h. absent j (h ∙ ap Some is)) in
    let pushed : new ≡ kept ++ v ∷ [] = made ∙ ap (λ (b : Bool). cond b kept (kept ++ v ∷ [])) missing in
    let shown : mappings new ≡ mappings kept ++ m ∷ [] = ap mappings pushed ∙ map_push (λ (w : Vec (ℕ × TermId)). w.items) kept v ∙ ap (λ (n : Mapping). mappings kept ++ n ∷ []) is in
    let at : slice_get (mappings kept ++ m ∷ []) i ≡ Some m =
    ap (λ (ms : List Mapping). slice_get ms i) (sym shown) ∙ maps_at new i stored.0 stored.1 ∙ ap Some (sym ((same_map-Decides v.items stored.0.items).0 stored.2) ∙ is) in
    elim (get_push_cases (mappings kept) m i m at) [
      | inl old ↦ absurd (absent i old)
      | inr last ↦ inr (absent, shown, last.0)
    ]
