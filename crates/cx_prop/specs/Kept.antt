-- How a table of formulas is kept: the distinct mappings, and each formula as its shape over earlier numbers.
use Rattle.std.specs.Prelude.{◌≡◌, ◌≢◌, ◌⊎◌, ℕ, ◌<◌, List, [], ◌∷◌, ◌++◌, Some, length, map, take, slice_get, slice_index_or, fold}
use Rattle.std.specs.Map.{keys_of}
use Rattle.std.specs.Global.{Vec}
use Rattle.cx_base.specs.declared.numbers.TermId.{TermId}
use Rattle.cx_prop.specs.declared.shape.Noted.{Noted}
use Rattle.cx_prop.specs.declared.shape.Shape.{Shape}
use Rattle.cx_prop.specs.declared.shape.Shape.TheVariants as shape
use Rattle.cx_prop.specs.Formula.{Formula, Atom, And, Or}
use Rattle.cx_prop.specs.Interned.{Interned}
use Rattle.cx_prop.specs.Counting.{counts_of}
use Rattle.cx_prop.specs.Table.{atoms_of, formula_at}

abbrev pub Mapping : Type 0
Mapping = List (ℕ × TermId)

abbrev pub mappings : List (Vec (ℕ × TermId)) → List Mapping
mappings kept = map (λ v. v.items) kept

-- the formula that a shape spells over mappings and earlier formulas
abbrev pub spelled : List Mapping → List (Formula Interned) → Shape → Formula Interned
spelled maps ps (shape.Atom n m) = Atom (record { node = n; mapping = slice_index_or maps m [] })
spelled maps ps (shape.And f g) = And (formula_at ps (record { 0 = f })) (formula_at ps (record { 0 = g }))
spelled maps ps (shape.Or f g) = Or (formula_at ps (record { 0 = f })) (formula_at ps (record { 0 = g }))

-- the formulas that shapes spell, each over those before it
unfoldable pub formulas_of : List Mapping → List Shape → List (Formula Interned)
formulas_of maps shapes = fold (λ ps s. ps ++ spelled maps ps s ∷ []) [] shapes

-- a shape of the number i speaks of smaller numbers, and of a mapping that is there
abbrev pub PointsBelow : List Mapping → ℕ → Shape → Type 0
PointsBelow maps i (shape.Atom n m) = m < length maps
PointsBelow maps i (shape.And f g) = (f < i) × (g < i)
PointsBelow maps i (shape.Or f g) = (f < i) × (g < i)

-- ps is the table that the mappings and the shapes with what is noted are kept for
pub record Keeps (maps : List Mapping) (entries : List (Shape × Noted)) (ps : List (Formula Interned)) : Type 0 where
  pub long : length ps ≡ length entries
  pub below : (i : ℕ) (e : Shape × Noted) → slice_get entries i ≡ Some e → PointsBelow maps i e.0
  pub spells : (i : ℕ) (e : Shape × Noted) → slice_get entries i ≡ Some e → slice_get ps i ≡ Some (spelled maps ps e.0)
  pub counted : (i : ℕ) (e : Shape × Noted) → slice_get entries i ≡ Some e → e.1.counts ≡ counts_of (spelled maps ps e.0)
  pub before : (i : ℕ) (e : Shape × Noted) → slice_get entries i ≡ Some e → e.1.atoms ≡ length (atoms_of (take i ps))
  pub alone : (i j : ℕ) (p : Formula Interned) → slice_get ps i ≡ Some p → slice_get ps j ≡ Some p → i ≡ j
  pub maps_alone : (i j : ℕ) (m : Mapping) → slice_get maps i ≡ Some m → slice_get maps j ≡ Some m → i ≡ j

-- what is kept, with the number of the atoms, is a table
pub record IsTable (maps : List Mapping) (entries : List (Shape × Noted)) (atoms : ℕ) : Type 0 where
  pub keeps : Keeps maps entries (formulas_of maps (keys_of entries))
  pub atoms_are : atoms ≡ length (atoms_of (formulas_of maps (keys_of entries)))

-- an item has the number i: it had it, or it is put at the end, where none has it
abbrev pub Puts : {X : Type 0} → List X → List X → X → ℕ → Type 0
Puts {X} old new x i = ((slice_get old i ≡ Some x) × (new ≡ old)) ⊎ (((j : ℕ) → slice_get old j ≢ Some x) × (new ≡ old ++ x ∷ []) × (i ≡ length old))

-- a shape has the number i: it had it, or it is placed at the end, where no formula has it
abbrev pub Places : List (Shape × Noted) → List (Shape × Noted) → Shape → Noted → ℕ → Type 0
Places old new s c i =
    ((slice_get (keys_of old) i ≡ Some s) × (new ≡ old))
    ⊎ (((j : ℕ) → slice_get (keys_of old) j ≢ Some s) × (new ≡ old ++ (s, c) ∷ []) × (i ≡ length old))
