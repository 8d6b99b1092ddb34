-- A table of formulas, seen as the numbered list of its formulas.
use Rattle.std.specs.Prelude.{◌≡◌, Bool, List, [], ◌∷◌, Some, slice_get, slice_index_or}
use Rattle.cx_base.specs.declared.numbers.FormulaId.{FormulaId}
use Rattle.cx_numbered.specs.Numbered as numbered
use Rattle.cx_prop.specs.declared.part.Part.{Part}
use Rattle.cx_prop.specs.declared.part.Part.TheVariants as part
use Rattle.cx_prop.specs.Formula.{Formula, Atom, And, Or, same_formula}
use Rattle.cx_prop.specs.Interned.{Interned, same_interned, no_atom}

-- whether two formulas of a table are equal
abbrev pub same_stored : Formula Interned → Formula Interned → Bool
same_stored = same_formula same_interned

-- f is the number of a formula of the table
abbrev pub Has : List (Formula Interned) → FormulaId → Type 0
Has ps f = numbered.Has ps f.0

-- the formula of a number that the table has
abbrev pub formula_at : List (Formula Interned) → FormulaId → Formula Interned
formula_at ps f = slice_index_or ps f.0 (Atom no_atom)

-- the atoms among formulas, in their order: the place of an atom here is its number
abbrev pub atoms_of : {A : Type 0} → List (Formula A) → List A
atoms_of [] = []
atoms_of (Atom a ∷ ps) = a ∷ atoms_of ps
atoms_of (And p q ∷ ps) = atoms_of ps
atoms_of (Or p q ∷ ps) = atoms_of ps

-- what stands at the top of the formula p: an atom with its number, its node and its mapping, or two operands
abbrev pub IsTop : List (Formula Interned) → Part → Formula Interned → Type 0
IsTop ps (part.Atom n node map) p = (p ≡ Atom (record { node = node; mapping = map.now })) × (slice_get (atoms_of ps) n ≡ Some (record { node = node; mapping = map.now }))
IsTop ps (part.And f g) p = (p ≡ And (formula_at ps f) (formula_at ps g)) × Has ps f × Has ps g
IsTop ps (part.Or f g) p = (p ≡ Or (formula_at ps f) (formula_at ps g)) × Has ps f × Has ps g
