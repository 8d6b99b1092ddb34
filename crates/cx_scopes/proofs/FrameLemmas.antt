-- One scope's map of names against the list of its entries.
use Rattle.std.proofs.Common.{◌≡◌, ℕ, Bool, true, false, cond, List, [], ◌∷◌, Option, Some, None, Bor, refl, ap}
use Rattle.std.specs.Prelude.{map}
use Rattle.std.specs.Option.{option_map}
use Rattle.std.specs.Str.{bytes_eq}
use Rattle.std.specs.Map.{lookup}
use Rattle.indexmap.specs.IndexMap.{insert_entry}
use Rattle.cx_base.specs.declared.place.Place.{Place}
use Rattle.cx_names.specs.declared.name_kind.NameKind.{NameKind}
use Rattle.cx_scopes.specs.declared.frame.Noted.{Noted}
use Rattle.cx_names.specs.Frames.{Entry, Frame, kind_after, entry_in, with_name}

-- the map's pairs, and the entry that a pair stands for
abbrev pub Pair : Type 0
Pair = Bor (List ℕ) × Noted

abbrev pub entry_of : Pair → Entry
entry_of e = record { name = e.0.now; kind = e.1.kind; at = e.1.at }

abbrev pub noted_of : Entry → Noted
noted_of e = record { kind = e.kind; at = e.at }

found_noted : (b : Bool) (e : Entry) (r : Option Entry) (s : Option Noted) → s ≡ option_map noted_of r → cond b (Some (noted_of e)) s ≡ option_map noted_of (cond b (Some e) r)
found_noted true e r s h = refl
found_noted false e r s h = h

-- what the map finds is what the entry says
pub lookup-entry : (q : List ℕ) (es : List Pair) → lookup (λ (k : Bor (List ℕ)). bytes_eq q k.now) es ≡ option_map noted_of (entry_in (map entry_of es) q)
lookup-entry q [] = refl
lookup-entry q (e ∷ es) =
    found_noted (bytes_eq q e.0.now) (entry_of e) (entry_in (map entry_of es) q) (lookup (λ (k : Bor (List ℕ)). bytes_eq q k.now) es) (lookup-entry q es)

-- what is inserted for a name, from what the map had
abbrev pub next_noted : NameKind → Place → Option Noted → Noted
next_noted kind at None = record { kind = kind; at = at }
next_noted kind at (Some n) = record { kind = kind_after n.kind kind; at = n.at }

-- the map with a name inserted is the scope with the name
pub put-entries : (k : Bor (List ℕ)) (kind : NameKind) (at : Place) (es : List Pair)
    → map entry_of (insert_entry (λ (x y : Bor (List ℕ)). bytes_eq x.now y.now) es k (next_noted kind at (lookup (λ (y : Bor (List ℕ)). bytes_eq k.now y.now) es)))
    ≡ with_name (map entry_of es) k.now kind at
put-entries k kind at [] = refl
put-entries k kind at (e ∷ es) = more (bytes_eq k.now e.0.now) (put-entries k kind at es)
  where
    more : (b : Bool)
        → map entry_of (insert_entry (λ (x y : Bor (List ℕ)). bytes_eq x.now y.now) es k (next_noted kind at (lookup (λ (y : Bor (List ℕ)). bytes_eq k.now y.now) es)))
        ≡ with_name (map entry_of es) k.now kind at
        → map entry_of (cond b ((e.0, next_noted kind at (cond b (Some e.1) (lookup (λ (y : Bor (List ℕ)). bytes_eq k.now y.now) es))) ∷ es)
        (e ∷ insert_entry (λ (x y : Bor (List ℕ)). bytes_eq x.now y.now) es k (next_noted kind at (cond b (Some e.1) (lookup (λ (y : Bor (List ℕ)). bytes_eq k.now y.now) es)))))
        ≡ cond b (record { name = e.0.now; kind = kind_after e.1.kind kind; at = e.1.at } ∷ map entry_of es) (entry_of e ∷ with_name (map entry_of es) k.now kind at)
    more true h = refl
    more false h = ap (λ (ps : Frame). entry_of e ∷ ps) h
