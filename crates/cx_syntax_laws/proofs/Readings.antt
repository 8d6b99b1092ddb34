-- Readings, and what one piece more does to them.
use Rattle.std.proofs.Common.{◌∷◌, ◌≤◌, arith, List, length, ◌++◌, append_assoc, append-nil, length-append, ◌+◌, ◌≡◌, Bool, true, false, [], Ok, Err, refl, sym, ap, ◌∙◌, subst}
use Rattle.cx_tokens.specs.Pieces.{Piece}
use Rattle.cx_syntax.specs.declared.stopped.Stopped.TheVariants.{NoMemory, Ended, Exhausted, Fault, Deep}
use Rattle.cx_syntax.specs.States.{State, freed, Reading}
use Rattle.cx_syntax_laws.proofs.Lawful.{freed_reading, Open, Next, Opened, Stays, Misfits, TooDeep, Spent, Early, Shut, Late, Freed, Same, Deeper, Part}

module _ {A : Type 0} where
  pub ok_pair : (p q : A × State) → ◌≡◌ {A = Reading A} (Ok p) (Ok q) → p ≡ q
  ok_pair p q e = cc

  pub ok_value : (x y : A) (s t : State) → ◌≡◌ {A = Reading A} (Ok (x, s)) (Ok (y, t)) → (x ≡ y) × (s ≡ t)
  ok_value x y s t e =
      let q : ◌≡◌ {A = A × State} (x, s) (y, t) = cc in
      (ap (λ (p : A × State). p.0) q, ap (λ (p : A × State). p.1) q)

  pub open_as : {r s : Reading A} → s ≡ r → Open r → Open s
  open_as {r} {s} e o = subst Open (sym e) o

  pub next_as : {strict : Bool} {ls : List Piece} {t : Piece} {b b' a a' f f' : Reading A} → b' ≡ b → a' ≡ a → f' ≡ f → Next strict ls t b a f → Next strict ls t b' a' f'
  next_as eb ea ef (Opened o) = Opened (open_as ea o)
  next_as eb ea ef (Stays x u e l h) = Stays x u (eb ∙ e) l (ea ∙ h)
  next_as eb ea ef (Misfits e h) = Misfits (eb ∙ e) (ea ∙ h)
  next_as eb ea ef (TooDeep e o) = TooDeep (ea ∙ e) (open_as ef o)
  next_as eb ea ef (Spent e) = Spent (ea ∙ e)
  next_as eb ea ef (Early m e x u l h) = Early m (eb ∙ e) x u l (ea ∙ h)
  next_as eb ea ef (Shut m x u e l h) = Shut m x u (eb ∙ e) l (ea ∙ h)
  next_as eb ea ef (Late us v l w e h) = Late us v l w (eb ∙ e) (ea ∙ h)

  -- with more pieces before
  pub next_from : {strict : Bool} {ls ms : List Piece} {t : Piece} {b a f : Reading A} (taken : List Piece) → ls ≡ taken ++ ms → Next strict ms t b a f → Next strict ls t b a f
  next_from taken d (Opened o) = Opened o
  next_from taken d (Stays x u e l h) = Stays x u e l h
  next_from taken d (Misfits e h) = Misfits e h
  next_from taken d (TooDeep e o) = TooDeep e o
  next_from taken d (Spent e) = Spent e
  next_from taken d (Early m e x u l h) = Early m e x u l h
  next_from taken d (Shut m x u e l h) = Shut m x u e l h
  next_from taken d (Late us v l w e h) = Late (taken ++ us) v (d ∙ ap (λ (z : List Piece). taken ++ z) l ∙ sym (append_assoc taken us (v ∷ []))) w e h

  -- what is strict is also not
  pub next_weak : {strict : Bool} {ls : List Piece} {t : Piece} {b a f : Reading A} → strict ≡ false → Next true ls t b a f → Next strict ls t b a f
  next_weak m (Opened o) = Opened o
  next_weak m (Stays x u e l h) = Stays x u e l h
  next_weak m (Misfits e h) = Misfits e h
  next_weak m (TooDeep e o) = TooDeep e o
  next_weak m (Spent e) = Spent e
  next_weak m (Early n e x u l h) = Early m e x u l h
  next_weak m (Shut n x u e l h) = Shut m x u e l h
  next_weak m (Late us v l w e h) = Late us v l w e h

  pub freed_as : {r r' s s' : Reading A} → r' ≡ r → s' ≡ s → Freed r s → Freed r' s'
  freed_as {r} {r'} {s} {s'} e f (Same h) = Same (f ∙ h ∙ ap freed_reading (sym e))
  freed_as e f (Deeper at h) = Deeper at (e ∙ h)

  -- a value that is read with a limit is read without one
  pub free_value : (r s : Reading A) → Freed r s → (x : A) (u : State) → r ≡ Ok (x, u) → s ≡ Ok (x, freed u)
  free_value r s (Same h) x u e = h ∙ ap freed_reading e
  free_value r s (Deeper at h) x u e = absurd (cc)

  -- what is open is a value with nothing left, or ended
  pub data Ending (r : Reading A) : Type 0 where
    Whole : (x : A) (u : State) → r ≡ Ok (x, u) → u.left ≡ [] → Ending r
    Partial : r ≡ Err Ended → Ending r

  pub ending : (r : Reading A) → Open r → Ending r
  ending (Ok q) o = Whole q.0 q.1 refl o
  ending (Err Ended) o = Partial refl
  ending (Err NoMemory) o = absurd o
  ending (Err Exhausted) o = absurd o
  ending (Err (Fault k at)) o = absurd o
  ending (Err (Deep at)) o = absurd o

-- ---- what is left

pub none_more : (ls : List Piece) (u : State) → u.left ≡ [] → ls ≡ ls ++ u.left
none_more ls u e = sym (append-nil ls) ∙ ap (λ (z : List Piece). ls ++ z) (sym e)

pub part_both : {s t u : State} → Part s t → Part t u → Part s u
part_both {u} a b = record { taken = a.taken ++ b.taken; split = a.split ∙ ap (λ (z : List Piece). a.taken ++ z) b.split ∙ sym (append_assoc a.taken b.taken u.left) }

pub part_length : {s t : State} → Part s t → length t.left ≤ length s.left
part_length {s} {t} a =
    let e : length s.left ≡ length (a.taken ++ t.left) = ap length a.split in
    let f : length (a.taken ++ t.left) ≡ length a.taken + length t.left = length-append a.taken t.left in
    omega arith
