-- The laws of what needs no piece, and of one production after another.
use Rattle.std.proofs.Common.{◌++◌, true≢false, ◌≡◌, ◌⊎◌, inl, inr, ℕ, Bool, true, false, List, [], ◌∷◌, Ok, Err, refl, sym, ap, ◌∙◌}
use Rattle.cx_names.specs.Frames.{Frames}
use Rattle.cx_tokens.specs.Pieces.{Piece}
use Rattle.cx_syntax.specs.declared.stopped.Stopped.TheVariants.{NoMemory, Ended, Exhausted, Fault, Deep}
use Rattle.cx_syntax.specs.States.{State, grow, freed, misfit, ◌>>>◌, Reading}
use Rattle.cx_syntax.specs.Productions.{Production, give, step, stepped, ◌>>=◌}
use Rattle.cx_syntax_laws.proofs.Lawful.{grown, freed_reading, Open, Next, Opened, Stays, Misfits, TooDeep, Spent, Early, Shut, Late, Freed, Same, Deeper, Part, Basic, Lawful, Filled}
use Rattle.cx_syntax_laws.proofs.Readings.{next_from, none_more, part_both, ok_pair, ok_value, open_as, next_as, freed_as, free_value, Ending, Whole, Partial, ending}

-- ---- what needs no piece

module _ {A : Type 0} (strict : Bool) where
  pub lawful_step : (f : ℕ → Frames → A × ℕ × Frames) → Lawful strict (step f)
  lawful_step f = record {
    basic = record {
      sound = λ s t x e. ok_pair (x, t) (stepped f s) (sym e);
      complete = λ s t x w. ap Ok (sym w);
      begun = λ s o. o;
      ended = λ s o. o;
      nothing = λ s o. o;
      ahead = λ s vs. inr refl;
      unlimited = λ s. Same refl;
      part = λ s t x e. record { taken = []; split = ap (λ (u : State). u.left) (ok_value (stepped f s).0 x (stepped f s).1 t e).1 };
      limit = λ s t x e. ap (λ (u : State). u.free) (sym (ok_value (stepped f s).0 x (stepped f s).1 t e).1);
    };
    next = λ s t o. Stays (stepped f s).0 (stepped f s).1 refl o refl;
  }

  pub lawful_give : (x : A) → Lawful strict (give x)
  lawful_give x =
      let h = lawful_step (λ n names. (x, n, names)) in
      record {
        basic = record {
          sound = λ s t y e. let q = ok_value x y s t e in (sym q.0, sym q.1);
          complete = λ s t y w. (λ i. Ok (sym w.0 i, sym w.1 i));
          begun = λ s o. o;
          ended = λ s o. o;
          nothing = λ s o. o;
          ahead = h.basic.ahead;
          unlimited = h.basic.unlimited;
          part = h.basic.part;
          limit = h.basic.limit;
        };
        next = h.next;
      }

-- ---- one production after another

-- reading goes on at the end of the pieces
pub first_open : {A B : Type 0} (f : A → Production B) → ((x : A) → Basic (f x)) → (r : Reading A) → Open r → Open (r >>> (λ q. (f q.0).read q.1))
first_open f hf (Ok q) o = (hf q.0).nothing q.1 o
first_open f hf (Err Ended) o = tt
first_open f hf (Err NoMemory) o = absurd o
first_open f hf (Err Exhausted) o = absurd o
first_open f hf (Err (Fault k at)) o = absurd o
first_open f hf (Err (Deep at)) o = absurd o

module _ {A B : Type 0} {p : Production A} {f : A → Production B} (hp : Basic p) (hf : (x : A) → Basic (f x)) where
  abbrev Rest : A × State → Reading B
  Rest q = (f q.0).read q.1

  bind_sound : (s : State) (r : Reading A) → p.read s ≡ r → (u : State) (y : B) → (r >>> Rest) ≡ Ok (y, u) → (p >>= f).whole s y u
  bind_sound s (Ok q) e u y h = (q.0, q.1, hp.sound s q.1 q.0 e, (hf q.0).sound q.1 u y h)
  bind_sound s (Err z) e u y h = absurd (cc)

  bind_read : (s t : State) (x : A) → p.read s ≡ Ok (x, t) → (p >>= f).read s ≡ (f x).read t
  bind_read s t x e = ap (λ (r : Reading A). r >>> Rest) e

  bind_open : (r : Reading A) → Open r → Open (r >>> Rest)
  bind_open r o = first_open f hf r o

  bind_begun : (s : State) → (p >>= f).front s → Open ((p >>= f).read s)
  bind_begun s (inl o) = bind_open (p.read s) (hp.begun s o)
  bind_begun s (inr w) = open_as (bind_read s w.1 w.0 (hp.complete s w.1 w.0 w.2)) ((hf w.0).begun w.1 w.3)

  bind_ended : (s : State) (r : Reading A) → p.read s ≡ r → Open (r >>> Rest) → (p >>= f).front s
  bind_ended s (Ok q) e o = inr (q.0, q.1, hp.sound s q.1 q.0 e, (hf q.0).ended q.1 o)
  bind_ended s (Err Ended) e o = inl (hp.ended s (open_as e tt))
  bind_ended s (Err NoMemory) e o = absurd o
  bind_ended s (Err Exhausted) e o = absurd o
  bind_ended s (Err (Fault k at)) e o = absurd o
  bind_ended s (Err (Deep at)) e o = absurd o

  bind_grown : (vs : List Piece) (r : Reading A) → Open (r >>> Rest) ⊎ ((grown r vs >>> Rest) ≡ grown (r >>> Rest) vs)
  bind_grown vs (Ok q) = (hf q.0).ahead q.1 vs
  bind_grown vs (Err z) = inr refl

  bind_ahead : (s : State) (vs : List Piece) → Open (p.read s) ⊎ (p.read (grow s vs) ≡ grown (p.read s) vs) → Open ((p >>= f).read s) ⊎ ((p >>= f).read (grow s vs) ≡ grown ((p >>= f).read s) vs)
  bind_ahead s vs (inl o) = inl (bind_open (p.read s) o)
  bind_ahead s vs (inr e) =
      elim (bind_grown vs (p.read s)) [
        | inl o ↦ inl o
        | inr h ↦ inr (ap (λ (r : Reading A). r >>> Rest) e ∙ h)
      ]

  bind_freed : (r : Reading A) → Freed (r >>> Rest) (freed_reading r >>> Rest)
  bind_freed (Ok q) = (hf q.0).unlimited q.1
  bind_freed (Err z) = Same refl

  bind_unlimited : (r s : Reading A) → Freed r s → Freed (r >>> Rest) (s >>> Rest)
  bind_unlimited r s (Same h) = freed_as refl (ap (λ (z : Reading A). z >>> Rest) h) (bind_freed r)
  bind_unlimited r s (Deeper at h) = Deeper at (ap (λ (z : Reading A). z >>> Rest) h)

  bind_part : (s : State) (r : Reading A) → p.read s ≡ r → (u : State) (y : B) → (r >>> Rest) ≡ Ok (y, u) → Part s u
  bind_part s (Ok q) e u y h = part_both (hp.part s q.1 q.0 e) ((hf q.0).part q.1 u y h)
  bind_part s (Err z) e u y h = absurd (cc)

  bind_limit : (s : State) (r : Reading A) → p.read s ≡ r → (u : State) (y : B) → (r >>> Rest) ≡ Ok (y, u) → u.free ≡ s.free
  bind_limit s (Ok q) e u y h = (hf q.0).limit q.1 u y h ∙ hp.limit s q.1 q.0 e
  bind_limit s (Err z) e u y h = absurd (cc)

  pub basic_bind : Basic (p >>= f)
  basic_bind = record {
    sound = λ s u y e. bind_sound s (p.read s) refl u y e;
    complete = λ s u y w. bind_read s w.1 w.0 (hp.complete s w.1 w.0 w.2) ∙ (hf w.0).complete w.1 u y w.3;
    begun = bind_begun;
    ended = λ s o. bind_ended s (p.read s) refl o;
    nothing = λ s e. bind_open (p.read s) (hp.nothing s e);
    ahead = λ s vs. bind_ahead s vs (hp.ahead s vs);
    unlimited = λ s. bind_unlimited (p.read s) (p.read (freed s)) (hp.unlimited s);
    part = λ s u y e. bind_part s (p.read s) refl u y e;
    limit = λ s u y e. bind_limit s (p.read s) refl u y e;
  }

-- where the first may be ended by what stands after it, the whole may too, or the second needs a piece
abbrev Ends : {A B : Type 0} → Bool → Bool → (A → Production B) → Type 0
Ends weak strict f = weak ≡ false → (strict ≡ false) ⊎ ((x : _) → Filled (f x))

module _ {weak strict : Bool} {A B : Type 0} {p : Production A} {f : A → Production B} (hp : Lawful weak p) (hf : (x : A) → Lawful strict (f x)) (ends : Ends weak strict f) where
  abbrev K : A × State → Reading B
  K q = (f q.0).read q.1

  go_open : (r : Reading A) → Open r → Open (r >>> K)
  go_open r o = first_open f (λ x. (hf x).basic) r o

  -- the first gave a value, and the piece stands after it
  value_next : (ls : List Piece) (taken : List Piece) (t : Piece) (x : A) (u : State) (r' r'' : Reading A) → ls ≡ taken ++ u.left → Freed r' r'' → r' ≡ Ok (x, grow u (t ∷ [])) → Open ((f x).read u)
      → Next strict ls t ((f x).read u) (r' >>> K) (r'' >>> K)
  value_next ls taken t x u r' r'' l w e o =
      next_from taken l (next_as refl (ap (λ (r : Reading A). r >>> K) e) (ap (λ (r : Reading A). r >>> K) (free_value r' r'' w x (grow u (t ∷ [])) e)) ((hf x).next u t o))

  -- ... where there was none before
  late : {ls : List Piece} {t : Piece} {b c a g : Reading B} → strict ≡ false → b ≡ Err Ended → Next strict ls t c a g → Next strict ls t b a g
  late m e (Opened o) = Opened o
  late m e (Stays x u h l k) = Early m e x u l k
  late m e (Misfits h k) = Misfits e k
  late m e (TooDeep h o) = TooDeep h o
  late m e (Spent h) = Spent h
  late m e (Early n h x u l k) = Early m e x u l k
  late m e (Shut n x u h l k) = Misfits e k
  late m e (Late us v l w h k) = Late us v l w e k

  shut : {ls : List Piece} {t : Piece} {b c a g : Reading B} → strict ≡ false → b ≡ c → a ≡ Err (misfit t.token) → Ending c → Next strict ls t b a g
  shut m e k (Whole x u h l) = Shut m x u (e ∙ h) l k
  shut m e k (Partial h) = Misfits (e ∙ h) k

  bind_next : (ls : List Piece) (t : Piece) (r r' r'' : Reading A) → Freed r' r'' → Next weak ls t r r' r'' → Next strict ls t (r >>> K) (r' >>> K) (r'' >>> K)
  bind_next ls t r r' r'' w (Opened o) = Opened (go_open r' o)
  bind_next ls t r r' r'' w (Stays x u e l h) = next_as (ap (λ (r : Reading A). r >>> K) e) refl refl (value_next ls ls t x u r' r'' (none_more ls u l) w h ((hf x).basic.nothing u l))
  bind_next ls t r r' r'' w (Misfits e h) = Misfits (ap (λ (r : Reading A). r >>> K) e) (ap (λ (r : Reading A). r >>> K) h)
  bind_next ls t r r' r'' w (TooDeep e o) = TooDeep (ap (λ (r : Reading A). r >>> K) e) (go_open r'' o)
  bind_next ls t r r' r'' w (Spent e) = Spent (ap (λ (r : Reading A). r >>> K) e)
  bind_next ls t r r' r'' w (Early m e x u l h) =
      elim (ends m) [
        | inl n ↦ late n (ap (λ (r : Reading A). r >>> K) e) (value_next ls ls t x u r' r'' (none_more ls u l) w h ((hf x).basic.nothing u l))
        | inr k ↦ next_as (ap (λ (r : Reading A). r >>> K) e ∙ sym ((k x).filled u l)) refl refl (value_next ls ls t x u r' r'' (none_more ls u l) w h ((hf x).basic.nothing u l))
      ]
  bind_next ls t r r' r'' w (Shut m x u e l k) =
      elim (ends m) [
        | inl n ↦ shut n (ap (λ (r : Reading A). r >>> K) e) (ap (λ (r : Reading A). r >>> K) k) (ending ((f x).read u) ((hf x).basic.nothing u l))
        | inr d ↦ Misfits (ap (λ (r : Reading A). r >>> K) e ∙ (d x).filled u l) (ap (λ (r : Reading A). r >>> K) k)
      ]
  bind_next ls t r r' r'' w (Late us v l k e h) = Late us v l k (ap (λ (z : Reading A). z >>> K) e) (ap (λ (z : Reading A). z >>> K) h)

  bind_after : (ls : List Piece) (t : Piece) (r r' r'' : Reading A) → ((x : A) (u : State) → r ≡ Ok (x, u) → (taken : List Piece) × (ls ≡ taken ++ u.left)) → Freed r' r'' → Open r ⊎ (r' ≡ grown r (t ∷ []))
      → (Open r → Next weak ls t r r' r'') → Open (r >>> K) → Next strict ls t (r >>> K) (r' >>> K) (r'' >>> K)
  bind_after ls t r r' r'' g w (inl o) n d = bind_next ls t r r' r'' w (n o)
  bind_after ls t (Ok q) r' r'' g w (inr e) n d = let k = g q.0 q.1 refl in value_next ls k.0 t q.0 q.1 r' r'' k.1 w e d
  bind_after ls t (Err Ended) r' r'' g w (inr e) n d = bind_next ls t (Err Ended) r' r'' w (n tt)
  bind_after ls t (Err NoMemory) r' r'' g w (inr e) n d = absurd d
  bind_after ls t (Err Exhausted) r' r'' g w (inr e) n d = absurd d
  bind_after ls t (Err (Fault k at)) r' r'' g w (inr e) n d = absurd d
  bind_after ls t (Err (Deep at)) r' r'' g w (inr e) n d = absurd d

  lawful_sequence : Lawful strict (p >>= f)
  lawful_sequence = record {
    basic = basic_bind hp.basic (λ x. (hf x).basic);
    next = λ s t d. bind_after s.left t (p.read s) (p.read (grow s (t ∷ []))) (p.read (freed (grow s (t ∷ [])))) (λ x u e. let k = hp.basic.part s u x e in (k.taken, k.split)) (hp.basic.unlimited (grow s (t ∷ []))) (hp.basic.ahead s (t ∷ [])) (hp.next s t) d;
  }

pub lawful_bind : {strict : Bool} {A B : Type 0} {p : Production A} {f : A → Production B} → Lawful strict p → ((x : A) → Lawful strict (f x)) → Lawful strict (p >>= f)
lawful_bind hp hf = lawful_sequence hp hf (λ m. inl m)

-- The first may be ended by what stands after it, where what stands after it needs a piece.
pub lawful_before : {A B : Type 0} {p : Production A} {f : A → Production B} → Lawful false p → ((x : A) → Lawful true (f x)) → ((x : A) → Filled (f x)) → Lawful true (p >>= f)
lawful_before hp hf ff = lawful_sequence hp hf (λ m. inr ff)

-- Only the second may be ended by what stands after it.
pub lawful_after : {strict : Bool} {A B : Type 0} {p : Production A} {f : A → Production B} → Lawful true p → ((x : A) → Lawful strict (f x)) → Lawful strict (p >>= f)
lawful_after hp hf = lawful_sequence hp hf (λ m. absurd (true≢false m))
