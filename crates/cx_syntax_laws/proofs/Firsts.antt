-- What needs a piece, takes one, or begins with each piece of a class.
use Rattle.std.proofs.Common.{◌∙◌, ◌≡◌, ◌⊎◌, inl, inr, Bool, true, false, ◌||◌, List, [], ◌∷◌, ◌++◌, Ok, Err, refl, ap, arith, lt_of_le_of_lt}
use Rattle.cx_tokens.specs.Pieces.{Piece}
use Rattle.cx_syntax.specs.declared.stopped.Stopped.TheVariants.{Ended, Exhausted}
use Rattle.cx_syntax.specs.States.{State, freed, ◌>>>◌, Reading}
use Rattle.cx_syntax.specs.Productions.{Production, Class, ◌>>=◌, closed, read_closed, when}
use Rattle.cx_syntax_laws.proofs.Lawful.{grown, freed_reading, Open, Next, Opened, Stays, Misfits, TooDeep, Spent, Early, Shut, Late, Same, Lawful, Filled, Takes, Opens}
use Rattle.cx_syntax_laws.proofs.Readings.{Ending, Whole, Partial, ending, part_length, open_as, next_as}
use Rattle.cx_syntax_laws.proofs.Sequence.{first_open}
use Rattle.cx_syntax_laws.proofs.Choices.{when_one, chosen}

-- ---- one production after another

module _ {A B : Type 0} (f : A → Production B) where
  pub filled_first : {p : Production A} → Filled p → Filled (p >>= f)
  filled_first {p} fp = record { filled = λ s e. ap (λ (r : Reading A). r >>> (λ q. (f q.0).read q.1)) (fp.filled s e) }

  read_value : (r : Reading A) (u : State) (y : B) → (r >>> (λ q. (f q.0).read q.1)) ≡ Ok (y, u) → (x : A) × (t : State) × (r ≡ Ok (x, t)) × ((f x).read t ≡ Ok (y, u))
  read_value (Ok q) u y e = (q.0, q.1, refl, e)
  read_value (Err z) u y e = absurd (cc)

  pub takes_first : {p : Production A} → Takes p → ((x : A) → Lawful true (f x)) → Takes (p >>= f)
  takes_first {p} tp hf = record {
    takes = λ s u y e.
        let w = read_value (p.read s) u y e in
        lt_of_le_of_lt (part_length ((hf w.0).basic.part w.1 u y w.3)) (tp.takes s w.1 w.0 w.2);
  }

  pub takes_second : {p : Production A} → Lawful true p → ((x : A) → Takes (f x)) → Takes (p >>= f)
  takes_second {p} hp tf = record {
    takes = λ s u y e.
        let w = read_value (p.read s) u y e in
        let a = (tf w.0).takes w.1 u y w.3 in
        let b = part_length (hp.basic.part s w.1 w.0 w.2) in
        omega arith;
  }

  begun_next : {strict : Bool} {t : Piece} {r r' : Reading A} {b : Reading B} → ((x : A) → Lawful strict (f x)) → Next true [] t (Err Exhausted) r r'
      → Next true [] t b (r >>> (λ q. (f q.0).read q.1)) (r' >>> (λ q. (f q.0).read q.1))
  begun_next hf (Opened o) = Opened (first_open f (λ x. (hf x).basic) _ o)
  begun_next hf (Stays x u e l h) = absurd (cc)
  begun_next hf (Misfits e h) = absurd (cc)
  begun_next hf (TooDeep e o) = TooDeep (ap (λ (r : Reading A). r >>> (λ q. (f q.0).read q.1)) e) (first_open f (λ x. (hf x).basic) _ o)
  begun_next hf (Spent e) = Spent (ap (λ (r : Reading A). r >>> (λ q. (f q.0).read q.1)) e)
  begun_next hf (Early m e x u l h) = absurd (cc)
  begun_next hf (Shut m x u e l h) = absurd (cc)
  begun_next hf (Late us v l w e h) = absurd (cc)

  pub opens_first : {q : Class} {p : Production A} → Opens q p → ((x : A) → Lawful true (f x)) → Opens q (p >>= f)
  opens_first {p} op hf = record { opens = λ s t before e h. begun_next hf (op.opens s t (Err Exhausted) e h) }

-- the first may read nothing
pub filled_after : {A B : Type 0} {p : Production A} (f : A → Production B) → Lawful true p → ((x : A) → Filled (f x)) → Filled (p >>= f)
filled_after {p} f hp ff = record { filled = λ s e. by_ending s (ending (p.read s) (hp.basic.nothing s e)) }
  where
    by_ending : (s : State) → Ending (p.read s) → (p.read s >>> (λ q. (f q.0).read q.1)) ≡ Err Ended
    by_ending s (Whole x u d l) = ap (λ (r : Reading _). r >>> (λ q. (f q.0).read q.1)) d ∙ (ff x).filled u l
    by_ending s (Partial d) = ap (λ (r : Reading _). r >>> (λ q. (f q.0).read q.1)) d

-- ---- no level is left

pub lawful_closed : (strict : Bool) (A : Type 0) → Lawful strict (closed {A = A})
unfolding read_closed
lawful_closed strict A = record {
  basic = record {
    sound = λ s t x e. by_left s.left e;
    complete = λ s t x w. absurd w;
    begun = λ s o. open_as (ap read_closed o) tt;
    ended = λ s o. none_left s.left o;
    nothing = λ s e. open_as (ap read_closed e) tt;
    ahead = λ s vs. closed_ahead s.left vs;
    unlimited = λ s. Same (closed_same s.left);
    part = λ s t x e. absurd (by_left s.left e);
    limit = λ s t x e. absurd (by_left s.left e);
  };
  next = λ s t o. Spent (closed_more s.left t);
}
  where
    by_left : {t : State} {x : A} (l : List Piece) → read_closed {A = A} l ≡ Ok (x, t) → ⊥
    by_left [] e = absurd (cc)
    by_left (y ∷ ts) e = absurd (cc)

    none_left : (l : List Piece) → Open (read_closed {A = A} l) → l ≡ []
    none_left [] o = refl
    none_left (y ∷ ts) o = absurd o

    closed_ahead : (l vs : List Piece) → Open (read_closed {A = A} l) ⊎ (read_closed {A = A} (l ++ vs) ≡ grown (read_closed l) vs)
    closed_ahead [] vs = inl tt
    closed_ahead (y ∷ ts) vs = inr refl

    closed_more : (l : List Piece) (t : Piece) → read_closed {A = A} (l ++ t ∷ []) ≡ Err Exhausted
    closed_more [] t = refl
    closed_more (y ∷ ts) t = refl

    closed_same : (l : List Piece) → read_closed {A = A} l ≡ freed_reading (read_closed l)
    closed_same [] = refl
    closed_same (y ∷ ts) = refl

pub filled_closed : (A : Type 0) → Filled (closed {A = A})
unfolding read_closed
filled_closed A = record { filled = λ s e. ap read_closed e }

-- ---- classes that a test is made of

-- the first of two classes begins with one production, the other with another
pub opens_either : {A : Type 0} (p q : Class) {a b : Production A} → Opens p a → Opens q b → Opens (λ names t. p names t || q names t) (when p a b)
opens_either {A} p q {a} {b} oa ob = record {
  opens = λ s t before e h. next_as refl (when_one p a b s t [] e) (when_one p a b (freed s) t [] e) (by_test s t before e (p s.names t) refl h);
}
  where
    by_test : (s : State) (t : Piece) (before : Reading A) → s.left ≡ t ∷ [] → (is : Bool) → p s.names t ≡ is → (is || q s.names t) ≡ true
        → Next true [] t before ((chosen is a b).read s) ((chosen is a b).read (freed s))
    by_test s t before e true f h = oa.opens s t before e f
    by_test s t before e false f h = ob.opens s t before e h

-- the first of three
pub opens_three : {A : Type 0} (p q r : Class) {a b d : Production A} → Opens p a → Opens q b → Opens r d → Opens (λ names t. (p names t || q names t) || r names t) (when p a (when q b d))
opens_three p q r {a} {b} {d} oa ob od = record {
  opens = λ s t before e h. (opens_either p (λ names t. q names t || r names t) {a = a} {b = when q b d} oa (opens_either q r {a = b} {b = d} ob od)).opens s t before e (regroup (p s.names t) (q s.names t) (r s.names t) h);
}
  where
    regroup : (x y z : Bool) → ((x || y) || z) ≡ true → (x || (y || z)) ≡ true
    regroup true y z h = refl
    regroup false y z h = h

-- ---- a production that is ended by what stands after it

pub lawful_weak : {A : Type 0} {p : Production A} → Lawful true p → Lawful false p
lawful_weak h = record {
  basic = record {
    sound = h.basic.sound;
    complete = h.basic.complete;
    begun = h.basic.begun;
    ended = h.basic.ended;
    nothing = h.basic.nothing;
    ahead = h.basic.ahead;
    unlimited = h.basic.unlimited;
    part = h.basic.part;
    limit = h.basic.limit;
  };
  next = λ s t o. weak (h.next s t o);
}
  where
    weak : {A : Type 0} {ls : List Piece} {t : Piece} {b a f : Reading A} → Next true ls t b a f → Next false ls t b a f
    weak (Opened o) = Opened o
    weak (Stays x u e l k) = Stays x u e l k
    weak (Misfits e k) = Misfits e k
    weak (TooDeep e o) = TooDeep e o
    weak (Spent e) = Spent e
    weak (Early n e x u l k) = Early refl e x u l k
    weak (Shut n x u e l k) = Shut refl x u e l k
    weak (Late us v l w e k) = Late us v l w e k
