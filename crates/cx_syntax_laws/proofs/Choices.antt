-- The laws of a choice by the next piece, or by what is known.
use Rattle.std.proofs.Common.{◌≡◌, ◌⊎◌, inl, inr, Bool, true, false, if◌then◌else◌, List, [], ◌∷◌, ◌++◌, Err, refl, sym, ap, ◌∙◌}
use Rattle.cx_names.specs.Frames.{Frames}
use Rattle.cx_tokens.specs.Pieces.{Piece}
use Rattle.cx_syntax.specs.declared.stopped.Stopped.TheVariants.{Ended}
use Rattle.cx_syntax.specs.States.{State, cut, grow, freed, Reading}
use Rattle.cx_syntax.specs.Productions.{Production, Class, when, given, begins, begins_with, Chosen}
use Rattle.cx_syntax_laws.proofs.Lawful.{grown, Open, Next, Opened, Stays, Misfits, TooDeep, Spent, Early, Shut, Late, Basic, Lawful, Filled, Takes, Opens}
use Rattle.cx_syntax_laws.proofs.Readings.{next_from, open_as, next_as, next_weak, freed_as}

-- ---- by what is known

abbrev pub chosen : {A : Type 0} → Bool → Production A → Production A → Production A
chosen true a b = a
chosen false a b = b

pub chosen_read : {A : Type 0} (is : Bool) (a b : Production A) (s : State) → (if is then a.read s else b.read s) ≡ (chosen is a b).read s
chosen_read true a b s = refl
chosen_read false a b s = refl

module _ {A : Type 0} (a b : Production A) where
  to_whole : (is : Bool) (s t : State) (x : A) → (chosen is a b).whole s x t → Chosen is (a.whole s x t) (b.whole s x t)
  to_whole true s t x w = w
  to_whole false s t x w = w

  from_whole : (is : Bool) (s t : State) (x : A) → Chosen is (a.whole s x t) (b.whole s x t) → (chosen is a b).whole s x t
  from_whole true s t x w = w
  from_whole false s t x w = w

  to_front : (is : Bool) (s : State) → (chosen is a b).front s → Chosen is (a.front s) (b.front s)
  to_front true s o = o
  to_front false s o = o

  from_front : (is : Bool) (s : State) → Chosen is (a.front s) (b.front s) → (chosen is a b).front s
  from_front true s o = o
  from_front false s o = o

pub lawful_chosen : {strict : Bool} {A : Type 0} (is : Bool) {a b : Production A} → Lawful strict a → Lawful strict b → Lawful strict (chosen is a b)
lawful_chosen true ha hb = ha
lawful_chosen false ha hb = hb

pub lawful_given : {strict : Bool} {A : Type 0} (is : Bool) {a b : Production A} → Lawful strict a → Lawful strict b → Lawful strict (given is a b)
lawful_given true ha hb = ha
lawful_given false ha hb = hb

pub filled_given : {A : Type 0} (is : Bool) {a b : Production A} → Filled a → Filled b → Filled (given is a b)
filled_given true ha hb = ha
filled_given false ha hb = hb

pub takes_given : {A : Type 0} (is : Bool) {a b : Production A} → Takes a → Takes b → Takes (given is a b)
takes_given true ha hb = ha
takes_given false ha hb = hb

-- ---- by the next piece

begins_none : (q : Class) (names : Frames) → begins_with q names [] ≡ false
unfolding begins_with
begins_none q names = refl

begins_one : (q : Class) (names : Frames) (t : Piece) (ts : List Piece) → begins_with q names (t ∷ ts) ≡ q names t
unfolding begins_with
begins_one q names t ts = refl

-- where no piece was read, a piece that the test takes: what the first production does with it
pub record Turns {A : Type 0} (strict : Bool) (q : Class) (a b : Production A) : Type 0 where
  pub turns : (s : State) (t : Piece) → s.left ≡ t ∷ [] → q s.names t ≡ true → Next strict [] t (b.read (cut s [])) (a.read s) (a.read (freed s))

module _ {A : Type 0} (q : Class) (a b : Production A) where
  pub when_read : (s : State) → (when q a b).read s ≡ (chosen (begins q s) a b).read s
  when_read s = chosen_read (begins q s) a b s

  pub when_none : (s : State) → s.left ≡ [] → (when q a b).read s ≡ b.read s
  when_none s e =
      when_read s ∙ ap (λ (l : List Piece). (chosen (begins_with q s.names l) a b).read s) e ∙ ap (λ (is : Bool). (chosen is a b).read s) (begins_none q s.names)

  pub when_one : (s : State) (u : Piece) (us : List Piece) → s.left ≡ u ∷ us → (when q a b).read s ≡ (chosen (q s.names u) a b).read s
  when_one s u us e =
      when_read s ∙ ap (λ (l : List Piece). (chosen (begins_with q s.names l) a b).read s) e ∙ ap (λ (is : Bool). (chosen is a b).read s) (begins_one q s.names u us)

basic_chosen : {A : Type 0} (is : Bool) {a b : Production A} → Basic a → Basic b → Basic (chosen is a b)
basic_chosen true ha hb = ha
basic_chosen false ha hb = hb

module _ {A : Type 0} (q : Class) {a b : Production A} (ha : Basic a) (hb : Basic b) where
  basic_at : (is : Bool) → Basic (chosen is a b)
  basic_at is = basic_chosen is ha hb

  when_ahead : (s : State) (vs : List Piece) (l : List Piece) → s.left ≡ l → Open ((when q a b).read s) ⊎ ((when q a b).read (grow s vs) ≡ grown ((when q a b).read s) vs)
  when_ahead s vs [] e = inl (open_as (when_none q a b s e) (hb.nothing s e))
  when_ahead s vs (u ∷ us) e =
      elim ((basic_at (q s.names u)).ahead s vs) [
        | inl o ↦ inl (open_as (when_one q a b s u us e) o)
        | inr h ↦ inr (when_one q a b (grow s vs) u (us ++ vs) (ap (λ (l : List Piece). l ++ vs) e) ∙ h ∙ ap (λ (r : Reading A). grown r vs) (sym (when_one q a b s u us e)))
      ]

  pub basic_choice : Basic (when q a b)
  basic_choice = record {
    sound = λ s t x e. to_whole a b (begins q s) s t x ((basic_at (begins q s)).sound s t x (sym (when_read q a b s) ∙ e));
    complete = λ s t x w. when_read q a b s ∙ (basic_at (begins q s)).complete s t x (from_whole a b (begins q s) s t x w);
    begun = λ s o. open_as (when_read q a b s) ((basic_at (begins q s)).begun s (from_front a b (begins q s) s o));
    ended = λ s o. to_front a b (begins q s) s ((basic_at (begins q s)).ended s (open_as (sym (when_read q a b s)) o));
    nothing = λ s e. open_as (when_none q a b s e) (hb.nothing s e);
    ahead = λ s vs. when_ahead s vs s.left refl;
    unlimited = λ s. freed_as (when_read q a b s) (when_read q a b (freed s)) ((basic_at (begins q s)).unlimited s);
    part = λ s t x e. (basic_at (begins q s)).part s t x (sym (when_read q a b s) ∙ e);
    limit = λ s t x e. (basic_at (begins q s)).limit s t x (sym (when_read q a b s) ∙ e);
  }

module _ {strict : Bool} {A : Type 0} (q : Class) {a b : Production A} (ha : Lawful strict a) (hb : Lawful strict b) (turn : Turns strict q a b) where
  when_at : (is : Bool) → Lawful strict (chosen is a b)
  when_at is = lawful_chosen is ha hb

  first_next : (s : State) (t : Piece) → s.left ≡ [] → (is : Bool) → q s.names t ≡ is
      → Next strict s.left t (b.read s) ((chosen is a b).read (grow s (t ∷ []))) ((chosen is a b).read (freed (grow s (t ∷ []))))
  first_next s t e true h =
      next_from [] e (next_as (ap (λ (l : List Piece). b.read (cut s l)) e) refl refl (turn.turns (grow s (t ∷ [])) t (ap (λ (l : List Piece). l ++ t ∷ []) e) h))
  first_next s t e false h = hb.next s t (hb.basic.nothing s e)

  when_next : (s : State) (t : Piece) (l : List Piece) → s.left ≡ l → Open ((when q a b).read s)
      → Next strict s.left t ((when q a b).read s) ((when q a b).read (grow s (t ∷ []))) ((when q a b).read (freed (grow s (t ∷ []))))
  when_next s t [] e o =
      let f : s.left ++ t ∷ [] ≡ t ∷ [] = ap (λ (l : List Piece). l ++ t ∷ []) e in
      next_as (when_none q a b s e) (when_one q a b (grow s (t ∷ [])) t [] f) (when_one q a b (freed (grow s (t ∷ []))) t [] f) (first_next s t e (q s.names t) refl)
  when_next s t (u ∷ us) e o =
      let f : s.left ++ t ∷ [] ≡ u ∷ (us ++ t ∷ []) = ap (λ (l : List Piece). l ++ t ∷ []) e in
      next_as (when_one q a b s u us e) (when_one q a b (grow s (t ∷ [])) u (us ++ t ∷ []) f) (when_one q a b (freed (grow s (t ∷ []))) u (us ++ t ∷ []) f)
      ((when_at (q s.names u)).next s t (open_as (sym (when_one q a b s u us e)) o))

  pub lawful_choice : Lawful strict (when q a b)
  lawful_choice = record {
    basic = basic_choice q ha.basic hb.basic;
    next = λ s t o. when_next s t s.left refl o;
  }

-- both need a piece
ended_next : {strict : Bool} {A : Type 0} {ls : List Piece} {t : Piece} {b c a f : Reading A} → b ≡ Err Ended → c ≡ Err Ended → Next strict ls t c a f → Next strict ls t b a f
ended_next e h n = next_as (e ∙ sym h) refl refl n

-- the first may end before its first piece
pub until_next : {A : Type 0} {ls : List Piece} {t : Piece} {b c a f : Reading A} → b ≡ Err Ended → Next false ls t c a f → Next false ls t b a f
until_next e (Opened o) = Opened o
until_next e (Stays x u h l k) = Early refl e x u l k
until_next e (Misfits h k) = Misfits e k
until_next e (TooDeep h o) = TooDeep h o
until_next e (Spent h) = Spent h
until_next e (Early n h x u l k) = Early refl e x u l k
until_next e (Shut n x u h l k) = Misfits e k
until_next e (Late us v l w h k) = Late us v l w e k

one_more : (s : State) (t : Piece) → s.left ≡ t ∷ [] → s ≡ grow (cut s []) (t ∷ [])
one_more s t e = (λ i. record { left = e i; next = s.next; names = s.names; free = s.free })

pub next_at : {strict : Bool} {A : Type 0} {a : Production A} (s : State) (t : Piece) → s.left ≡ t ∷ [] → Lawful strict a → Next strict [] t (a.read (cut s [])) (a.read s) (a.read (freed s))
next_at {a} s t e ha =
    next_as refl (ap a.read (one_more s t e)) (ap (λ (u : State). a.read (freed u)) (one_more s t e)) (ha.next (cut s []) t (ha.basic.nothing (cut s []) refl))

opens_next : {strict : Bool} {A : Type 0} {ls : List Piece} {t : Piece} {b a f : Reading A} → Next true ls t b a f → Next strict ls t b a f
opens_next {strict = true} n = n
opens_next {strict = false} n = next_weak refl n

module _ {A : Type 0} (q : Class) {a b : Production A} where
  -- Both productions need a piece.
  pub lawful_when : {strict : Bool} → Lawful strict a → Lawful strict b → Filled a → Filled b → Lawful strict (when q a b)
  lawful_when ha hb fa fb =
      lawful_choice q ha hb (record { turns = λ s t e h. ended_next (fb.filled (cut s []) refl) (fa.filled (cut s []) refl) (next_at s t e ha) })

  -- The first begins with each piece of the test; the second may be empty.
  pub lawful_when_opens : {strict : Bool} → Lawful strict a → Lawful strict b → Opens q a → Lawful strict (when q a b)
  lawful_when_opens ha hb oa = lawful_choice q ha hb (record { turns = λ s t e h. opens_next (oa.opens s t (b.read (cut s [])) e h) })

  -- The second needs a piece, the first may end before one.
  pub lawful_until : Lawful false a → Lawful false b → Filled b → Lawful false (when q a b)
  lawful_until ha hb fb = lawful_choice q ha hb (record { turns = λ s t e h. until_next (fb.filled (cut s []) refl) (next_at s t e ha) })

pub filled_when : {A : Type 0} (q : Class) (a : Production A) {b : Production A} → Filled b → Filled (when q a b)
filled_when q a {b} fb = record { filled = λ s e. when_none q a b s e ∙ fb.filled s e }

takes_chosen : {A : Type 0} (is : Bool) {a b : Production A} → Takes a → Takes b → Takes (chosen is a b)
takes_chosen true ta tb = ta
takes_chosen false ta tb = tb

pub takes_when : {A : Type 0} (q : Class) {a b : Production A} → Takes a → Takes b → Takes (when q a b)
takes_when q {a} {b} ta tb = record { takes = λ s t x e. (takes_chosen (begins q s) ta tb).takes s t x (sym (when_read q a b s) ∙ e) }
