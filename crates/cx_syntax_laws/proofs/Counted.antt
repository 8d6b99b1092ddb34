-- A token that is found to be within one more construct once the next is seen: `void` at the front of parameters.
use Rattle.std.proofs.Common.{◌≡◌, ◌≢◌, ◌⊎◌, inl, inr, Bool, true, false, IsTrue, if◌then◌else◌, List, [], ◌∷◌, ◌++◌, Ok, Err, refl, sym, ap, ◌∙◌, true≢false}
use Rattle.cx_tokens.specs.Pieces.{Piece, is_word}
use Rattle.cx_tokens.specs.declared.word.Word.TheVariants as word'
use Rattle.cx_names.specs.Frames.{Frames}
use Rattle.cx_syntax.specs.declared.context.Context.{Context}
use Rattle.cx_syntax.specs.declared.stopped.Stopped.TheVariants.{NoMemory, Ended, Exhausted, Fault, Deep}
use Rattle.cx_syntax.specs.States.{State, Reading, grow, freed, fits, ◌>>>◌}
use Rattle.cx_syntax.specs.Productions.{Production, Class, ◌>>=◌, token, counted, read_counted, when}
use Rattle.cx_syntax.specs.Classes.{word}
use Rattle.cx_syntax_laws.proofs.Lawful.{grown, freed_reading, Open, Next, Opened, Stays, Misfits, TooDeep, Spent, Early, Shut, Late, Freed, Same, Deeper, Basic, Lawful, Filled}
use Rattle.cx_syntax_laws.proofs.Readings.{ok_value, open_as, next_as, freed_as, next_from, free_value}
use Rattle.cx_syntax_laws.proofs.Sequence.{first_open, basic_bind}
use Rattle.cx_syntax_laws.proofs.Tokens.{lawful_token, filled_token}
use Rattle.cx_syntax_laws.proofs.Choices.{basic_choice, when_none, when_one, chosen, until_next}
use Rattle.cx_syntax_laws.proofs.Firsts.{filled_first}

module _ (d : Context) (v : Piece) where
  pub filled_counted : Filled (counted d v)
  unfolding read_counted
  filled_counted = record { filled = λ s e. ap (λ (l : List Piece). read_counted d v s l) e }

  -- what is read where a piece is left
  abbrev at_next : Bool → State → Reading (Unit {0})
  at_next true s = Ok (tt, s)
  at_next false s = Err (Deep v.token.at)

  counted_one : (s : State) (t : Piece) (ts : List Piece) → read_counted d v s (t ∷ ts) ≡ at_next (fits d s) s
  unfolding read_counted
  counted_one s t ts = by_test (fits d s)
    where
      by_test : (is : Bool) → (if is then Ok (tt, s) else Err (Deep v.token.at)) ≡ at_next is s
      by_test true = refl
      by_test false = refl

  counted_none : (s : State) → read_counted d v s [] ≡ Err Ended
  unfolding read_counted
  counted_none s = refl

  pub basic_counted : Basic (counted d v)
  basic_counted = record {
    sound = λ s t x e. value s s.left refl t x e;
    complete = λ s t x w. whole s s.left refl t x w;
    begun = λ s o. open_as (ap (λ (l : List Piece). read_counted d v s l) o ∙ counted_none s) tt;
    ended = λ s o. ended s s.left refl o;
    nothing = λ s o. open_as (ap (λ (l : List Piece). read_counted d v s l) o ∙ counted_none s) tt;
    ahead = λ s vs. ahead s vs s.left;
    unlimited = λ s. free s s.left;
    part = λ s t x e. let w = value s s.left refl t x e in record { taken = []; split = ap (λ (u : State). u.left) (sym w.0) };
    limit = λ s t x e. let w = value s s.left refl t x e in ap (λ (u : State). u.free) w.0;
  }
    where
      by_value : (is : Bool) (s t : State) (x : Unit {0}) → fits d s ≡ is → at_next is s ≡ Ok (x, t) → (t ≡ s) × (fits d s ≡ true)
      by_value true s t x f e = (sym (ok_value tt x s t e).1, f)
      by_value false s t x f e = absurd (cc)

      value : (s : State) (l : List Piece) → s.left ≡ l → (t : State) (x : Unit {0}) → read_counted d v s l ≡ Ok (x, t) → (t ≡ s) × (s.left ≢ []) × IsTrue (fits d s)
      value s [] e t x h = absurd (let k = counted_none s in cc)
      value s (y ∷ ts) e t x h =
          let w = by_value (fits d s) s t x refl (sym (counted_one s y ts) ∙ h) in
          (w.0, (λ n. absurd (cc)), w.1)

      whole : (s : State) (l : List Piece) → s.left ≡ l → (t : State) (x : Unit {0}) → (t ≡ s) × (s.left ≢ []) × IsTrue (fits d s) → read_counted d v s l ≡ Ok (x, t)
      whole s [] e t x w = absurd (w.1 e)
      whole s (y ∷ ts) e t x w = counted_one s y ts ∙ ap (λ (is : Bool). at_next is s) w.2 ∙ (λ i. Ok (x, sym w.0 i))

      open_test : (is : Bool) (s : State) → Open (at_next is s) → s.left ≡ []
      open_test true s o = o
      open_test false s o = absurd o

      ended : (s : State) (l : List Piece) → s.left ≡ l → Open (read_counted d v s l) → s.left ≡ []
      ended s [] e o = e
      ended s (y ∷ ts) e o = open_test (fits d s) s (open_as (sym (counted_one s y ts)) o)

      grown_test : (is : Bool) (s : State) (vs : List Piece) → at_next is (grow s vs) ≡ grown (at_next is s) vs
      grown_test true s vs = refl
      grown_test false s vs = refl

      ahead : (s : State) (vs l : List Piece) → Open (read_counted d v s l) ⊎ (read_counted d v (grow s vs) (l ++ vs) ≡ grown (read_counted d v s l) vs)
      ahead s vs [] = inl (open_as (counted_none s) tt)
      ahead s vs (y ∷ ts) = inr (counted_one (grow s vs) y (ts ++ vs) ∙ grown_test (fits d s) s vs ∙ ap (λ (r : Reading (Unit {0})). grown r vs) (sym (counted_one s y ts)))

      free_test : (is : Bool) (s : State) → Freed (at_next is s) (at_next true (freed s))
      free_test true s = Same refl
      free_test false s = Deeper v.token.at refl

      free : (s : State) (l : List Piece) → Freed (read_counted d v s l) (read_counted d v (freed s) l)
      free s [] = Same (counted_none (freed s) ∙ ap freed_reading (sym (counted_none s)))
      free s (y ∷ ts) = freed_as (counted_one s y ts) (counted_one (freed s) y ts) (free_test (fits d s) s)

is_void : (names : Frames) (v : Piece) → word word'.Void names v ≡ true → IsTrue (is_word word'.Void v.token.kind)
unfolding word
is_void names v e = e

-- The word, then one production where the next piece is of a class; else the word counts, and another production follows.
module _ {A : Type 0} (c d : Context) (r : Class) {a b : Piece → Production A} (ha : (v : Piece) → Lawful false (a v)) (hb : (v : Piece) → Lawful false (b v)) where
  abbrev counts : Piece → Production A
  counts v = counted d v >>= (λ u. b v)

  abbrev after : Piece → Production A
  after v = when r (a v) (counts v)

  basic_counts : (v : Piece) → Basic (counts v)
  basic_counts v = basic_bind (basic_counted d v) (λ u. (hb v).basic)

  basic_after : (v : Piece) → Basic (after v)
  basic_after v = basic_choice r (ha v).basic (basic_counts v)

  counts_ended : (v : Piece) (u : State) → u.left ≡ [] → (counts v).read u ≡ Err Ended
  counts_ended v u e = (filled_first (λ x. b v) (filled_counted d v)).filled u e

  counts_one : (v : Piece) (u : State) (y : Piece) (ys : List Piece) → u.left ≡ y ∷ ys → (counts v).read u ≡ (at_next d v (fits d u) u >>> (λ q. (b v).read q.1))
  counts_one v u y ys e = ap (λ (z : Reading (Unit {0})). z >>> (λ q. (b v).read q.1)) (ap (λ (l : List Piece). read_counted d v u l) e ∙ counted_one d v u y ys)

  grows_one : (u : State) (t : Piece) → u.left ≡ [] → u.left ++ t ∷ [] ≡ t ∷ []
  grows_one u t e = ap (λ (l : List Piece). l ++ t ∷ []) e

  -- where nothing stands after the word yet
  counts_first : (v : Piece) (u : State) (t : Piece) → u.left ≡ [] → IsTrue (is_word word'.Void v.token.kind) → (before : Reading A) → before ≡ Err Ended
      → Next false (v ∷ u.left) t before ((counts v).read (grow u (t ∷ []))) ((counts v).read (freed (grow u (t ∷ []))))
  counts_first v u t e w before o =
      next_as refl (counts_one v (grow u (t ∷ [])) t [] (grows_one u t e)) (counts_one v (freed (grow u (t ∷ []))) t [] (grows_one u t e)) (by_test (fits d u))
    where
      by_test : (is : Bool)
          → Next false (v ∷ u.left) t before (at_next d v is (grow u (t ∷ [])) >>> (λ q. (b v).read q.1)) (at_next d v true (freed (grow u (t ∷ []))) >>> (λ q. (b v).read q.1))
      by_test true = next_from (v ∷ []) refl (until_next o ((hb v).next u t ((hb v).basic.nothing u e)))
      by_test false = Late [] v (ap (λ (l : List Piece). v ∷ l) e) w o refl

  chosen_first : (v : Piece) (u : State) (t : Piece) → u.left ≡ [] → IsTrue (is_word word'.Void v.token.kind) → (before : Reading A) → before ≡ Err Ended
      → (is : Bool) → Next false (v ∷ u.left) t before ((chosen is (a v) (counts v)).read (grow u (t ∷ []))) ((chosen is (a v) (counts v)).read (freed (grow u (t ∷ []))))
  chosen_first v u t e w before o true = next_from (v ∷ []) refl (until_next o ((ha v).next u t ((ha v).basic.nothing u e)))
  chosen_first v u t e w before o false = counts_first v u t e w before o

  counts_more : (v : Piece) (u : State) (t y : Piece) (ys : List Piece) → u.left ≡ y ∷ ys → Open ((counts v).read u)
      → Next false (v ∷ u.left) t ((counts v).read u) ((counts v).read (grow u (t ∷ []))) ((counts v).read (freed (grow u (t ∷ []))))
  counts_more v u t y ys e o =
      let f : u.left ++ t ∷ [] ≡ y ∷ (ys ++ t ∷ []) = ap (λ (l : List Piece). l ++ t ∷ []) e in
      next_as (counts_one v u y ys e) (counts_one v (grow u (t ∷ [])) y (ys ++ t ∷ []) f) (counts_one v (freed (grow u (t ∷ []))) y (ys ++ t ∷ []) f)
      (by_test (fits d u) (open_as (sym (counts_one v u y ys e)) o))
    where
      by_test : (is : Bool) → Open (at_next d v is u >>> (λ q. (b v).read q.1))
          → Next false (v ∷ u.left) t (at_next d v is u >>> (λ q. (b v).read q.1)) (at_next d v is (grow u (t ∷ [])) >>> (λ q. (b v).read q.1)) (at_next d v true (freed (grow u (t ∷ []))) >>> (λ q. (b v).read q.1))
      by_test true k = next_from (v ∷ []) refl ((hb v).next u t k)
      by_test false k = absurd k

  chosen_more : (v : Piece) (u : State) (t y : Piece) (ys : List Piece) → u.left ≡ y ∷ ys → (is : Bool) → Open ((chosen is (a v) (counts v)).read u)
      → Next false (v ∷ u.left) t ((chosen is (a v) (counts v)).read u) ((chosen is (a v) (counts v)).read (grow u (t ∷ []))) ((chosen is (a v) (counts v)).read (freed (grow u (t ∷ []))))
  chosen_more v u t y ys e true o = next_from (v ∷ []) refl ((ha v).next u t o)
  chosen_more v u t y ys e false o = counts_more v u t y ys e o

  after_next : (v : Piece) (u : State) (t : Piece) → IsTrue (is_word word'.Void v.token.kind) → (l : List Piece) → u.left ≡ l → Open ((after v).read u)
      → Next false (v ∷ u.left) t ((after v).read u) ((after v).read (grow u (t ∷ []))) ((after v).read (freed (grow u (t ∷ []))))
  after_next v u t w [] e o =
      let f = grows_one u t e in
      next_as refl (when_one r (a v) (counts v) (grow u (t ∷ [])) t [] f) (when_one r (a v) (counts v) (freed (grow u (t ∷ []))) t [] f)
      (chosen_first v u t e w ((after v).read u) (when_none r (a v) (counts v) u e ∙ counts_ended v u e) (r u.names t))
  after_next v u t w (y ∷ ys) e o =
      let f : u.left ++ t ∷ [] ≡ y ∷ (ys ++ t ∷ []) = ap (λ (l : List Piece). l ++ t ∷ []) e in
      next_as (when_one r (a v) (counts v) u y ys e) (when_one r (a v) (counts v) (grow u (t ∷ [])) y (ys ++ t ∷ []) f) (when_one r (a v) (counts v) (freed (grow u (t ∷ []))) y (ys ++ t ∷ []) f)
      (chosen_more v u t y ys e (r u.names y) (open_as (sym (when_one r (a v) (counts v) u y ys e)) o))

  abbrev void_first : Production A
  void_first = token c (word word'.Void) >>= after

  abbrev go_on : Reading Piece → Reading A
  go_on z = z >>> (λ q. (after q.0).read q.1)

  void_next : (s : State) (t : Piece) (z : Reading Piece) → (token c (word word'.Void)).read s ≡ z → Open (go_on z)
      → Next false s.left t (go_on z) (void_first.read (grow s (t ∷ []))) (void_first.read (freed (grow s (t ∷ []))))
  void_next s t (Ok q) e o =
      let tok = (lawful_token c (word word'.Void) true).basic in
      let w = tok.sound s q.1 q.0 e in
      let d : (token c (word word'.Void)).read (grow s (t ∷ [])) ≡ Ok (q.0, grow q.1 (t ∷ [])) =
      tok.complete (grow s (t ∷ [])) (grow q.1 (t ∷ [])) q.0 (ap (λ (l : List Piece). l ++ t ∷ []) w.0, ap (λ (z : State). grow z (t ∷ [])) w.1, w.2, w.3) in
      let f = free_value ((token c (word word'.Void)).read (grow s (t ∷ []))) ((token c (word word'.Void)).read (freed (grow s (t ∷ [])))) (tok.unlimited (grow s (t ∷ []))) q.0 (grow q.1 (t ∷ [])) d in
      next_as refl (ap go_on d) (ap go_on f) (next_from [] w.0 (after_next q.0 q.1 t (is_void s.names q.0 w.2) q.1.left refl o))
  void_next s t (Err Ended) e o = by_token ((lawful_token c (word word'.Void) true).next s t (open_as e tt))
    where
      by_token : Next true s.left t ((token c (word word'.Void)).read s) ((token c (word word'.Void)).read (grow s (t ∷ []))) ((token c (word word'.Void)).read (freed (grow s (t ∷ []))))
          → Next false s.left t (Err Ended) (void_first.read (grow s (t ∷ []))) (void_first.read (freed (grow s (t ∷ []))))
      by_token (Opened k) = Opened (first_open after basic_after ((token c (word word'.Void)).read (grow s (t ∷ []))) k)
      by_token (Stays x u d l k) = absurd (cc)
      by_token (Misfits d k) = Misfits refl (ap go_on k)
      by_token (TooDeep d k) = TooDeep (ap go_on d) (first_open after basic_after ((token c (word word'.Void)).read (freed (grow s (t ∷ [])))) k)
      by_token (Spent d) = Spent (ap go_on d)
      by_token (Early m d x u l k) = absurd (true≢false m)
      by_token (Shut m x u d l k) = absurd (true≢false m)
      by_token (Late us v l w d k) = Late us v l w refl (ap go_on k)
  void_next s t (Err NoMemory) e o = absurd o
  void_next s t (Err Exhausted) e o = absurd o
  void_next s t (Err (Fault k at)) e o = absurd o
  void_next s t (Err (Deep at)) e o = absurd o

  pub filled_void_first : Filled void_first
  filled_void_first = filled_first after (filled_token c (word word'.Void))

  pub lawful_void_first : Lawful false void_first
  lawful_void_first = record {
    basic = basic_bind (lawful_token c (word word'.Void) true).basic basic_after;
    next = λ s t o. void_next s t ((token c (word word'.Void)).read s) refl o;
  }
