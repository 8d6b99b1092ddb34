-- Whole tokens: where a reader stands at the front of a token, and where between the halves of `>>`.
use Rattle.std.proofs.Common.{◌≡◌, ◌⊎◌, inl, inr, ℕ, zero, suc, Bool, true, false, List, [], ◌∷◌, ◌++◌, length, Ok, Err, refl, sym, ap, ◌∙◌, subst, true≢false, append_assoc, append-nil}
use Rattle.cx_base.specs.declared.place.Place.{Place}
use Rattle.cx_tokens.specs.Tokens.{TokenTree}
use Rattle.cx_tokens.specs.declared.token.TokenKind.{TokenKind}
use Rattle.cx_tokens.specs.declared.token.TokenKind.TheVariants as kind
use Rattle.cx_tokens.specs.declared.punctuator.Punctuator.{Punctuator}
use Rattle.cx_tokens.specs.declared.punctuator.Punctuator.TheVariants as punctuator
use Rattle.cx_tokens.specs.Pieces.{Piece, All, First, Second, as_piece, pieces, halves, halves_of}
use Rattle.cx_names.specs.Frames.{Frames}
use Rattle.cx_syntax.specs.declared.context.Context.{Context}
use Rattle.cx_syntax.specs.declared.context.OpenLists.{OpenLists}
use Rattle.cx_syntax.specs.declared.context.OpenLists.TheVariants as lists
use Rattle.cx_syntax.specs.Contexts.{deeper, inside, listed, more_lists, is_listed}
use Rattle.cx_syntax.specs.Classes.{punct, closing}
use Rattle.cx_syntax.specs.Combinators.{bracketed, in_angles}
use Rattle.cx_syntax.specs.States.{State, Reading, cut, ◌>>>◌}
use Rattle.cx_syntax.specs.Productions.{Production, Class, begins, give, step, stepped, ◌>>=◌, token, counted, given, when, closed, read_closed, times, repeat}
use Rattle.std.proofs.lemmas.List.{append_cancel_right}
use Rattle.cx_syntax.specs.States.{freed}
use Rattle.cx_syntax_laws.specs.GrammarLaws.{Levelled, IsTree}
use Rattle.cx_syntax_laws.specs.WholeTokens.{SplitTokens, WholeTokens}
use Rattle.cx_syntax_laws.proofs.Lawful.{Lawful}
use Rattle.cx_syntax_laws.proofs.Readings.{ok_value}
use Rattle.cx_syntax_laws.proofs.Tokens.{lawful_token}
use Rattle.cx_syntax_laws.proofs.Counted.{basic_counted}
use Rattle.cx_syntax_laws.proofs.Firm.{Keeps}

-- the token `>>`
abbrev pub shift : List ℕ → Place → TokenTree
shift text at = record { kind = kind.Punct punctuator.GreaterGreater; text = text; at = at }

-- A class that takes no half.
pub record Whole_only (q : Class) : Type 0 where
  pub no_first : (names : Frames) (text : List ℕ) (at : Place) → q names (as_piece (shift text at) First) ≡ false
  pub no_second : (names : Frames) (text : List ℕ) (at : Place) → q names (as_piece (shift text at) Second) ≡ false

-- the pieces of one token
pub data Halves (t : TokenTree) : Type 0 where
  One : halves t ≡ as_piece t All ∷ [] → Halves t
  Two : (text : List ℕ) (at : Place) → t ≡ shift text at → halves t ≡ as_piece t First ∷ as_piece t Second ∷ [] → Halves t

pub halves_are : (t : TokenTree) → Halves t
unfolding halves
halves_are t = by_kind t.kind refl
  where
    by_kind : (k : TokenKind) → t.kind ≡ k → Halves t
    by_kind (kind.Punct punctuator.GreaterGreater) e =
        Two t.text t.at (λ i. record { kind = e i; text = t.text; at = t.at }) (ap (λ (k : TokenKind). halves_of k t) e)
    by_kind k e = One (ap (λ (z : TokenKind). halves_of z t) e)

one_piece : (t : TokenTree) (ts : List TokenTree) → pieces (t ∷ ts) ≡ halves t ++ pieces ts
one_piece t ts = refl

-- the first of some pieces, and the others
heads : (x y : Piece) (us vs : List Piece) → x ∷ us ≡ y ∷ vs → (x ≡ y) × (us ≡ vs)
heads x y us vs e = let a : x ≡ y = cc in let b : us ≡ vs = cc in (a, b)

pub read_value : {A B : Type 0} (f : A → Production B) (r : Reading A) (u : State) (y : B) → (r >>> (λ q. (f q.0).read q.1)) ≡ Ok (y, u) → (x : A) × (t : State) × (r ≡ Ok (x, t)) × ((f x).read t ≡ Ok (y, u))
read_value f (Ok q) u y e = (q.0, q.1, refl, e)
read_value f (Err z) u y e = absurd (cc)

pub pieces_append : (a b : List TokenTree) → pieces (a ++ b) ≡ pieces a ++ pieces b
pieces_append [] b = refl
pieces_append (t ∷ a) b = ap (λ (l : List Piece). halves t ++ l) (pieces_append a b) ∙ sym (append_assoc (halves t) (pieces a) (pieces b))

module _ (ts : List TokenTree) (rest : List Piece) where
  -- what is left are whole tokens; or a second half before them
  pub record At_token (s : State) : Type 0 where
    pub before : List TokenTree
    pub tokens : List TokenTree
    pub split : ts ≡ before ++ tokens
    pub left : s.left ++ rest ≡ pieces tokens

  pub record Between (s : State) : Type 0 where
    pub text : List ℕ
    pub at : Place
    pub before : List TokenTree
    pub tokens : List TokenTree
    pub split : ts ≡ before ++ tokens
    pub left : s.left ++ rest ≡ as_piece (shift text at) Second ∷ pieces tokens

  abbrev pub Stands : Bool → State → Type 0
  Stands true s = At_token s ⊎ Between s
  Stands false s = At_token s

  -- From the front of a token it ends there, or between halves where that may be; from between halves it takes nothing.
  pub record Even (out : Bool) {A : Type 0} (p : Production A) : Type 0 where
    pub even : (s t : State) (x : A) → At_token s → p.read s ≡ Ok (x, t) → Stands out t
    pub stays : (s t : State) (x : A) → Between s → p.read s ≡ Ok (x, t) → t.left ≡ s.left

  at_token : (out : Bool) {s : State} → At_token s → Stands out s
  at_token true h = inl h
  at_token false h = h

  pub even_weak : {A : Type 0} (out : Bool) {p : Production A} → Even false p → Even out p
  even_weak out h = record { even = λ s t x a e. at_token out (h.even s t x a e); stays = h.stays }

  pub stands_as : (out : Bool) (s t : State) → s.left ≡ t.left → Stands out s → Stands out t
  stands_as true s t e (inl a) = inl (record { before = a.before; tokens = a.tokens; split = a.split; left = ap (λ (l : List Piece). l ++ rest) (sym e) ∙ a.left })
  stands_as true s t e (inr b) = inr (record { text = b.text; at = b.at; before = b.before; tokens = b.tokens; split = b.split; left = ap (λ (l : List Piece). l ++ rest) (sym e) ∙ b.left })
  stands_as false s t e a = record { before = a.before; tokens = a.tokens; split = a.split; left = ap (λ (l : List Piece). l ++ rest) (sym e) ∙ a.left }

  between_as : {s t : State} → t.left ≡ s.left → Between s → Between t
  between_as e b = record { text = b.text; at = b.at; before = b.before; tokens = b.tokens; split = b.split; left = ap (λ (l : List Piece). l ++ rest) e ∙ b.left }

  module _ (out : Bool) where
    pub even_step : {A : Type 0} (f : ℕ → Frames → A × ℕ × Frames) → Even out (step f)
    even_step f = record {
      even = λ s t x a e. let k = (ok_value (stepped f s).0 x (stepped f s).1 t e).1 in at_token out (record { before = a.before; tokens = a.tokens; split = a.split; left = ap (λ (u : State). u.left ++ rest) (sym k) ∙ a.left });
      stays = λ s t x b e. ap (λ (u : State). u.left) (sym (ok_value (stepped f s).0 x (stepped f s).1 t e).1);
    }

    pub even_give : {A : Type 0} (x : A) → Even out (give x)
    even_give x = let h = even_step (λ n names. (x, n, names)) in record { even = h.even; stays = h.stays }

    pub even_counted : (c : Context) (v : Piece) → Even out (counted c v)
    even_counted c v = record {
      even = λ s t x a e. let k = ((basic_counted c v).sound s t x e).0 in at_token out (record { before = a.before; tokens = a.tokens; split = a.split; left = ap (λ (u : State). u.left ++ rest) k ∙ a.left });
      stays = λ s t x b e. ap (λ (u : State). u.left) ((basic_counted c v).sound s t x e).0;
    }

    -- what follows is even after each value of which something holds
    pub even_kept : {A B : Type 0} (I : A → Type 0) {p : Production A} {f : A → Production B} → Even out p → Keeps I p → ((x : A) → I x → Even out (f x)) → Even out (p >>= f)
    even_kept {A} {B} I {p} {f} hp kp hf = record {
      even = λ s u y a e. let w = read_value f (p.read s) u y e in go_on w.0 (kp.keeps s w.1 w.0 w.2) w.1 u y out refl (hp.even s w.1 w.0 a w.2) w.3;
      stays = λ s u y b e.
          let w = read_value f (p.read s) u y e in
          let k = hp.stays s w.1 w.0 b w.2 in
          (hf w.0 (kp.keeps s w.1 w.0 w.2)).stays w.1 u y (between_as k b) w.3 ∙ k;
    }
      where
        go_on : (x : A) → I x → (t u : State) (y : B) (o : Bool) → o ≡ out → Stands o t → (f x).read t ≡ Ok (y, u) → Stands out u
        go_on x i t u y true m (inl a) e = (hf x i).even t u y a e
        go_on x i t u y true m (inr b) e = subst (λ (z : Bool). Stands z u) m (inr (between_as ((hf x i).stays t u y b e) b))
        go_on x i t u y false m a e = (hf x i).even t u y a e

    pub even_bind : {A B : Type 0} {p : Production A} {f : A → Production B} → Even out p → ((x : A) → Even out (f x)) → Even out (p >>= f)
    even_bind {A} hp hf = even_kept (λ (x : A). Unit {0}) hp (record { keeps = λ s t x e. tt }) (λ x i. hf x)

    pub even_given : {A : Type 0} (is : Bool) {a b : Production A} → Even out a → Even out b → Even out (given is a b)
    even_given true ha hb = ha
    even_given false ha hb = hb

    pub even_when : {A : Type 0} (q : Class) {a b : Production A} → Even out a → Even out b → Even out (when q a b)
    even_when q ha hb = record { even = λ s t x a e. (even_given (begins q s) ha hb).even s t x a e; stays = λ s t x b e. (even_given (begins q s) ha hb).stays s t x b e }

    pub even_closed : (A : Type 0) → Even out (closed {A = A})
    unfolding read_closed
    even_closed A = record { even = λ s t x a e. absurd (by_left t x s.left e); stays = λ s t x b e. absurd (by_left t x s.left e) }
      where
        by_left : (t : State) (x : A) (l : List Piece) → read_closed {A = A} l ≡ Ok (x, t) → ⊥
        by_left t x [] e = cc
        by_left t x (y ∷ ys) e = cc

    module _ {A : Type 0} (q : A → Class) {turn : A → Production A} (I : A → Type 0) (h : (x : A) → I x → Even out (turn x)) (k : (x : A) → I x → Keeps I (turn x)) where
      even_times : (n : ℕ) (x : A) → I x → Even out (times n q turn x)
      even_times zero x i = even_closed A
      even_times (suc n) x i = even_when (q x) (even_kept I (h x i) (k x i) (even_times n)) (even_give x)

      pub even_turns : (x : A) → I x → Even out (repeat q turn x)
      even_turns x i = record { even = λ s t y a e. (even_times (suc (length s.left)) x i).even s t y a e; stays = λ s t y b e. (even_times (suc (length s.left)) x i).stays s t y b e }

    pub even_repeat : {A : Type 0} (q : A → Class) {turn : A → Production A} → ((x : A) → Even out (turn x)) → (x : A) → Even out (repeat q turn x)
    even_repeat {A} q {turn} h x = even_turns q (λ (y : A). Unit {0}) (λ y i. h y) (λ y i. record { keeps = λ s t z e. tt }) x tt

  -- ---- tokens

  -- what is left after one piece at the front of a token
  pub data One_less (x : Piece) (us : List Piece) : Type 0 where
    Taken : (t : TokenTree) (before others : List TokenTree) → ts ≡ before ++ others → x ≡ as_piece t All → us ≡ pieces others → One_less x us
    Halved : (text : List ℕ) (at : Place) (before others : List TokenTree) → ts ≡ before ++ others → x ≡ as_piece (shift text at) First → us ≡ as_piece (shift text at) Second ∷ pieces others → One_less x us

  one_less : (t : TokenTree) (before others : List TokenTree) (x : Piece) (us : List Piece) → ts ≡ before ++ t ∷ others → Halves t → halves t ++ pieces others ≡ x ∷ us → One_less x us
  one_less t before others x us m (One e) d =
      let k = heads (as_piece t All) x (pieces others) us (ap (λ (l : List Piece). l ++ pieces others) (sym e) ∙ d) in
      Taken t (before ++ t ∷ []) others (m ∙ sym (append_assoc before (t ∷ []) others)) (sym k.0) (sym k.1)
  one_less t before others x us m (Two text at f e) d =
      let k = heads (as_piece t First) x (as_piece t Second ∷ pieces others) us (ap (λ (l : List Piece). l ++ pieces others) (sym e) ∙ d) in
      Halved text at (before ++ t ∷ []) others (m ∙ sym (append_assoc before (t ∷ []) others)) (sym k.0 ∙ ap (λ (z : TokenTree). as_piece z First) f) (sym k.1 ∙ ap (λ (z : TokenTree). as_piece z Second ∷ pieces others) f)

  pub less : (before tokens : List TokenTree) (x : Piece) (us : List Piece) → ts ≡ before ++ tokens → pieces tokens ≡ x ∷ us → One_less x us
  less before [] x us m e = absurd (cc)
  less before (t ∷ others) x us m e = one_less t before others x us m (halves_are t) e

  module _ (c : Context) (q : Class) where
    -- one piece of any class
    pub taken : (s t : State) (x : Piece) → At_token s → (token c q).read s ≡ Ok (x, t) → One_less x (t.left ++ rest)
    taken s t x a e = less a.before a.tokens x (t.left ++ rest) a.split (sym a.left ∙ ap (λ (l : List Piece). l ++ rest) ((lawful_token c q true).basic.sound s t x e).0)

    pub taken_any : (s t : State) (x : Piece) → At_token s → (token c q).read s ≡ Ok (x, t) → Stands true t
    taken_any s t x a e =
        elim (taken s t x a e) [
          | Taken z before others m f d ↦ inl (record { before = before; tokens = others; split = m; left = d })
          | Halved text at before others m f d ↦ inr (record { text = text; at = at; before = before; tokens = others; split = m; left = d })
        ]

    pub taken_whole : ((names : Frames) (text : List ℕ) (at : Place) → q names (as_piece (shift text at) First) ≡ false) → (s t : State) (x : Piece) → At_token s → (token c q).read s ≡ Ok (x, t) → At_token t
    taken_whole nf s t x a e =
        elim (taken s t x a e) [
          | Taken z before others m f d ↦ record { before = before; tokens = others; split = m; left = d }
          | Halved text at before others m f d ↦ absurd (true≢false (sym (ap (q s.names) (sym f) ∙ ((lawful_token c q true).basic.sound s t x e).2) ∙ nf s.names text at))
        ]

    pub taken_second : (s t : State) (x : Piece) → Between s → (token c q).read s ≡ Ok (x, t) → At_token t
    taken_second s t x b e =
        let w = (lawful_token c q true).basic.sound s t x e in
        record { before = b.before; tokens = b.tokens; split = b.split; left = sym (heads (as_piece (shift b.text b.at) Second) x (pieces b.tokens) (t.left ++ rest) (sym b.left ∙ ap (λ (l : List Piece). l ++ rest) w.0)).1 }

    pub never_second : ((names : Frames) (text : List ℕ) (at : Place) → q names (as_piece (shift text at) Second) ≡ false) → (s t : State) (x : Piece) → Between s → (token c q).read s ≡ Ok (x, t) → ⊥
    never_second ns s t x b e =
        let w = (lawful_token c q true).basic.sound s t x e in
        let a : as_piece (shift b.text b.at) Second ≡ x = (heads (as_piece (shift b.text b.at) Second) x (pieces b.tokens) (t.left ++ rest) (sym b.left ∙ ap (λ (l : List Piece). l ++ rest) w.0)).0 in
        true≢false (sym (ap (q s.names) a ∙ w.2) ∙ ns s.names b.text b.at)

  pub even_token : (out : Bool) (c : Context) (q : Class) → Whole_only q → Even out (token c q)
  even_token out c q h = record {
    even = λ s t x a e. at_token out (taken_whole c q h.no_first s t x a e);
    stays = λ s t x b e. absurd (never_second c q h.no_second s t x b e);
  }

  -- ---- brackets

  module _ {A : Type 0} (out : Bool) (left_one right_one : Punctuator) (c : Context) (p : Context → Production A) where
    pub even_bracketed : Whole_only (punct left_one) → Whole_only (punct right_one) → Even false (p (inside c)) → Even out (bracketed left_one right_one c p)
    even_bracketed hl hr hp =
        even_weak out (even_bind false (even_token false (deeper c) (punct left_one) hl) (λ t.
        even_bind false hp (λ x. even_bind false (even_token false (deeper c) (punct right_one) hr) (λ z. even_give false _))))

  closing_first : (names : Frames) (text : List ℕ) (at : Place) → closing lists.One names (as_piece (shift text at) First) ≡ false
  unfolding closing
  closing_first names text at = refl

  module _ {A : Type 0} (c : Context) (p : Context → Production A) where
    abbrev last : A → Piece → Production A
    last x z = give x

    abbrev close : A → Production A
    close x = token (deeper c) (closing (listed c).lists) >>= last x

    abbrev inner : Piece → Production A
    inner t = p (listed c) >>= close

    closes : (o : OpenLists) → c.lists ≡ o → (s t : State) (x : Piece) → Stands true s → (token (deeper c) (closing (more_lists o))).read s ≡ Ok (x, t) → Stands (is_listed o) t
    closes lists.None m s t x (inl a) e = taken_whole (deeper c) (closing lists.One) closing_first s t x a e
    closes lists.One m s t x (inl a) e = taken_any (deeper c) (closing lists.Several) s t x a e
    closes lists.Several m s t x (inl a) e = taken_any (deeper c) (closing lists.Several) s t x a e
    closes o m s t x (inr b) e = at_token (is_listed o) (taken_second (deeper c) (closing (more_lists o)) s t x b e)

    angles_even : Whole_only (punct punctuator.Less) → Even true (p (listed c)) → Even (is_listed c.lists) (in_angles c p)
    unfolding listed
    angles_even hl hp = record {
      even = λ s u y a e.
          let w = read_value inner ((token (deeper c) (punct punctuator.Less)).read s) u y e in
          let k = taken_whole (deeper c) (punct punctuator.Less) hl.no_first s w.1 w.0 a w.2 in
          let v = read_value close ((p (listed c)).read w.1) u y w.3 in
          let j = hp.even w.1 v.1 v.0 k v.2 in
          let z = read_value (last v.0) ((token (deeper c) (closing (more_lists c.lists))).read v.1) u y v.3 in
          stands_as (is_listed c.lists) z.1 u (ap (λ (q : State). q.left) (ok_value v.0 y z.1 u z.3).1) (closes c.lists refl v.1 z.1 z.0 j z.2);
      stays = λ s u y b e.
          let w = read_value inner ((token (deeper c) (punct punctuator.Less)).read s) u y e in
          absurd (never_second (deeper c) (punct punctuator.Less) hl.no_second s w.1 w.0 b w.2);
    }

    pub even_angles : (out : Bool) → is_listed c.lists ≡ out → Whole_only (punct punctuator.Less) → Even true (p (listed c)) → Even out (in_angles c p)
    even_angles out e hl hp = subst (λ (o : Bool). Even o (in_angles c p)) e (angles_even hl hp)

  -- ---- from what each level reads

  pub split_tokens : {A : Type 0} {p : Levelled A} → ((n : ℕ) → Lawful true (p n)) → ((n : ℕ) → Even false (p n)) → (s : State) (us : List Piece) (x : A) → pieces ts ≡ us ++ rest → IsTree p s us x → SplitTokens ts us rest
  split_tokens {p} h even s us x e w =
      let from : At_token (cut (freed s) us) = record { before = []; tokens = ts; split = refl; left = sym e } in
      let a = (even w.level).even (cut (freed s) us) w.after x from ((h w.level).basic.complete (cut (freed s) us) w.after x w.whole) in
      let l : rest ≡ pieces a.tokens = ap (λ (l : List Piece). l ++ rest) (sym w.all) ∙ a.left in
      let d : us ++ rest ≡ pieces a.before ++ rest = sym e ∙ ap pieces a.split ∙ pieces_append a.before a.tokens ∙ ap (λ (l : List Piece). pieces a.before ++ l) (sym l) in
      record { first = a.before; last = a.tokens; split = a.split; firsts = append_cancel_right us (pieces a.before) rest d; lasts = l }

pub whole_tokens : {A : Type 0} {p : Levelled A} → ((n : ℕ) → Lawful true (p n)) → ((ts : List TokenTree) (rest : List Piece) (n : ℕ) → Even ts rest false (p n)) → WholeTokens p
whole_tokens h even = λ s ts us rest x e w. split_tokens ts rest h (even ts rest) s us x e w

-- What a reader of whole tokens leaves are whole tokens.
pub record Tokens_after (ts : List TokenTree) (t : State) : Type 0 where
  pub before : List TokenTree
  pub after : List TokenTree
  pub split : ts ≡ before ++ after
  pub left : t.left ≡ pieces after

pub whole_read : {A : Type 0} {p : Production A} (ts : List TokenTree) → Even ts [] false p → (s t : State) (x : A) → s.left ≡ pieces ts → p.read s ≡ Ok (x, t) → Tokens_after ts t
whole_read ts h s t x l e =
    let a = h.even s t x (record { before = []; tokens = ts; split = refl; left = append-nil s.left ∙ l }) e in
    record { before = a.before; after = a.tokens; split = a.split; left = sym (append-nil t.left) ∙ a.left }
