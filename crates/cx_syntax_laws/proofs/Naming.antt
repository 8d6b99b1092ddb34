-- What reading keeps of the names that are known: all, or those of the scopes around the innermost one.
use Rattle.std.proofs.Common.{◌≡◌, ◌+◌, ℕ, zero, suc, Bool, true, false, List, [], ◌∷◌, length, Ok, Err, refl, sym, ap, ◌∙◌}
use Rattle.cx_tokens.specs.Pieces.{Piece}
use Rattle.cx_names.specs.declared.name_kind.NameKind.{NameKind}
use Rattle.cx_names.specs.Frames.{Frames, left, noted, entered}
use Rattle.cx_syntax.specs.declared.context.Context.{Context}
use Rattle.cx_syntax.specs.States.{State, Reading, ◌>>>◌}
use Rattle.cx_syntax.specs.Productions.{Production, Class, begins, give, stepped, ◌>>=◌, token, counted, given, when, closed, read_closed, times, repeat}
use Rattle.cx_syntax.specs.Combinators.{node, note, in_scope}
use Rattle.cx_syntax_laws.proofs.Readings.{ok_value}
use Rattle.cx_syntax_laws.proofs.Tokens.{lawful_token}
use Rattle.cx_syntax_laws.proofs.Counted.{basic_counted}

abbrev pub Kept : Bool → Frames → Frames → Type 0
Kept true before after = after ≡ before
Kept false before after = left after ≡ left before

pub record Names {A : Type 0} (all : Bool) (p : Production A) : Type 0 where
  pub names : (s t : State) (x : A) → p.read s ≡ Ok (x, t) → Kept all s.names t.names

kept_same : (all : Bool) {a b : Frames} → b ≡ a → Kept all a b
kept_same true e = e
kept_same false e = ap left e

kept_both : (all : Bool) (a b c : Frames) → Kept all a b → Kept all b c → Kept all a c
kept_both true a b c e f = f ∙ e
kept_both false a b c e f = f ∙ e

pub names_outer : {A : Type 0} {p : Production A} → Names true p → Names false p
names_outer h = record { names = λ s t x e. ap left (h.names s t x e) }

pub names_give : (all : Bool) {A : Type 0} (x : A) → Names all (give x)
names_give all x = record { names = λ s t y e. kept_same all (ap (λ (u : State). u.names) (sym (ok_value x y s t e).1)) }

pub names_node : (all : Bool) → Names all node
names_node all = record { names = λ s t y e. kept_same all (ap (λ (u : State). u.names) (sym (ok_value (stepped (λ n names. (n, n + 1, names)) s).0 y (stepped (λ n names. (n, n + 1, names)) s).1 t e).1)) }

pub names_token : (all : Bool) (c : Context) (q : Class) → Names all (token c q)
names_token all c q = record { names = λ s t x e. kept_same all (ap (λ (u : State). u.names) ((lawful_token c q true).basic.sound s t x e).1) }

pub names_counted : (all : Bool) (c : Context) (v : Piece) → Names all (counted c v)
names_counted all c v = record { names = λ s t x e. kept_same all (ap (λ (u : State). u.names) ((basic_counted c v).sound s t x e).0) }

noted_left : (names : Frames) (name : List ℕ) (kind : NameKind) → left (noted names name kind) ≡ left names
noted_left [] name kind = refl
noted_left (f ∷ fs) name kind = refl

pub names_note : (name : List ℕ) (kind : NameKind) → Names false (note name kind)
names_note name kind = record {
  names = λ s t y e.
      ap (λ (u : State). left u.names) (sym (ok_value tt y record { left = s.left; next = s.next; names = noted s.names name kind; free = s.free } t e).1) ∙ noted_left s.names name kind;
}

module _ {A B : Type 0} (all : Bool) {f : A → Production B} where
  bind_names : (hf : (x : A) → Names all (f x)) → (s : State) (r : Reading A) → ((x : A) (u : State) → r ≡ Ok (x, u) → Kept all s.names u.names)
      → (t : State) (y : B) → (r >>> (λ q. (f q.0).read q.1)) ≡ Ok (y, t) → Kept all s.names t.names
  bind_names hf s (Ok q) h t y e = kept_both all s.names q.1.names t.names (h q.0 q.1 refl) ((hf q.0).names q.1 t y e)
  bind_names hf s (Err z) h t y e = absurd (cc)

  pub names_bind : {p : Production A} → Names all p → ((x : A) → Names all (f x)) → Names all (p >>= f)
  names_bind {p} hp hf = record { names = λ s t y e. bind_names hf s (p.read s) (λ x u d. hp.names s u x d) t y e }

pub names_given : {A : Type 0} (all is : Bool) {a b : Production A} → Names all a → Names all b → Names all (given is a b)
names_given all true ha hb = ha
names_given all false ha hb = hb

pub names_when : {A : Type 0} (all : Bool) (q : Class) {a b : Production A} → Names all a → Names all b → Names all (when q a b)
names_when all q {a} {b} ha hb = record { names = λ s t x e. (names_given all (begins q s) ha hb).names s t x e }

pub names_closed : (all : Bool) (A : Type 0) → Names all (closed {A = A})
unfolding read_closed
names_closed all A = record { names = λ s t x e. absurd (by_left t x s.left e) }
  where
    by_left : (t : State) (x : A) (l : List Piece) → read_closed {A = A} l ≡ Ok (x, t) → ⊥
    by_left t x [] e = cc
    by_left t x (y ∷ ys) e = cc

module _ {A : Type 0} (all : Bool) (q : A → Class) {turn : A → Production A} (h : (x : A) → Names all (turn x)) where
  names_times : (n : ℕ) (x : A) → Names all (times n q turn x)
  names_times zero x = names_closed all A
  names_times (suc n) x = names_when all (q x) (names_bind all (h x) (names_times n)) (names_give all x)

  pub names_repeat : (x : A) → Names all (repeat q turn x)
  names_repeat x = record { names = λ s t y e. (names_times (suc (length s.left)) x).names s t y e }

-- A scope of its own forgets what was declared in it.
pub names_in_scope : {A : Type 0} {p : Production A} → Names false p → Names true (in_scope p)
names_in_scope {A} {p} h = record { names = λ s t x e. by_value s (p.read (inner s)) (λ y u d. h.names (inner s) u y d) t x e }
  where
    inner : State → State
    inner s = record { left = s.left; next = s.next; names = entered s.names; free = s.free }

    by_value : (s : State) (r : Reading A) → ((y : A) (u : State) → r ≡ Ok (y, u) → left u.names ≡ s.names) → (t : State) (x : A)
        → (r >>> (λ v. Ok (v.0, record { left = v.1.left; next = v.1.next; names = left v.1.names; free = v.1.free }))) ≡ Ok (x, t) → t.names ≡ s.names
    by_value s (Ok v) k t x e = ap (λ (u : State). u.names) (sym (ok_value v.0 x record { left = v.1.left; next = v.1.next; names = left v.1.names; free = v.1.free } t e).1) ∙ k v.0 v.1 refl
    by_value s (Err z) k t x e = absurd (cc)

pub ruleset naming = (names_in_scope, names_give, names_node, names_token, names_counted, names_note, names_bind, names_given, names_when, names_repeat)
