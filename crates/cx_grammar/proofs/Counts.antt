-- What each tree of a production gives, where so many pieces were read before it; and nodes that are numbered one after
-- the other, at most eight for each piece.
use Rattle.std.proofs.Common.{length-append, ◌≡◌, ℕ, zero, suc, ◌+◌, ◌*◌, ◌≤◌, ◌<◌, Bool, true, false, List, [], ◌∷◌, ◌++◌, length, refl, sym, ap, ◌∙◌, subst, append-nil, append_assoc, arith}
use Rattle.cx_base.specs.declared.place.Place.{Place}
use Rattle.cx_tree.specs.Trees.{Mark, ExprTree, ArgumentTree, TypeArgument, ValueArgument, exprs, arguments}
use Rattle.cx_tree.specs.Nodes.{IsNumberedFrom, expr_nodes, exprs_nodes, type_nodes, argument_nodes}
use Rattle.cx_grammar.specs.Pieces.{Piece}
use Rattle.cx_grammar.specs.Production.{Production, give, ◌>>=◌, token, when, given, closed, unread, times, repeat, begins, Chosen}
use Rattle.cx_grammar.specs.Types.{numbered}

pub record Yields {A : Type 0} (p : Production A) (s : ℕ) (Q : ℕ → A → Type 0) : Type 0 where
  pub yields : (l : ℕ) (us rest : List Piece) (x : A) → p.whole l us rest x → Q (s + length us) x

pub give-Yields : {A : Type 0} {x : A} {s : ℕ} {Q : ℕ → A → Type 0} → Q s x → Yields (give x) s Q
give-Yields {A} {x} {s} {Q} h = record { yields = λ l us rest y w. go us y w.0 w.1 }
  where
    go : (us : List Piece) (y : A) → us ≡ [] → y ≡ x → Q (s + length us) y
    go us y e d =
        let k : s + length us ≡ s = ap (λ (z : List Piece). s + length z) e ∙ (omega arith) in
        subst (λ (z : ℕ). Q z y) (sym k) (subst (λ (z : A). Q s z) (sym d) h)

pub then-Yields : {A B : Type 0} {p : Production A} {f : A → Production B} {s : ℕ} {P : ℕ → A → Type 0} {Q : ℕ → B → Type 0} → Yields p s P → ((x : A) (j : ℕ) → P j x → Yields (f x) j Q) → Yields (p >>= f) s Q
then-Yields {A} {B} {p} {f} {s} {P} {Q} hp hf = record { yields = λ l ts rest y w. go l ts w.1 w.2 rest w.0 y w.3 w.4 w.5 }
  where
    go : (l : ℕ) (ts us vs rest : List Piece) (x : A) (y : B) → ts ≡ us ++ vs → p.whole l us (vs ++ rest) x → (f x).whole l vs rest y → Q (s + length ts) y
    go l ts us vs rest x y e w k =
        let d : s + length ts ≡ (s + length us) + length vs = ap (λ (z : List Piece). s + length z) e ∙ omega (arith, length-append us vs) in
        subst (λ (z : ℕ). Q z y) (sym d) ((hf x (s + length us) (hp.yields l us (vs ++ rest) x w)).yields l vs rest y k)

-- behind a token
pub take : {B : Type 0} {load : ℕ} {p : Piece → Bool} {f : Piece → Production B} {s : ℕ} {Q : ℕ → B → Type 0} → ((t : Piece) → Yields (f t) (s + 1) Q) → Yields (token load p >>= f) s Q
take {B} {load} {p} {f} {s} {Q} h = then-Yields (record { yields = λ l us rest x w. ap (λ (z : List Piece). s + length z) w.0 }) go
  where
    go : (x : Piece) (j : ℕ) → j ≡ s + 1 → Yields (f x) j Q
    go x j e = subst (λ (z : ℕ). Yields (f x) z Q) (sym e) (h x)

-- behind what has no node
pub past : {A B : Type 0} (p : Production A) {f : A → Production B} {s : ℕ} {Q : ℕ → B → Type 0} → ((x : A) (j : ℕ) → s ≤ j → Yields (f x) j Q) → Yields (p >>= f) s Q
past {A} p {s} h = then-Yields {P = λ j (x : A). s ≤ j} (record { yields = λ l us rest x w. omega arith }) h

-- ... and behind which nothing follows
pub rest_of : {A : Type 0} (p : Production A) {s : ℕ} {Q : ℕ → A → Type 0} → ((x : A) (j : ℕ) → s ≤ j → Q j x) → Yields p s Q
rest_of p {s} h = record { yields = λ l us rest x w. h x (s + length us) (omega arith) }

pub when-Yields : {A : Type 0} (p : Piece → Bool) {a b : Production A} {s : ℕ} {Q : ℕ → A → Type 0} → Yields a s Q → Yields b s Q → Yields (when p a b) s Q
when-Yields {A} p {a} {b} {s} {Q} ha hb = record { yields = λ l us rest x w. go (begins p (us ++ rest)) l us rest x w }
  where
    go : (c : Bool) (l : ℕ) (us rest : List Piece) (x : A) → Chosen c (a.whole l us rest x) (b.whole l us rest x) → Q (s + length us) x
    go true l us rest x w = ha.yields l us rest x w
    go false l us rest x w = hb.yields l us rest x w

pub given-Yields : {A : Type 0} (c : Bool) {a b : Production A} {s : ℕ} {Q : ℕ → A → Type 0} → Yields a s Q → Yields b s Q → Yields (given c a b) s Q
given-Yields true ha hb = ha
given-Yields false ha hb = hb

pub closed-Yields : {A : Type 0} {s : ℕ} {Q : ℕ → A → Type 0} → Yields (closed {A = A}) s Q
closed-Yields = record { yields = λ l us rest x w. absurd w }

pub unread-Yields : {A : Type 0} (p : Piece → Bool) {s : ℕ} {Q : ℕ → A → Type 0} → Yields (unread {A = A} p) s Q
unread-Yields p = record { yields = λ l us rest x w. absurd w }

module _ {A : Type 0} (p : Piece → Bool) {step : A → Production A} {I : ℕ → A → Type 0} (h : (x : A) (j : ℕ) → I j x → Yields (step x) j I) where
  times-Yields : (n : ℕ) (x : A) (s : ℕ) → I s x → Yields (times n p step x) s I
  times-Yields zero x s i = closed-Yields
  times-Yields (suc n) x s i = when-Yields p (then-Yields (h x s i) (λ y j k. times-Yields n y j k)) (give-Yields i)

  -- what each round keeps
  pub repeat-Yields : (x : A) (s : ℕ) → I s x → Yields (repeat p step x) s I
  repeat-Yields x s i = record { yields = λ l us rest y w. (times-Yields w.0 x s i).yields l us rest y w.1 }

-- ---- from a number and a count of pieces to others

pub record Counted (n s : ℕ) (ms : List Mark) (m k : ℕ) : Type 0 where
  pub numbers : IsNumberedFrom n ms
  pub next : m ≡ n + length ms
  pub few : length ms + 8 * s ≤ 8 * k

numbered-append : (n : ℕ) (a b : List Mark) → IsNumberedFrom n a → IsNumberedFrom (n + length a) b → IsNumberedFrom n (a ++ b)
numbered-append n [] b i j =
    let e : n + length {A = Mark} [] ≡ n = omega arith in
    subst (λ (z : ℕ). IsNumberedFrom z b) e j
numbered-append n (m ∷ a) b (i, is) j =
    let e : n + length (m ∷ a) ≡ (n + 1) + length a = omega arith in
    (i, numbered-append (n + 1) a b is (subst (λ (z : ℕ). IsNumberedFrom z b) e j))

pub seq : {n s m i j r k : ℕ} {a b : List Mark} → Counted n s a m i → Counted m j b r k → i ≤ j → Counted n s (a ++ b) r k
seq {n} {s} {m} {i} {j} {r} {k} {a} {b} g h up = record {
  numbers = numbered-append n a b g.numbers (subst (λ (z : ℕ). IsNumberedFrom z b) g.next h.numbers);
  next = omega (arith, length-append a b, g.next, h.next);
  few = omega (arith, length-append a b, g.few, h.few, up);
}

-- no node
pub none : {n s k : ℕ} → s ≤ k → Counted n s [] n k
none {n} {s} {k} h = record { numbers = tt; next = omega arith; few = omega arith }

-- one node
pub leaf : {n s k : ℕ} {at : Place} → s < k → Counted n s (numbered n at ∷ []) (n + 1) k
leaf {n} {s} {k} h = record { numbers = (refl, tt); next = omega arith; few = omega arith }

-- a node behind its parts
pub node : {n s m i k : ℕ} {a : List Mark} (at : Place) → Counted n s a m i → i < k → Counted n s (a ++ numbered m at ∷ []) (m + 1) k
node {n} {s} {m} {i} {k} {a} at g up = seq g (leaf up) (omega arith)

-- ... paid by a piece before them
pub node_ahead : {n s m i k : ℕ} {a : List Mark} (at : Place) → Counted n i a m k → s < i → Counted n s (a ++ numbered m at ∷ []) (m + 1) k
node_ahead {n} {s} {m} {i} {k} {a} at g up =
    let e = length-append a (numbered m at ∷ []) in
    let h = node at g (let d : k < k + 1 = omega arith in d) in
    record { numbers = h.numbers; next = h.next; few = omega (arith, e, g.few, up) }

pub later : {n s m i k : ℕ} {a : List Mark} → Counted n s a m i → i ≤ k → Counted n s a m k
later g up = record { numbers = g.numbers; next = g.next; few = omega (arith, g.few) }

pub sooner : {n s m i k : ℕ} {a : List Mark} → Counted n i a m k → s ≤ i → Counted n s a m k
sooner g up = record { numbers = g.numbers; next = g.next; few = omega (arith, g.few) }

pub as_list : {n s m k : ℕ} {a b : List Mark} → b ≡ a → Counted n s a m k → Counted n s b m k
as_list {n} {s} {m} {k} e g = subst (λ (z : List Mark). Counted n s z m k) (sym e) g

pub counts_up : {n s m k : ℕ} {a : List Mark} → Counted n s a m k → s ≤ k
counts_up g = omega (arith, g.few)

-- ---- the nodes of lists

abbrev pub argument_marks : ArgumentTree → List Mark
argument_marks (TypeArgument t) = type_nodes t
argument_marks (ValueArgument e) = expr_nodes e

pub exprs_more : (es : List ExprTree) (e : ExprTree) → exprs_nodes (exprs (es ++ e ∷ [])) ≡ exprs_nodes (exprs es) ++ expr_nodes e
exprs_more [] e = append-nil (expr_nodes e)
exprs_more (x ∷ es) e = ap (λ (z : List Mark). expr_nodes x ++ z) (exprs_more es e) ∙ sym (append_assoc (expr_nodes x) (exprs_nodes (exprs es)) (expr_nodes e))

pub arguments_more : (as' : List ArgumentTree) (a : ArgumentTree) → argument_nodes (arguments (as' ++ a ∷ [])) ≡ argument_nodes (arguments as') ++ argument_marks a
arguments_more [] (TypeArgument t) = append-nil (type_nodes t)
arguments_more [] (ValueArgument e) = append-nil (expr_nodes e)
arguments_more (TypeArgument t ∷ as') a = ap (λ (z : List Mark). type_nodes t ++ z) (arguments_more as' a) ∙ sym (append_assoc (type_nodes t) (argument_nodes (arguments as')) (argument_marks a))
arguments_more (ValueArgument e ∷ as') a = ap (λ (z : List Mark). expr_nodes e ++ z) (arguments_more as' a) ∙ sym (append_assoc (expr_nodes e) (argument_nodes (arguments as')) (argument_marks a))

pub arguments_one : (a : ArgumentTree) → argument_nodes (arguments (a ∷ [])) ≡ argument_marks a
arguments_one a = arguments_more [] a
