-- Local parameters of requires-expressions are as they are printed, where a `)` stands behind them.
use Rattle.std.proofs.Common.{◌≡◌, ◌⊎◌, inl, inr, ℕ, zero, suc, Bool, true, false, ◌||◌, List, [], ◌∷◌, ◌++◌, codes, refl, sym, ap, ◌∙◌, subst, append_assoc, append-nil, true≢false}
use Rattle.cx_tree.specs.Trees.{TypeTree, VoidTree, LocalTree}
use Rattle.cx_grammar.specs.Pieces.{Piece}
use Rattle.cx_grammar.specs.Words.{word, punct, any_name}
use Rattle.cx_grammar.specs.Production.{Production, give, ◌>>=◌, token, when, times, repeat, begins}
use Rattle.cx_grammar.specs.Names.{Context, kind_name, with_names}
use Rattle.cx_grammar.specs.Types.{Numbered, Named, Below, one_word, type_behind, type_id}
use Rattle.cx_grammar.specs.Expressions.{levels}
use Rattle.cx_grammar.specs.Requires.{local_behind, local, more_local, locals_behind, void_locals, some_locals}
use Rattle.cx_grammar.specs.Printed.{Relation, trees_of, optional, IsAsPrinted}
use Rattle.cx_grammar.proofs.Alone.{Filled, token-Filled, first-Filled}
use Rattle.cx_grammar.proofs.AloneExpressions.{levels-Alone}
use Rattle.cx_grammar.proofs.AloneRequires.{some_locals-Lawful}
use Rattle.cx_grammar.proofs.Printed.{Starts, token-Starts, first-Starts, right_whole, left_whole, right_front, left_front, when_first, when_second, first_front, second_front, begins_none, no_other}
use Rattle.cx_grammar_laws.specs.PrintedRequires.{is_alone, turns, any_number, maybe_local_name, first_type, printed_local, another_local, typed_locals, printed_locals}
use Rattle.cx_grammar_laws.proofs.Cases.{Never, Avoids, Apart, give-Avoids, token-Avoids, then-Avoids, filled-Avoids, when-Avoids, avoids-Apart}
use Rattle.cx_grammar_laws.proofs.Tokens.{flipped, word_Never, name_Never, punct_Never, other_punct, neither_Never}
use Rattle.cx_grammar_laws.proofs.Firsts.{type_first, type-Starts, type_behind-Avoids}
use Rattle.cx_grammar_laws.proofs.PrintedParts.{chosen, chosen_front, joined, same-Printed, apart-Printed, behind-Printed, optional-Printed, repeat-Printed, repeat-Apart}
use Rattle.cx_grammar_laws.proofs.Relations.{chained}

-- ---- what is as it is printed before a token of some kind

pub record Before {A : Type 0} (q : Piece → Bool) (p : Production A) (r : Relation A) : Type 0 where
  pub to : (l : ℕ) (ts behind : List Piece) (x : A) → begins q behind ≡ true → p.whole l ts behind x → r.whole l ts behind x
  pub back : (l : ℕ) (ts behind : List Piece) (x : A) → begins q behind ≡ true → r.whole l ts behind x → p.whole l ts behind x
  pub begun : (l : ℕ) (ts : List Piece) → p.front l ts → r.front l ts
  pub begun_back : (l : ℕ) (ts : List Piece) → r.front l ts → p.front l ts
  -- where no token stands behind a tree, it is a beginning
  pub ended : (l : ℕ) (ts : List Piece) (x : A) → p.whole l ts [] x → p.front l ts
  pub ended_back : (l : ℕ) (ts : List Piece) (x : A) → r.whole l ts [] x → r.front l ts

module _ {A B : Type 0} {q : Piece → Bool} {p : Production A} {r : Relation A} (h : Before q p r) {f : A → Production B} (s : (x : A) → Starts q (f x)) (g : Piece → Bool) where
  to_before : (l : ℕ) (ts behind : List Piece) (y : B) → (p >>= f).whole l ts behind y → (chained r (λ x. trees_of (f x))).whole l ts behind y
  to_before l ts behind y (x, us, vs, e, w, v) = (x, us, vs, e, h.to l us (vs ++ behind) x ((s x).begins_so l vs behind y v) w, v)

  back_before : (l : ℕ) (ts behind : List Piece) (y : B) → (chained r (λ x. trees_of (f x))).whole l ts behind y → (p >>= f).whole l ts behind y
  back_before l ts behind y (x, us, vs, e, w, v) = (x, us, vs, e, h.back l us (vs ++ behind) x ((s x).begins_so l vs behind y v) w, v)

  all_read : (ts us vs : List Piece) → ts ≡ us ++ vs → vs ≡ [] → us ≡ ts
  all_read ts us vs e d = sym (e ∙ ap (λ (z : List Piece). us ++ z) d ∙ append-nil us)

  begun_before : (l : ℕ) (ts : List Piece) → (p >>= f).front l ts → (chained r (λ x. trees_of (f x))).front l ts
  begun_before l ts (inl k) = inl (h.begun l ts k)
  begun_before l ts (inr (x, us, vs, e, w, k)) =
      elim ((s x).begun_so l vs k) [
        | inl d ↦ inl (h.begun l ts (subst (λ (z : List Piece). p.front l z) (all_read ts us vs e d) (h.ended l us x (subst (λ (z : List Piece). p.whole l us z x) d w))))
        | inr d ↦ inr (x, us, vs, e, h.to l us vs x d w, k)
      ]

  begun_back_before : (l : ℕ) (ts : List Piece) → (chained r (λ x. trees_of (f x))).front l ts → (p >>= f).front l ts
  begun_back_before l ts (inl k) = inl (h.begun_back l ts k)
  begun_back_before l ts (inr (x, us, vs, e, w, k)) =
      elim ((s x).begun_so l vs k) [
        | inl d ↦ inl (h.begun_back l ts (subst (λ (z : List Piece). r.front l z) (all_read ts us vs e d) (h.ended_back l us x (subst (λ (z : List Piece). r.whole l us z x) d w))))
        | inr d ↦ inr (x, us, vs, e, h.back l us vs x d w, k)
      ]

  pub before-Printed : IsAsPrinted (p >>= f) g (chained r (λ x. trees_of (f x)))
  before-Printed = record {
    same_trees = λ l ts behind y o. (λ w. to_before l ts behind y w, λ w. back_before l ts behind y w);
    same_beginnings = λ l ts. (λ k. begun_before l ts k, λ k. begun_back_before l ts k);
  }

-- a repetition begins with no token that no turn begins with
module _ {A : Type 0} (q r : Piece → Bool) (step : A → Production A) (some : (x : A) → Filled (step x)) (avoids : (x : A) → Avoids q (step x)) where
  times-Avoids : (n : ℕ) (x : A) → Avoids q (times n r step x)
  times-Avoids zero x = record { trees = λ l ts behind y w. absurd w; beginnings = λ l ts k. ap (λ (s : List Piece). begins q s) k ∙ begins_none q }
  times-Avoids (suc n) x = when-Avoids q r (filled-Avoids q (times n r step) (some x) (avoids x)) (give-Avoids q x)

  repeat-Avoids : (x : A) → Avoids q (repeat r step x)
  repeat-Avoids x = record {
    trees = λ l ts behind y w. (times-Avoids w.0 x).trees l ts behind y w.1;
    beginnings = λ l ts k. (times-Avoids k.0 x).beginnings l ts k.1;
  }

-- ---- kinds of tokens

abbrev closing : Piece → Bool
closing = punct (codes ")")

abbrev void : Piece → Bool
void = word (codes "void")

void_closing : Never void closing
unfolding punct
void_closing = word_Never (codes "void") closing (λ t. refl)

const_closing : Never (word (codes "const")) closing
unfolding punct
const_closing = word_Never (codes "const") closing (λ t. refl)

name_closing : Never any_name closing
unfolding punct
name_closing = name_Never closing (λ t. refl)

closing_name : Never closing any_name
closing_name = flipped {r = any_name} {q = closing} name_closing

comma_name : Never (punct (codes ",")) any_name
unfolding any_name
comma_name = punct_Never (codes ",") any_name (λ t. refl)

type_closing : (c : Context) → Never (type_first c) closing
unfolding word kind_name any_name one_word
type_closing c = flipped {r = closing} {q = type_first c} (punct_Never (codes ")") (type_first c) (λ t. refl))

-- what is no token of a kind is not one alone
not_one : (q : Piece → Bool) (ts behind : List Piece) → begins q (ts ++ behind) ≡ false → is_alone q ts ≡ false
unfolding begins
not_one q [] behind e = refl
not_one q (t ∷ []) behind e = e
not_one q (t ∷ u ∷ ts) behind e = refl

-- what stands behind a token before others of a kind, and begins with none of these, is not empty
not_one_more : (q r : Piece → Bool) (ts us vs behind : List Piece) (t : Piece) → ts ≡ us ++ vs → us ≡ t ∷ [] → begins r behind ≡ true → begins r (vs ++ behind) ≡ false → is_alone q ts ≡ false
not_one_more q r ts us vs behind t e d k o = ap (λ (s : List Piece). is_alone q s) (e ∙ ap (λ (s : List Piece). s ++ vs) d) ∙ go vs o
  where
    go : (vs : List Piece) → begins r (vs ++ behind) ≡ false → is_alone q (t ∷ vs) ≡ false
    go [] o = absurd (true≢false (sym k ∙ o))
    go (v ∷ vs) o = refl

-- what stands behind a token that is not alone is not empty
more_behind : (q r : Piece → Bool) (ts us vs behind : List Piece) (t : Piece) → ts ≡ us ++ vs → us ≡ t ∷ [] → q t ≡ true → is_alone q ts ≡ false → begins r vs ≡ false → begins r (vs ++ behind) ≡ false
unfolding begins
more_behind q r ts us vs behind t e d fits o k = go vs (sym (ap (λ (s : List Piece). is_alone q s) (e ∙ ap (λ (s : List Piece). s ++ vs) d)) ∙ o) k
  where
    go : (vs : List Piece) → is_alone q (t ∷ vs) ≡ false → begins r vs ≡ false → begins r (vs ++ behind) ≡ false
    go [] o k = absurd (true≢false (sym fits ∙ o))
    go (v ∷ vs) o k = k

-- ---- names, and parameters behind the first one

local_behind-Printed : (c : Context) (of : Numbered TypeTree) → IsAsPrinted (local_behind c of) any_name (maybe_local_name c of)
unfolding local_behind
local_behind-Printed c of = optional-Printed any_name _ (token-Starts _ _ _) (same-Printed _ _)

local_behind-Avoids : (c : Context) (of : Numbered TypeTree) → Avoids closing (local_behind c of)
unfolding local_behind
local_behind-Avoids c of = when-Avoids closing any_name (filled-Avoids closing _ (token-Filled c.load any_name) (token-Avoids closing c.load any_name name_closing)) (give-Avoids closing _)

module _ (b : Below) (c : Context) where
  local-Printed : (c : Context) (n : ℕ) → IsAsPrinted (local b c n) any_name (printed_local b c n)
  unfolding local
  local-Printed c n = behind-Printed (type_id b c n) (local_behind-Printed c)

  more_local-Starts : (x : Named (List LocalTree)) → Starts (punct (codes ",")) (more_local b c x)
  more_local-Starts x = token-Starts _ _ _

  more_local-Printed : (x : Named (List LocalTree)) → IsAsPrinted (more_local b c x) any_name (another_local b c x)
  more_local-Printed x = behind-Printed (token c.load (punct (codes ","))) (λ t. apart-Printed (local-Printed (with_names c x.2) x.1) (λ p. same-Printed _ any_name) (λ p. avoids-Apart (λ ts e. e) (give-Avoids any_name _)))

  more_local-Filled : (x : Named (List LocalTree)) → Filled (more_local b c x)
  more_local-Filled x = first-Filled _ (token-Filled _ _)

  more_local-Avoids : (x : Named (List LocalTree)) → Avoids closing (more_local b c x)
  more_local-Avoids x = filled-Avoids closing _ (token-Filled c.load (punct (codes ","))) (token-Avoids closing c.load (punct (codes ",")) (other_punct (codes ",") (codes ")") refl))

  abbrev Locals : Type 0
  Locals = Named (List LocalTree)

  -- what goes on behind parameters
  abbrev going_on : Piece → Bool
  going_on t = any_name t || punct (codes ",") t

  abbrev others : Named LocalTree → Relation Locals
  others first = any_number (another_local b c) (first.0 ∷ [], first.1, first.2)

  locals_behind-Printed : (first : Named LocalTree) → IsAsPrinted (locals_behind b c first) going_on (others first)
  unfolding locals_behind
  locals_behind-Printed first = repeat-Printed (punct (codes ",")) any_name comma_name more_local-Starts more_local-Printed (first.0 ∷ [], first.1, first.2)

  locals_behind-Apart : (first : Named LocalTree) → Apart going_on any_name (locals_behind b c first)
  unfolding locals_behind
  locals_behind-Apart first = repeat-Apart (punct (codes ",")) any_name comma_name more_local-Starts more_local-Printed (first.0 ∷ [], first.1, first.2)

  locals_behind-Avoids : (first : Named LocalTree) → Avoids closing (locals_behind b c first)
  unfolding locals_behind
  locals_behind-Avoids first = repeat-Avoids closing (punct (codes ",")) (more_local b c) more_local-Filled more_local-Avoids _

  -- behind the first type
  abbrev behind_type : Numbered TypeTree → Production Locals
  behind_type of = local_behind c of >>= locals_behind b c

  abbrev printed_behind : Numbered TypeTree → Relation Locals
  printed_behind of = chained (maybe_local_name c of) others

  behind_type-Printed : (of : Numbered TypeTree) → IsAsPrinted (behind_type of) going_on (printed_behind of)
  behind_type-Printed of = apart-Printed (local_behind-Printed c of) locals_behind-Printed locals_behind-Apart

-- ---- none or more

module _ (requires : Bool) (depth : ℕ) (c : Context) (n : ℕ) where
  abbrev b : Below
  b = levels requires depth

  abbrev Parameters : Type 0
  Parameters = Named (List LocalTree)

  abbrev none : Production Parameters
  none = give ([], n, c.names)

  -- a type that begins with `void`, and what is behind it
  abbrev void_type : Piece → Production (Numbered TypeTree)
  void_type t = type_behind c t.token.at false (VoidTree, n)

  abbrev behind_void : Piece → Production Parameters
  behind_void t = void_type t >>= behind_type b c

  -- the alternatives as they are read
  abbrev voids : Production Parameters
  voids = token c.load void >>= λ t. when closing none (behind_void t)

  abbrev typed : Production Parameters
  typed = type_id b c n >>= behind_type b c

  abbrev grouped : Production Parameters
  grouped = (type_id b c n >>= local_behind c) >>= locals_behind b c

  abbrev printed : Relation Parameters
  printed = optional (printed_locals b c n) ([], n, c.names)

  voids-Starts : Starts void voids
  voids-Starts = token-Starts _ _ _

  typed-Starts : Starts (type_first c) typed
  typed-Starts = first-Starts _ (type-Starts requires depth c n)

  behind_void-Avoids : (t : Piece) → Avoids closing (behind_void t)
  behind_void-Avoids t =
      then-Avoids closing (type_behind-Avoids closing const_closing (other_punct (codes "&") (codes ")") refl) c t.token.at false (VoidTree, n)) (λ of.
      then-Avoids closing (local_behind-Avoids c of) (locals_behind-Avoids b c))

  nothing : (l : ℕ) (ts : List Piece) → ts ≡ [] → (some_locals b c n).front l ts
  nothing l ts e = subst (λ (s : List Piece). (some_locals b c n).front l s) (sym e) ((some_locals-Lawful (levels-Alone depth) c n).starts l)

  -- what goes on behind parameters is no `)`
  ends : (behind : List Piece) → begins closing behind ≡ true → begins (going_on b c) behind ≡ false
  ends behind h = no_other (going_on b c) closing (neither_Never {r = closing} {q = any_name} {s = punct (codes ",")} closing_name (other_punct (codes ")") (codes ",") refl)) behind h

  -- ---- trees

  void_to : (l : ℕ) (ts behind : List Piece) (y : Parameters) → begins closing behind ≡ true → voids.whole l ts behind y → (printed_locals b c n).whole l ts behind y
  void_to l ts behind y h (t, us, vs, e, w, v) = go (chosen closing none (behind_void t) l vs behind y v)
    where
      go : none.whole l vs behind y ⊎ ((begins closing (vs ++ behind) ≡ false) × (behind_void t).whole l vs behind y) → (printed_locals b c n).whole l ts behind y
      go (inl v) = inl (t, us, vs, e, w, v)
      go (inr (absent, (of, us', vs', e', v, f))) =
          inr (
            not_one_more void closing ts us vs behind t e w.0 h absent,
            (of, us ++ us', vs', e ∙ ap (λ (s : List Piece). us ++ s) e' ∙ sym (append_assoc us us' vs'), inr (t, us, us', refl, w, v), ((behind_type-Printed b c of).same_trees l vs' behind y (ends behind h)).0 f),
          )

  typed_to : (l : ℕ) (ts behind : List Piece) (y : Parameters) → begins closing behind ≡ true → begins void (ts ++ behind) ≡ false → grouped.whole l ts behind y → (printed_locals b c n).whole l ts behind y
  typed_to l ts behind y h absent w = go (right_whole (type_id b c n) (local_behind c) (locals_behind b c) l ts behind y w)
    where
      go : typed.whole l ts behind y → (printed_locals b c n).whole l ts behind y
      go (of, us, vs, e, v, f) =
          inr (not_one void ts behind absent, (of, us, vs, e, inl (joined void ts us vs behind e ∙ absent, v), ((behind_type-Printed b c of).same_trees l vs behind y (ends behind h)).0 f))

  to : (l : ℕ) (ts behind : List Piece) (y : Parameters) → begins closing behind ≡ true → (some_locals b c n).whole l ts behind y → printed.whole l ts behind y
  unfolding some_locals void_locals local
  to l ts behind y h w =
      elim (chosen closing none (when void voids grouped) l ts behind y w) [
        | inl v ↦ inr v
        | inr v ↦ elim (chosen void voids grouped l ts behind y v.1) [
          | inl u ↦ inl (void_to l ts behind y h u)
          | inr u ↦ inl (typed_to l ts behind y h u.0 u.1)
        ]
      ]

  void_read : (l : ℕ) (ts behind : List Piece) (y : Parameters) → voids.whole l ts behind y → (some_locals b c n).whole l ts behind y
  unfolding some_locals void_locals local
  void_read l ts behind y w =
      let e = voids-Starts.begins_so l ts behind y w in
      when_second closing none (when void voids grouped) l ts behind y (no_other closing void void_closing (ts ++ behind) e) (when_first void voids grouped l ts behind y e w)

  typed_read : (l : ℕ) (ts behind : List Piece) (y : Parameters) → begins void (ts ++ behind) ≡ false → typed.whole l ts behind y → (some_locals b c n).whole l ts behind y
  unfolding some_locals void_locals local
  typed_read l ts behind y absent w =
      let e = typed-Starts.begins_so l ts behind y w in
      when_second closing none (when void voids grouped) l ts behind y (no_other closing (type_first c) (type_closing c) (ts ++ behind) e)
      (when_second void voids grouped l ts behind y absent (left_whole (type_id b c n) (local_behind c) (locals_behind b c) l ts behind y w))

  from : (l : ℕ) (ts behind : List Piece) (y : Parameters) → begins closing behind ≡ true → printed.whole l ts behind y → (some_locals b c n).whole l ts behind y
  unfolding some_locals void_locals local
  from l ts behind y h (inr w) = when_first closing none (when void voids grouped) l ts behind y (ap (λ (s : List Piece). begins closing (s ++ behind)) w.0 ∙ h) w
  from l ts behind y h (inl (inl (t, us, vs, e, w, v))) =
      void_read l ts behind y (t, us, vs, e, w, when_first closing none (behind_void t) l vs behind y (ap (λ (s : List Piece). begins closing (s ++ behind)) v.0 ∙ h) v)
  from l ts behind y h (inl (inr (more, (of, us, vs, e, inl (absent, w), v)))) =
      typed_read l ts behind y (sym (joined void ts us vs behind e) ∙ absent) (of, us, vs, e, w, ((behind_type-Printed b c of).same_trees l vs behind y (ends behind h)).1 v)
  from l ts behind y h (inl (inr (more, (of, us, vs, e, inr (t, us', vs', e', w, v'), v)))) =
      let f : (behind_void t).whole l (vs' ++ vs) behind y = (of, vs', vs, refl, v', ((behind_type-Printed b c of).same_trees l vs behind y (ends behind h)).1 v) in
      let d : ts ≡ us' ++ (vs' ++ vs) = e ∙ ap (λ (s : List Piece). s ++ vs) e' ∙ append_assoc us' vs' vs in
      void_read l ts behind y
      (t, us', vs' ++ vs, d, w, when_second closing none (behind_void t) l (vs' ++ vs) behind y (more_behind void closing ts us' (vs' ++ vs) behind t d w.0 w.1 more ((behind_void-Avoids t).trees l (vs' ++ vs) behind y f)) f)

  -- ---- beginnings

  void_to_front : (l : ℕ) (ts : List Piece) → voids.front l ts → (printed_locals b c n).front l ts
  void_to_front l ts (inl k) = inl (inl k)
  void_to_front l ts (inr (t, us, vs, e, w, k)) = go (chosen_front closing none (behind_void t) l vs k)
    where
      go : none.front l vs ⊎ ((begins closing vs ≡ false) × (behind_void t).front l vs) → (printed_locals b c n).front l ts
      go (inl k) = inl (inr (t, us, vs, e, w, k))
      go (inr (absent, inl k)) = inr (inl (inr (inr (t, us, vs, e, w, k))))
      go (inr (absent, inr (of, us', vs', e', v, k))) =
          inr (inr (of, us ++ us', vs', e ∙ ap (λ (s : List Piece). us ++ s) e' ∙ sym (append_assoc us us' vs'), inr (t, us, us', refl, w, v), ((behind_type-Printed b c of).same_beginnings l vs').0 k))

  typed_to_front : (l : ℕ) (ts : List Piece) → begins void ts ≡ false → grouped.front l ts → (printed_locals b c n).front l ts
  typed_to_front l ts absent k = go (right_front (type_id b c n) (local_behind c) (locals_behind b c) l ts k)
    where
      go : typed.front l ts → (printed_locals b c n).front l ts
      go (inl k) = inr (inl (inl (absent, k)))
      go (inr (of, us, vs, e, w, k)) = inr (inr (of, us, vs, e, inl (ap (λ (s : List Piece). begins void s) (sym e) ∙ absent, w), ((behind_type-Printed b c of).same_beginnings l vs).0 k))

  to_front : (l : ℕ) (ts : List Piece) → (some_locals b c n).front l ts → printed.front l ts
  unfolding some_locals void_locals local
  to_front l ts k =
      elim (chosen_front closing none (when void voids grouped) l ts k) [
        | inl v ↦ inr v
        | inr v ↦ elim (chosen_front void voids grouped l ts v.1) [
          | inl u ↦ inl (void_to_front l ts u)
          | inr u ↦ inl (typed_to_front l ts u.0 u.1)
        ]
      ]

  void_begun : (l : ℕ) (ts : List Piece) → voids.front l ts → (some_locals b c n).front l ts
  unfolding some_locals void_locals local
  void_begun l ts k =
      elim (voids-Starts.begun_so l ts k) [
        | inl e ↦ nothing l ts e
        | inr e ↦ second_front closing none (when void voids grouped) l ts (no_other closing void void_closing ts e) (first_front void voids grouped l ts e k)
      ]

  typed_begun : (l : ℕ) (ts : List Piece) → begins void ts ≡ false → typed.front l ts → (some_locals b c n).front l ts
  unfolding some_locals void_locals local
  typed_begun l ts absent k =
      elim (typed-Starts.begun_so l ts k) [
        | inl e ↦ nothing l ts e
        | inr e ↦ second_front closing none (when void voids grouped) l ts (no_other closing (type_first c) (type_closing c) ts e)
            (second_front void voids grouped l ts absent (left_front (type_id b c n) (local_behind c) (locals_behind b c) l ts k))
      ]

  from_front : (l : ℕ) (ts : List Piece) → printed.front l ts → (some_locals b c n).front l ts
  from_front l ts (inr e) = nothing l ts e
  from_front l ts (inl (inl (inl k))) = void_begun l ts (inl k)
  from_front l ts (inl (inl (inr (t, us, vs, e, (d, fits, low), none_behind)))) = void_begun l ts (inl (inr (t, e ∙ ap (λ (s : List Piece). us ++ s) none_behind ∙ append-nil us ∙ d, fits, low)))
  from_front l ts (inl (inr (inl (inl (absent, k))))) = typed_begun l ts absent (inl k)
  from_front l ts (inl (inr (inl (inr (inl k))))) = void_begun l ts (inl k)
  from_front l ts (inl (inr (inl (inr (inr (t, us, vs, e, w, k)))))) =
      let f : (behind_void t).front l vs = inl k in
      void_begun l ts (inr (t, us, vs, e, w, second_front closing none (behind_void t) l vs ((behind_void-Avoids t).beginnings l vs f) f))
  from_front l ts (inl (inr (inr (of, us, vs, e, inl (absent, w), k)))) =
      typed_begun l ts (ap (λ (s : List Piece). begins void s) e ∙ absent) (inr (of, us, vs, e, w, ((behind_type-Printed b c of).same_beginnings l vs).1 k))
  from_front l ts (inl (inr (inr (of, us, vs, e, inr (t, us', vs', e', w, v), k)))) =
      let f : (behind_void t).front l (vs' ++ vs) = inr (of, vs', vs, refl, v, ((behind_type-Printed b c of).same_beginnings l vs).1 k) in
      void_begun l ts
      (inr (t, us', vs' ++ vs, e ∙ ap (λ (s : List Piece). s ++ vs) e' ∙ append_assoc us' vs' vs, w, second_front closing none (behind_void t) l (vs' ++ vs) ((behind_void-Avoids t).beginnings l (vs' ++ vs) f) f))

  -- ---- where nothing stands behind them

  turns_ended : (m : ℕ) (x : Parameters) (l : ℕ) (ts : List Piece) (y : Parameters) → (turns m (another_local b c) x).whole l ts [] y → (turns m (another_local b c) x).front l ts
  turns_ended zero x l ts y w = w.0
  turns_ended (suc m) x l ts y (z, us, vs, e, w, v) = inr (z, us, vs, e, subst (λ (s : List Piece). (another_local b c x).whole l us s z) (append-nil vs) w, turns_ended m z l vs y v)

  typed_ended : (l : ℕ) (ts : List Piece) (y : Parameters) → (typed_locals b c n).whole l ts [] y → (typed_locals b c n).front l ts
  typed_ended l ts y (of, us, vs, e, w, (first, us', vs', e', w', (m, v))) =
      inr (
        of,
        us,
        vs,
        e,
        subst (λ (s : List Piece). (first_type b c n).whole l us s of) (append-nil vs) w,
        inr (first, us', vs', e', subst (λ (s : List Piece). (maybe_local_name c of).whole l us' s first) (append-nil vs') w', (m, turns_ended m (first.0 ∷ [], first.1, first.2) l vs' y v)),
      )

  ended_printed : (l : ℕ) (ts : List Piece) (y : Parameters) → printed.whole l ts [] y → printed.front l ts
  ended_printed l ts y (inr w) = inr w.0
  ended_printed l ts y (inl (inl (t, us, vs, e, w, v))) = inl (inl (inr (t, us, vs, e, w, v.0)))
  ended_printed l ts y (inl (inr (more, w))) = inl (inr (typed_ended l ts y w))

  pub some_locals-Printed : Before closing (some_locals b c n) printed
  some_locals-Printed = record {
    to = to;
    back = from;
    begun = to_front;
    begun_back = from_front;
    ended = λ l ts y w. (some_locals-Lawful (levels-Alone depth) c n).whole_front l ts [] y w;
    ended_back = ended_printed;
  }
