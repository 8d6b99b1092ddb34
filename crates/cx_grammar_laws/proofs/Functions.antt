-- Variables and functions of the unit, and fields and functions of a class, are as they are printed.
use Rattle.std.proofs.Common.{◌≡◌, ◌⊎◌, inl, inr, ℕ, ◌+◌, Bool, true, false, not, ◌&&◌, List, [], codes, refl, sym, ap, true≢false}
use Rattle.cx_scope.specs.declared.name_kind.NameKind.TheVariants as names
use Rattle.cx_scope.specs.Frames.{noted}
use Rattle.cx_tree.specs.Trees.{TypeTree}
use Rattle.cx_tree.specs.Declarations.{Specifiers, FunctionTree, MemberTree, FieldMember, FunctionMember, DeclTree, ConstantDecl, FunctionDecl}
use Rattle.cx_grammar.specs.Pieces.{Piece}
use Rattle.cx_grammar.specs.Production.{Production, give, ◌>>=◌, token, when, begins}
use Rattle.cx_grammar.specs.Words.{punct, any_name}
use Rattle.cx_grammar.specs.Names.{Context}
use Rattle.cx_grammar.specs.Types.{Numbered, Below, numbered, type_id, Named}
use Rattle.cx_grammar.specs.Statements.{Within, init, list_init, value_init}
use Rattle.cx_grammar.specs.Declarations.{no_specifiers, specifiers, constant_behind, function_behind, variable_or_function, is_member_specifier, field_or_function}
use Rattle.cx_grammar.specs.Printed as relation
use Rattle.cx_grammar.specs.Printed.{Relation, IsAsPrinted, trees_of, or}
use Rattle.cx_grammar.proofs.Alone.{Filled, token-Filled, first-Filled}
use Rattle.cx_grammar.proofs.Printed.{Starts, token-Starts, first-Starts}
use Rattle.cx_grammar_laws.specs.Printed.{nothing, where_so, printed_variable_or_function, printed_field_or_function}
use Rattle.cx_grammar_laws.proofs.Cases.{Any, Never, Avoids, token-Avoids, filled-Avoids, skip-Alike, PrintedWhere, printed_alike, Apart, filled-Apart}
use Rattle.cx_grammar_laws.proofs.Tokens.{other_punct}
use Rattle.cx_grammar_laws.proofs.Starting.{Kind, of_token, when-Starts}
use Rattle.cx_grammar_laws.proofs.Behind.{SameWhere, printed_where, as_printed, next_tells, no_kind}

-- ---- alternatives behind the same

module _ {A B : Type 0} {goes_on : Piece → Bool} (r : Relation A) (f g h : A → Relation B) (a : (x : A) → SameWhere goes_on (f x) (or (g x) (h x))) where
  abbrev apart : Relation B
  apart = or (relation.◌>>=◌ r g) (relation.◌>>=◌ r h)

  behind_or : SameWhere goes_on (relation.◌>>=◌ r f) apart
  behind_or = record {
    to = λ l ts behind y n w. to l ts behind y n w;
    back = λ l ts behind y n w. back l ts behind y n w;
    begun = λ l ts k. begun l ts k;
    begun_back = λ l ts k. begun_back l ts k;
  }
    where
      to : (l : ℕ) (ts behind : List Piece) (y : B) → begins goes_on behind ≡ false → (relation.◌>>=◌ r f).whole l ts behind y → apart.whole l ts behind y
      to l ts behind y n (x, us, vs, e, w, v) = go ((a x).to l vs behind y n v)
        where
          go : (g x).whole l vs behind y ⊎ (h x).whole l vs behind y → apart.whole l ts behind y
          go (inl v') = inl (x, us, vs, e, w, v')
          go (inr v') = inr (x, us, vs, e, w, v')

      back : (l : ℕ) (ts behind : List Piece) (y : B) → begins goes_on behind ≡ false → apart.whole l ts behind y → (relation.◌>>=◌ r f).whole l ts behind y
      back l ts behind y n (inl (x, us, vs, e, w, v)) = (x, us, vs, e, w, (a x).back l vs behind y n (inl v))
      back l ts behind y n (inr (x, us, vs, e, w, v)) = (x, us, vs, e, w, (a x).back l vs behind y n (inr v))

      begun : (l : ℕ) (ts : List Piece) → (relation.◌>>=◌ r f).front l ts → apart.front l ts
      begun l ts (inl k) = inl (inl k)
      begun l ts (inr (x, us, vs, e, w, k)) = go ((a x).begun l vs k)
        where
          go : (g x).front l vs ⊎ (h x).front l vs → apart.front l ts
          go (inl k') = inl (inr (x, us, vs, e, w, k'))
          go (inr k') = inr (inr (x, us, vs, e, w, k'))

      begun_back : (l : ℕ) (ts : List Piece) → apart.front l ts → (relation.◌>>=◌ r f).front l ts
      begun_back l ts (inl (inl k)) = inl k
      begun_back l ts (inl (inr (x, us, vs, e, w, k))) = inr (x, us, vs, e, w, (a x).begun_back l vs (inl k))
      begun_back l ts (inr (inl k)) = inl k
      begun_back l ts (inr (inr (x, us, vs, e, w, k))) = inr (x, us, vs, e, w, (a x).begun_back l vs (inr k))

module _ {A B C D : Type 0} (r : Relation A) (s : Relation B) (t : Relation C) where
  abbrev behind_two : (B → C → Relation D) → Relation D
  behind_two f = relation.◌>>=◌ s (λ y. relation.◌>>=◌ t (λ z. f y z))

  abbrev behind_three : (A → B → C → Relation D) → Relation D
  behind_three f = relation.◌>>=◌ r (λ x. behind_two (f x))

  three_or : {goes_on : Piece → Bool} (f g h : A → B → C → Relation D) → ((x : A) (y : B) (z : C) → SameWhere goes_on (f x y z) (or (g x y z) (h x y z))) → SameWhere goes_on (behind_three f) (or (behind_three g) (behind_three h))
  three_or f g h a =
      behind_or r (λ x. behind_two (f x)) (λ x. behind_two (g x)) (λ x. behind_two (h x)) (λ x.
      behind_or s (λ y. relation.◌>>=◌ t (f x y)) (λ y. relation.◌>>=◌ t (g x y)) (λ y. relation.◌>>=◌ t (h x y)) (λ y.
      behind_or t (f x y) (g x y) (h x y) (a x y)))

-- ---- the next token tells two apart, where something holds; the first stands nowhere else

module _ {A : Type 0} (goes_on q : Piece → Bool) {a b : Production A} (ha : Starts q a) (hb : Apart goes_on q b) (starts : (l : ℕ) → b.front l []) where
  holds : SameWhere goes_on (or (trees_of a) (trees_of b)) (or (where_so true (trees_of a)) (trees_of b))
  holds = record { to = λ l ts behind x n w. to w; back = λ l ts behind x n w. back w; begun = λ l ts k. to k; begun_back = λ l ts k. back k }
    where
      to : {P Q : Type 0} → P ⊎ Q → ((true ≡ true) × P) ⊎ Q
      to (inl w) = inl (refl, w)
      to (inr w) = inr w

      back : {P Q : Type 0} → ((true ≡ true) × P) ⊎ Q → P ⊎ Q
      back (inl (e, w)) = inl w
      back (inr w) = inr w

  holds_not : SameWhere goes_on (trees_of b) (or (where_so false (trees_of a)) (trees_of b))
  holds_not = record { to = λ l ts behind x n w. inr w; back = λ l ts behind x n w. back w; begun = λ l ts k. inr k; begun_back = λ l ts k. back k }
    where
      back : {P Q : Type 0} → ((false ≡ true) × P) ⊎ Q → Q
      back (inl (e, w)) = absurd (true≢false (sym e))
      back (inr w) = w

  where_tells : (is : Bool) → PrintedWhere Any goes_on (when (λ p. is && q p) a b) (or (where_so is (trees_of a)) (trees_of b))
  where_tells true = printed_where holds (next_tells goes_on q ha hb starts)
  where_tells false = printed_where holds_not (printed_alike goes_on (skip-Alike (λ p. false && q p) a b (λ ts k. no_kind _ (λ p. refl) ts)))

-- ---- behind the name of a function stands `(`

module _ (is_member templated : Bool) (b : Within) (c : Context) (s : Specifiers) (of : Numbered TypeTree) (name : Piece) {A : Type 0} (made : Named FunctionTree → A) where
  abbrev function : Production A
  function = function_behind is_member templated b c s of name >>= (λ f. give (made f))

  behind-Filled : Filled (function_behind is_member templated b c s of name)
  unfolding function_behind
  behind-Filled = first-Filled _ (token-Filled (c.load + 1) (punct (codes "(")))

  function-starts : (l : ℕ) → function.front l []
  unfolding function_behind
  function-starts l = inl (inl (inl refl))

  module _ (q : Piece → Bool) (h : Never (punct (codes "(")) q) where
    behind-Avoids : Avoids q (function_behind is_member templated b c s of name)
    unfolding function_behind
    behind-Avoids = filled-Avoids q _ (token-Filled (c.load + 1) (punct (codes "("))) (token-Avoids q (c.load + 1) (punct (codes "(")) h)

    function-Apart : Apart nothing q function
    function-Apart = filled-Apart (first-Filled (λ f. give (made f)) behind-Filled) (filled-Avoids q (λ f. give (made f)) behind-Filled behind-Avoids)

-- ---- in the unit: behind the name of a variable stands no `(`

abbrev no_round : Piece → Bool
no_round p = not (punct (codes "(") p)

punct_no_round : (text : List ℕ) → Never (punct text) (punct (codes "(")) → Kind (punct text) no_round
punct_no_round text h = record { kind = λ t e. ap not (h t e) }

init-Starts : (b : Below) (c : Context) (n : ℕ) → Starts no_round (init b c n)
unfolding init list_init value_init
init-Starts b c n =
    when-Starts (punct (codes "{")) (of_token (c.load + 1) _ (punct_no_round (codes "{") (other_punct (codes "{") (codes "(") refl))) (of_token c.load _ (punct_no_round (codes "=") (other_punct (codes "=") (codes "(") refl)))

constant_behind-Starts : (b : Below) (c : Context) (s : Specifiers) (of : Numbered TypeTree) (name : Piece) → Starts no_round (constant_behind b c s of name)
unfolding constant_behind
constant_behind-Starts b c s of name = first-Starts _ (init-Starts b _ of.1)

module _ (b : Within) (c : Context) (n : ℕ) where
  abbrev constant' : Specifiers → Numbered TypeTree → Piece → Production (Named DeclTree)
  constant' s of name = constant_behind b.base c s of name >>= (λ v. give (ConstantDecl v.0, v.1, v.2))

  abbrev made' : Named FunctionTree → Named DeclTree
  made' f = (FunctionDecl f.0, f.1, f.2)

  abbrev function' : Specifiers → Numbered TypeTree → Piece → Production (Named DeclTree)
  function' s of name = function false false b c s of name made'

  variable_Same : SameWhere nothing (trees_of (variable_or_function b c n)) (printed_variable_or_function b c n)
  unfolding variable_or_function printed_variable_or_function
  variable_Same =
      three_or (trees_of (specifiers c no_specifiers)) (trees_of (type_id b.base c n)) (trees_of (token c.load any_name))
      (λ s of name. trees_of (when (λ p. s.is_constexpr && no_round p) (constant' s of name) (function' s of name)))
      (λ s of name. where_so s.is_constexpr (trees_of (constant' s of name)))
      (λ s of name. trees_of (function' s of name))
      (λ s of name. as_printed (where_tells nothing no_round (first-Starts (λ v. give (ConstantDecl v.0, v.1, v.2)) (constant_behind-Starts b.base c s of name)) (function-Apart false false b c s of name made' no_round (λ t e. ap not e)) (function-starts false false b c s of name made') s.is_constexpr))

  pub variable_or_function_printed : IsAsPrinted (variable_or_function b c n) nothing (printed_variable_or_function b c n)
  variable_or_function_printed = record {
    same_trees = λ l ts behind x e. (λ w. variable_Same.to l ts behind x e w, λ w. variable_Same.back l ts behind x e w);
    same_beginnings = λ l ts. (λ k. variable_Same.begun l ts k, λ k. variable_Same.begun_back l ts k);
  }

-- ---- in a class: behind the name of a field stands `;`

module _ (templated : Bool) (b : Within) (c : Context) (n : ℕ) where
  abbrev field' : Numbered TypeTree → Piece → Production (Named MemberTree)
  field' of name = token c.load (punct (codes ";")) >>= (λ t. give (FieldMember (numbered of.1 name.token.at) of.0 name.token.text, of.1 + 1, noted c.names name.token.text names.Value))

  abbrev made_member : Named FunctionTree → Named MemberTree
  made_member f = (FunctionMember f.0, f.1, f.2)

  abbrev member_function : Specifiers → Numbered TypeTree → Piece → Production (Named MemberTree)
  member_function s of name = function true templated b c (record s { is_static = false }) of name made_member

  field_Same : SameWhere nothing (trees_of (field_or_function templated b c n)) (printed_field_or_function templated b c n)
  unfolding field_or_function printed_field_or_function
  field_Same =
      three_or (trees_of (specifiers c (record { is_inline = false; is_static = true; is_constexpr = false }))) (trees_of (type_id b.base c n)) (trees_of (token c.load any_name))
      (λ s of name. trees_of (when (λ p. not (is_member_specifier s) && punct (codes ";") p) (field' of name) (member_function s of name)))
      (λ s of name. where_so (not (is_member_specifier s)) (trees_of (field' of name)))
      (λ s of name. trees_of (member_function s of name))
      (λ s of name.
      as_printed
      (where_tells nothing (punct (codes ";")) (token-Starts c.load (punct (codes ";")) (λ t. give (FieldMember (numbered of.1 name.token.at) of.0 name.token.text, of.1 + 1, noted c.names name.token.text names.Value))) (function-Apart true templated b c (record s { is_static = false }) of name made_member (punct (codes ";")) (other_punct (codes "(") (codes ";") refl))
      (function-starts true templated b c (record s { is_static = false }) of name made_member) (not (is_member_specifier s))))

  pub field_or_function_printed : IsAsPrinted (field_or_function templated b c n) nothing (printed_field_or_function templated b c n)
  field_or_function_printed = record {
    same_trees = λ l ts behind x e. (λ w. field_Same.to l ts behind x e w, λ w. field_Same.back l ts behind x e w);
    same_beginnings = λ l ts. (λ k. field_Same.begun l ts k, λ k. field_Same.begun_back l ts k);
  }
