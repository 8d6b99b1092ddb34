-- Requires-expressions are as they are printed.
use Rattle.std.proofs.Common.{◌≡◌, ◌⊎◌, inl, inr, ℕ, ◌+◌, Bool, true, false, ◌&&◌, ◌||◌, not, List, [], ◌∷◌, ◌++◌, codes, None, refl, sym, ap, ◌∙◌, subst, true≢false}
use Rattle.std.specs.Str.{bytes_eq}
use Rattle.cx_scope.specs.Frames.{entered}
use Rattle.std.proofs.lemmas.Slice.Eq.{bytes_eq-Decides}
use Rattle.cx_tree.specs.Trees.{ExprTree, RequiresTree, TypeTree, CoreTree, LocalTree, RequirementTree, CompoundRequirement, locals, requirements}
use Rattle.cx_grammar.specs.Pieces.{Piece}
use Rattle.cx_grammar.specs.Words.{word, punct}
use Rattle.cx_grammar.specs.Production.{Production, give, ◌>>=◌, token, when, begins}
use Rattle.cx_grammar.specs.Names.{Context, deeper, inside, class_name, with_names}
use Rattle.cx_grammar.specs.Types.{Numbered, Placed, Below, numbered, as_type, class_core, type_name_core, head_core, qualified_names, Named}
use Rattle.cx_grammar.specs.Expressions.{levels}
use Rattle.cx_grammar.specs.Requires.{is_not_closing, some_locals, maybe_locals, simple_requirement, maybe_names, required_type, type_requirement, maybe_constraint, compound_requirement, nested_requirement, requirement, more_requirement, some_requirements, requires_expr}
use Rattle.cx_grammar.specs.Printed.{Relation, trees_of, or, IsAsPrinted}
use Rattle.cx_grammar.proofs.Expressions.{levels-Grows}
use Rattle.cx_grammar.proofs.Printed.{Starts, token-Starts, first-Starts, when_first, when_second, first_front, second_front, begins_none, no_other, neither}
use Rattle.cx_grammar_laws.specs.PrintedRequires.{qual, class_alone, printed_type_requirement, arrow_constraint, printed_compound_requirement, begins_no_expr, printed_requirement, another_requirement, printed_requirements, round_locals, printed_requires_expr}
use Rattle.cx_grammar_laws.proofs.Starting.{Kind, no_brace, left_true, right_true, word_is, other_punct, expr-Starts, more_Starts, when-Starts}
use Rattle.cx_grammar_laws.proofs.PrintedParts.{chosen, chosen_front, never, never_begins, never-Shut, joined, same-Printed, starts-Shut, then-Printed, behind-Printed, optional-Printed, repeat-Printed}
use Rattle.cx_grammar_laws.proofs.Relations.{chained}
use Rattle.cx_grammar_laws.proofs.PrintedLocals.{before-Printed, some_locals-Printed}
use Rattle.cx_grammar.proofs.Requires.{requirement-Grows}

-- ---- a class template with arguments or without names behind it, and the name of a type

abbrev Typed : Type 0
Typed = TypeTree × List (List ℕ)

module _ (b : Below) (c : Context) (n : ℕ) where
  class_core-Starts : Starts (class_name c) (class_core b c n)
  unfolding class_core
  class_core-Starts = token-Starts _ _ _

  names-Starts : Starts (punct (codes "::")) (qualified_names c)
  unfolding qualified_names
  names-Starts = token-Starts _ _ _

  head_class : (l : ℕ) (us behind : List Piece) (k : Numbered (Placed CoreTree)) → (class_core b c n).whole l us behind k → (head_core b c n).whole l us behind k
  unfolding head_core
  head_class l us behind k w = when_first (class_name c) (class_core b c n) (type_name_core c n) l us behind k (class_core-Starts.begins_so l us behind k w) w

  -- a head and the names behind it
  abbrev named_by : Numbered (Placed CoreTree) → Production (List (List ℕ)) → Production (Numbered Typed)
  named_by k p = p >>= λ names. give (((as_type k).0, names), (as_type k).1)

  -- the alternatives as they are read
  abbrev by_class : Production (Numbered Typed)
  by_class = class_core b c n >>= λ k. named_by k (maybe_names c)

  abbrev by_name : Production (Numbered Typed)
  by_name = type_name_core c n >>= λ k. named_by k (qualified_names c)

  abbrev printed_type : Relation (Numbered Typed)
  printed_type = or (qual b c n) (class_alone b c n)

  type_to : (l : ℕ) (ts behind : List Piece) (y : Numbered Typed) → (required_type b c n).whole l ts behind y → printed_type.whole l ts behind y
  unfolding required_type head_core maybe_names
  type_to l ts behind y w = go (chosen (class_name c) by_class by_name l ts behind y w)
    where
      go : by_class.whole l ts behind y ⊎ ((begins (class_name c) (ts ++ behind) ≡ false) × by_name.whole l ts behind y) → printed_type.whole l ts behind y
      go (inl (k, us, vs, e, w, (names, us', vs', e', v, (e'', d)))) =
          elim (chosen (punct (codes "::")) (qualified_names c) (give []) l us' (vs' ++ behind) names v) [
            | inl q ↦ inl (k, us, vs, e, head_class l us (vs ++ behind) k w, (names, us', vs', e', q, (e'', d)))
            | inr q ↦ inr (k, us, vs, e, w, (e' ∙ (λ i. q.1.0 i ++ e'' i), d ∙ ap (λ (z : List (List ℕ)). (((as_type k).0, z), (as_type k).1)) q.1.1))
          ]
      go (inr (none, (k, us, vs, e, w, v))) = inl (k, us, vs, e, when_second (class_name c) (class_core b c n) (type_name_core c n) l us (vs ++ behind) k (joined (class_name c) ts us vs behind e ∙ none) w, v)

  by_class_begins : (l : ℕ) (ts us vs behind : List Piece) (k : Numbered (Placed CoreTree)) → ts ≡ us ++ vs → (class_core b c n).whole l us (vs ++ behind) k → begins (class_name c) (ts ++ behind) ≡ true
  by_class_begins l ts us vs behind k e w = sym (joined (class_name c) ts us vs behind e) ∙ class_core-Starts.begins_so l us (vs ++ behind) k w

  type_from : (l : ℕ) (ts behind : List Piece) (y : Numbered Typed) → begins (punct (codes "::")) behind ≡ false → printed_type.whole l ts behind y → (required_type b c n).whole l ts behind y
  unfolding required_type head_core maybe_names
  type_from l ts behind y h (inl (k, us, vs, e, w, (names, us', vs', e', q, v))) =
      elim (chosen (class_name c) (class_core b c n) (type_name_core c n) l us (vs ++ behind) k w) [
        | inl w' ↦ when_first (class_name c) by_class by_name l ts behind y (by_class_begins l ts us vs behind k e w')
            (k, us, vs, e, w', (names, us', vs', e', when_first (punct (codes "::")) (qualified_names c) (give []) l us' (vs' ++ behind) names (names-Starts.begins_so l us' (vs' ++ behind) names q) q, v))
        | inr w' ↦ when_second (class_name c) by_class by_name l ts behind y (sym (joined (class_name c) ts us vs behind e) ∙ w'.0) (k, us, vs, e, w'.1, (names, us', vs', e', q, v))
      ]
  type_from l ts behind y h (inr (k, us, vs, e, w, (e', d))) =
      when_first (class_name c) by_class by_name l ts behind y (by_class_begins l ts us vs behind k e w)
      (k, us, vs, e, w, ([], [], [], e', when_second (punct (codes "::")) (qualified_names c) (give []) l [] behind [] h (refl, refl), (refl, d)))

  type_to_front : (l : ℕ) (ts : List Piece) → (required_type b c n).front l ts → printed_type.front l ts
  unfolding required_type head_core maybe_names
  type_to_front l ts k = go (chosen_front (class_name c) by_class by_name l ts k)
    where
      go : by_class.front l ts ⊎ ((begins (class_name c) ts ≡ false) × by_name.front l ts) → printed_type.front l ts
      go (inl (inl f)) = inr (inl f)
      go (inl (inr (k, us, vs, e, w, inl f))) =
          elim (chosen_front (punct (codes "::")) (qualified_names c) (give []) l vs f) [
            | inl q ↦ inl (inr (k, us, vs, e, head_class l us vs k w, inl q))
            | inr q ↦ inr (inr (k, us, vs, e, w, q.1))
          ]
      go (inl (inr (k, us, vs, e, w, inr (names, us', vs', e', v, f)))) =
          elim (chosen (punct (codes "::")) (qualified_names c) (give []) l us' vs' names v) [
            | inl q ↦ inl (inr (k, us, vs, e, head_class l us vs k w, inr (names, us', vs', e', q, f)))
            | inr q ↦ inr (inr (k, us, vs, e, w, e' ∙ (λ i. q.1.0 i ++ f i)))
          ]
      go (inr (none, inl f)) = inl (inl (second_front (class_name c) (class_core b c n) (type_name_core c n) l ts none f))
      go (inr (none, inr (k, us, vs, e, w, f))) =
          inl (inr (k, us, vs, e, when_second (class_name c) (class_core b c n) (type_name_core c n) l us vs k (ap (λ (s : List Piece). begins (class_name c) s) (sym e) ∙ none) w, f))

  -- no token is a beginning
  type_nothing : (l : ℕ) (ts : List Piece) → ts ≡ [] → (required_type b c n).front l ts
  unfolding required_type type_name_core
  type_nothing l ts e = second_front (class_name c) by_class by_name l ts (ap (λ (s : List Piece). begins (class_name c) s) e ∙ begins_none (class_name c)) (inl (inl (inl e)))

  type_from_front : (l : ℕ) (ts : List Piece) → printed_type.front l ts → (required_type b c n).front l ts
  unfolding required_type head_core maybe_names
  type_from_front l ts (inl (inl f)) =
      elim (chosen_front (class_name c) (class_core b c n) (type_name_core c n) l ts f) [
        | inl f' ↦ elim (class_core-Starts.begun_so l ts f') [
          | inl e ↦ type_nothing l ts e
          | inr e ↦ first_front (class_name c) by_class by_name l ts e (inl f')
        ]
        | inr f' ↦ second_front (class_name c) by_class by_name l ts f'.0 (inl f'.1)
      ]
  type_from_front l ts (inl (inr (k, us, vs, e, w, f))) =
      elim (chosen (class_name c) (class_core b c n) (type_name_core c n) l us vs k w) [
        | inl w' ↦ first_front (class_name c) by_class by_name l ts (ap (λ (s : List Piece). begins (class_name c) s) e ∙ class_core-Starts.begins_so l us vs k w') (inr (k, us, vs, e, w', names_front vs f))
        | inr w' ↦ second_front (class_name c) by_class by_name l ts (ap (λ (s : List Piece). begins (class_name c) s) e ∙ w'.0) (inr (k, us, vs, e, w'.1, f))
      ]
    where
      names_front : (vs : List Piece) → (named_by k (qualified_names c)).front l vs → (named_by k (maybe_names c)).front l vs
      names_front vs (inl f) =
          elim (names-Starts.begun_so l vs f) [
            | inl e ↦ inl (second_front (punct (codes "::")) (qualified_names c) (give []) l vs (ap (λ (s : List Piece). begins (punct (codes "::")) s) e ∙ begins_none (punct (codes "::"))) e)
            | inr e ↦ inl (first_front (punct (codes "::")) (qualified_names c) (give []) l vs e f)
          ]
      names_front vs (inr (names, us', vs', e', q, f)) =
          inr (names, us', vs', e', when_first (punct (codes "::")) (qualified_names c) (give []) l us' vs' names (names-Starts.begins_so l us' vs' names q) q, f)
  type_from_front l ts (inr (inl f)) =
      elim (class_core-Starts.begun_so l ts f) [
        | inl e ↦ type_nothing l ts e
        | inr e ↦ first_front (class_name c) by_class by_name l ts e (inl f)
      ]
  type_from_front l ts (inr (inr (k, us, vs, e, w, f))) =
      first_front (class_name c) by_class by_name l ts (ap (λ (s : List Piece). begins (class_name c) s) e ∙ class_core-Starts.begins_so l us vs k w)
      (inr (k, us, vs, e, w, inl (second_front (punct (codes "::")) (qualified_names c) (give []) l vs (ap (λ (s : List Piece). begins (punct (codes "::")) s) f ∙ begins_none (punct (codes "::"))) f)))

  required_type-Printed : IsAsPrinted (required_type b c n) (punct (codes "::")) printed_type
  required_type-Printed = record {
    same_trees = λ l ts behind y h. (λ w. type_to l ts behind y w, λ w. type_from l ts behind y h w);
    same_beginnings = λ l ts. (λ k. type_to_front l ts k, λ k. type_from_front l ts k);
  }

-- ---- requirements

module _ (b : Below) (c : Context) (n : ℕ) where
  type_requirement-Printed : IsAsPrinted (type_requirement b c n) never (printed_type_requirement b c n)
  unfolding type_requirement
  type_requirement-Printed = behind-Printed _ (λ t. then-Printed (required_type-Printed b (deeper c) n) (λ of. same-Printed _ never) (λ of. starts-Shut (punct (codes "::")) (punct (codes ";")) (other_punct (codes ";") (codes "::") refl) (token-Starts _ _ _)))

  maybe_constraint-Printed : IsAsPrinted (maybe_constraint b c n) (punct (codes "->")) (or (arrow_constraint b c n) (trees_of (give (None, n))))
  unfolding maybe_constraint
  maybe_constraint-Printed = optional-Printed (punct (codes "->")) (None, n) (token-Starts _ _ _) (same-Printed _ _)

module _ (b : Below) (c : Context) (n : ℕ) where
  compound_requirement-Printed : IsAsPrinted (compound_requirement b c n) never (printed_compound_requirement b c n)
  unfolding compound_requirement
  compound_requirement-Printed = behind-Printed (token (c.load + 1 + 1) (punct (codes "{"))) (λ t. behind-Printed (b.expr (inside (deeper c)) n) (λ e. behind-Printed (token (c.load + 1 + 1) (punct (codes "}"))) (λ u.
      then-Printed (maybe_constraint-Printed b (deeper c) e.1) (λ k. same-Printed _ never)
      (λ k. starts-Shut (punct (codes "->")) (punct (codes ";")) (other_punct (codes ";") (codes "->") refl)
      (token-Starts (c.load + 1) (punct (codes ";")) (λ v. give (CompoundRequirement (numbered k.1 t.token.at) e.0 k.0, k.1 + 1)))))))

-- the tokens that requirements begin with
type_requirement-Starts : (b : Below) (c : Context) (n : ℕ) → Starts (word (codes "typename")) (type_requirement b c n)
unfolding type_requirement
type_requirement-Starts b c n = token-Starts _ _ _

nested_requirement-Starts : (b : Below) (c : Context) (n : ℕ) → Starts (word (codes "requires")) (nested_requirement b c n)
unfolding nested_requirement
nested_requirement-Starts b c n = token-Starts _ _ _

compound_requirement-Starts : (b : Below) (c : Context) (n : ℕ) → Starts (punct (codes "{")) (compound_requirement b c n)
unfolding compound_requirement
compound_requirement-Starts b c n = token-Starts _ _ _

simple_requirement-Starts : (requires : Bool) (depth : ℕ) (c : Context) (n : ℕ) → Starts no_brace (simple_requirement (levels requires depth) c n)
unfolding simple_requirement
simple_requirement-Starts requires depth c n = first-Starts _ (expr-Starts requires depth (deeper c) n)

-- ... are apart
worded : (text : List ℕ) (t : Piece) → word text t ≡ true → t.token.text ≡ text
unfolding word
worded text t e = (bytes_eq-Decides t.token.text text).0 (right_true _ _ e)

other_word : (a d : List ℕ) → bytes_eq a d ≡ false → (t : Piece) → word a t ≡ true → word d t ≡ false
other_word a d n t e = go (word d t) refl
  where
    go : (x : Bool) → word d t ≡ x → x ≡ false
    go false k = refl
    go true k =
        let same : a ≡ d = sym (worded a t e) ∙ worded d t k in
        absurd (true≢false (sym ((bytes_eq-Decides a d).1 same) ∙ n))

-- a punctuator is no word
punct_word : (a d : List ℕ) (t : Piece) → punct a t ≡ true → word d t ≡ false
unfolding punct
punct_word a d t e = go (word d t) refl
  where
    go : (x : Bool) → word d t ≡ x → x ≡ false
    go false k = refl
    go true k = absurd (true≢false (sym (left_true _ _ (left_true _ _ e)) ∙ word_is d t k))

brace_first : (t : Piece) → no_brace t ≡ true → punct (codes "{") t ≡ false
brace_first t e = go (punct (codes "{") t) refl e
  where
    go : (x : Bool) → punct (codes "{") t ≡ x → (not x && not (punct (codes "}") t)) ≡ true → x ≡ false
    go false k d = refl
    go true k d = absurd (true≢false (sym d))

no_closing-Kind : Kind no_brace is_not_closing
no_closing-Kind = record { kind = λ t e. right_true _ _ e }

word-Kind : (text : List ℕ) → Kind (word text) is_not_closing
word-Kind text = record { kind = λ t e. go t (punct (codes "}") t) refl e }
  where
    go : (t : Piece) (x : Bool) → punct (codes "}") t ≡ x → word text t ≡ true → not x ≡ true
    go t false k e = refl
    go t true k e = absurd (true≢false (sym e ∙ punct_word (codes "}") text t k))

brace-Kind : Kind (punct (codes "{")) is_not_closing
brace-Kind = record { kind = λ t e. ap not (other_punct (codes "{") (codes "}") refl t e) }

requirement-Starts : (requires : Bool) (depth : ℕ) (c : Context) (n : ℕ) → Starts is_not_closing (requirement (levels requires depth) c n)
unfolding requirement
requirement-Starts requires depth c n = when-Starts _ (more_Starts (word-Kind _) (type_requirement-Starts (levels requires depth) c n)) (when-Starts _ (more_Starts (word-Kind _) (nested_requirement-Starts (levels requires depth) c n))
    (when-Starts _ (more_Starts brace-Kind (compound_requirement-Starts (levels requires depth) c n)) (more_Starts no_closing-Kind (simple_requirement-Starts requires depth c n))))

module _ (requires : Bool) (depth : ℕ) (c : Context) (n : ℕ) where
  abbrev typed : Production (Numbered RequirementTree)
  typed = type_requirement (levels requires depth) c n

  abbrev nested : Production (Numbered RequirementTree)
  nested = nested_requirement (levels requires depth) c n

  abbrev compound : Production (Numbered RequirementTree)
  compound = compound_requirement (levels requires depth) c n

  abbrev simple : Production (Numbered RequirementTree)
  simple = simple_requirement (levels requires depth) c n

  -- the alternatives behind the first one and behind the second one
  abbrev third : Production (Numbered RequirementTree)
  third = when (punct (codes "{")) compound simple

  abbrev second : Production (Numbered RequirementTree)
  second = when (word (codes "requires")) nested third

  both_none : (ts : List Piece) → begins (word (codes "typename")) ts ≡ false → begins (word (codes "requires")) ts ≡ false → begins begins_no_expr ts ≡ false
  unfolding begins
  both_none [] e d = refl
  both_none (t ∷ ts) e d = ap (λ (x : Bool). x || word (codes "requires") t) e ∙ d

  to : (l : ℕ) (ts behind : List Piece) (y : Numbered RequirementTree) → (requirement (levels requires depth) c n).whole l ts behind y → (printed_requirement (levels requires depth) c n).whole l ts behind y
  unfolding requirement printed_requirement
  to l ts behind y w =
      elim (chosen (word (codes "typename")) typed second l ts behind y w) [
        | inl v ↦ inl (((type_requirement-Printed (levels requires depth) c n).same_trees l ts behind y (never_begins behind)).0 v)
        | inr v ↦ elim (chosen (word (codes "requires")) nested third l ts behind y v.1) [
          | inl u ↦ inr (inl u)
          | inr u ↦ elim (chosen (punct (codes "{")) compound simple l ts behind y u.1) [
            | inl z ↦ inr (inr (inl (((compound_requirement-Printed (levels requires depth) c n).same_trees l ts behind y (never_begins behind)).0 z)))
            | inr z ↦ inr (inr (inr (both_none (ts ++ behind) v.0 u.0, z.1)))
          ]
        ]
      ]

  from : (l : ℕ) (ts behind : List Piece) (y : Numbered RequirementTree) → (printed_requirement (levels requires depth) c n).whole l ts behind y → (requirement (levels requires depth) c n).whole l ts behind y
  unfolding requirement printed_requirement
  from l ts behind y (inl w) =
      let v = ((type_requirement-Printed (levels requires depth) c n).same_trees l ts behind y (never_begins behind)).1 w in
      when_first (word (codes "typename")) typed second l ts behind y ((type_requirement-Starts (levels requires depth) c n).begins_so l ts behind y v) v
  from l ts behind y (inr (inl w)) =
      let e = (nested_requirement-Starts (levels requires depth) c n).begins_so l ts behind y w in
      when_second (word (codes "typename")) typed second l ts behind y (no_other (word (codes "typename")) (word (codes "requires")) (other_word (codes "requires") (codes "typename") refl) (ts ++ behind) e)
      (when_first (word (codes "requires")) nested third l ts behind y e w)
  from l ts behind y (inr (inr (inl w))) =
      let v = ((compound_requirement-Printed (levels requires depth) c n).same_trees l ts behind y (never_begins behind)).1 w in
      let e = (compound_requirement-Starts (levels requires depth) c n).begins_so l ts behind y v in
      when_second (word (codes "typename")) typed second l ts behind y (no_other (word (codes "typename")) (punct (codes "{")) (punct_word (codes "{") (codes "typename")) (ts ++ behind) e)
      (when_second (word (codes "requires")) nested third l ts behind y (no_other (word (codes "requires")) (punct (codes "{")) (punct_word (codes "{") (codes "requires")) (ts ++ behind) e)
      (when_first (punct (codes "{")) compound simple l ts behind y e v))
  from l ts behind y (inr (inr (inr (none, w)))) =
      let e = (simple_requirement-Starts requires depth c n).begins_so l ts behind y w in
      let k = neither (word (codes "typename")) (word (codes "requires")) (ts ++ behind) none in
      when_second (word (codes "typename")) typed second l ts behind y k.0
      (when_second (word (codes "requires")) nested third l ts behind y k.1
      (when_second (punct (codes "{")) compound simple l ts behind y (no_other (punct (codes "{")) no_brace brace_first (ts ++ behind) e) w))

  to_front : (l : ℕ) (ts : List Piece) → (requirement (levels requires depth) c n).front l ts → (printed_requirement (levels requires depth) c n).front l ts
  unfolding requirement printed_requirement
  to_front l ts w =
      elim (chosen_front (word (codes "typename")) typed second l ts w) [
        | inl v ↦ inl (((type_requirement-Printed (levels requires depth) c n).same_beginnings l ts).0 v)
        | inr v ↦ elim (chosen_front (word (codes "requires")) nested third l ts v.1) [
          | inl u ↦ inr (inl u)
          | inr u ↦ elim (chosen_front (punct (codes "{")) compound simple l ts u.1) [
            | inl z ↦ inr (inr (inl (((compound_requirement-Printed (levels requires depth) c n).same_beginnings l ts).0 z)))
            | inr z ↦ inr (inr (inr (both_none ts v.0 u.0, z.1)))
          ]
        ]
      ]

  -- no token is a beginning
  nothing : (l : ℕ) (ts : List Piece) → ts ≡ [] → (requirement (levels requires depth) c n).front l ts
  nothing l ts e = subst (λ (s : List Piece). (requirement (levels requires depth) c n).front l s) (sym e) ((requirement-Grows (levels-Grows depth) c n).low.starts l)

  from_front : (l : ℕ) (ts : List Piece) → (printed_requirement (levels requires depth) c n).front l ts → (requirement (levels requires depth) c n).front l ts
  unfolding requirement printed_requirement
  from_front l ts (inl w) =
      let v = ((type_requirement-Printed (levels requires depth) c n).same_beginnings l ts).1 w in
      elim ((type_requirement-Starts (levels requires depth) c n).begun_so l ts v) [
        | inl e ↦ nothing l ts e
        | inr e ↦ first_front (word (codes "typename")) typed second l ts e v
      ]
  from_front l ts (inr (inl w)) =
      elim ((nested_requirement-Starts (levels requires depth) c n).begun_so l ts w) [
        | inl e ↦ nothing l ts e
        | inr e ↦ second_front (word (codes "typename")) typed second l ts (no_other (word (codes "typename")) (word (codes "requires")) (other_word (codes "requires") (codes "typename") refl) ts e)
            (first_front (word (codes "requires")) nested third l ts e w)
      ]
  from_front l ts (inr (inr (inl w))) =
      let v = ((compound_requirement-Printed (levels requires depth) c n).same_beginnings l ts).1 w in
      elim ((compound_requirement-Starts (levels requires depth) c n).begun_so l ts v) [
        | inl e ↦ nothing l ts e
        | inr e ↦ second_front (word (codes "typename")) typed second l ts (no_other (word (codes "typename")) (punct (codes "{")) (punct_word (codes "{") (codes "typename")) ts e)
            (second_front (word (codes "requires")) nested third l ts (no_other (word (codes "requires")) (punct (codes "{")) (punct_word (codes "{") (codes "requires")) ts e)
            (first_front (punct (codes "{")) compound simple l ts e v))
      ]
  from_front l ts (inr (inr (inr (none, w)))) =
      let k = neither (word (codes "typename")) (word (codes "requires")) ts none in
      elim ((simple_requirement-Starts requires depth c n).begun_so l ts w) [
        | inl e ↦ nothing l ts e
        | inr e ↦ second_front (word (codes "typename")) typed second l ts k.0
            (second_front (word (codes "requires")) nested third l ts k.1
            (second_front (punct (codes "{")) compound simple l ts (no_other (punct (codes "{")) no_brace brace_first ts e) w))
      ]

  pub requirement-Printed : IsAsPrinted (requirement (levels requires depth) c n) never (printed_requirement (levels requires depth) c n)
  requirement-Printed = record {
    same_trees = λ l ts behind y h. (λ w. to l ts behind y w, λ w. from l ts behind y w);
    same_beginnings = λ l ts. (λ k. to_front l ts k, λ k. from_front l ts k);
  }

-- ---- requires-expressions

module _ (requires : Bool) (depth : ℕ) where
  more_requirement-Printed : (c : Context) (x : Numbered (List RequirementTree)) → IsAsPrinted (more_requirement (levels requires depth) c x) never (another_requirement (levels requires depth) c x)
  more_requirement-Printed c x = then-Printed (requirement-Printed requires depth c x.1) (λ r. same-Printed _ never) (λ r. never-Shut _)

  more_requirement-Starts : (c : Context) (x : Numbered (List RequirementTree)) → Starts is_not_closing (more_requirement (levels requires depth) c x)
  more_requirement-Starts c x = first-Starts _ (requirement-Starts requires depth c x.1)

  requirements-Printed : (c : Context) (n : ℕ) → IsAsPrinted (some_requirements (levels requires depth) c n) is_not_closing (printed_requirements (levels requires depth) c n)
  unfolding some_requirements
  requirements-Printed c n = then-Printed (requirement-Printed requires depth c n) (λ first. repeat-Printed is_not_closing never (λ t e. refl) (more_requirement-Starts c) (more_requirement-Printed c) (first.0 ∷ [], first.1)) (λ first. never-Shut _)

module _ (requires : Bool) (depth : ℕ) (c : Context) (n : ℕ) where
  -- parameters, behind which a `)` stands
  abbrev closed_locals : Context → Production (Named (List LocalTree))
  closed_locals c = some_locals (levels requires depth) (inside c) n >>= λ ps. (token (c.load + 1) (punct (codes ")")) >>= λ u. give ps)

  round_locals-Printed : (c : Context) → IsAsPrinted (token (c.load + 1) (punct (codes "(")) >>= λ t. closed_locals c) (punct (codes "(")) (round_locals (levels requires depth) c n)
  round_locals-Printed c = behind-Printed (token (c.load + 1) (punct (codes "("))) (λ t. before-Printed (some_locals-Printed requires depth (inside c) n) (λ ps. token-Starts (c.load + 1) (punct (codes ")")) (λ u. give ps)) (punct (codes "(")))

  maybe_locals-Printed : (c : Context) → IsAsPrinted (maybe_locals (levels requires depth) c n) (punct (codes "(")) (or (round_locals (levels requires depth) c n) (trees_of (give ([], n, c.names))))
  unfolding maybe_locals
  maybe_locals-Printed c = optional-Printed (punct (codes "(")) ([], n, c.names) (token-Starts _ _ _) (round_locals-Printed c)

  -- what stands behind the requirements, and behind the parameters
  abbrev ending : Piece → Named (List LocalTree) → Numbered (List RequirementTree) → Production (Numbered ExprTree)
  ending t ps rs = token (c.load + 1) (punct (codes "}")) >>= λ u. give (RequiresTree (numbered rs.1 t.token.at) (locals ps.0) (requirements rs.0), rs.1 + 1)

  abbrev within : Piece → Named (List LocalTree) → Production (Numbered ExprTree)
  within t ps = some_requirements (levels requires depth) (inside (with_names c ps.2)) ps.1 >>= ending t ps

  within-Printed : (t : Piece) (ps : Named (List LocalTree)) → IsAsPrinted (within t ps) never (chained (printed_requirements (levels requires depth) (inside (with_names c ps.2)) ps.1) (λ rs. trees_of (ending t ps rs)))
  within-Printed t ps = then-Printed (requirements-Printed requires depth (inside (with_names c ps.2)) ps.1) (λ rs. same-Printed (ending t ps rs) never)
      (λ rs. starts-Shut is_not_closing (punct (codes "}")) closing (token-Starts (c.load + 1) (punct (codes "}")) (λ u. give (RequiresTree (numbered rs.1 t.token.at) (locals ps.0) (requirements rs.0), rs.1 + 1))))
    where
      closing : (t : Piece) → punct (codes "}") t ≡ true → is_not_closing t ≡ false
      closing t e = ap not e

  pub requires_expr-Printed : IsAsPrinted (requires_expr (levels requires depth) c n) never (printed_requires_expr (levels requires depth) c n)
  unfolding requires_expr printed_requires_expr
  requires_expr-Printed = behind-Printed (token c.load (word (codes "requires"))) (λ t. then-Printed (maybe_locals-Printed (with_names c (entered c.names)))
      (λ ps. behind-Printed (token (c.load + 1) (punct (codes "{"))) (λ o. within-Printed t ps))
      (λ ps. starts-Shut (punct (codes "(")) (punct (codes "{")) (other_punct (codes "{") (codes "(") refl) (token-Starts (c.load + 1) (punct (codes "{")) (λ o. within t ps))))
