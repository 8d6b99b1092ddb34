-- "Worse" is a strict order of conversions, and "better" is asymmetric.
use Rattle.std.proofs.Common.{◌≡◌, Bool, true, false, not, ◌&&◌, ◌||◌, refl, sym, ◌∙◌, true≢false}
use Rattle.std.specs.Prelude.{Option}
use Rattle.cx_prop.proofs.Tests.{and_right}
use Rattle.cx_term.specs.Same.{same_term}
use Rattle.cx_questions.specs.Better.{some_worse, preferred, compared_function, same_parameters}
use Rattle.cx_questions.specs.ConstraintOrder.{at_least_as_constrained, more_constrained}
use Rattle.cx_questions.specs.Conversions.{worse_rank, binds_more_const}
use Rattle.cx_questions.specs.Environments.{Form, Rank, exact, promotion, conversion}
use Rattle.cx_questions.specs.PartialOrdering.{Compared, function_at_least, list_at_least, corresponds, more_specialised}
use Rattle.cx_questions.specs.Program.{function_of}
use Rattle.cx_questions.specs.Specialisations.{compared_matching}
use Rattle.cx_question_laws.specs.Algorithms.{LawOfRanking, LawOfOrders}

-- ---- ranks

not_to_itself : (x y z : Bool) → (x && x && y && z && not z) ≡ false
not_to_itself false y z = refl
not_to_itself true false z = refl
not_to_itself true true false = refl
not_to_itself true true true = refl

itself : (r : Rank) (x y z : Bool) → (worse_rank r r || (not (worse_rank r r) && (x && x && y && z && not z))) ≡ false
itself exact x y z = not_to_itself x y z
itself promotion x y z = not_to_itself x y z
itself conversion x y z = not_to_itself x y z

ranks_chain : (ra rb rc : Rank) (p q r : Bool) → (p ≡ true → q ≡ true → ⊥) → (worse_rank ra rb || (not (worse_rank rb ra) && p)) ≡ true → (worse_rank rb rc || (not (worse_rank rc rb) && q)) ≡ true → (worse_rank ra rc || (not (worse_rank rc ra) && r)) ≡ true
ranks_chain exact exact exact p q r pq h k = absurd (pq h k)
ranks_chain exact promotion exact p q r pq h k = absurd (true≢false (sym h))
ranks_chain exact conversion exact p q r pq h k = absurd (true≢false (sym h))
ranks_chain exact exact promotion p q r pq h k = absurd (true≢false (sym k))
ranks_chain exact promotion promotion p q r pq h k = absurd (true≢false (sym h))
ranks_chain exact conversion promotion p q r pq h k = absurd (true≢false (sym h))
ranks_chain exact exact conversion p q r pq h k = absurd (true≢false (sym k))
ranks_chain exact promotion conversion p q r pq h k = absurd (true≢false (sym k))
ranks_chain exact conversion conversion p q r pq h k = absurd (true≢false (sym h))
ranks_chain promotion rb exact p q r pq h k = refl
ranks_chain promotion exact promotion p q r pq h k = absurd (true≢false (sym k))
ranks_chain promotion promotion promotion p q r pq h k = absurd (pq h k)
ranks_chain promotion conversion promotion p q r pq h k = absurd (true≢false (sym h))
ranks_chain promotion exact conversion p q r pq h k = absurd (true≢false (sym k))
ranks_chain promotion promotion conversion p q r pq h k = absurd (true≢false (sym k))
ranks_chain promotion conversion conversion p q r pq h k = absurd (true≢false (sym h))
ranks_chain conversion rb exact p q r pq h k = refl
ranks_chain conversion rb promotion p q r pq h k = refl
ranks_chain conversion exact conversion p q r pq h k = absurd (true≢false (sym k))
ranks_chain conversion promotion conversion p q r pq h k = absurd (true≢false (sym k))
ranks_chain conversion conversion conversion p q r pq h k = absurd (pq h k)

-- a second reference cannot be the less const one and the more const one
last_not : (a b c d e : Bool) → (a && b && c && d && not e) ≡ true → e ≡ false
last_not true true true true false h = refl
last_not true true true true true h = sym h
last_not true true true false e h = absurd (true≢false (sym h))
last_not true true false d e h = absurd (true≢false (sym h))
last_not true false c d e h = absurd (true≢false (sym h))
last_not false b c d e h = absurd (true≢false (sym h))

fourth : (a b c d e : Bool) → (a && b && c && d && not e) ≡ true → d ≡ true
fourth true true true true e h = refl
fourth true true true false e h = absurd (true≢false (sym h))
fourth true true false d e h = absurd (true≢false (sym h))
fourth true false c d e h = absurd (true≢false (sym h))
fourth false b c d e h = absurd (true≢false (sym h))

pub law_of_ranking : LawOfRanking
law_of_ranking = record {
  irreflexive = λ a. itself a.rank a.reference (same_term a.to a.to) a.constant;
  transitive = λ a b c.
      ranks_chain a.rank b.rank c.rank (binds_more_const a b) (binds_more_const b c) (binds_more_const a c)
      (λ h k. true≢false (sym (fourth b.reference c.reference (same_term b.to c.to) b.constant c.constant k) ∙ last_not a.reference b.reference (same_term a.to b.to) a.constant b.constant h));
}

-- ---- orders

one_way : (a b : Bool) → (a && not b) ≡ true → (b && not a) ≡ false
one_way true true h = refl
one_way true false h = refl
one_way false b h = absurd (true≢false (sym h))

more_constrained_one_way : (p q : Option Form) → more_constrained p q ≡ true → more_constrained q p ≡ false
more_constrained_one_way p q h = one_way (at_least_as_constrained p q) (at_least_as_constrained q p) h

and_false : (c m : Bool) → m ≡ false → (c && m) ≡ false
and_false true m h = h
and_false false m h = refl

-- by at least as specialised both ways, whether the two correspond, and constraints
by_both : (a b c d m n : Bool) → (m ≡ true → n ≡ false) → ((a && not b) || ((a && b && c) && m)) ≡ true → ((b && not a) || ((b && a && d) && n)) ≡ false
by_both true true c d m n k h = and_false d n (k (and_right c m h))
by_both true false c d m n k h = refl
by_both false true c d m n k h = absurd (true≢false (sym h))
by_both false false c d m n k h = absurd (true≢false (sym h))

module _ (at_least : Compared → Compared → Bool) where
  more_specialised_one_way : (f g : Compared) → more_specialised at_least f g ≡ true → more_specialised at_least g f ≡ false
  more_specialised_one_way f g h =
      by_both (at_least f g) (at_least g f) (corresponds f g) (corresponds g f) (more_constrained f.form g.form) (more_constrained g.form f.form) (more_constrained_one_way f.form g.form) h

-- by which are templates, by the order of templates, and by constraints
by_templates : (s t m n p q c d : Bool) → (m ≡ true → n ≡ false) → (c ≡ true → d ≡ false) → ((not s && t) || ((s && t) && m) || ((not s && not t) && p && c)) ≡ true → ((not t && s) || ((t && s) && n) || ((not t && not s) && q && d)) ≡ false
by_templates true true m n p q c d k l h = by_or n (k (of_or m h))
  where
    of_or : (m : Bool) → (m || false) ≡ true → m ≡ true
    of_or true h = refl
    of_or false h = h

    by_or : (n : Bool) → n ≡ false → (n || false) ≡ false
    by_or true h = h
    by_or false h = refl
by_templates true false m n p q c d k l h = absurd (true≢false (sym h))
by_templates false true m n p q c d k l h = refl
by_templates false false m n p q c d k l h = and_false q d (l (and_right p c h))

by_worse : (v w p q : Bool) → (p ≡ true → q ≡ false) → (not v && (w || p)) ≡ true → (not w && (v || q)) ≡ false
by_worse true w p q k h = absurd (true≢false (sym h))
by_worse false true p q k h = refl
by_worse false false p q k h = k h

pub law_of_orders : LawOfOrders
law_of_orders = record {
  functions = λ u f g h.
      by_worse (some_worse f g) (some_worse g f) (preferred u f g) (preferred u g f)
      (by_templates (function_of u f.declaration).is_template (function_of u g.declaration).is_template
      (more_specialised function_at_least (compared_function u f.declaration f.form) (compared_function u g.declaration g.form))
      (more_specialised function_at_least (compared_function u g.declaration g.form) (compared_function u f.declaration f.form)) (same_parameters u f g) (same_parameters u g f) (more_constrained f.form g.form)
      (more_constrained g.form f.form) (more_specialised_one_way function_at_least (compared_function u f.declaration f.form) (compared_function u g.declaration g.form)) (more_constrained_one_way f.form g.form))
      h;
  specialisations = λ u f g h. more_specialised_one_way list_at_least (compared_matching u f) (compared_matching u g) h;
}
