-- Overload resolution: which function a call takes ([over.match], [over.call]).
use Rattle.std.specs.Prelude.{◌==◌, not, List, [], length, map, filter_map, Option, Some, None, if◌then◌else◌}
use Rattle.cx_base.specs.declared.kind.Kind.TheVariants as kind
use Rattle.cx_base.specs.declared.limit.Limit.TheVariants as limit
use Rattle.cx_base.specs.declared.place.Place.{Place}
use Rattle.cx_questions.specs.Answers.{Answer, given, soft, passed, ◌>>=◌, ◌>>◌, must, present, in_case, if_valid, each}
use Rattle.cx_questions.specs.Forms.{Name, Expression, Expressions, Callee, argument_forms, mark_of, call, functions, functions_with, own_functions, object_functions, no_function}
use Rattle.cx_questions.specs.Program.{Program}
use Rattle.cx_questions.specs.Environments.{Environment, Object, Typed, Form, Pair, Winner, Choice, best_is, none_viable, ambiguous}
use Rattle.cx_questions.specs.Questions.{Questions}
use Rattle.cx_questions.specs.TermTests.{const_if, is_class, without_const}
use Rattle.cx_questions.specs.Operators.{lvalue}
use Rattle.cx_questions.specs.Typing.{type_expression, type_expressions}
use Rattle.cx_questions.specs.Viability.{Candidate, explicit, viable_function, viable_member, functions_visible, templates_visible, functions_of_class}
use Rattle.cx_questions.specs.Better.{better, constraints_tell, beyond_clauses}
use Rattle.cx_questions.specs.Best.{best_of, unbeaten, some_pair}

module _ (u : Program) where
  -- a viable function that the winner beats by its constraints alone
  abbrev pub pair_of : Candidate → Form → Candidate → Option Pair
  pair_of w p g = if constraints_tell u w g then Some (record { loser = g.declaration; winner_form = p; loser_form = g.form }) else None

  abbrev pub pairs_of : Candidate → Option Form → List Candidate → List Pair
  pairs_of w None others = []
  pairs_of w (Some p) others = filter_map (pair_of w p) others

  -- the winner, by the others
  abbrev pub winner : Candidate × List Candidate → Winner
  winner (w, others) = record { declaration = w.declaration; arguments = w.arguments; conversions = w.conversions; pairs = pairs_of w w.form others; parameters = w.parameters; result = w.result; form = w.form }

  -- The function that is better than every other viable one; else, where some are viable, those that none is better than.
  -- Two that constraints cannot tell apart within the limit stop the call.
  abbrev pub chosen : Place → List Candidate → Answer Choice
  chosen at [] = given none_viable
  chosen at fs = do
    must (not (some_pair (beyond_clauses u) fs)) (passed limit.Clauses at)
    in_case (best_of (better u) fs) (λ p. given (best_is (winner p))) (λ _. given (ambiguous (map (λ f. f.declaration) (unbeaten (better u) fs))))

  -- the choice among candidates, each tried in order of declaration; a call without a candidate is invalid
  abbrev pub choice_among : {A : Type 0} → Place → (A → Answer Candidate) → List A → Answer Choice
  choice_among at viable candidates = do
    must (not (length candidates == 0)) (soft kind.InvalidExpr at)
    tried ← each (λ d. if_valid (viable d)) candidates
    chosen at (filter_map (λ f. f) tried)

  module _ (b : Questions) (env : Environment) (at : Place) where
    -- member functions of an object's class, which is asked for after the arguments are typed
    abbrev pub choice_of_members : Name → Typed → List Typed → Answer Choice
    choice_of_members name object args = do
      must (is_class object.of) (soft kind.InvalidExpr at)
      c ← b.class at (without_const object.of)
      choice_among at (viable_member u b env at c object args) (functions_of_class u c name)

    -- the object of a member function, within it
    abbrev pub own_object : Object → Typed
    own_object o = lvalue (const_if o.is_const o.of)

    -- By what is called: explicit types, the object, the arguments are read first, in this order
    abbrev pub resolve_call : Callee → Expressions → Answer Choice
    resolve_call (functions m name visible) xs = do
      args ← type_expressions u b env xs
      choice_among at (viable_function u b env at [] args) (functions_visible u name visible)
    resolve_call (functions_with m name visible ts) xs = do
      given_ones ← each (explicit u b env) (argument_forms ts)
      args ← type_expressions u b env xs
      choice_among at (viable_function u b env at given_ones args) (templates_visible u name visible)
    resolve_call (own_functions m name) xs = do
      args ← type_expressions u b env xs
      o ← present env.object (soft kind.InvalidExpr at)
      choice_of_members name (own_object o) args
    resolve_call (object_functions m e name) xs = do
      o ← type_expression u b env e
      args ← type_expressions u b env xs
      choice_of_members name o args
    resolve_call (no_function e) xs = type_expressions u b env xs >> soft kind.InvalidExpr at

-- the function that a call takes; what is no call takes none
abbrev pub resolve : Program → Questions → Expression → Environment → Answer Choice
resolve u b (call m f xs) env = resolve_call u b env m.at f xs
resolve u b e env = soft kind.InvalidExpr (mark_of e).at
