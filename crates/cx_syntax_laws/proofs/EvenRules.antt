-- Classes that take no half of `>>`, and the lemmas on whole tokens as a list, for searches.
use Rattle.std.proofs.Common.{◌≡◌, Bool, true, false, ◌||◌, ◌&&◌, refl}
use Rattle.cx_tokens.specs.declared.word.Word.{Word}
use Rattle.cx_tokens.specs.declared.punctuator.Punctuator.{Punctuator}
use Rattle.cx_names.specs.declared.name_kind.NameKind.{NameKind}
use Rattle.cx_syntax.specs.declared.context.OpenLists.{OpenLists}
use Rattle.cx_syntax.specs.Productions.{Class}
use Rattle.cx_syntax.specs.Classes.{word, punct, any_name, name_of, literal, string, end, nothing, ◌or◌, where_holds}
use Rattle.cx_syntax.specs.Precedence.{prefix_operator, postfix_operator, assignment_operator, unary_of, postfix_of, assignment_of}
use Rattle.cx_syntax_laws.proofs.Even.{Whole_only, even_bracketed, even_angles, even_give, even_step, even_token, even_counted, even_bind, even_given, even_when, even_repeat}

pub whole_word : (w : Word) → Whole_only (word w)
unfolding word
whole_word w = record { no_first = λ names text at. refl; no_second = λ names text at. refl }

pub whole_punct : (p : Punctuator) → Whole_only (punct p)
unfolding punct
whole_punct p = record { no_first = λ names text at. refl; no_second = λ names text at. refl }

pub whole_any_name : Whole_only any_name
unfolding any_name
whole_any_name = record { no_first = λ names text at. refl; no_second = λ names text at. refl }

pub whole_name_of : (k : NameKind) → Whole_only (name_of k)
unfolding name_of
whole_name_of k = record { no_first = λ names text at. refl; no_second = λ names text at. refl }

pub whole_literal : Whole_only literal
unfolding literal
whole_literal = record { no_first = λ names text at. refl; no_second = λ names text at. refl }

pub whole_string : Whole_only string
unfolding string
whole_string = record { no_first = λ names text at. refl; no_second = λ names text at. refl }

pub whole_end : Whole_only end
unfolding end
whole_end = record { no_first = λ names text at. refl; no_second = λ names text at. refl }

pub whole_nothing : Whole_only nothing
unfolding nothing
whole_nothing = record { no_first = λ names text at. refl; no_second = λ names text at. refl }

pub whole_prefix : Whole_only prefix_operator
unfolding prefix_operator unary_of
whole_prefix = record { no_first = λ names text at. refl; no_second = λ names text at. refl }

pub whole_postfix : Whole_only postfix_operator
unfolding postfix_operator postfix_of
whole_postfix = record { no_first = λ names text at. refl; no_second = λ names text at. refl }

right_false : (a : Bool) → (a && false) ≡ false
right_false true = refl
right_false false = refl

pub whole_assignment : (o : OpenLists) → Whole_only (assignment_operator o)
unfolding assignment_operator assignment_of
whole_assignment o = record { no_first = λ names text at. right_false _; no_second = λ names text at. right_false _ }

either_false : (a b : Bool) → a ≡ false → b ≡ false → (a || b) ≡ false
either_false true b e f = e
either_false false b e f = f

pub whole_either : (p q : Class) → Whole_only p → Whole_only q → Whole_only (p or q)
whole_either p q hp hq = record {
  no_first = λ names text at. either_false _ _ (hp.no_first names text at) (hq.no_first names text at);
  no_second = λ names text at. either_false _ _ (hp.no_second names text at) (hq.no_second names text at);
}

pub whole_where : (is : Bool) (q : Class) → Whole_only q → Whole_only (where_holds is q)
whole_where true q h = h
whole_where false q h = record { no_first = λ names text at. refl; no_second = λ names text at. refl }

pub ruleset evenness = (even_bracketed, even_angles, even_give, even_step, even_token, even_counted, even_bind, even_given, even_when, even_repeat, whole_word, whole_punct, whole_any_name, whole_name_of, whole_literal, whole_string, whole_end, whole_nothing, whole_prefix, whole_postfix, whole_assignment)
