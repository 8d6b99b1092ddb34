-- Statements that are a variable or an expression are as they are printed.
use Rattle.std.proofs.Common.{◌≡◌, inl, ℕ, zero, suc, ◌+◌, Bool, true, false, ◌||◌, ◌&&◌, List, [], ◌∷◌, ◌++◌, codes, Option, None, Some, refl, sym, ap, ◌∙◌, subst, true≢false}
use Rattle.cx_scope.specs.declared.name_kind.NameKind.{NameKind}
use Rattle.cx_scope.specs.declared.name_kind.NameKind.TheVariants.{Value, TypeName, ClassTemplate, Function, FunctionTemplate, Concept}
use Rattle.cx_scope.specs.Frames.{kind_in}
use Rattle.cx_tree.specs.Trees.{Mark, ExprTree, TemplateTree, TypeTree, CoreTree, ArgumentTree, TypeArgument, ValueArgument, arguments, ConstraintTree}
use Rattle.cx_tree.specs.Statements.{StmtTree, ExprStmt}
use Rattle.cx_grammar.specs.Pieces.{Piece}
use Rattle.cx_grammar.specs.Production.{Production, give, ◌>>=◌, token, when, begins}
use Rattle.cx_grammar.specs.Words.{word, punct, any_name, literal_token}
use Rattle.cx_grammar.specs.Names.{Context, deeper, is_kind, same_kind, kind_name, concept_name, template_name}
use Rattle.cx_grammar.specs.Types.{Numbered, Placed, Calling, MayCall, Below, numbered, type_behind, scalar_behind, placed_scalar, one_word, argument_list, some_arguments, more_argument, Named}
use Rattle.cx_grammar.specs.Expressions.{levels, place_of, goes_on, head_name, core_word, is_prefix, is_step, is_operator, is_assignment, operator_of, operator, named, primary, simple_primary, member, step, call, tail_behind, tail, binary_chain, binary_rest, rests, conditional, assignment, expr_behind}
use Rattle.cx_grammar.specs.Requires.{constraint}
use Rattle.cx_grammar.specs.Statements.{with_arguments, concept_expr, variable_behind, auto_behind, variable_of, variable_of_auto, expr_stmt_of, core_stmt, head_stmt, word_stmt, typed_variable, constrained_auto, plain_auto, const_variable, variable, concept_stmt, expr_stmt, open_stmt}
use Rattle.cx_grammar.specs.Printed.{IsAsPrinted, trees_of, or}
use Rattle.cx_grammar.proofs.Lawful.{Lawful}
use Rattle.cx_grammar.proofs.Combinators.{then-Lawful}
use Rattle.cx_grammar.proofs.Alone.{Filled, token-Filled, second-Filled}
use Rattle.cx_grammar.proofs.AloneTypes.{BelowAlone, type_behind-Alone, scalar_behind-Alone}
use Rattle.cx_grammar.proofs.AloneExpressions.{levels-Alone, tail-Alone, operator-Filled}
use Rattle.cx_grammar.proofs.UnitFilled.{variable_of-Filled, expr_stmt_of-Filled}
use Rattle.cx_grammar.proofs.UnitAlone.{variable_of-Alone, variable-Alone, expr_stmt-Alone, expr_stmt_of-Alone}
use Rattle.cx_grammar.proofs.Printed.{Starts, token-Starts, first-Starts}
use Rattle.cx_grammar_laws.specs.Printed.{nothing, printed_open_stmt}
use Rattle.cx_grammar_laws.proofs.Cases.{Where, Any, First, Alike, alike, turned, ◌then◌, first-Alike, second-Alike, known-Alike, regrouped, given-Alike, take-Alike, skip-Alike, when-Alike, shared, narrower, one_value, repeat_keeps, Never, never_begins, Avoids, give-Avoids, token-Avoids, then-Avoids, filled-Avoids, when-Avoids, begins_neither, chosen-Starts, PrintedWhere, printed_alike, everywhere, by_first, Idle, starts-Idle, or-Idle, only_first, only_second, exchanged, alternatives, filled-Apart, told_apart, itself, or_same, both_same, or_grouped, flagged_same, printed_same}
use Rattle.cx_grammar_laws.proofs.Tokens.{right_true, flipped, kind_any, word_Never, name_Never, punct_Never, either_Never, neither_Never, head_any, core_word_Never, one_word_Never}
use Rattle.cx_grammar_laws.proofs.Firsts.{head_const, core_word_const, one_word_const, long_const, primary_first, head_expr, core_expr, word_expr, expr_first, expr-Starts, const_no_expr, long_no_expr, type_first, type-Starts, no_type, type_behind-Avoids, scalar_behind-Avoids, behind_core-Starts, behind_head-Starts, bare, word_type, const_goes_on, reference_goes_on, const_brace, reference_brace, int_brace, long_brace}

-- ---- kinds of first tokens

-- a name is of one kind
same_kind_is : (a b : NameKind) → same_kind a b ≡ true → a ≡ b
same_kind_is Value Value e = refl
same_kind_is TypeName TypeName e = refl
same_kind_is ClassTemplate ClassTemplate e = refl
same_kind_is Function Function e = refl
same_kind_is FunctionTemplate FunctionTemplate e = refl
same_kind_is Concept Concept e = refl
same_kind_is a b e = absurd (true≢false (sym e))

kinds_apart : (a d : NameKind) → same_kind d a ≡ false → (o : Option NameKind) → is_kind a o ≡ true → is_kind d o ≡ false
kinds_apart a d n None e = ap (λ (z : NameKind). same_kind d z) (sym (same_kind_is a Value e)) ∙ n
kinds_apart a d n (Some k) e = ap (λ (z : NameKind). same_kind d z) (sym (same_kind_is a k e)) ∙ n

nand : (a b : Bool) → b ≡ false → (a && b) ≡ false
nand true b e = e
nand false b e = refl

pub kind_Never : (a d : NameKind) (c : Context) → same_kind d a ≡ false → Never (kind_name a c) (kind_name d c)
unfolding kind_name
kind_Never a d c n t e = nand (any_name t) _ (kinds_apart a d n (kind_in c.names t.token.text) (right_true _ _ e))

head_concept : (c : Context) → Never (head_name c) (concept_name c)
head_concept c = either_Never {r = kind_name TypeName c} {s = kind_name ClassTemplate c} {q = concept_name c} (kind_Never TypeName Concept c refl) (kind_Never ClassTemplate Concept c refl)

concept_head : (c : Context) → Never (concept_name c) (head_name c)
concept_head c = neither_Never {r = concept_name c} {q = kind_name TypeName c} {s = kind_name ClassTemplate c} (kind_Never Concept TypeName c refl) (kind_Never Concept ClassTemplate c refl)

concept_template : (c : Context) → Never (concept_name c) (template_name c)
concept_template c = kind_Never Concept FunctionTemplate c refl

pub concept_any : (c : Context) (q : Piece → Bool) → Never any_name q → Never (concept_name c) q
concept_any c q h t e = h t (kind_any Concept c t e)

pub name_word : (text : List ℕ) → Never any_name (word text)
unfolding word
name_word text = name_Never (word text) (λ t. refl)

name_core_word : Never any_name core_word
unfolding word
name_core_word = name_Never core_word (λ t. refl)

pub name_one_word : Never any_name one_word
unfolding word one_word
name_one_word = name_Never one_word (λ t. refl)

name_literal : Never any_name literal_token
unfolding literal_token
name_literal = name_Never literal_token (λ t. refl)

name_prefix : Never any_name is_prefix
unfolding is_prefix punct
name_prefix = name_Never is_prefix (λ t. refl)

name_goes_on : Never any_name goes_on
unfolding punct
name_goes_on = name_Never goes_on (λ t. refl)

name_brace : Never any_name (punct (codes "{"))
unfolding punct
name_brace = name_Never (punct (codes "{")) (λ t. refl)

core_word_concept : (c : Context) → Never core_word (concept_name c)
unfolding kind_name any_name
core_word_concept c = core_word_Never (concept_name c) (λ t. (refl, refl, refl))

core_word_auto : Never core_word (word (codes "auto"))
unfolding word
core_word_auto = core_word_Never (word (codes "auto")) (λ t. (refl, refl, refl))

one_word_concept : (c : Context) → Never one_word (concept_name c)
unfolding kind_name any_name
one_word_concept c = one_word_Never (concept_name c) (λ t. (refl, refl, refl, refl))

one_word_auto : Never one_word (word (codes "auto"))
unfolding word
one_word_auto = one_word_Never (word (codes "auto")) (λ t. (refl, refl, refl, refl))

long_concept : (c : Context) → Never (word (codes "long")) (concept_name c)
unfolding kind_name any_name
long_concept c = word_Never (codes "long") (concept_name c) (λ t. refl)

long_auto : Never (word (codes "long")) (word (codes "auto"))
unfolding word
long_auto = word_Never (codes "long") (word (codes "auto")) (λ t. refl)

auto_const : Never (word (codes "auto")) (word (codes "const"))
unfolding word
auto_const = word_Never (codes "auto") (word (codes "const")) (λ t. refl)

pub auto_concept : (c : Context) → Never (word (codes "auto")) (concept_name c)
unfolding kind_name any_name
auto_concept c = word_Never (codes "auto") (concept_name c) (λ t. refl)

auto_no_expr : (c : Context) → Never (word (codes "auto")) (expr_first c)
unfolding word punct is_prefix kind_name any_name literal_token one_word
auto_no_expr c = word_Never (codes "auto") (expr_first c) (λ t. refl)

constexpr_no_expr : (c : Context) → Never (word (codes "constexpr")) (expr_first c)
unfolding word punct is_prefix kind_name any_name literal_token one_word
constexpr_no_expr c = word_Never (codes "constexpr") (expr_first c) (λ t. refl)

-- what begins a variable
abbrev variable_first : Context → Piece → Bool
variable_first c t = word (codes "const") t || (concept_name c t || (word (codes "auto") t || type_first c t))

constexpr_no_variable : (c : Context) → Never (word (codes "constexpr")) (variable_first c)
unfolding word kind_name any_name one_word
constexpr_no_variable c = word_Never (codes "constexpr") (variable_first c) (λ t. refl)

-- ---- what no `auto` begins

auto_punct : (text : List ℕ) → Never (punct text) (word (codes "auto"))
unfolding word
auto_punct text = punct_Never text (word (codes "auto")) (λ t. refl)

auto_step : Never is_step (word (codes "auto"))
auto_step = either_Never {r = punct (codes "++")} {s = punct (codes "--")} {q = word (codes "auto")} (auto_punct (codes "++")) (auto_punct (codes "--"))

auto_operator : (level angle : ℕ) → Never (is_operator level angle) (word (codes "auto"))
unfolding is_operator operator_of
auto_operator level angle = flipped {r = word (codes "auto")} {q = is_operator level angle} (word_Never (codes "auto") (is_operator level angle) (λ t. refl))

no_punct : (a b : Bool) → (a && false && b) ≡ false
no_punct true b = refl
no_punct false b = refl

auto_assignment : (angle : ℕ) → Never (is_assignment angle) (word (codes "auto"))
unfolding is_assignment
auto_assignment angle = flipped {r = word (codes "auto")} {q = is_assignment angle} (word_Never (codes "auto") (is_assignment angle) (λ t. no_punct _ _))

module _ (b : Below) (c : Context) where
  abbrev auto' : Piece → Bool
  auto' = word (codes "auto")

  token_first : {A : Type 0} (load : ℕ) (r : Piece → Bool) (f : Piece → Production A) → Never r auto' → Avoids auto' (token load r >>= f)
  token_first load r f h = filled-Avoids auto' f (token-Filled load r) (token-Avoids auto' load r h)

  tail_behind-Avoids : (e : Numbered ExprTree) → Avoids auto' (tail_behind b c e)
  unfolding tail_behind member step
  tail_behind-Avoids e =
      when-Avoids auto' (punct (codes ".")) (token_first c.load (punct (codes ".")) _ (auto_punct (codes ".")))
      (when-Avoids auto' is_step (token_first c.load is_step _ auto_step) (give-Avoids auto' e))

  tail-Avoids : (e : Numbered ExprTree) → Avoids auto' (tail b MayCall c e)
  unfolding tail call
  tail-Avoids e = when-Avoids auto' (punct (codes "(")) (token_first (c.load + 1) (punct (codes "(")) _ (auto_punct (codes "("))) (tail_behind-Avoids e)

  operator-Avoids : (level : ℕ) → Avoids auto' (operator level c)
  unfolding operator
  operator-Avoids level = token_first c.load (is_operator level c.angle) _ (auto_operator level c.angle)

  binary_rest-Avoids : (level : ℕ) (e : Numbered ExprTree) → Avoids auto' (binary_rest b level c e)
  unfolding binary_rest binary_chain
  binary_rest-Avoids level e = when-Avoids auto' (is_operator level c.angle) (filled-Avoids auto' _ (operator-Filled level c) (operator-Avoids level)) (give-Avoids auto' e)

  rests-Avoids : (level : ℕ) (e : Numbered ExprTree) → Avoids auto' (rests b level c e)
  unfolding rests
  rests-Avoids zero e = give-Avoids auto' e
  rests-Avoids (suc level) e = then-Avoids auto' (rests-Avoids level e) (λ left. binary_rest-Avoids level left)

  expr_behind-Avoids : (e : Numbered ExprTree) → Avoids auto' (expr_behind b c e)
  unfolding expr_behind conditional assignment
  expr_behind-Avoids e =
      then-Avoids auto' (rests-Avoids 10 e) (λ left.
      when-Avoids auto' (punct (codes "?")) (token_first c.load (punct (codes "?")) _ (auto_punct (codes "?")))
      (when-Avoids auto' (is_assignment c.angle) (token_first c.load (is_assignment c.angle) _ (auto_assignment c.angle)) (give-Avoids auto' left)))

  expr_stmt_of-Avoids : (e : Numbered ExprTree) → Avoids auto' (expr_stmt_of b c e)
  unfolding expr_stmt_of
  expr_stmt_of-Avoids e = then-Avoids auto' (expr_behind-Avoids e) (λ e'. token_first c.load (punct (codes ";")) _ (auto_punct (codes ";")))

-- ---- the name of a concept, with its arguments or none, is an expression

-- arguments are not none
abbrev Listed : Numbered (List ArgumentTree) → Type 0
Listed args = (m : Mark) (name : List ℕ) → with_arguments m name (arguments args.0) ≡ TemplateTree m name (arguments args.0)

one_more : (as' : List ArgumentTree) (a : ArgumentTree) (m : Mark) (name : List ℕ) → with_arguments m name (arguments (as' ++ a ∷ [])) ≡ TemplateTree m name (arguments (as' ++ a ∷ []))
one_more [] (TypeArgument t) m name = refl
one_more [] (ValueArgument e) m name = refl
one_more (TypeArgument t ∷ as') a m name = refl
one_more (ValueArgument e ∷ as') a m name = refl

module _ (b : Below) (c : Context) where
  more_listed : (x y : Numbered (List ArgumentTree)) (l : ℕ) (ts behind : List Piece) → (more_argument b c x).whole l ts behind y → Listed y
  unfolding more_argument
  more_listed x y l ts behind (comma, us, vs, e, w, (a, us', vs', e', w', (d, same))) = subst Listed (sym same) (λ m name. one_more x.0 a.0 m name)

  some_listed : (n l : ℕ) (ts behind : List Piece) (y : Numbered (List ArgumentTree)) → (some_arguments b c n).whole l ts behind y → Listed y
  unfolding some_arguments
  some_listed n l ts behind y (first, us, vs, e, w, v) = repeat_keeps (punct (codes ",")) (more_argument b c) Listed more_listed (first.0 ∷ [], first.1) (λ m name. one_more [] first.0 m name) l vs behind y v

args_listed : (b : Below) (c : Context) (n l : ℕ) (ts behind : List Piece) (y : Numbered (List ArgumentTree)) → (argument_list b c n).whole l ts behind y → Listed y
unfolding argument_list
args_listed b c n l ts behind y (less, us, vs, e, w, (all, us', vs', e', w', (greater, us2, vs2, e2, w2, (d, same)))) = subst Listed (sym same) (some_listed b _ n l us' _ all w')

module _ (b : Below) (c : Context) (n : ℕ) where
  -- a constraint as an expression
  abbrev as_expr : Numbered ConstraintTree → Numbered ExprTree × Calling
  as_expr k = ((concept_expr k.0, k.1), MayCall)

  constraint_named : Alike (First (concept_name c)) (named MayCall b c n) (constraint b c n >>= (λ k. give (as_expr k)))
  unfolding named constraint
  constraint_named =
      turned
      (regrouped (First (concept_name c)) (token c.load (concept_name c)) _ (λ k. give (as_expr k))
      then second-Alike (First (concept_name c)) (token c.load (concept_name c)) (λ t.
      shared Any (punct (codes "<")) _ _ (λ k. give (as_expr k))
      then when-Alike (punct (codes "<"))
      (regrouped Any (argument_list b c n) _ (λ k. give (as_expr k))
      then known-Alike Any (argument_list b c n) Listed (args_listed b c n) (λ args listed.
      given-Alike Any _ (λ k. give (as_expr k)) (λ l. refl)
      then one_value Any _ _ (ap (λ (z : ExprTree). ((z, args.1 + 1), MayCall)) (listed (numbered args.1 t.token.at) t.token.text))))
      (given-Alike Any _ (λ k. give (as_expr k)) (λ l. refl)))
      then turned (first-Alike (narrower c.load (concept_name c) any_name (λ t e. kind_any Concept c t e)) _))

  concept_primary : Alike (First (concept_name c)) (primary b c n) (constraint b c n >>= (λ k. give (as_expr k)))
  unfolding primary simple_primary
  concept_primary =
      skip-Alike (head_name c) _ _ (never_begins (concept_head c))
      then skip-Alike core_word _ _ (never_begins (concept_any c core_word name_core_word))
      then skip-Alike one_word _ _ (never_begins (concept_any c one_word name_one_word))
      then skip-Alike (word (codes "static_cast")) _ _ (never_begins (concept_any c (word (codes "static_cast")) (name_word (codes "static_cast"))))
      then skip-Alike literal_token _ _ (never_begins (concept_any c literal_token name_literal))
      then skip-Alike (template_name c) _ _ (never_begins (concept_template c))
      then take-Alike (concept_name c) _ _ (λ ts e. e)
      then constraint_named

-- ---- statements

pub auto_behind-Starts : (c : Context) (at : Option Rattle.cx_base.specs.declared.place.Place.Place) (before : Bool) (k : Option ConstraintTree) (n : ℕ) → Starts (word (codes "auto")) (auto_behind c at before k n)
unfolding auto_behind
auto_behind-Starts c at before k n = token-Starts _ _ _

module _ (requires : Bool) (depth : ℕ) (c : Context) (n : ℕ) where
  abbrev b : Below
  b = levels requires (suc depth)

  alone : BelowAlone requires b
  alone = levels-Alone (suc depth)

  abbrev core-Production : Production (Numbered (Placed CoreTree))
  core-Production = b.core (deeper c) n

  abbrev D : Production (Named StmtTree)
  D = token c.load (word (codes "constexpr")) >>= (λ t. variable b c true n)

  abbrev V : Production (Named StmtTree)
  V = variable b c false n

  abbrev X : Production (Named StmtTree)
  X = expr_stmt b c n

  abbrev IsPrinted : Where → Production (Named StmtTree) → Type 0
  IsPrinted W p = PrintedWhere W nothing p (or (trees_of V) (trees_of X))

  V-starts : (l : ℕ) → V.front l []
  V-starts l = (variable-Alone alone c false n).lawful.starts l

  X-starts : (l : ℕ) → X.front l []
  X-starts l = (expr_stmt-Alone alone c n).lawful.starts l

  X-Starts : Starts (expr_first c) X
  unfolding expr_stmt
  X-Starts = first-Starts _ (expr-Starts b c n)

  V-Starts : Starts (variable_first c) V
  unfolding variable typed_variable
  V-Starts =
      chosen-Starts (word (codes "const")) _ _ (chosen-Starts (concept_name c) _ _ (chosen-Starts (word (codes "auto")) _ _ (first-Starts (variable_of b c false) (type-Starts requires (suc depth) c n))))

  no_expr : {W : Where} → ((ts : List Piece) → W ts → begins (expr_first c) ts ≡ false) → Idle W (trees_of X) (trees_of V)
  no_expr h = starts-Idle (expr_first c) X-Starts h V-starts

  -- an expression up to its `;`
  abbrev semicolon : Numbered ExprTree → Production (Named StmtTree)
  semicolon e = token c.load (punct (codes ";")) >>= (λ t. give (ExprStmt (numbered e.1 (place_of e.0)) e.0, e.1 + 1, c.names))

  abbrev behind_type : Numbered (Placed CoreTree) → Production (Named StmtTree)
  behind_type k = type_behind c k.0.0 false (k.0.1, k.1) >>= (λ t. variable_of b c false t)

  behind_type-Lawful : (k : Numbered (Placed CoreTree)) → Lawful requires (behind_type k)
  behind_type-Lawful k = then-Lawful (type_behind-Alone c k.0.0 false (k.0.1, k.1)).lawful (λ t. (variable_of-Alone alone c false t).lawful)

  behind_type-Filled : (k : Numbered (Placed CoreTree)) → Filled (behind_type k)
  behind_type-Filled k = second-Filled (type_behind c k.0.0 false (k.0.1, k.1)) (λ t. variable_of-Filled alone c false t)

  module _ (q : Piece → Bool) (no_name : Never any_name q) (no_const : Never (word (codes "const")) q) (no_reference : Never (punct (codes "&")) q) where
    variable_of-Avoids : (t : Numbered TypeTree) → Avoids q (variable_of b c false t)
    unfolding variable_of variable_behind
    variable_of-Avoids t = then-Avoids q (filled-Avoids q _ (token-Filled c.load any_name) (token-Avoids q c.load any_name no_name)) (λ v. give-Avoids q _)

    behind_type-Avoids : (k : Numbered (Placed CoreTree)) → Avoids q (behind_type k)
    behind_type-Avoids k = then-Avoids q (type_behind-Avoids q no_const no_reference c k.0.0 false (k.0.1, k.1)) (λ t. variable_of-Avoids t)

  -- the variable where its type begins neither with `const` nor `auto`
  typed : {W : Where} → ((ts : List Piece) → W ts → begins (word (codes "const")) ts ≡ false) → ((ts : List Piece) → W ts → begins (concept_name c) ts ≡ false) → ((ts : List Piece) → W ts → begins (word (codes "auto")) ts ≡ false)
      → Alike W V (core-Production >>= behind_type)
  unfolding variable typed_variable
  typed no_const no_concept no_auto =
      skip-Alike (word (codes "const")) _ _ no_const
      then skip-Alike (concept_name c) _ _ no_concept
      then skip-Alike (word (codes "auto")) _ _ no_auto
      then bare b c n (λ t. variable_of b c false t) no_const

  -- the variable that begins neither with `const` nor with a concept, and the one that does not begin with `const`
  abbrev not_constrained : Production (Named StmtTree)
  not_constrained = when (word (codes "auto")) (plain_auto b c None false false n) (typed_variable b c false n)

  abbrev not_const : Production (Named StmtTree)
  not_const = when (concept_name c) (constrained_auto b c None false false n) not_constrained

  const_case : IsPrinted (First (word (codes "const"))) (const_variable b c false n)
  unfolding variable
  const_case = only_first (printed_alike nothing (turned (take-Alike (word (codes "const")) (const_variable b c false n) not_const (λ ts e. e)))) (no_expr (never_begins (const_no_expr c)))

  auto_case : IsPrinted (First (word (codes "auto"))) (plain_auto b c None false false n)
  unfolding variable
  auto_case =
      only_first
      (printed_alike nothing
      (turned
      (skip-Alike (word (codes "const")) (const_variable b c false n) not_const (never_begins auto_const)
      then skip-Alike (concept_name c) (constrained_auto b c None false false n) not_constrained (never_begins (auto_concept c))
      then take-Alike (word (codes "auto")) (plain_auto b c None false false n) (typed_variable b c false n) (λ ts e. e))))
      (no_expr (never_begins (auto_no_expr c)))

  abbrev behind_concept : Numbered ConstraintTree → Production (Named StmtTree)
  behind_concept k = auto_behind c (Some k.0.mark.at) false (Some k.0) k.1 >>= (λ a. variable_of_auto b c false a)

  abbrev concept_expr_stmt : Numbered ConstraintTree → Production (Named StmtTree)
  concept_expr_stmt k = tail b MayCall c (concept_expr k.0, k.1) >>= (λ e. expr_stmt_of b c e)

  concept_variable : Alike (First (concept_name c)) V (constraint b c n >>= behind_concept)
  unfolding variable constrained_auto
  concept_variable = skip-Alike (word (codes "const")) _ _ (never_begins (concept_any c (word (codes "const")) (name_word (codes "const")))) then take-Alike (concept_name c) _ _ (λ ts e. e)

  concept_expression : Alike (First (concept_name c)) X (constraint b c n >>= concept_expr_stmt)
  unfolding expr_stmt expr_stmt_of
  concept_expression = primary_first alone c n semicolon (constraint b c n) (as_expr b c n) (never_begins (concept_any c is_prefix name_prefix)) (concept_primary b c n)

  concept_case : IsPrinted (First (concept_name c)) (concept_stmt b c n)
  unfolding concept_stmt
  concept_case =
      alternatives concept_variable concept_expression
      (exchanged
      (told_apart (First (concept_name c)) nothing (word (codes "auto")) (constraint b c n) {first = behind_concept} {second = concept_expr_stmt}
      (λ k. first-Starts (λ a. variable_of_auto b c false a) (auto_behind-Starts c (Some k.0.mark.at) false (Some k.0) k.1))
      (λ k. filled-Apart (second-Filled (tail b MayCall c (concept_expr k.0, k.1)) (λ e. expr_stmt_of-Filled alone c e)) (then-Avoids (word (codes "auto")) (tail-Avoids b c (concept_expr k.0, k.1)) (λ e. expr_stmt_of-Avoids b c e)))
      (λ k l. (then-Lawful (tail-Alone alone MayCall c (concept_expr k.0, k.1)).lawful (λ e. (expr_stmt_of-Alone alone c e).lawful)).starts l)))

  head_case : IsPrinted (First (head_name c)) (core-Production >>= head_stmt b c)
  unfolding head_stmt expr_stmt expr_stmt_of
  head_case =
      alternatives (typed (never_begins (head_const c)) (never_begins (head_concept c)) (never_begins (head_any c (word (codes "auto")) (name_word (codes "auto"))))) (head_expr alone c n semicolon)
      (told_apart (First (head_name c)) nothing goes_on core-Production (λ k. first-Starts _ (behind_head-Starts b c k))
      (λ k. filled-Apart (behind_type-Filled k) (behind_type-Avoids goes_on name_goes_on const_goes_on reference_goes_on k)) (λ k l. (behind_type-Lawful k).starts l))

  core_case : IsPrinted (First core_word) (core-Production >>= core_stmt b c)
  unfolding core_stmt expr_stmt expr_stmt_of
  core_case =
      alternatives (typed (never_begins core_word_const) (never_begins (core_word_concept c)) (never_begins core_word_auto)) (core_expr alone c n semicolon)
      (told_apart (First core_word) nothing (punct (codes "{")) core-Production (λ k. first-Starts _ (behind_core-Starts b c k))
      (λ k. filled-Apart (behind_type-Filled k) (behind_type-Avoids (punct (codes "{")) name_brace const_brace reference_brace k)) (λ k l. (behind_type-Lawful k).starts l))

  abbrev scalar_type : Piece → Production (Named StmtTree)
  scalar_type t = scalar_behind (deeper c) t >>= (λ s. behind_type (placed_scalar t s, n))

  word_variable : Alike (First one_word) V (token (c.load + 1) one_word >>= scalar_type)
  unfolding levels
  word_variable =
      typed (never_begins one_word_const) (never_begins (one_word_concept c)) (never_begins one_word_auto)
      then word_type (levels requires depth) (deeper c) n behind_type (λ k l. (behind_type-Lawful k).starts l)

  word_case : IsPrinted (First one_word) (word_stmt b c n)
  unfolding word_stmt expr_stmt expr_stmt_of
  word_case =
      alternatives word_variable (word_expr alone c n semicolon)
      (told_apart (First one_word) nothing (punct (codes "{")) (token (c.load + 1) one_word) (λ t. first-Starts _ (behind_core-Starts b c _))
      (λ t.
      filled-Apart (second-Filled (scalar_behind (deeper c) t) (λ s. behind_type-Filled (placed_scalar t s, n)))
      (then-Avoids (punct (codes "{")) (scalar_behind-Avoids (punct (codes "{")) int_brace long_brace (deeper c) t) (λ s. behind_type-Avoids (punct (codes "{")) name_brace const_brace reference_brace (placed_scalar t s, n))))
      (λ t l. (then-Lawful (scalar_behind-Alone (deeper c) t).lawful (λ s. behind_type-Lawful (placed_scalar t s, n))).starts l))

  long_case : IsPrinted (First (word (codes "long"))) (typed_variable b c false n)
  unfolding typed_variable
  long_case =
      only_first
      (printed_alike nothing
      (bare b c n (λ t. variable_of b c false t) (never_begins long_const)
      then turned (typed (never_begins long_const) (never_begins (long_concept c)) (never_begins long_auto))))
      (no_expr (never_begins (long_no_expr c)))

  abbrev Unlike : Where → (Piece → Bool) → Where
  Unlike W q ts = W ts × (begins q ts ≡ false)

  abbrev Other : Where
  Other =
      Unlike
      (Unlike
      (Unlike (Unlike (Unlike (Unlike (Unlike (Unlike Any (word (codes "constexpr"))) (word (codes "const"))) (word (codes "auto"))) (concept_name c)) (head_name c)) core_word)
      one_word)
      (word (codes "long"))

  no_variable : (ts : List Piece) → Other ts → begins (variable_first c) ts ≡ false
  no_variable ts h =
      begins_neither (word (codes "const")) (λ t. concept_name c t || (word (codes "auto") t || type_first c t)) ts h.0.0.0.0.0.0.1
      (begins_neither (concept_name c) (λ t. word (codes "auto") t || type_first c t) ts h.0.0.0.0.1
      (begins_neither (word (codes "auto")) (type_first c) ts h.0.0.0.0.0.1 (no_type c ts h.0.0.0.0.0.0.1 h.0.0.0.1 h.0.0.1 h.0.1 h.1)))

  other_case : IsPrinted Other X
  other_case = only_second (printed_alike nothing (alike Other X)) (starts-Idle (variable_first c) V-Starts no_variable X-starts)

  constexpr_case : PrintedWhere (First (word (codes "constexpr"))) nothing D (or (trees_of D) (or (trees_of V) (trees_of X)))
  constexpr_case =
      only_first (printed_alike nothing (alike (First (word (codes "constexpr"))) D))
      (or-Idle (starts-Idle (variable_first c) V-Starts (never_begins (constexpr_no_variable c)) (λ l. inl (inl refl))) (starts-Idle (expr_first c) X-Starts (never_begins (constexpr_no_expr c)) (λ l. inl (inl refl))))

  stmt_where : PrintedWhere Any nothing (open_stmt b c n) (or (trees_of D) (or (trees_of V) (trees_of X)))
  unfolding open_stmt
  stmt_where =
      by_first (word (codes "constexpr")) constexpr_case
      (only_second
      (by_first (word (codes "const")) const_case
      (by_first (word (codes "auto")) auto_case
      (by_first (concept_name c) concept_case
      (by_first (head_name c) head_case (by_first core_word core_case (by_first one_word word_case (by_first (word (codes "long")) long_case other_case)))))))
      (starts-Idle (word (codes "constexpr")) (token-Starts c.load (word (codes "constexpr")) (λ t. variable b c true n)) (λ ts h. h.1) (λ l. inl (V-starts l))))

  pub open_stmt_printed : IsAsPrinted (open_stmt b c n) nothing (printed_open_stmt b c n)
  unfolding printed_open_stmt
  open_stmt_printed =
      everywhere
      (printed_same (both_same (or_grouped (trees_of D) (trees_of V) (trees_of X)) (or_same (flagged_same c.load (word (codes "constexpr")) (λ is_constexpr. variable b c is_constexpr n)) (itself (trees_of X)))) stmt_where)
