-- Template arguments are as they are printed.
use Rattle.std.proofs.Common.{◌≡◌, ℕ, suc, ◌+◌, Bool, false, List, [], codes}
use Rattle.cx_tree.specs.Trees.{CoreTree, ArgumentTree}
use Rattle.cx_grammar.specs.Pieces.{Piece}
use Rattle.cx_grammar.specs.Production.{Production, give, ◌>>=◌, token, begins}
use Rattle.cx_grammar.specs.Words.{word, punct}
use Rattle.cx_grammar.specs.Names.{Context, deeper}
use Rattle.cx_grammar.specs.Types.{Numbered, Placed, Below, type_id, bare_type, const_type, scalar_behind, placed_scalar, one_word}
use Rattle.cx_grammar.specs.Expressions.{levels, goes_on, head_name, core_word, expr, argument_of, argument_type, core_argument, head_argument, word_argument, core_type_argument, argument, type_argument, value_argument}
use Rattle.cx_grammar.specs.Printed.{IsAsPrinted, trees_of, or}
use Rattle.cx_grammar.proofs.Lawful.{Lawful}
use Rattle.cx_grammar.proofs.Combinators.{give-Lawful, then-Lawful}
use Rattle.cx_grammar.proofs.AloneTypes.{BelowAlone, type_behind-Alone, scalar_behind-Alone, type_id-Alone}
use Rattle.cx_grammar.proofs.AloneExpressions.{levels-Alone, expr-Alone}
use Rattle.cx_grammar.proofs.Printed.{first-Starts}
use Rattle.cx_grammar_laws.specs.Printed.{printed_argument}
use Rattle.cx_grammar_laws.proofs.Cases.{Where, Any, First, Alike, alike, turned, ◌then◌, first-Alike, take-Alike, Never, never_begins, Avoids, avoids-Apart, printed_alike, then-Avoids, give-Avoids, PrintedWhere, everywhere, by_first, Idle, starts-Idle, only_first, only_second, alternatives, told_apart}
use Rattle.cx_grammar_laws.proofs.Firsts.{head_const, core_word_const, one_word_const, long_const, head_expr, core_expr, word_expr, expr_first, expr-Starts, const_no_expr, long_no_expr, type_first, type-Starts, no_type, type_behind-Avoids, scalar_behind-Avoids, behind_core-Starts, behind_head-Starts, bare, word_type, const_goes_on, reference_goes_on, const_brace, reference_brace, int_brace, long_brace, brace_goes_on}

module _ (requires : Bool) (depth : ℕ) (c : Context) (n : ℕ) where
  abbrev b : Below
  b = levels requires (suc depth)

  abbrev core-Production : Production (Numbered (Placed CoreTree))
  core-Production = b.core (deeper c) n

  abbrev T : Production (Numbered ArgumentTree)
  T = type_id b c n >>= (λ t. give (type_argument t))

  abbrev E : Production (Numbered ArgumentTree)
  E = expr b c n >>= (λ e. give (value_argument e))

  abbrev IsPrinted : Where → Production (Numbered ArgumentTree) → Type 0
  IsPrinted W p = PrintedWhere W goes_on p (or (trees_of T) (trees_of E))

  alone : BelowAlone requires b
  alone = levels-Alone (suc depth)

  T-starts : (l : ℕ) → T.front l []
  T-starts l = (then-Lawful (type_id-Alone alone c n).lawful (λ t. give-Lawful (type_argument t))).starts l

  E-starts : (l : ℕ) → E.front l []
  E-starts l = (then-Lawful (expr-Alone alone c n).lawful (λ e. give-Lawful (value_argument e))).starts l

  argument_type-Lawful : (k : Numbered (Placed CoreTree)) → Lawful requires (argument_type c k)
  unfolding argument_type
  argument_type-Lawful k = then-Lawful (type_behind-Alone c k.0.0 false (k.0.1, k.1)).lawful (λ t. give-Lawful (type_argument t))

  argument_type-starts : (k : Numbered (Placed CoreTree)) (l : ℕ) → (argument_type c k).front l []
  argument_type-starts k l = (argument_type-Lawful k).starts l

  argument_type-Avoids : (q : Piece → Bool) → Never (word (codes "const")) q → Never (punct (codes "&")) q → (k : Numbered (Placed CoreTree)) → Avoids q (argument_type c k)
  unfolding argument_type
  argument_type-Avoids q no_const no_reference k = then-Avoids q (type_behind-Avoids q no_const no_reference c k.0.0 false (k.0.1, k.1)) (λ t. give-Avoids q (type_argument t))

  -- the type where `const` is not the first token
  bare_argument : {W : Where} → ((ts : List Piece) → W ts → begins (word (codes "const")) ts ≡ false) → Alike W T (core-Production >>= argument_type c)
  unfolding argument_type
  bare_argument h = bare b c n (λ t. give (type_argument t)) h

  -- no expression begins there
  no_expr : {W : Where} → ((ts : List Piece) → W ts → begins (expr_first c) ts ≡ false) → Idle W (trees_of E) (trees_of T)
  no_expr h = starts-Idle (expr_first c) (first-Starts (λ e. give (value_argument e)) (expr-Starts b c n)) h T-starts

  const_case : IsPrinted (First (word (codes "const"))) (const_type b c n >>= (λ t. give (type_argument t)))
  unfolding type_id
  const_case =
      only_first (printed_alike goes_on (turned (first-Alike (take-Alike (word (codes "const")) (const_type b c n) (bare_type b c n) (λ ts e. e)) (λ t. give (type_argument t)))))
      (no_expr (never_begins (const_no_expr c)))

  head_case : IsPrinted (First (head_name c)) (core-Production >>= head_argument b c)
  unfolding head_argument argument_of
  head_case =
      alternatives (bare_argument (never_begins (head_const c))) (head_expr alone c n (λ e. give (value_argument e)))
      (told_apart (First (head_name c)) goes_on goes_on core-Production (λ k. first-Starts (argument_of b c) (behind_head-Starts b c k))
      (λ k. avoids-Apart (λ ts e. e) (argument_type-Avoids goes_on const_goes_on reference_goes_on k)) argument_type-starts)

  core_case : IsPrinted (First core_word) (core-Production >>= core_argument b c)
  unfolding core_argument argument_of
  core_case =
      alternatives (bare_argument (never_begins core_word_const)) (core_expr alone c n (λ e. give (value_argument e)))
      (told_apart (First core_word) goes_on (punct (codes "{")) core-Production (λ k. first-Starts (argument_of b c) (behind_core-Starts b c k))
      (λ k. avoids-Apart brace_goes_on (argument_type-Avoids (punct (codes "{")) const_brace reference_brace k)) argument_type-starts)

  -- behind a scalar's first word the type goes on
  abbrev scalar_type : Piece → Production (Numbered ArgumentTree)
  scalar_type t = scalar_behind (deeper c) t >>= (λ s. argument_type c (placed_scalar t s, n))

  word_type_argument : Alike (First one_word) T (token (c.load + 1) one_word >>= scalar_type)
  unfolding levels
  word_type_argument = bare_argument (never_begins one_word_const) then word_type (levels requires depth) (deeper c) n (argument_type c) argument_type-starts

  word_case : IsPrinted (First one_word) (word_argument b c n)
  unfolding word_argument argument_of
  word_case =
      alternatives word_type_argument (word_expr alone c n (λ e. give (value_argument e)))
      (told_apart (First one_word) goes_on (punct (codes "{")) (token (c.load + 1) one_word) (λ t. first-Starts (argument_of b c) (behind_core-Starts b c _))
      (λ t. avoids-Apart brace_goes_on (then-Avoids (punct (codes "{")) (scalar_behind-Avoids (punct (codes "{")) int_brace long_brace (deeper c) t) (λ s. argument_type-Avoids (punct (codes "{")) const_brace reference_brace (placed_scalar t s, n))))
      (λ t l. (then-Lawful (scalar_behind-Alone (deeper c) t).lawful (λ s. argument_type-Lawful (placed_scalar t s, n))).starts l))

  long_case : IsPrinted (First (word (codes "long"))) (core_type_argument b c n)
  unfolding core_type_argument
  long_case = only_first (printed_alike goes_on (turned (bare_argument (never_begins long_const)))) (no_expr (never_begins (long_no_expr c)))

  -- no type begins where none of those tokens stands
  abbrev Other : Where
  Other ts = (((((Any ts × (begins (word (codes "const")) ts ≡ false)) × (begins (head_name c) ts ≡ false)) × (begins core_word ts ≡ false)) × (begins one_word ts ≡ false)) × (begins (word (codes "long")) ts ≡ false))

  other_case : IsPrinted Other E
  other_case =
      only_second (printed_alike goes_on (alike Other E))
      (starts-Idle (type_first c) (first-Starts (λ t. give (type_argument t)) (type-Starts requires (suc depth) c n)) (λ ts h. no_type c ts h.0.0.0.0.1 h.0.0.0.1 h.0.0.1 h.0.1 h.1) E-starts)

  argument_where : IsPrinted Any (argument b c n)
  unfolding argument
  argument_where =
      by_first (word (codes "const")) const_case
      (by_first (head_name c) head_case (by_first core_word core_case (by_first one_word word_case (by_first (word (codes "long")) long_case other_case))))

  pub argument_printed : IsAsPrinted (argument b c n) goes_on (printed_argument b c n)
  unfolding printed_argument
  argument_printed = everywhere argument_where
