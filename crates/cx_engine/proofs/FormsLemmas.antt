-- The stage of forms.
use Rattle.std.proofs.Common.{◌≡◌, ℕ, zero, suc, ◌<◌, Bool, true, false, List, [], ◌∷◌, ◌++◌, length, map, drop, Option, Some, None, Ok, Err, refl, ap, ◌∙◌, subst, arith}
use Rattle.std.specs.Prelude.{slice_get}
use Rattle.cx_base.specs.Refusal.{Refusal, Refused, ◌>>=◌}
use Rattle.cx_base.specs.declared.place.Place.{Place}
use Rattle.cx_tree.specs.declared.expression.Expr.{Expr}
use Rattle.cx_tree.specs.Trees.{Mark, ExprTree, IntTree, BoolTree, NameTree, TemplateTree, QualifiedTree, ListTree, GroupTree, StaticCastTree, IsSameTree, OutTree, MemberTree, CallTree, PostfixTree, UnaryTree, BinaryTree, ConditionalTree, AssignmentTree, RequiresTree, ExprTrees, and_expr, exprs, expr_tree}
use Rattle.cx_tree.specs.Statements.{StmtTree, EmptyStmt, Block, AssertStmt, Break, Continue, Return, If, IfElse, While, For, VariableStmt, ExprStmt, no_stmt, and_stmt, stmts, stmt_mark}
use Rattle.cx_tree.specs.Declarations.{FunctionTree, DeclTree, EmptyDecl, AssertDecl, AliasDecl, ConstantDecl, FunctionDecl, StructDecl, TemplateDecl, UnitTree}
use Rattle.cx_statements.specs.declared.statement.Stmt.{Stmt}
use Rattle.cx_statements.specs.declared.declaration.Decl.{Decl}
use Rattle.cx_statements.specs.StatementViews.{stmt_tree}
use Rattle.cx_statements.specs.DeclarationViews.{decl_tree}
use Rattle.cx_engine.specs.declared.definitions.Definition.{Definition as Written}
use Rattle.cx_engine.specs.Definitions.{Definition, definition_tree, value_of_one, definition_of, definitions, Defines}
use Rattle.cx_engine.specs.Forms.{mention_of, first_of, unbuilt_in, unbuilt_type, unbuilt_stmt, unbuilt_body, is_built_head, unbuilt_parts, unbuilt_decl, first_unbuilt, IsFirstUnbuilt, unsupported, is_built, forms_unit}

-- a call with arguments is no mention
with_argument : (callee : ExprTree) (e : ExprTree) (es : ExprTrees) → mention_of callee (and_expr e es) ≡ None
with_argument (IntTree m s v) e es = refl
with_argument (BoolTree m v) e es = refl
with_argument (NameTree m n) e es = refl
with_argument (TemplateTree m n as') e es = refl
with_argument (QualifiedTree m h ns) e es = refl
with_argument (ListTree m t is) e es = refl
with_argument (GroupTree m i) e es = refl
with_argument (StaticCastTree m t o) e es = refl
with_argument (IsSameTree m l r) e es = refl
with_argument (OutTree m o) e es = refl
with_argument (MemberTree m o n) e es = refl
with_argument (CallTree m c as') e es = refl
with_argument (PostfixTree m p o) e es = refl
with_argument (UnaryTree m p o) e es = refl
with_argument (BinaryTree m p l r) e es = refl
with_argument (ConditionalTree m c t o) e es = refl
with_argument (AssignmentTree m p t v) e es = refl
with_argument (RequiresTree m ps rs) e es = refl

pub no_mention : (callee : ExprTree) (es : List Expr) → (es ≡ [] → ⊥) → mention_of callee (exprs (map expr_tree es)) ≡ None
no_mention callee [] some = absurd (some refl)
no_mention callee (e ∷ es) some = with_argument callee (expr_tree e) (exprs (map expr_tree es))

-- more than one statement is no `return` alone
pub no_value_of_more : (ss : List Stmt) → 1 < length ss → value_of_one (stmts (map stmt_tree ss)) ≡ None
no_value_of_more [] above = refl
no_value_of_more (s ∷ []) above = absurd (omega (arith, above))
no_value_of_more (s ∷ t ∷ ss) above = refl

-- ---- the first form that is not built

abbrev AllBuilt : UnitTree → Type 0
AllBuilt u = (k : ℕ) (f : DeclTree) → slice_get u k ≡ Some f → unbuilt_decl f ≡ None

-- one part is built, and then the others
pub both : (a b : Option Place) → first_of a b ≡ None → (a ≡ None) × (b ≡ None)
both None b e = (refl, e)
both (Some at) b e = absurd cc

all_built : (u : UnitTree) → first_unbuilt u ≡ None → AllBuilt u
all_built [] e k f at = absurd cc
all_built (g ∷ gs) e zero f at =
    let is : g ≡ f = cc in
    subst (λ (h : DeclTree). unbuilt_decl h ≡ None) is (both (unbuilt_decl g) (first_unbuilt gs) e).0
all_built (g ∷ gs) e (suc k) f at = all_built gs (both (unbuilt_decl g) (first_unbuilt gs) e).1 k f at

none_unbuilt : (u : UnitTree) → AllBuilt u → first_unbuilt u ≡ None
none_unbuilt [] all = refl
none_unbuilt (g ∷ gs) all = rw (all zero g refl) (none_unbuilt gs (λ k f at. all (suc k) f at))

first_here : (g : DeclTree) (gs : UnitTree) (o : Option Place) (at : Place) → unbuilt_decl g ≡ o → (first_unbuilt gs ≡ Some at → IsFirstUnbuilt gs at) → first_of o (first_unbuilt gs) ≡ Some at → IsFirstUnbuilt (g ∷ gs) at
first_here g gs (Some p) at is rest e =
    let same : p ≡ at = cc in
    record {
      number = 0;
      declaration = g;
      there = refl;
      has = is ∙ ap (λ (q : Place). Some q) same;
      before = λ j f below there. absurd (omega (arith, below));
    }
first_here g gs None at is rest e =
    let later = rest e in
    record { number = suc later.number; declaration = later.declaration; there = later.there; has = later.has; before = earlier g gs later.number is later.before }
  where
    earlier : (g : DeclTree) (gs : UnitTree) (n : ℕ) → unbuilt_decl g ≡ None → ((j : ℕ) (f : DeclTree) → j < n → slice_get gs j ≡ Some f → unbuilt_decl f ≡ None)
        → (j : ℕ) (f : DeclTree) → j < suc n → slice_get (g ∷ gs) j ≡ Some f → unbuilt_decl f ≡ None
    earlier g gs n is before zero f below there =
        let same : g ≡ f = cc in
        subst (λ (h : DeclTree). unbuilt_decl h ≡ None) same is
    earlier g gs n is before (suc j) f below there = before j f (omega (arith, below)) there

is_first : (u : UnitTree) (at : Place) → first_unbuilt u ≡ Some at → IsFirstUnbuilt u at
is_first [] at e = absurd cc
is_first (g ∷ gs) at e = first_here g gs (unbuilt_decl g) at refl (is_first gs at) e

-- ---- what the stage gives

-- what is made of a declaration that is built
record IsMade (d : DeclTree) : Type 0 where
  definition : Definition
  made : definition_of d ≡ Some definition
  defines : Defines d definition
  built : unbuilt_in definition.value ≡ None

of_statement : (f : FunctionTree) (m : Mark) (s : StmtTree) → f.body ≡ Some (Block m (and_stmt s no_stmt)) → unbuilt_stmt s ≡ None → IsMade (FunctionDecl f)
of_statement f m (Return m' (Some e)) is h = record {
  definition = record { at = f.mark.at; name = f.name; value = e };
  made = rw is refl;
  defines = record { function = f; block = m; return = m'; is = refl; at = refl; name = refl; body = is };
  built = h;
}
of_statement f m (Return m' None) is h = absurd cc
of_statement f m (EmptyStmt m') is h = absurd cc
of_statement f m (Block m' ss) is h = absurd cc
of_statement f m (AssertStmt a) is h = absurd cc
of_statement f m (Break m') is h = absurd cc
of_statement f m (Continue m') is h = absurd cc
of_statement f m (If m' x c t) is h = absurd cc
of_statement f m (IfElse m' x c t o) is h = absurd cc
of_statement f m (While m' c b) is h = absurd cc
of_statement f m (For m' i c t b) is h = absurd cc
of_statement f m (VariableStmt v) is h = absurd cc
of_statement f m (ExprStmt m' e) is h = absurd cc

of_body : (f : FunctionTree) (body : StmtTree) → f.body ≡ Some body → unbuilt_body body ≡ None → IsMade (FunctionDecl f)
of_body f (Block m no_stmt) is h = absurd cc
of_body f (Block m (and_stmt s no_stmt)) is h = of_statement f m s is h
of_body f (Block m (and_stmt s (and_stmt t ss))) is h =
    let second = (both (unbuilt_stmt s) (Some (stmt_mark t).at) h).1 in
    absurd cc
of_body f (Return m value) is h = absurd cc
of_body f (EmptyStmt m) is h = absurd cc
of_body f (AssertStmt a) is h = absurd cc
of_body f (Break m) is h = absurd cc
of_body f (Continue m) is h = absurd cc
of_body f (If m x c t) is h = absurd cc
of_body f (IfElse m x c t o) is h = absurd cc
of_body f (While m c b) is h = absurd cc
of_body f (For m i c t b) is h = absurd cc
of_body f (VariableStmt v) is h = absurd cc
of_body f (ExprStmt m e) is h = absurd cc

of_function : (f : FunctionTree) (head : Bool) (body : Option StmtTree) → f.body ≡ body → unbuilt_parts head f.mark.at f.result body ≡ None → IsMade (FunctionDecl f)
of_function f true (Some body) is h = of_body f body is (both (unbuilt_type f.result) (unbuilt_body body) h).1
of_function f true None is h = absurd cc
of_function f false (Some body) is h = absurd cc
of_function f false None is h = absurd cc

is_made : (d : DeclTree) → unbuilt_decl d ≡ None → IsMade d
is_made (FunctionDecl f) h = of_function f (is_built_head f) f.body refl h
is_made (EmptyDecl m) h = absurd cc
is_made (AssertDecl a) h = absurd cc
is_made (AliasDecl a) h = absurd cc
is_made (ConstantDecl c) h = absurd cc
is_made (StructDecl s) h = absurd cc
is_made (TemplateDecl m ps c t) h = absurd cc

-- a declaration that is built, and those behind it
made_first : (d : DeclTree) (ds : UnitTree) (here : IsMade d) → definitions (d ∷ ds) ≡ here.definition ∷ definitions ds
made_first d ds here = rw here.made refl

-- what holds of the first of two lists' elements, and of the others number by number
abbrev AllOfTwo : (DeclTree → Definition → Type 0) → UnitTree → List Definition → Type 0
AllOfTwo P ds fs = (k : ℕ) (d : DeclTree) (f : Definition) → slice_get ds k ≡ Some d → slice_get fs k ≡ Some f → P d f

first_of_two : (d : DeclTree) (ds : UnitTree) (f : Definition) (fs : List Definition) → Defines d f → AllOfTwo Defines ds fs → AllOfTwo Defines (d ∷ ds) (f ∷ fs)
first_of_two d ds f fs here rest zero e g is-e is-g =
    let same : d ≡ e = cc in
    let equal : f ≡ g = cc in
    subst (λ (x : DeclTree). Defines x g) same (subst (λ (x : Definition). Defines d x) equal here)
first_of_two d ds f fs here rest (suc k) e g is-e is-g = rest k e g is-e is-g

same_length : (u : UnitTree) → first_unbuilt u ≡ None → length (definitions u) ≡ length u
same_length [] e = refl
same_length (d ∷ ds) e =
    let parts = both (unbuilt_decl d) (first_unbuilt ds) e in
    ap length (made_first d ds (is_made d parts.0)) ∙ ap suc (same_length ds parts.1)

each_defines : (u : UnitTree) → first_unbuilt u ≡ None → AllOfTwo Defines u (definitions u)
each_defines [] e = λ k d f is-d is-f. absurd cc
each_defines (d ∷ ds) e =
    let parts = both (unbuilt_decl d) (first_unbuilt ds) e in
    let here = is_made d parts.0 in
    rw (made_first d ds here) (first_of_two d ds here.definition (definitions ds) here.defines (each_defines ds parts.1))

-- the values of these definitions have built forms alone
abbrev pub AreBuilt : List Definition → Type 0
AreBuilt fs = (k : ℕ) (f : Definition) → slice_get fs k ≡ Some f → unbuilt_in f.value ≡ None

one_built : (f : Definition) (fs : List Definition) → unbuilt_in f.value ≡ None → AreBuilt fs → AreBuilt (f ∷ fs)
one_built f fs here rest zero g at =
    let same : f ≡ g = cc in
    subst (λ (x : Definition). unbuilt_in x.value ≡ None) same here
one_built f fs here rest (suc k) g at = rest k g at

are_built : (u : UnitTree) → first_unbuilt u ≡ None → AreBuilt (definitions u)
are_built [] e = λ k f at. absurd cc
are_built (d ∷ ds) e =
    let parts = both (unbuilt_decl d) (first_unbuilt ds) e in
    let here = is_made d parts.0 in
    rw (made_first d ds here) (one_built here.definition (definitions ds) here.built (are_built ds parts.1))

-- ---- declaration by declaration

-- what the declarations before number i define, and that what is left has the first form that is not built
pub record Building (ds : List Decl) (i : ℕ) (built : List Written) : Type 0 where
  pub so_far : map definition_tree built ++ definitions (map decl_tree (drop i ds)) ≡ definitions (map decl_tree ds)
  pub rest : first_unbuilt (map decl_tree (drop i ds)) ≡ first_unbuilt (map decl_tree ds)

-- a unit that passes has built forms alone, and the stage gives its definitions
forms_pass : (u : UnitTree) (fs : List Definition) → forms_unit u ≡ Ok fs → (first_unbuilt u ≡ None) × (definitions u ≡ fs)
unfolding forms_unit
forms_pass u fs e = by (first_unbuilt u) e
  where
    by : (o : Option Place) → (is_built o >>= λ _. Ok (definitions u)) ≡ Ok fs → (o ≡ None) × (definitions u ≡ fs)
    by None h =
        let same : definitions u ≡ fs = cc in
        (refl, same)
    by (Some at) h = absurd cc

pub forms_built : (u : UnitTree) (fs : List Definition) → forms_unit u ≡ Ok fs → AreBuilt fs
forms_built u fs e =
    let pass = forms_pass u fs e in
    subst AreBuilt pass.1 (are_built u pass.0)

pub forms_length : (u : UnitTree) (fs : List Definition) → forms_unit u ≡ Ok fs → length fs ≡ length u
forms_length u fs e =
    let pass = forms_pass u fs e in
    subst (λ (gs : List Definition). length gs ≡ length u) pass.1 (same_length u pass.0)

-- ---- the laws

pub fine : (u : UnitTree) (fs : List Definition) → forms_unit u ≡ Ok fs → (k : ℕ) (d : DeclTree) → slice_get u k ≡ Some d → unbuilt_decl d ≡ None
fine u fs e = all_built u (forms_pass u fs e).0

pub only : (u : UnitTree) → ((k : ℕ) (d : DeclTree) → slice_get u k ≡ Some d → unbuilt_decl d ≡ None) → forms_unit u ≡ Ok (definitions u)
unfolding forms_unit
only u all = rw (none_unbuilt u all) refl

pub whole : (u : UnitTree) (fs : List Definition) → forms_unit u ≡ Ok fs
    → (length fs ≡ length u) × ((k : ℕ) (d : DeclTree) (f : Definition) → slice_get u k ≡ Some d → slice_get fs k ≡ Some f → Defines d f)
whole u fs e =
    let pass = forms_pass u fs e in
    (forms_length u fs e, subst (AllOfTwo Defines u) pass.1 (each_defines u pass.0))

pub first : (u : UnitTree) (r : Refusal) → forms_unit u ≡ Err r → (at : Place) × (r ≡ Refused (unsupported at)) × IsFirstUnbuilt u at
unfolding forms_unit
first u r e = by (first_unbuilt u) refl e
  where
    by : (o : Option Place) → first_unbuilt u ≡ o → (is_built o >>= λ _. Ok (definitions u)) ≡ Err r → (at : Place) × (r ≡ Refused (unsupported at)) × IsFirstUnbuilt u at
    by None is h = absurd cc
    by (Some at) is h =
        let same : r ≡ Refused (unsupported at) = cc in
        (at, same, is_first u at is)
