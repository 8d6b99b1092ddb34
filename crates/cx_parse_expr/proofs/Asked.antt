-- What an answer says of the part in its reply.
use Rattle.std.proofs.Common.{◌≡◌, ℕ, Result, Ok, Err, refl, sym, ap, ◌∙◌, subst}
use Rattle.cx_base.specs.declared.stop.Stop.{Stop}
use Rattle.cx_tree.specs.declared.expression.Expr.{Expr}
use Rattle.cx_tree.specs.declared.expression.TemplateArgument.{TemplateArgument}
use Rattle.cx_tree.specs.declared.types.TypeSyn.{TypeSyn}
use Rattle.cx_grammar.specs.Production.{Production}
use Rattle.cx_grammar.specs.Types.{Numbered}
use Rattle.cx_parse_expr.specs.declared.ask.Reply.{Reply}
use Rattle.cx_parse_expr.specs.declared.ask.Reply.TheVariants as reply
use Rattle.cx_spots.specs.declared.spot.Cored.{Cored}
use Rattle.cx_spots.specs.declared.spot.Spot.{Spot}
use Rattle.cx_parse_expr.specs.Asks.{replied, expr_reply, type_reply, core_reply, argument_reply, Replies}
use Rattle.cx_spots.specs.Spots.{ReadsNode, Lightens}

-- a reply is of one reading
replied_one : {X : Type 0} (tag : X → Reply) → ((a b : X) → tag a ≡ tag b → a ≡ b) → (x y : Result (X × Spot) Stop) → replied tag x ≡ replied tag y → x ≡ y
replied_one {X = X} tag one (Ok (a, s)) (Ok (b, t)) e =
    let both : ◌≡◌ {A = Reply × Spot} (tag a, s) (tag b, t) = cc in
    let first : a ≡ b = one a b (ap (λ (q : Reply × Spot). q.0) both) in
    let second : s ≡ t = ap (λ (q : Reply × Spot). q.1) both in
    ap (λ (x : X). Ok (x, s)) first ∙ ap (λ (z : Spot). Ok (b, z)) second
replied_one tag one (Ok x) (Err f) e = cc
replied_one tag one (Err f) (Ok y) e = cc
replied_one tag one (Err f) (Err h) e = cc

-- a reply that a reading gives is of its part
pub tagged : {X : Type 0} (tag : X → Reply) (x : Result (X × Spot) Stop) (r : Result (Reply × Spot) Stop) (q : Reply) (s : Spot)
    → r ≡ replied tag x → r ≡ Ok (q, s) → (y : X) × (q ≡ tag y)
tagged tag (Ok x) r q s e h =
    let both : (tag x.0, x.1) ≡ (q, s) = cc in
    (x.0, sym (ap (λ (p : Reply × Spot). p.0) both))
tagged tag (Err f) r q s e h = absurd cc

read_replied : {X A : Type 0} (tag : X → Reply) → ((a b : X) → tag a ≡ tag b → a ≡ b) → (view : X → A) (by : ℕ) (p : ℕ → Production (Numbered A)) (s : Spot) (r : Result (Reply × Spot) Stop) (y : Result (X × Spot) Stop)
    → Replies tag view by p s r → r ≡ replied tag y → ReadsNode view p s y × Lightens by s y
read_replied tag one view by p s r y h e =
    subst (λ z. ReadsNode view p s z × Lightens by s z) (replied_one tag one h.0 y (sym h.1 ∙ e)) (h.2, h.3)

pub read_expr : {A : Type 0} (view : Expr → A) (by : ℕ) (p : ℕ → Production (Numbered A)) (s : Spot) (r : Result (Reply × Spot) Stop) (y : Result (Expr × Spot) Stop)
    → Replies reply.Expr view by p s r → r ≡ expr_reply y → ReadsNode view p s y × Lightens by s y
read_expr view by p s r y h e = read_replied reply.Expr (λ a b same. cc) view by p s r y h e

pub read_type : {A : Type 0} (view : TypeSyn → A) (by : ℕ) (p : ℕ → Production (Numbered A)) (s : Spot) (r : Result (Reply × Spot) Stop) (y : Result (TypeSyn × Spot) Stop)
    → Replies reply.Type view by p s r → r ≡ type_reply y → ReadsNode view p s y × Lightens by s y
read_type view by p s r y h e = read_replied reply.Type (λ a b same. cc) view by p s r y h e

pub read_core : {A : Type 0} (view : Cored → A) (by : ℕ) (p : ℕ → Production (Numbered A)) (s : Spot) (r : Result (Reply × Spot) Stop) (y : Result (Cored × Spot) Stop)
    → Replies reply.Core view by p s r → r ≡ core_reply y → ReadsNode view p s y × Lightens by s y
read_core view by p s r y h e = read_replied reply.Core (λ a b same. cc) view by p s r y h e

pub read_argument : {A : Type 0} (view : TemplateArgument → A) (by : ℕ) (p : ℕ → Production (Numbered A)) (s : Spot) (r : Result (Reply × Spot) Stop) (y : Result (TemplateArgument × Spot) Stop)
    → Replies reply.Argument view by p s r → r ≡ argument_reply y → ReadsNode view p s y × Lightens by s y
read_argument view by p s r y h e = read_replied reply.Argument (λ a b same. cc) view by p s r y h e

-- a reading as an answer
pub answered : {X A : Type 0} (tag : X → Reply) (view : X → A) (by : ℕ) (p q : ℕ → Production (Numbered A)) (s : Spot) (r : Result (Reply × Spot) Stop) (y : Result (X × Spot) Stop)
    → q ≡ p → r ≡ replied tag y → ReadsNode view p s y → Lightens by s y → Replies tag view by q s r
answered tag view by p q s r y same e reads lightens = (y, e, subst (λ z. ReadsNode view z s y) (sym same) reads, lightens)
