-- Units of functions are units of the language, with the loads, the names and the nodes that they have there.
use Rattle.std.proofs.Common.{◌≡◌, ℕ, zero, suc, ◌+◌, ◌≤◌, Bool, true, false, ◌&&◌, List, [], ◌∷◌, ◌++◌, codes, None, Some, refl, sym, ap, ◌∙◌, subst, true≢false, append-nil, arith}
use Rattle.std.proofs.lemmas.List.{append_cancel_right}
use Rattle.std.specs.Str.{bytes_eq}
use Rattle.std.proofs.lemmas.Slice.Eq.{bytes_eq-Decides}
use Rattle.cx_base.specs.declared.place.Place.{Place}
use Rattle.cx_base.specs.declared.value.Scalar.TheVariants as scalar
use Rattle.cx_lexer.specs.declared.token.TokenKind.{TokenKind}
use Rattle.cx_lexer.specs.declared.token.TokenKind.TheVariants as kind
use Rattle.cx_scope.specs.Frames.{entered}
use Rattle.cx_tree.specs.Trees.{OfCore, ScalarTree}
use Rattle.cx_tree.specs.Statements.{StmtTree}
use Rattle.cx_tree.specs.Declarations.{DeclTree, UnitTree}
use Rattle.cx_grammar.specs.Pieces.{Piece, Half}
use Rattle.cx_grammar.specs.Words.{is_word_kind, is_punct_kind, is_name_kind, is_all, word, punct, any_name, spelling}
use Rattle.cx_grammar.specs.Names.{Context, deeper, inside, with_names}
use Rattle.cx_grammar.specs.Types.{Numbered, Below, numbered, one_word, core, scalar_only, scalar_core, word_core, scalar_behind, type_id, bare_type, type_behind, maybe_const, maybe_reference, Named}
use Rattle.cx_grammar.specs.Expressions.{levels, no_requires}
use Rattle.cx_grammar.specs.Statements.{Within, block}
use Rattle.cx_grammar.specs.Declarations.{unit as unit_of_declarations, more_decl, is_not_end, unit_levels, parameters, no_specifiers, specifiers_from, decl, variable_or_function, function_behind, maybe_const_member, trailing, function_body}
use Rattle.cx_grammar.specs.Laws.{Levelled, IsTreeWithin}
use Rattle.cx_grammar.specs.Production.{Production, give, ◌>>=◌, times, begins, Chosen}
use Rattle.cx_grammar.proofs.Lawful.{Grows}
use Rattle.cx_grammar.proofs.Combinators.{ok_further}
use Rattle.cx_grammar_laws.specs.Language.{IsPartOf}
use Rattle.cx_parse_decl.specs.Functions.{function_of, with_function, function, more_function, outermost, unit}
use Rattle.cx_parse_decl.specs.Units.{units}
use Rattle.cx_parse_decl.specs.Whole.{whole_units}
use Rattle.cx_parse_decl.proofs.Units.{units-Grows}

second_chosen : (c : Bool) (A B : Type 0) → c ≡ false → B → Chosen c A B
second_chosen c A B e w = subst (λ (z : Bool). Chosen z A B) (sym e) w

first_chosen : (c : Bool) (A B : Type 0) → c ≡ true → A → Chosen c A B
first_chosen c A B e w = subst (λ (z : Bool). Chosen z A B) (sym e) w

-- ---- pieces of kinds

left_true : (a b : Bool) → (a && b) ≡ true → a ≡ true
left_true true b e = refl
left_true false b e = absurd (true≢false (sym e))

right_true : (a b : Bool) → (a && b) ≡ true → b ≡ true
right_true true b e = e
right_true false b e = absurd (true≢false (sym e))

same_bytes : (a b : List ℕ) → bytes_eq a b ≡ true → a ≡ b
same_bytes a b e = (bytes_eq-Decides a b).0 e

abbrev a_word : List ℕ → Place → Half → Piece
a_word text at half = record { token = record { kind = kind.Word; text = text; at = at }; half = half }

word_kind : (k : TokenKind) → is_word_kind k ≡ true → k ≡ kind.Word
word_kind kind.Word e = refl
word_kind other e = absurd (true≢false (sym e))

as_word : (text : List ℕ) (t : Piece) → word text t ≡ true → t ≡ a_word text t.token.at t.half
unfolding word
as_word text t e =
    let k = word_kind t.token.kind (left_true (is_word_kind t.token.kind) (bytes_eq t.token.text text) e) in
    let s = same_bytes t.token.text text (right_true (is_word_kind t.token.kind) (bytes_eq t.token.text text) e) in
    λ i. record { token = record { kind = k i; text = s i; at = t.token.at }; half = t.half }

-- ---- the parts of a function

abbrev a_name : List ℕ → Place → Half → Piece
a_name text at half = record { token = record { kind = kind.Name; text = text; at = at }; half = half }

name_kind : (k : TokenKind) → is_name_kind k ≡ true → k ≡ kind.Name
name_kind kind.Name e = refl
name_kind other e = absurd (true≢false (sym e))

as_name : (t : Piece) → any_name t ≡ true → t ≡ a_name t.token.text t.token.at t.half
unfolding any_name
as_name t e = λ i. record { token = record { kind = name_kind t.token.kind e i; text = t.token.text; at = t.token.at }; half = t.half }

-- the core `int`
core_whole : (b : Below) (c : Context) (n l : ℕ) (at : Place) (half : Half) (behind : List Piece) → c.load ≤ l → (core b c n).whole l (a_word (codes "int") at half ∷ []) behind ((at, ScalarTree scalar.Int), n)
unfolding core scalar_only scalar_core word_core scalar_behind one_word word any_name begins
core_whole b c n l at half behind le =
    ((at, ScalarTree scalar.Int), a_word (codes "int") at half ∷ [], [], refl, (a_word (codes "int") at half, a_word (codes "int") at half ∷ [], [], refl, (refl, refl, le), (scalar.Int, [], [], refl, (refl, refl), (refl, refl))), (refl, refl))

-- the type `int` before a name
type_whole : (b : Below) (c : Context) (n l : ℕ) (at : Place) (half : Half) (text : List ℕ) (at' : Place) (half' : Half) (behind : List Piece)
    → (b.core (deeper c) n).whole l (a_word (codes "int") at half ∷ []) (a_name text at' half' ∷ behind) ((at, ScalarTree scalar.Int), n)
    → (type_id b c n).whole l (a_word (codes "int") at half ∷ []) (a_name text at' half' ∷ behind) (OfCore (numbered n at) false (ScalarTree scalar.Int) false, n + 1)
unfolding type_id bare_type type_behind maybe_const maybe_reference word punct begins
type_whole b c n l at half text at' half' behind w =
    (((at, ScalarTree scalar.Int), n), a_word (codes "int") at half ∷ [], [], refl, w, (false, [], [], refl, (refl, refl), (false, [], [], refl, (refl, refl), (refl, refl))))

decl_whole : (b : Within) (c : Context) (n l : ℕ) (at : Place) (half : Half) (text : List ℕ) (at' : Place) (half' : Half) (op cl br : Piece) (bs behind : List Piece) (s : Numbered StmtTree)
    → c.load + 1 ≤ l → punct (codes "(") op ≡ true → punct (codes ")") cl ≡ true → punct (codes ";") br ≡ false
    → (b.base.core (deeper c) n).whole l (a_word (codes "int") at half ∷ []) (a_name text at' half' ∷ op ∷ cl ∷ br ∷ (bs ++ behind)) ((at, ScalarTree scalar.Int), n)
    → (b.parameters true (inside (with_names c (entered c.names))) (n + 1)).whole l [] (cl ∷ br ∷ (bs ++ behind)) ([], n + 1, entered c.names)
    → (block b (with_names c (entered (with_function c.names (a_name text at' half')))) (n + 1)).whole l (br ∷ bs) behind s
    → (decl b c n).whole l (a_word (codes "int") at half ∷ a_name text at' half' ∷ op ∷ cl ∷ br ∷ bs) behind (function_of n (a_word (codes "int") at half) (a_name text at' half') s, s.1 + 1, with_function c.names (a_name text at' half'))
unfolding decl variable_or_function specifiers_from function_behind maybe_const_member trailing function_body any_name word punct begins
decl_whole b c n l at half text at' half' op cl br bs behind s le opens closes other w params body' =
    let less : c.load ≤ l = omega arith in (
      no_specifiers,
      [],
      a_word (codes "int") at half ∷ a_name text at' half' ∷ op ∷ cl ∷ br ∷ bs,
      refl,
      (refl, refl),
      (
        (OfCore (numbered n at) false (ScalarTree scalar.Int) false, n + 1),
        a_word (codes "int") at half ∷ [],
        a_name text at' half' ∷ op ∷ cl ∷ br ∷ bs,
        refl,
        type_whole b.base c n l at half text at' half' (op ∷ cl ∷ br ∷ (bs ++ behind)) w,
        (
          a_name text at' half',
          a_name text at' half' ∷ [],
          op ∷ cl ∷ br ∷ bs,
          refl,
          (refl, refl, less),
          (
            _,
            op ∷ cl ∷ br ∷ bs,
            [],
            sym (append-nil (op ∷ cl ∷ br ∷ bs)),
            (
              op,
              op ∷ [],
              cl ∷ br ∷ bs,
              refl,
              (refl, opens, le),
              (
                ([], n + 1, entered c.names),
                [],
                cl ∷ br ∷ bs,
                refl,
                params,
                (
                  cl,
                  cl ∷ [],
                  br ∷ bs,
                  refl,
                  (refl, closes, le),
                  (
                    false,
                    [],
                    br ∷ bs,
                    refl,
                    (refl, refl),
                    (
                      (None, n + 1),
                      [],
                      br ∷ bs,
                      refl,
                      (refl, refl),
                      (
                        (Some s.0, s.1),
                        br ∷ bs,
                        [],
                        sym (append-nil (br ∷ bs)),
                        second_chosen _ _ _ other (s, br ∷ bs, [], sym (append-nil (br ∷ bs)), body', (refl, refl)),
                        (refl, refl),
                      ),
                    ),
                  ),
                ),
              ),
            ),
            (refl, refl),
          ),
        ),
      ),
    )

-- ---- the body

no_semicolon : (t : Piece) → punct (codes "{") t ≡ true → punct (codes ";") t ≡ false
unfolding punct
no_semicolon t is =
    let both = left_true (is_punct_kind t.token.kind && is_all t.half) (bytes_eq (spelling t.token.text) (codes "{")) is in
    let s = same_bytes (spelling t.token.text) (codes "{") (right_true (is_punct_kind t.token.kind && is_all t.half) (bytes_eq (spelling t.token.text) (codes "{")) is) in
    rw (both, s) refl

-- a block's first piece, which is no `;`
record BlockParts (b : Within) (c : Context) (n l : ℕ) (us behind : List Piece) (s : Numbered StmtTree) : Type 0 where
  first : Piece
  others : List Piece
  parts : us ≡ first ∷ others
  opens : punct (codes ";") first ≡ false
  whole : (block b c n).whole l (first ∷ others) behind s

block_opens : (b : Within) (c : Context) (n l : ℕ) (us behind : List Piece) (s : Numbered StmtTree) → (block b c n).whole l us behind s → (t : Piece) × (ts : List Piece) × (us ≡ t ∷ ts) × (punct (codes "{") t ≡ true)
unfolding block
block_opens b c n l us behind s (t, as', ts, p, (q, is, le), k) = (t, ts, p ∙ ap (λ (z : List Piece). z ++ ts) q, is)

block_parts : (b : Within) (c : Context) (n l : ℕ) (us behind : List Piece) (s : Numbered StmtTree) → (block b c n).whole l us behind s → BlockParts b c n l us behind s
block_parts b c n l us behind s w =
    let o = block_opens b c n l us behind s w in
    record {
      first = o.0;
      others = o.1;
      parts = o.2;
      opens = no_semicolon o.0 o.3;
      whole = subst (λ (z : List Piece). (block b c n).whole l z behind s) o.2 w;
    }

-- ---- functions

one_piece : (us is bs : List Piece) (t u : Piece) (vs : List Piece) → us ≡ is ++ bs → is ≡ t ∷ [] → t ≡ u → bs ≡ vs → us ≡ u ∷ vs
one_piece us is bs t u vs p q e d = p ∙ (ap (λ (z : List Piece). z ++ bs) q ∙ (λ i. e i ∷ d i))

function_decl : (requires : Bool) (m : ℕ) (c : Context) (n l : ℕ) (us behind : List Piece) (y : Named DeclTree) → (function (unit_levels requires (suc m)) c n).whole l us behind y → (decl (unit_levels requires (suc m)) c n).whole l us behind y
unfolding function unit_levels levels parameters begins
function_decl requires m c n l us behind y (i, is1, b1, p1, (q1, f1, l1), (nm, is2, b2, p2, (q2, f2, l2), (op, is3, b3, p3, (q3, f3, l3), (cl, is4, b4, p4, (q4, f4, l4), (s, bs, ns, p5, wb, (none, same)))))) =
    let inner = with_names c (entered (with_function c.names nm)) in
    let w = subst (λ (z : List Piece). (block (unit_levels requires (suc m)) inner (n + 1)).whole l bs (z ++ behind) s) none wb in
    let k = block_parts (unit_levels requires (suc m)) inner (n + 1) l bs behind s w in
    let same_int = as_word (codes "int") i f1 in
    let same_name = as_name nm f2 in
    let all : us ≡ a_word (codes "int") i.token.at i.half ∷ a_name nm.token.text nm.token.at nm.half ∷ op ∷ cl ∷ k.first ∷ k.others =
    one_piece us is1 b1 i (a_word (codes "int") i.token.at i.half) _ p1 q1 same_int (one_piece b1 is2 b2 nm (a_name nm.token.text nm.token.at nm.half) _ p2 q2 same_name
    (one_piece b2 is3 b3 op op _ p3 q3 refl (one_piece b3 is4 b4 cl cl _ p4 q4 refl (p5 ∙ (ap (λ (z : List Piece). bs ++ z) none ∙ (append-nil bs ∙ k.parts)))))) in
    let it : (decl (unit_levels requires (suc m)) c n).whole l (a_word (codes "int") i.token.at i.half ∷ a_name nm.token.text nm.token.at nm.half ∷ op ∷ cl ∷ k.first ∷ k.others) behind (function_of n i nm s, s.1 + 1, with_function c.names nm) =
    decl_whole (unit_levels requires (suc m)) c n l i.token.at i.half nm.token.text nm.token.at nm.half op cl k.first k.others behind s l1 f3 f4 k.opens
    (core_whole (levels requires m) (deeper c) n l i.token.at i.half (a_name nm.token.text nm.token.at nm.half ∷ op ∷ cl ∷ k.first ∷ (k.others ++ behind)) l1)
    (first_chosen _ _ _ f4 (refl, refl))
    k.whole in
    subst (λ (z : List Piece). (decl (unit_levels requires (suc m)) c n).whole l z behind y) (sym all)
    (subst (λ (z : Named DeclTree). (decl (unit_levels requires (suc m)) c n).whole l (a_word (codes "int") i.token.at i.half ∷ a_name nm.token.text nm.token.at nm.half ∷ op ∷ cl ∷ k.first ∷ k.others) behind z) (sym same) it)

-- ---- units

step_whole : (requires : Bool) (m : ℕ) (x : Named UnitTree) (l : ℕ) (us behind : List Piece) (y : Named UnitTree) → (more_function (unit_levels requires (suc m)) outermost x).whole l us behind y
    → (more_decl (unit_levels requires (suc (suc m))) outermost x).whole l us behind y
unfolding more_function unit_levels
step_whole requires m x l us behind y (f, fs, ns, p, w, k) = (f, fs, ns, p, function_decl requires m (deeper (with_names outermost x.2)) x.1 l fs (ns ++ behind) f w, k)

module _ (requires : Bool) (m l : ℕ) where
  chosen_whole : (c : Bool) (n : ℕ) (x : Named UnitTree) (us behind : List Piece) (y : Named UnitTree)
      → ((x : Named UnitTree) (us behind : List Piece) (y : Named UnitTree) → (times n is_not_end (more_function (unit_levels requires (suc m)) outermost) x).whole l us behind y
      → (times n is_not_end (more_decl (unit_levels requires (suc (suc m))) outermost) x).whole l us behind y)
      → Chosen c ((more_function (unit_levels requires (suc m)) outermost x >>= times n is_not_end (more_function (unit_levels requires (suc m)) outermost)).whole l us behind y) ((give x).whole l us behind y)
      → Chosen c ((more_decl (unit_levels requires (suc (suc m))) outermost x >>= times n is_not_end (more_decl (unit_levels requires (suc (suc m))) outermost)).whole l us behind y) ((give x).whole l us behind y)
  chosen_whole true n x us behind y again (z, vs, ws, p, w, k) = (z, vs, ws, p, step_whole requires m x l vs (ws ++ behind) z w, again z ws behind y k)
  chosen_whole false n x us behind y again w = w

  times_whole : (n : ℕ) (x : Named UnitTree) (us behind : List Piece) (y : Named UnitTree) → (times n is_not_end (more_function (unit_levels requires (suc m)) outermost) x).whole l us behind y
      → (times n is_not_end (more_decl (unit_levels requires (suc (suc m))) outermost) x).whole l us behind y
  times_whole zero x us behind y w = absurd w
  times_whole (suc n) x us behind y w = chosen_whole (begins is_not_end (us ++ behind)) n x us behind y (times_whole n) w

unit_whole : (requires : Bool) (m l : ℕ) (us rest : List Piece) (u : UnitTree) → (unit (unit_levels requires (suc m))).whole l us rest u → (unit_of_declarations (unit_levels requires (suc (suc m)))).whole l us rest u
unfolding unit unit_of_declarations
unit_whole requires m l us rest u (x, vs, ws, p, (n, w), k) = (x, vs, ws, p, (n, times_whole requires m l n ([], 0, entered []) vs (ws ++ rest) x w), k)

-- a tree at some number of levels is one at one level more
whole_up : {A : Type 0} {p q : Production A} → Grows no_requires p q → (l : ℕ) (us rest : List Piece) (x : A) → p.whole l us rest x → q.whole l us rest x
whole_up {q} g l us rest x w =
    let s = g.high.sound l (us ++ rest) x rest (ok_further (g.agrees l (us ++ rest)) x rest (g.low.complete l us rest x w)) in
    subst (λ (u : List Piece). q.whole l u rest x) (append_cancel_right s.tree us rest (sym s.split)) s.whole

-- units of declarations in which requires-expressions are not read
abbrev pub read_units : Levelled UnitTree
read_units level = unit_of_declarations (unit_levels no_requires level)

pub read_unit : (limit : ℕ) (ts : List Piece) (u : UnitTree) → IsTreeWithin limit units ts u → IsTreeWithin limit read_units ts u
read_unit limit ts u t = record { level = suc (suc t.level); whole = unit_whole no_requires t.level limit ts [] u (whole_up (units-Grows t.level) limit ts [] u t.whole) }

pub whole_unit : IsPartOf read_units whole_units → (limit : ℕ) (ts : List Piece) (u : UnitTree) → IsTreeWithin limit units ts u → IsTreeWithin limit whole_units ts u
whole_unit part limit ts u t = part.trees limit ts u (read_unit limit ts u t)
