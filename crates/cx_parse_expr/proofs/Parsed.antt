-- What a parser answers, in the words of trees.
use Rattle.std.proofs.Common.{◌≡◌, Bool, ℕ, zero, suc, true, List, [], ◌∷◌, ◌++◌, drop, take, Result, Ok, Err, refl, sym, ap, ◌∙◌, subst, append_assoc}
use Rattle.std.specs.List.{list_all}
use Rattle.std.proofs.lemmas.List.{take-append-drop}
use Rattle.cx_base.specs.Refusal.{Refused, Passed}
use Rattle.cx_base.specs.declared.stop.Stop.{Stop}
use Rattle.cx_base.specs.declared.stop.Stop.TheVariants as stop
use Rattle.cx_lexer.specs.Division.{AreSpelled}
use Rattle.cx_lexer.specs.Tokens.{TokenTree}
use Rattle.cx_grammar.specs.Names.{Context}
use Rattle.cx_grammar.specs.Pieces.{Piece, pieces}
use Rattle.cx_grammar.specs.Production.{Stopped, Ended, At, Stops, Gives}
use Rattle.cx_grammar.specs.Types.{Numbered}
use Rattle.cx_grammar.specs.Laws.{Levelled, Answers, Tree, Fault, TooDeep, Short, WholeTokens, SplitTokens, is_sound}

-- the tokens behind a tree that was read
pub record Behind (ts : List TokenTree) (left : List Piece) : Type 0 where
  pub first : List TokenTree
  pub last : List TokenTree
  pub parts : ts ≡ first ++ last
  pub rest : left ≡ pieces last

behind_or : {A : Type 0} → List Piece → Result (A × List Piece) Stopped → List Piece
behind_or other (Ok x) = x.1
behind_or other (Err e) = other

behind_ok : {A : Type 0} {x y : A} {left : List Piece} (rest : List Piece) → ◌≡◌ {A = Result (A × List Piece) Stopped} (Ok (y, rest)) (Ok (x, left)) → rest ≡ left
unfolding behind_or
behind_ok rest e = ap (behind_or rest) e

behind_tree : {requires : Bool} {A : Type 0} (limit : ℕ) (p : Levelled A) (ts : List TokenTree) (x : A) (left : List Piece) (r : Result (A × List Piece) Stopped)
    → WholeTokens p → list_all is_sound ts ≡ true → Answers requires limit p (pieces ts) r → r ≡ Ok (x, left) → Behind ts left
behind_tree {A = A} limit p ts x left r whole sound (Tree us rest y is far tree) e =
    let both : ◌≡◌ {A = Result (A × List Piece) Stopped} (Ok (y, rest)) (Ok (x, left)) = sym is ∙ e in
    let same : rest ≡ left = behind_ok rest both in
    let parts = whole ts us rest y sound far.split (limit, tree) in
    record { first = parts.first; last = parts.last; parts = parts.split; rest = sym same ∙ parts.lasts }
behind_tree limit p ts x left r whole sound (Fault us t rest q is fault far begins none) e = absurd cc
behind_tree limit p ts x left r whole sound (TooDeep us t rest is parts begins all deep) e = absurd cc
behind_tree limit p ts x left r whole sound (Short is begins none) e = absurd cc

-- .. among all tokens
pub behind : {requires : Bool} {A : Type 0} (limit : ℕ) (p : Levelled A) (from : ℕ) (ts : List TokenTree) (x : A) (left : List Piece) (r : Result (A × List Piece) Stopped)
    → WholeTokens p → list_all is_sound (drop from ts) ≡ true → Answers requires limit p (pieces (drop from ts)) r → r ≡ Ok (x, left)
    → (first last : List TokenTree) × (ts ≡ first ++ last) × (left ≡ pieces last)
behind limit p from ts x left r whole sound answers e =
    let b = behind_tree limit p (drop from ts) x left r whole sound answers e in
    (take from ts ++ b.first, b.last, sym (take-append-drop from ts) ∙ (ap (λ (us : List TokenTree). take from ts ++ us) b.parts ∙ sym (append_assoc (take from ts) b.first b.last)), b.rest)

pub spelled_rest : (from : ℕ) (ts : List TokenTree) → AreSpelled ts → AreSpelled (drop from ts)
spelled_rest zero ts spelled = spelled
spelled_rest (suc from) [] spelled = spelled
spelled_rest (suc from) (t ∷ ts) spelled = spelled_rest from ts spelled.1

-- what holds of a reading holds of the same one
pub moved : {R : Type 0} (P : R → Type 0) (g : Context → ℕ → List Piece → R) (c d : Context) (n m : ℕ) (ts us : List Piece) → c ≡ d → n ≡ m → ts ≡ us → P (g c n ts) → P (g d m us)
moved P g c d n m ts us e f h x = subst (λ (z : Context). P (g z m us)) e (subst (λ (z : ℕ). P (g c z us)) f (subst (λ (z : List Piece). P (g c n z)) h x))
