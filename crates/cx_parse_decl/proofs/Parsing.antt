-- What is read of a unit, from what is read of its functions.
use Rattle.std.proofs.Common.{◌≡◌, ℕ, suc, ◌≤◌, Bool, true, false, not, true≢false, List, [], ◌∷◌, length, Result, Ok, refl, sym, ap, ◌∙◌, subst, arith}
use Rattle.cx_base.specs.Refusal as refusals
use Rattle.cx_base.specs.declared.stop.Stop.{Stop}
use Rattle.cx_base.specs.declared.stop.Stop.TheVariants as stop
use Rattle.cx_lexer.specs.Tokens.{TokenTree}
use Rattle.cx_scope.specs.Frames.{Frames, entered}
use Rattle.cx_tree.specs.Declarations.{UnitTree}
use Rattle.cx_grammar.specs.Pieces.{Piece, pieces}
use Rattle.cx_grammar.specs.Production.{Stopped, Stops, ◌>>>◌, read_token, times, repeat}
use Rattle.cx_grammar.specs.Expressions.{no_requires}
use Rattle.cx_grammar.specs.Declarations.{unit_levels}
use Rattle.cx_grammar.specs.Types.{Named}
use Rattle.cx_grammar.specs.Declarations.{is_not_end}
use Rattle.cx_parse_decl.specs.Functions.{more_function, outermost, is_end, unit}
use Rattle.cx_parse_decl.specs.Units.{depth, answer, unit_at}
use Rattle.cx_parse_decl.specs.Views.{AtEnd}

-- what is read of functions from some names on
abbrev pub Functions : Type 0
Functions = Result (Named UnitTree × List Piece) Stopped

abbrev pub functions_read : ℕ → Frames → List Piece → Functions
functions_read n names ps = (repeat is_not_end (more_function (unit_levels no_requires depth) outermost) ([], n, names)).read 256 ps

pub functions_start : (items : UnitTree) (n : ℕ) (names : Frames) (ps : List Piece) → items ≡ []
    → (k : ℕ) × (length ps ≤ k) × ((times (suc k) is_not_end (more_function (unit_levels no_requires depth) outermost) (items, n, names)).read 256 ps ≡ functions_read n names ps)
functions_start items n names ps e =
    (length ps, omega arith, ap (λ (z : UnitTree). (times (suc (length ps)) is_not_end (more_function (unit_levels no_requires depth) outermost) (z, n, names)).read 256 ps) e)

pub goes_on : (end more : Bool) → end ≡ not more → end ≡ false → more ≡ true
goes_on end true e f = refl
goes_on end false e f = absurd (true≢false (sym e ∙ f))

-- ... and then the end
abbrev then_end : Functions → Result UnitTree refusals.Refusal
then_end m = answer (m >>> (λ r. read_token 0 is_end 256 r.1 >>> (λ e. Ok (r.0.0, e.1))))

unit_is : (ts : List TokenTree) → unit_at ts ≡ then_end (functions_read 0 (entered []) (pieces ts))
unfolding unit_at unit
unit_is ts = refl

end_read : (x : Named UnitTree) (rest : List Piece) → AtEnd rest → then_end (Ok (x, rest)) ≡ Ok x.0
unfolding read_token
end_read x [] end = absurd end
end_read x (p ∷ ps) end = rw end refl

same_start : (ts : List TokenTree) (n : ℕ) (names : Frames) (ps : List Piece) → n ≡ 0 → names ≡ entered [] → ps ≡ pieces ts → functions_read n names ps ≡ functions_read 0 (entered []) (pieces ts)
same_start ts n names ps d e f = λ i. functions_read (d i) (e i) (f i)

pub unit_read : (ts : List TokenTree) (n : ℕ) (names : Frames) (ps : List Piece) (x : Named UnitTree) (rest : List Piece)
    → n ≡ 0 → names ≡ entered [] → ps ≡ pieces ts → functions_read n names ps ≡ Ok (x, rest) → AtEnd rest → unit_at ts ≡ Ok x.0
unit_read ts n names ps x rest d e f read end =
    unit_is ts ∙ (ap (λ (m : Functions). then_end m) (sym (same_start ts n names ps d e f) ∙ read) ∙ end_read x rest end)

stopped : (m : Functions) (e : Stop) → Stops e m → refusals.Stops e (then_end m)
stopped m stop.NoMemory s = tt
stopped m (stop.Fault f) s = ap (λ (z : Functions). then_end z) s
stopped m (stop.Limit l at) s = ap (λ (z : Functions). then_end z) s

pub unit_stopped : (ts : List TokenTree) (n : ℕ) (names : Frames) (ps : List Piece) (e : Stop)
    → n ≡ 0 → names ≡ entered [] → ps ≡ pieces ts → Stops e (functions_read n names ps) → refusals.Stops e (unit_at ts)
unit_stopped ts n names ps e d s f stops =
    subst (λ (z : Result UnitTree refusals.Refusal). refusals.Stops e z) (sym (unit_is ts))
    (stopped (functions_read 0 (entered []) (pieces ts)) e (subst (λ (z : Functions). Stops e z) (same_start ts n names ps d s f) stops))
