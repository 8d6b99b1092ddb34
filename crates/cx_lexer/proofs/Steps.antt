-- The reader step by step.
use Rattle.std.proofs.Common.{◌≡◌, ℕ, zero, suc, ◌<◌, ◌≤◌, Bool, true, false, cond, List, [], ◌∷◌, ◌++◌, length, Option, Some, None, Result, Ok, Err, refl, sym, ap, ◌∙◌, subst, arith}
use Rattle.cx_base.specs.Refusal.{Refusal, ◌>>=◌}
use Rattle.cx_base.specs.declared.kind.Kind.{Kind}
use Rattle.std.proofs.Common.{inl, inr}
use Rattle.std.proofs.lemmas.Bool.{cases_Bool}
use Rattle.cx_lexer.specs.declared.token.TokenKind.{TokenKind}
use Rattle.std.proofs.Common.{eqb, drop, append_assoc}
use Rattle.std.specs.Str.{chars}
use Rattle.cx_base.specs.declared.kind.Kind.TheVariants as fault
use Rattle.cx_base.specs.declared.place.Place.{Place}
use Rattle.std.specs.Prelude.{IsUtf8}
use Rattle.std.specs.Str.{is_utf8}
use Rattle.std.specs.Str.Lossy.{utf8_valid_len}
use Rattle.std.proofs.lemmas.Str.{is_utf8-from_IsUtf8, IsUtf8-from_is_utf8}
use Rattle.std.proofs.lemmas.Bool.{false_from_ne_true}
use Rattle.cx_lexer.proofs.PlaceLemmas.{place_at-start}
use Rattle.cx_lexer.specs.Places.{place_at, place_behind, start}
use Rattle.cx_lexer.specs.Tokens.{TokenTree, end_at, text_of}
use Rattle.cx_lexer.specs.Reading.{Spot, Step, gone, before, begins_line, behind_skipped, behind_token, skip_step, skip_within, skip, kind_by, token_fault, fault_step, checked_step, fault_at, spot, start_of, lexed, IsEndOf, joined, read_step, read_from, read, next, is_end, prepend, tokens_within, tokens_from}
use Rattle.cx_lexer.proofs.Ends.{IsBehind, Behind, end_behind, shorter_behind, found_behind, skipped_behind, token_behind}

none_of_nil : (o : Option (List ℕ)) → Behind [] o → o ≡ None
unfolding Behind
none_of_nil None b = refl
none_of_nil (Some rest) b = absurd (let e = b.is in cc)

step_same : (n m : ℕ) (s : Spot) (o : Option (List ℕ)) → Behind s.text o → ((rest : List ℕ) → length rest < length s.text → skip_within n (gone s rest) ≡ skip_within m (gone s rest)) → skip_step (skip_within n) s o ≡ skip_step (skip_within m) s o
unfolding Behind
step_same n m s None b f = refl
step_same n m s (Some rest) b f = f rest (shorter_behind rest s.text b)

-- a reader that has nothing left stays
step_none : (f : Spot → Spot) (s : Spot) (o : Option (List ℕ)) → Behind s.text o → length s.text ≡ 0 → skip_step f s o ≡ s
unfolding Behind
step_none f s None b none = refl
step_none f s (Some rest) b none = absurd (let lt = shorter_behind rest s.text b in omega arith)

stays : (n : ℕ) (s : Spot) → length s.text ≡ 0 → skip_within n s ≡ s
stays zero s none = refl
stays (suc n) s none = step_none (skip_within n) s (behind_skipped (begins_line s.at) s.text) (skipped_behind (begins_line s.at) s.text) none

pub skip_within-enough : (n m : ℕ) (s : Spot) → length s.text ≤ n → length s.text ≤ m → skip_within n s ≡ skip_within m s
skip_within-enough zero m s le me = sym (stays m s (omega arith))
skip_within-enough (suc n) zero s le me = stays (suc n) s (omega arith)
skip_within-enough (suc n) (suc m) s le me =
    step_same n m s (behind_skipped (begins_line s.at) s.text) (skipped_behind (begins_line s.at) s.text) (λ rest lt. skip_within-enough n m (gone s rest) (omega arith) (omega arith))

pub skip_on : (s : Spot) (rest : List ℕ) → Some rest ≡ behind_skipped (begins_line s.at) s.text → skip s ≡ skip (gone s rest)
unfolding skip Behind
skip_on s rest e =
    let b : IsBehind rest s.text = subst (Behind s.text) (sym e) (skipped_behind (begins_line s.at) s.text) in
    let lt = shorter_behind rest s.text b in
    skip_within-enough (length s.text) (suc (length s.text)) s (omega arith) (omega arith)
    ∙ ap (skip_step (skip_within (length s.text)) s) (sym e)
    ∙ skip_within-enough (length s.text) (length rest) (gone s rest) (omega arith) (omega arith)

pub skip_off : (s : Spot) → None ≡ behind_skipped (begins_line s.at) s.text → skip s ≡ s
unfolding skip
skip_off s e =
    skip_within-enough (length s.text) (suc (length s.text)) s (omega arith) (omega arith)
    ∙ ap (skip_step (skip_within (length s.text)) s) (sym e)

-- skipping leaves no more than there was
step_less : (f : Spot → Spot) (s : Spot) (o : Option (List ℕ)) → Behind s.text o → ((rest : List ℕ) → length (f (gone s rest)).text ≤ length rest) → length (skip_step f s o).text ≤ length s.text
unfolding Behind
step_less f s None b g = omega arith
step_less f s (Some rest) b g = omega (arith, g rest, shorter_behind rest s.text b)

skip_within-less : (n : ℕ) (s : Spot) → length (skip_within n s).text ≤ length s.text
skip_within-less zero s = omega arith
skip_within-less (suc n) s = step_less (skip_within n) s (behind_skipped (begins_line s.at) s.text) (skipped_behind (begins_line s.at) s.text) (λ rest. skip_within-less n (gone s rest))

skip-less : (s : Spot) → length (skip s).text ≤ length s.text
unfolding skip
skip-less s = skip_within-less (length s.text) s

-- ---- tokens

-- what is left behind a step that reads a token is less
Shorter : Spot → Result Step Refusal → Type 0
Shorter s (Err e) = Unit {0}
Shorter s (Ok t) = is_end t.token.kind ≡ false → length t.behind.text < length s.text

fault_shorter : (f : Option Kind) (k : TokenKind) (s : Spot) (rest : List ℕ) → length rest < length s.text → Shorter s (fault_step f k s rest)
unfolding Shorter
fault_shorter None k s rest lt = λ e. lt
fault_shorter (Some f) k s rest lt = tt

step_shorter : (c : ℕ) (s : Spot) (o : Option (List ℕ)) → Behind s.text o → Shorter s (read_step c s o)
unfolding Behind Shorter
step_shorter c s None b = tt
step_shorter c s (Some rest) b = fault_shorter (token_fault (kind_by c (text_of (before s.text rest))) (text_of (before s.text rest))) (kind_by c (text_of (before s.text rest))) s rest (shorter_behind rest s.text b)

from_shorter : (s : Spot) (text : List ℕ) → text ≡ s.text → Shorter s (read_from s text)
unfolding Shorter
from_shorter s [] is = λ e. absurd cc
from_shorter s (c ∷ cs) is = step_shorter c s (behind_token (c ∷ cs)) (subst (λ (x : List ℕ). Behind x (behind_token (c ∷ cs))) is (token_behind (c ∷ cs)))

read_shorter : (s : Spot) → Shorter s (read s)
unfolding read
read_shorter s = from_shorter s s.text refl

pub next_shorter : (s : Spot) (t : Step) → next s ≡ Ok t → is_end t.token.kind ≡ false → length t.behind.text < length s.text
unfolding next Shorter
next_shorter s t e more =
    let shorter : Shorter (skip s) (Ok t) = subst (Shorter (skip s)) e (read_shorter (skip s)) in
    omega (arith, shorter more, skip-less s)

pub tokens_end : (s : Spot) (t : Step) → next s ≡ Ok t → is_end t.token.kind ≡ true → tokens_from s ≡ Ok (t.token ∷ [])
unfolding tokens_from
tokens_end s t e end = rw (e, end) refl

pub tokens_fault : (s : Spot) (r : Refusal) → next s ≡ Err r → tokens_from s ≡ Err r
unfolding tokens_from
tokens_fault s r e = rw e refl

-- a step that is not the last goes on with what is left, whatever number of steps is enough
tokens_step : (n : ℕ) (s : Spot) (t : Step) → next s ≡ Ok t → is_end t.token.kind ≡ false → tokens_within (suc n) s ≡ prepend t.token (tokens_within n t.behind)
tokens_step n s t e more = rw (e, more) refl

-- the answer of a step
Follows : ℕ → ℕ → Spot → Result Step Refusal → Type 0
Follows n m s (Err e) = Unit {0}
Follows n m s (Ok t) = is_end t.token.kind ≡ false → tokens_within n t.behind ≡ tokens_within m t.behind

same_tokens : (n m : ℕ) (s : Spot) (r : Result Step Refusal) → Follows n m s r
    → (r >>= (λ t. cond (is_end t.token.kind) (Ok (t.token ∷ [])) (prepend t.token (tokens_within n t.behind)))) ≡ (r >>= (λ t. cond (is_end t.token.kind) (Ok (t.token ∷ [])) (prepend t.token (tokens_within m t.behind))))
unfolding Follows
same_tokens n m s (Err e) f = refl
same_tokens n m s (Ok t) f =
    elim (cases_Bool (is_end t.token.kind)) [
      | inl end ↦ rw end refl
      | inr more ↦ rw more (ap (prepend t.token) (f more))
    ]

follows_shorter : (n m : ℕ) (s : Spot) (r : Result Step Refusal) → Shorter s r → ((t : Step) → length t.behind.text < length s.text → tokens_within n t.behind ≡ tokens_within m t.behind) → Follows n m s r
unfolding Follows Shorter
follows_shorter n m s (Err e) lt f = tt
follows_shorter n m s (Ok t) lt f = λ more. f t (lt more)

wider : (s big : Spot) (r : Result Step Refusal) → length s.text ≤ length big.text → Shorter s r → Shorter big r
unfolding Shorter
wider s big (Err e) le lt = tt
wider s big (Ok t) le lt = λ more. omega (arith, lt more)

next_less : (s : Spot) → Shorter s (next s)
unfolding next
next_less s = wider (skip s) s (read (skip s)) (skip-less s) (read_shorter (skip s))

pub tokens_within-enough : (n m : ℕ) (s : Spot) → length s.text < n → length s.text < m → tokens_within n s ≡ tokens_within m s
tokens_within-enough zero m s ln lm = absurd (omega arith)
tokens_within-enough (suc n) zero s ln lm = absurd (omega arith)
tokens_within-enough (suc n) (suc m) s ln lm =
    same_tokens n m s (next s) (follows_shorter n m s (next s) (next_less s) (λ t lt. tokens_within-enough n m t.behind (omega arith) (omega arith)))

pub tokens_on : (s : Spot) (t : Step) → next s ≡ Ok t → is_end t.token.kind ≡ false → tokens_from s ≡ prepend t.token (tokens_from t.behind)
unfolding tokens_from
tokens_on s t e more =
    let lt = next_shorter s t e more in
    tokens_step (length s.text) s t e more ∙ ap (prepend t.token) (tokens_within-enough (length s.text) (suc (length t.behind.text)) t.behind lt (omega arith))

-- ---- a reader of a unit

mk : Place → List ℕ → Spot
mk at text = record { at = at; text = text }

same_spot : (a b : Place) (t u : List ℕ) → a ≡ b → t ≡ u → mk a t ≡ mk b u
same_spot a b t u e f = rw (e, f) refl

pub spot_gone : (src left result : List ℕ) (from to : ℕ) (at here : Place) → at ≡ place_at src from → here ≡ place_at src to → drop to src ≡ left → result ≡ text_of (before (chars (drop from src)) (chars left)) → here ≡ place_behind at result → spot src to ≡ gone (spot src from) (chars left)
unfolding mk
spot_gone src left result from to at here at_is here_is left_is result_is step =
    same_spot _ _ _ _ (sym here_is ∙ step ∙ ap (λ (p : Place). place_behind p result) at_is ∙ ap (place_behind (place_at src from)) result_is) (ap chars left_is)

pub skipped_here : (src here : List ℕ) (from : ℕ) (at : Place) (o : Option (List ℕ)) → at ≡ place_at src from → here ≡ drop from src → o ≡ behind_skipped (eqb at.col 1) (chars here) → o ≡ behind_skipped (begins_line (place_at src from)) (chars (drop from src))
skipped_here src here from at o at_is here_is e = e ∙ ap (λ (p : Place). behind_skipped (begins_line p) (chars here)) at_is ∙ ap (λ (x : List ℕ). behind_skipped (begins_line (place_at src from)) (chars x)) here_is

pub skipped_end : (b : Bool) (text rest : List ℕ) → Some rest ≡ behind_skipped b text → IsEndOf rest text
skipped_end b text rest e = end_behind rest text (found_behind text rest _ (skipped_behind b text) e)

pub skipped_shorter : (b : Bool) (text rest : List ℕ) → Some rest ≡ behind_skipped b text → length rest < length text
skipped_shorter b text rest e = shorter_behind rest text (found_behind text rest _ (skipped_behind b text) e)

pub token_ends : (text rest : List ℕ) → Some rest ≡ behind_token text → IsEndOf rest text
token_ends text rest e = end_behind rest text (found_behind text rest _ (token_behind text) e)

pub read_end : (s : Spot) → s.text ≡ [] → read s ≡ Ok (record { token = end_at s.at; behind = s })
unfolding read
read_end s none = ap (read_from s) none

read_at : (s : Spot) (c : ℕ) (cs : List ℕ) (o : Option (List ℕ)) → s.text ≡ c ∷ cs → o ≡ behind_token s.text → read s ≡ read_step c s o
unfolding read
read_at s c cs o begins e = ap (read_from s) begins ∙ ap (read_step c s) (ap behind_token (sym begins) ∙ sym e)

pub read_none : (s : Spot) (c : ℕ) (cs : List ℕ) → s.text ≡ c ∷ cs → None ≡ behind_token s.text → read s ≡ Err (fault_at fault.BadToken s.at)
read_none s c cs begins e = read_at s c cs None begins e

checked : (s : Spot) (c : ℕ) (rest text : List ℕ) (k : TokenKind) (f : Option Kind) → text ≡ text_of (before s.text rest) → k ≡ kind_by c text → f ≡ token_fault k text → read_step c s (Some rest) ≡ fault_step f k s rest
checked s c rest text k f is kd e =
    ap (checked_step c s rest) (sym is) ∙ ap (λ (x : TokenKind). fault_step (token_fault x text) x s rest) (sym kd) ∙ ap (λ (o : Option Kind). fault_step o k s rest) (sym e)

pub read_bad : (s : Spot) (c : ℕ) (cs rest text : List ℕ) (k : TokenKind) (f : Kind) → s.text ≡ c ∷ cs → Some rest ≡ behind_token s.text → text ≡ text_of (before s.text rest) → k ≡ kind_by c text → Some f ≡ token_fault k text → read s ≡ Err (fault_at f s.at)
read_bad s c cs rest text k f begins e is kd bad = read_at s c cs (Some rest) begins e ∙ checked s c rest text k (Some f) is kd bad

tree : TokenKind → List ℕ → Place → TokenTree
tree k text at = record { kind = k; text = text; at = at }

step_of : TokenTree → Spot → Result Step Refusal
step_of t b = Ok (record { token = t; behind = b })

pub read_ok : (s : Spot) (c : ℕ) (cs rest text : List ℕ) (k : TokenKind) → s.text ≡ c ∷ cs → Some rest ≡ behind_token s.text → text ≡ text_of (before s.text rest) → k ≡ kind_by c text → None ≡ token_fault k text → read s ≡ Ok (record { token = record { kind = k; text = text; at = s.at }; behind = gone s rest })
unfolding tree step_of
read_ok s c cs rest text k begins e is kd good =
    read_at s c cs (Some rest) begins e ∙ checked s c rest text k None is kd good ∙ ap (λ (x : List ℕ). step_of (tree k x s.at) (gone s rest)) (sym is)

pub next_is : (s here : Spot) (r : Result Step Refusal) → here ≡ skip s → read here ≡ r → next s ≡ r
unfolding next
next_is s here r e f = ap read (sym e) ∙ f

-- ---- tokens read so far

pub joined_none : (r : Result (List TokenTree) Refusal) → joined [] r ≡ r
joined_none (Ok ts) = refl
joined_none (Err e) = refl

pub joined_more : (ts : List TokenTree) (t : TokenTree) (r : Result (List TokenTree) Refusal) → joined ts (prepend t r) ≡ joined (ts ++ t ∷ []) r
joined_more ts t (Ok us) = ap (λ (x : List TokenTree). Ok x) (sym (append_assoc ts (t ∷ []) us))
joined_more ts t (Err e) = refl

-- ---- the same at an offset of a unit

pub unit_end : (src here : List ℕ) (from : ℕ) (at : Place) → at ≡ place_at src from → here ≡ drop from src → chars here ≡ [] → read (spot src from) ≡ Ok (record { token = end_at at; behind = spot src from })
unfolding step_of
unit_end src here from at at_is here_is none =
    read_end (spot src from) (sym (ap chars here_is) ∙ none) ∙ ap (λ (p : Place). step_of (end_at p) (spot src from)) (sym at_is)

pub unit_none : (src here : List ℕ) (from : ℕ) (at : Place) (c : ℕ) (cs : List ℕ) → at ≡ place_at src from → here ≡ drop from src → chars here ≡ c ∷ cs → None ≡ behind_token (chars here) → read (spot src from) ≡ Err (fault_at fault.BadToken at)
unit_none src here from at c cs at_is here_is begins e =
    rw at_is (read_none (spot src from) c cs (sym (ap chars here_is) ∙ begins) (e ∙ ap (λ (x : List ℕ). behind_token (chars x)) here_is))

pub unit_token_ends : (src here : List ℕ) (from : ℕ) (rest : List ℕ) → here ≡ drop from src → Some rest ≡ behind_token (chars here) → IsEndOf rest (chars (drop from src))
unit_token_ends src here from rest here_is e = token_ends (chars (drop from src)) rest (e ∙ ap (λ (x : List ℕ). behind_token (chars x)) here_is)

pub unit_bad : (src here left text : List ℕ) (from : ℕ) (at : Place) (c : ℕ) (cs : List ℕ) (k : TokenKind) (f : Kind) → at ≡ place_at src from → here ≡ drop from src → chars here ≡ c ∷ cs → Some (chars left) ≡ behind_token (chars here) → text ≡ text_of (before (chars (drop from src)) (chars left)) → k ≡ kind_by c text → Some f ≡ token_fault k text → read (spot src from) ≡ Err (fault_at f at)
unit_bad src here left text from at c cs k f at_is here_is begins e text_is kind_is bad =
    rw at_is (read_bad (spot src from) c cs (chars left) text k f (sym (ap chars here_is) ∙ begins) (e ∙ ap (λ (x : List ℕ). behind_token (chars x)) here_is) text_is kind_is bad)

pub unit_ok : (src here left text : List ℕ) (from to : ℕ) (at there : Place) (c : ℕ) (cs : List ℕ) (k : TokenKind) → at ≡ place_at src from → there ≡ place_at src to → drop to src ≡ left → there ≡ place_behind at text → here ≡ drop from src → chars here ≡ c ∷ cs → Some (chars left) ≡ behind_token (chars here) → text ≡ text_of (before (chars (drop from src)) (chars left)) → k ≡ kind_by c text → None ≡ token_fault k text → read (spot src from) ≡ Ok (record { token = record { kind = k; text = text; at = at }; behind = spot src to })
unfolding tree step_of
unit_ok src here left text from to at there c cs k at_is there_is left_is step here_is begins e text_is kind_is good =
    read_ok (spot src from) c cs (chars left) text k (sym (ap chars here_is) ∙ begins) (e ∙ ap (λ (x : List ℕ). behind_token (chars x)) here_is) text_is kind_is good
    ∙ ap (λ (b : Spot). step_of (tree k text (place_at src from)) b) (sym (spot_gone src left text from to at there at_is there_is left_is text_is step))
    ∙ ap (λ (p : Place). step_of (tree k text p) (spot src to)) (sym at_is)

pub next_ok : (src other : List ℕ) (from skipped to : ℕ) (t : TokenTree) → spot src skipped ≡ skip (spot src from) → other ≡ src → read (spot other skipped) ≡ Ok (record { token = t; behind = spot other to }) → next (spot src from) ≡ Ok (record { token = t; behind = spot src to })
unfolding step_of
next_ok src other from skipped to t e same f =
    next_is (spot src from) (spot src skipped) (step_of t (spot src to)) e (subst (λ (x : List ℕ). read (spot x skipped) ≡ step_of t (spot x to)) same f)

pub next_err : (src other : List ℕ) (from skipped : ℕ) (r : Refusal) → spot src skipped ≡ skip (spot src from) → other ≡ src → read (spot other skipped) ≡ Err r → next (spot src from) ≡ Err r
next_err src other from skipped r e same f =
    next_is (spot src from) (spot src skipped) (Err r) e (subst (λ (x : List ℕ). read (spot x skipped) ≡ Err r) same f)

-- ---- the loop over a unit

pub loop_end : (ts : List TokenTree) (s : Spot) (t : Step) (whole : Result (List TokenTree) Refusal) → next s ≡ Ok t → is_end t.token.kind ≡ true → joined ts (tokens_from s) ≡ whole → whole ≡ Ok (ts ++ t.token ∷ [])
loop_end ts s t whole e end so_far = sym so_far ∙ ap (joined ts) (tokens_end s t e end)

pub loop_on : (ts : List TokenTree) (s : Spot) (t : Step) (whole : Result (List TokenTree) Refusal) → next s ≡ Ok t → is_end t.token.kind ≡ false → joined ts (tokens_from s) ≡ whole → joined (ts ++ t.token ∷ []) (tokens_from t.behind) ≡ whole
loop_on ts s t whole e more so_far = sym (joined_more ts t.token (tokens_from t.behind)) ∙ ap (joined ts) (sym (tokens_on s t e more)) ∙ so_far

pub loop_fault : (ts : List TokenTree) (s : Spot) (r : Refusal) (whole : Result (List TokenTree) Refusal) → next s ≡ Err r → joined ts (tokens_from s) ≡ whole → whole ≡ Err r
loop_fault ts s r whole e so_far = sym so_far ∙ ap (joined ts) (tokens_fault s r e)

pub at_unit_ok : (src other : List ℕ) (from to : ℕ) (t : TokenTree) → other ≡ src → next (spot other from) ≡ Ok (record { token = t; behind = spot other to }) → next (spot src from) ≡ Ok (record { token = t; behind = spot src to })
unfolding step_of
at_unit_ok src other from to t same f = subst (λ (x : List ℕ). next (spot x from) ≡ step_of t (spot x to)) same f

pub at_unit_err : (src other : List ℕ) (from : ℕ) (r : Refusal) → other ≡ src → next (spot other from) ≡ Err r → next (spot src from) ≡ Err r
at_unit_err src other from r same f = subst (λ (x : List ℕ). next (spot x from) ≡ Err r) same f

pub loop_start : (src : List ℕ) (from : ℕ) (ts : List TokenTree) → from ≡ 0 → ts ≡ [] → joined ts (tokens_from (spot src from)) ≡ tokens_from (start_of src)
unfolding mk
loop_start src from ts from_is none =
    ap (λ (x : List TokenTree). joined x (tokens_from (spot src from))) none ∙ joined_none (tokens_from (spot src from)) ∙ ap (λ (n : ℕ). tokens_from (spot src n)) from_is
    ∙ ap tokens_from (same_spot (place_at src 0) start (chars (drop 0 src)) (chars src) (place_at-start src) refl)

abbrev pub ok_of : List TokenTree → Result (List TokenTree) Refusal
ok_of ts = Ok ts

err_of : Refusal → Result (List TokenTree) Refusal
err_of r = Err r

pub same_refusal : (whole : Result (List TokenTree) Refusal) (r q : Refusal) → whole ≡ Err r → q ≡ r → whole ≡ Err q
unfolding err_of
same_refusal whole r q e same = e ∙ ap err_of (sym same)

pub lexed_text : (src text : List ℕ) → text ≡ src → IsUtf8 src → lexed src ≡ tokens_from (start_of text)
unfolding lexed
lexed_text src text same u = rw (is_utf8-from_IsUtf8 src u) (ap (λ (x : List ℕ). tokens_from (start_of x)) (sym same))

pub lexed_bad : (src : List ℕ) (n : ℕ) (at : Place) (r : Refusal) → (IsUtf8 src → ⊥) → n ≡ utf8_valid_len src → at ≡ place_at src n → r ≡ fault_at fault.BadByte at → lexed src ≡ Err r
unfolding lexed err_of
lexed_bad src n at r bad n_is at_is r_is =
    let no : is_utf8 src ≡ false = false_from_ne_true (is_utf8 src) (λ e. bad (IsUtf8-from_is_utf8 src e)) in
    rw no (ap (λ (p : Place). err_of (fault_at fault.BadByte p)) (sym (at_is ∙ ap (place_at src) n_is)) ∙ ap err_of (sym r_is))
