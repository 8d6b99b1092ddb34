-- What a reader finds comes of a division, and nothing else does.
use Rattle.std.proofs.Common.{◌≡◌, ◌≢◌, ℕ, zero, suc, ◌<◌, ◌≤◌, true, false, inl, inr, List, [], ◌∷◌, ◌++◌, length, take, drop, Option, Some, None, Result, Ok, Err, refl, sym, ap, ap₂, ◌∙◌, subst, arith}
use Rattle.std.specs.Prelude.{IsTrue}
use Rattle.std.specs.Str.{chars, is_utf8}
use Rattle.std.specs.Str.Lossy.{utf8_valid_len}
use Rattle.std.proofs.lemmas.Bool.{cases_Bool, both_ways}
use Rattle.std.proofs.Math.Seq.{drop-append_seam}
use Rattle.std.proofs.lemmas.List.{length-append}
use Rattle.std.proofs.lemmas.Str.{is_utf8-from_IsUtf8, IsUtf8-from_is_utf8}
use Rattle.cx_base.specs.Refusal.{Refusal, Gives}
use Rattle.cx_base.specs.declared.stop.Stop.{Stop}
use Rattle.cx_base.specs.declared.kind.Kind.{Kind}
use Rattle.cx_base.specs.declared.kind.Kind.TheVariants as fault
use Rattle.cx_base.specs.declared.place.Place.{Place}
use Rattle.cx_lexer.specs.declared.token.TokenKind.{TokenKind}
use Rattle.cx_lexer.specs.declared.token.TokenKind.TheVariants as kind
use Rattle.cx_lexer.specs.Literals.{is_literal, type_of}
use Rattle.cx_lexer.specs.Places.{place_of, place_at, place_behind, start, begins_line}
use Rattle.cx_lexer.specs.Tokens.{text_of, is_number, IsSpelling, TokenTree, end_at, prepend, fault_at}
use Rattle.cx_lexer.specs.Division.{IsLongest, IsInt, IsToken, IsStuck, IsSkipped, NothingSkipped, Piece, Skipped, Read, IsLast, token_at, IsDivided, AreTokens, ComesFrom, IsNext}
use Rattle.cx_lexer.specs.Reading.{Spot, Step, before, gone, behind_skipped, behind_token, read, next, kind_by, number_fault, token_fault, is_end, tokens_within, tokens_from, spot, lexed}
use Rattle.cx_lexer.proofs.PlaceLemmas.{place_of-append, place_of-nil}
use Rattle.cx_lexer.proofs.Goes.{cut}
use Rattle.cx_lexer.proofs.Steps.{skip_on, skip_off, read_end, read_none, read_bad, read_ok, tokens_end, tokens_fault, tokens_on, tokens_within-enough, skipped_shorter}
use Rattle.cx_lexer.proofs.SkippedPieces.{head_same, Skip, skipped_found, nothing_skipped, same_skipped}
use Rattle.cx_lexer.proofs.FirstCharacters.{empty_unspelled}
use Rattle.cx_lexer.proofs.LongestPieces.{Longest, token_found, token_none, same_front, same_longest, no_longest}
use Rattle.cx_lexer.proofs.TokenKinds.{kind_spells, one_kind, not_end, no_end, fault_of_int, number_good, number_bad}

-- ---- where a reader stands

abbrev spot_at : Place → List ℕ → Spot
spot_at at text = record { at = at; text = text }

-- behind some bytes
abbrev spot_behind : List ℕ → List ℕ → Spot
spot_behind bytes text = spot_at (place_of bytes) text

same_spot : (a b : Place) (text : List ℕ) → a ≡ b → spot_at a text ≡ spot_at b text
same_spot a b text e = ap (λ (p : Place). spot_at p text) e

before_is : (text piece rest : List ℕ) → text ≡ piece ++ rest → before text rest ≡ piece
before_is text piece rest parts = (cut text piece rest parts).taken

gone_is : (bytes text piece rest : List ℕ) → text ≡ piece ++ rest → gone (spot_behind bytes text) rest ≡ spot_behind (bytes ++ text_of piece) rest
gone_is bytes text piece rest parts =
    same_spot _ _ rest (ap (λ (x : List ℕ). place_behind (place_of bytes) (text_of x)) (before_is text piece rest parts) ∙ sym (place_of-append bytes (text_of piece)))

-- ---- a reader's steps

same_step : (n : ℕ) (s t : Spot) → next s ≡ next t → tokens_within (suc n) s ≡ tokens_within (suc n) t
same_step n s t e = rw e refl

tokens_same : (s t : Spot) → next s ≡ next t → length t.text ≤ length s.text → tokens_from s ≡ tokens_from t
unfolding tokens_from
tokens_same s t e le = same_step (length s.text) s t e ∙ tokens_within-enough (suc (length s.text)) (suc (length t.text)) t (omega arith) (omega arith)

tokens_skipped : (s : Spot) (rest : List ℕ) → Some rest ≡ behind_skipped (begins_line s.at) s.text → tokens_from s ≡ tokens_from (gone s rest)
unfolding next
tokens_skipped s rest e =
    let lt : length rest < length s.text = skipped_shorter (begins_line s.at) s.text rest e in
    tokens_same s (gone s rest) (ap read (skip_on s rest e)) (omega arith)

next_here : (s : Spot) → None ≡ behind_skipped (begins_line s.at) s.text → next s ≡ read s
unfolding next
next_here s e = ap read (skip_off s e)

-- ---- what a reader finds comes of a division

pub record Divides (bytes text : List ℕ) (r : Result (List TokenTree) Refusal) : Type 0 where
  pub pieces : List Piece
  pub are : IsDivided bytes text pieces r

over : (bytes text : List ℕ) (r : Result (List TokenTree) Refusal) → NothingSkipped (begins_line (place_of bytes)) text → text ≡ [] → r ≡ Ok (end_at (place_of bytes) ∷ []) → Divides bytes text r
over bytes text r nothing none e = record { pieces = []; are = (nothing, inl (none, e)) }

stuck : (bytes text : List ℕ) (r : Result (List TokenTree) Refusal) (k : Kind) → NothingSkipped (begins_line (place_of bytes)) text → IsStuck text k → r ≡ Err (fault_at k (place_of bytes)) → Divides bytes text r
stuck bytes text r k nothing is e = record { pieces = []; are = (nothing, inr (k, is, e)) }

skipped : (bytes text piece rest : List ℕ) (r q : Result (List TokenTree) Refusal) → text ≡ piece ++ rest → IsSkipped (begins_line (place_of bytes)) piece rest → r ≡ q → Divides (bytes ++ text_of piece) rest q → Divides bytes text r
skipped bytes text piece rest r q parts is e d =
    record { pieces = Skipped piece ∷ d.pieces; are = (rest, parts, is, subst (IsDivided (bytes ++ text_of piece) rest d.pieces) (sym e) d.are) }

read_piece : (bytes text piece rest : List ℕ) (k : TokenKind) (r others : Result (List TokenTree) Refusal) → text ≡ piece ++ rest → NothingSkipped (begins_line (place_of bytes)) text → IsToken k piece text → r ≡ prepend (token_at bytes k piece) others → Divides (bytes ++ text_of piece) rest others → Divides bytes text r
read_piece bytes text piece rest k r others parts nothing is e d = record { pieces = Read piece ∷ d.pieces; are = (rest, parts, nothing, k, is, others, d.are, e) }

-- a longest piece that a fault was found in
stuck_number : (text piece : List ℕ) (k : Kind) → IsLongest piece text → text ≢ [] → is_number piece ≡ true → number_fault (text_of piece) ≡ Some k → IsStuck text k
stuck_number text piece k l some number e =
    elim (number_bad (text_of piece) k e) [
      | inl big ↦ inl (record { piece = piece; longest = l; number = number; literal = big.0; untyped = big.1 }, big.2)
      | inr bad ↦ inr (record { some = some; bad = λ other m. subst (λ (x : List ℕ). IsTrue (is_number x) × ¬ (IsTrue (is_literal (text_of x)))) (same_longest text piece other l m) (number, bad.0) }, bad.1)
    ]

good_number : (k : TokenKind) (piece : List ℕ) → token_fault k (text_of piece) ≡ None → k ≡ kind.Int → IsInt (text_of piece)
good_number k piece good is = number_good (text_of piece) (sym (ap (λ (x : TokenKind). token_fault x (text_of piece)) is) ∙ good)

int_number : (k : TokenKind) (piece : List ℕ) → IsSpelling k piece → k ≡ kind.Int → is_number piece ≡ true
int_number k piece spelling is = subst (λ (x : TokenKind). IsSpelling x piece) is spelling

abbrev step : TokenTree → Spot → Result Step Refusal
step t s = Ok (record { token = t; behind = s })

text_before : (c : ℕ) (cs others rest : List ℕ) → c ∷ cs ≡ (c ∷ others) ++ rest → text_of (c ∷ others) ≡ text_of (before (c ∷ cs) rest)
text_before c cs others rest parts = sym (ap text_of (before_is (c ∷ cs) (c ∷ others) rest parts))

read_good : (bytes : List ℕ) (c : ℕ) (cs others rest : List ℕ) → c ∷ cs ≡ (c ∷ others) ++ rest → Some rest ≡ behind_token (c ∷ cs)
    → None ≡ token_fault (kind_by c (text_of (c ∷ others))) (text_of (c ∷ others))
    → read (spot_behind bytes (c ∷ cs)) ≡ step (token_at bytes (kind_by c (text_of (c ∷ others))) (c ∷ others)) (spot_behind (bytes ++ text_of (c ∷ others)) rest)
read_good bytes c cs others rest parts e good =
    let text = text_of (c ∷ others) in
    read_ok (spot_behind bytes (c ∷ cs)) c cs rest text (kind_by c text) refl e (text_before c cs others rest parts) refl good
    ∙ ap (step (token_at bytes (kind_by c text) (c ∷ others))) (gone_is bytes (c ∷ cs) (c ∷ others) rest parts)

-- the text of a place divides, where each shorter text does
abbrev Shorter : ℕ → Type 0
Shorter n = (bytes text : List ℕ) → length text < n → Divides bytes text (tokens_from (spot_behind bytes text))

at_piece : (bytes : List ℕ) (c : ℕ) (cs others rest : List ℕ) (f : Option Kind) → NothingSkipped (begins_line (place_of bytes)) (c ∷ cs) → next (spot_behind bytes (c ∷ cs)) ≡ read (spot_behind bytes (c ∷ cs))
    → c ∷ cs ≡ (c ∷ others) ++ rest → IsLongest (c ∷ others) (c ∷ cs) → Some rest ≡ behind_token (c ∷ cs)
    → f ≡ token_fault (kind_by c (text_of (c ∷ others))) (text_of (c ∷ others))
    → Shorter (length (c ∷ cs)) → Divides bytes (c ∷ cs) (tokens_from (spot_behind bytes (c ∷ cs)))
at_piece bytes c cs others rest None nothing here parts l e good shorter =
    let s = spot_behind bytes (c ∷ cs) in
    let text = text_of (c ∷ others) in
    let k : TokenKind = kind_by c text in
    let spelling : IsSpelling k (c ∷ others) = kind_spells c others l.spelled in
    let t : Step = record { token = token_at bytes k (c ∷ others); behind = spot_behind (bytes ++ text) rest } in
    let on = tokens_on s t (here ∙ read_good bytes c cs others rest parts e good) (not_end (c ∷ others) k spelling) in
    let is : IsToken k (c ∷ others) (c ∷ cs) = record { longest = l; spelling = spelling; int = λ int. good_number k (c ∷ others) (sym good) int } in
    let less : length rest < length (c ∷ cs) = omega (arith, ap length parts, length-append (c ∷ others) rest) in
    read_piece bytes (c ∷ cs) (c ∷ others) rest k (tokens_from s) (tokens_from t.behind) parts nothing is on (shorter (bytes ++ text) rest less)
at_piece bytes c cs others rest (Some f) nothing here parts l e bad shorter =
    let s = spot_behind bytes (c ∷ cs) in
    let text = text_of (c ∷ others) in
    let int = fault_of_int (kind_by c text) text f (sym bad) in
    let number = int_number (kind_by c text) (c ∷ others) (kind_spells c others l.spelled) int.0 in
    let is_fault = tokens_fault s (fault_at f (place_of bytes)) (here ∙ read_bad s c cs rest text (kind_by c text) f refl e (text_before c cs others rest parts) refl bad) in
    stuck bytes (c ∷ cs) (tokens_from s) f nothing (stuck_number (c ∷ cs) (c ∷ others) f l (λ none. cc) number int.1) is_fault

-- a longest piece begins with the text's first character
at_longest : (bytes : List ℕ) (c : ℕ) (cs piece rest : List ℕ) → NothingSkipped (begins_line (place_of bytes)) (c ∷ cs) → next (spot_behind bytes (c ∷ cs)) ≡ read (spot_behind bytes (c ∷ cs))
    → c ∷ cs ≡ piece ++ rest → IsLongest piece (c ∷ cs) → Some rest ≡ behind_token (c ∷ cs) → Shorter (length (c ∷ cs)) → Divides bytes (c ∷ cs) (tokens_from (spot_behind bytes (c ∷ cs)))
at_longest bytes c cs [] rest nothing here parts l e shorter = absurd (empty_unspelled l.spelled.0 l.spelled.1)
at_longest bytes c cs (d ∷ others) rest nothing here parts l e shorter =
    let same : d ∷ others ≡ c ∷ others = ap (λ (x : ℕ). x ∷ others) (sym (head_same c d cs (others ++ rest) parts)) in
    at_piece bytes c cs others rest (token_fault (kind_by c (text_of (c ∷ others))) (text_of (c ∷ others))) nothing here
    (parts ∙ ap (λ (x : List ℕ). x ++ rest) same) (subst (λ (x : List ℕ). IsLongest x (c ∷ cs)) same l) e refl shorter

at_token : (bytes : List ℕ) (c : ℕ) (cs : List ℕ) (o : Option (List ℕ)) → NothingSkipped (begins_line (place_of bytes)) (c ∷ cs) → next (spot_behind bytes (c ∷ cs)) ≡ read (spot_behind bytes (c ∷ cs))
    → o ≡ behind_token (c ∷ cs) → Shorter (length (c ∷ cs)) → Divides bytes (c ∷ cs) (tokens_from (spot_behind bytes (c ∷ cs)))
at_token bytes c cs None nothing here e shorter =
    let s = spot_behind bytes (c ∷ cs) in
    stuck bytes (c ∷ cs) (tokens_from s) fault.BadToken nothing (inr (record { some = λ none. cc; bad = λ piece l. absurd (token_none (c ∷ cs) (sym e) piece l) }, refl))
    (tokens_fault s (fault_at fault.BadToken (place_of bytes)) (here ∙ read_none s c cs refl e))
at_token bytes c cs (Some rest) nothing here e shorter =
    let l : Longest (c ∷ cs) rest = token_found c cs rest (sym e) in
    at_longest bytes c cs l.piece rest nothing here l.parts l.is e shorter

at_text : (bytes text : List ℕ) → NothingSkipped (begins_line (place_of bytes)) text → next (spot_behind bytes text) ≡ read (spot_behind bytes text) → Shorter (length text) → Divides bytes text (tokens_from (spot_behind bytes text))
at_text bytes [] nothing here shorter =
    let s = spot_behind bytes [] in
    over bytes [] (tokens_from s) nothing refl (tokens_end s (record { token = end_at (place_of bytes); behind = s }) (here ∙ read_end s refl) refl)
at_text bytes (c ∷ cs) nothing here shorter = at_token bytes c cs (behind_token (c ∷ cs)) nothing here refl shorter

at_front : (bytes text : List ℕ) (o : Option (List ℕ)) → o ≡ behind_skipped (begins_line (place_of bytes)) text → Shorter (length text) → Divides bytes text (tokens_from (spot_behind bytes text))
at_front bytes text None e shorter = at_text bytes text (nothing_skipped (begins_line (place_of bytes)) text (sym e)) (next_here (spot_behind bytes text) e) shorter
at_front bytes text (Some rest) e shorter =
    let k : Skip (begins_line (place_of bytes)) text rest = skipped_found (begins_line (place_of bytes)) text rest (sym e) in
    skipped bytes text k.piece rest (tokens_from (spot_behind bytes text)) (tokens_from (spot_behind (bytes ++ text_of k.piece) rest)) k.parts k.skipped
    (tokens_skipped (spot_behind bytes text) rest e ∙ ap tokens_from (gone_is bytes text k.piece rest k.parts))
    (shorter (bytes ++ text_of k.piece) rest (skipped_shorter (begins_line (place_of bytes)) text rest e))

divides_within : (n : ℕ) → Shorter n
divides_within zero bytes text lt = absurd (omega arith)
divides_within (suc n) bytes text lt =
    at_front bytes text (behind_skipped (begins_line (place_of bytes)) text) refl (λ more rest less. divides_within n more rest (omega arith))

pub divides : (bytes text : List ℕ) → Divides bytes text (tokens_from (spot_behind bytes text))
divides bytes text = divides_within (suc (length text)) bytes text (omega arith)

-- ---- a text has one division

abbrev err_of : Refusal → Result (List TokenTree) Refusal
err_of f = Err f

stuck_some : (k : Kind) → IsStuck [] k → ⊥
stuck_some k (inl big) = no_longest big.0.piece big.0.longest
stuck_some k (inr bad) = bad.0.some refl

-- a longest piece that is a number is an Int, where it is a token
number_token : (text piece : List ℕ) (k : TokenKind) → IsToken k piece text → is_number piece ≡ true → IsInt (text_of piece)
number_token text piece k t number = t.int (one_kind piece k kind.Int t.spelling number)

-- no token stands where something is wrong
stuck_no_token : (text piece : List ℕ) (k : TokenKind) (f : Kind) → IsStuck text f → IsToken k piece text → ⊥
stuck_no_token text piece k f (inl big) t =
    let same : big.0.piece ≡ piece = same_longest text big.0.piece piece big.0.longest t.longest in
    (number_token text piece k t (subst (λ (x : List ℕ). is_number x ≡ true) same big.0.number)).1 (subst (λ (x : List ℕ). type_of (text_of x) ≡ None) same big.0.untyped)
stuck_no_token text piece k f (inr bad) t = let wrong = bad.0.bad piece t.longest in wrong.1 (number_token text piece k t wrong.0).0

stuck_same : (text : List ℕ) (k f : Kind) → IsStuck text k → IsStuck text f → k ≡ f
stuck_same text k f (inl a) (inl b) = a.1 ∙ sym b.1
stuck_same text k f (inl a) (inr b) = absurd ((b.0.bad a.0.piece a.0.longest).1 a.0.literal)
stuck_same text k f (inr a) (inl b) = absurd ((a.0.bad b.0.piece b.0.longest).1 b.0.literal)
stuck_same text k f (inr a) (inr b) = a.1 ∙ sym b.1

pub record Same (ps qs : List Piece) (r q : Result (List TokenTree) Refusal) : Type 0 where
  pub pieces : ps ≡ qs
  pub answer : r ≡ q

last_same : (bytes text : List ℕ) (r q : Result (List TokenTree) Refusal) → IsLast bytes text r → IsLast bytes text q → r ≡ q
last_same bytes text r q (inl a) (inl b) = a.1 ∙ sym b.1
last_same bytes text r q (inl a) (inr b) = absurd (stuck_some b.0 (subst (λ (x : List ℕ). IsStuck x b.0) a.0 b.1))
last_same bytes text r q (inr a) (inl b) = absurd (stuck_some a.0 (subst (λ (x : List ℕ). IsStuck x a.0) b.0 a.1))
last_same bytes text r q (inr a) (inr b) = a.2 ∙ ap (λ (k : Kind). err_of (fault_at k (place_of bytes))) (stuck_same text a.0 b.0 a.1 b.1) ∙ sym b.2

last_no_token : (bytes text piece : List ℕ) (k : TokenKind) (r : Result (List TokenTree) Refusal) → IsLast bytes text r → IsToken k piece text → ⊥
last_no_token bytes text piece k r (inl none) t = no_longest piece (subst (IsLongest piece) none.0 t.longest)
last_no_token bytes text piece k r (inr f) t = stuck_no_token text piece k f.0 f.1 t

-- two fronts that leave the same behind are the same
same_piece : (text p q rest left : List ℕ) → text ≡ p ++ rest → text ≡ q ++ left → rest ≡ left → p ≡ q
same_piece text p q rest left e f same = same_front p q rest left (sym e ∙ f) (omega (arith, ap length e, ap length f, ap length same, length-append p rest, length-append q left))

same_rest : (text p q rest left : List ℕ) → text ≡ p ++ rest → text ≡ q ++ left → p ≡ q → rest ≡ left
same_rest text p q rest left e f same = sym (drop-append_seam p rest) ∙ ap (drop (length p)) (sym e ∙ f) ∙ ap (λ (x : List ℕ). drop (length x) (q ++ left)) same ∙ drop-append_seam q left

moved : (bytes p q rest left : List ℕ) (ps : List Piece) (r : Result (List TokenTree) Refusal) → p ≡ q → rest ≡ left → IsDivided (bytes ++ text_of q) left ps r → IsDivided (bytes ++ text_of p) rest ps r
moved bytes p q rest left ps r same e d =
    subst (λ (x : List ℕ). IsDivided (bytes ++ text_of p) x ps r) (sym e) (subst (λ (x : List ℕ). IsDivided (bytes ++ text_of x) left ps r) (sym same) d)

pub same_division : (ps qs : List Piece) (bytes text : List ℕ) (r q : Result (List TokenTree) Refusal) → IsDivided bytes text ps r → IsDivided bytes text qs q → Same ps qs r q
same_division [] [] bytes text r q d e = record { pieces = refl; answer = last_same bytes text r q d.1 e.1 }
same_division [] (Skipped b ∷ qs) bytes text r q d e = absurd (d.0 b e.0 e.1 e.2)
same_division [] (Read b ∷ qs) bytes text r q d e = absurd (last_no_token bytes text b e.3 r d.1 e.4)
same_division (Skipped a ∷ ps) [] bytes text r q d e = absurd (e.0 a d.0 d.1 d.2)
same_division (Skipped a ∷ ps) (Read b ∷ qs) bytes text r q d e = absurd (e.2 a d.0 d.1 d.2)
same_division (Read a ∷ ps) [] bytes text r q d e = absurd (last_no_token bytes text a d.3 q e.1 d.4)
same_division (Read a ∷ ps) (Skipped b ∷ qs) bytes text r q d e = absurd (d.2 b e.0 e.1 e.2)
same_division (Skipped a ∷ ps) (Skipped b ∷ qs) bytes text r q d e =
    let left : d.0 ≡ e.0 = same_skipped (begins_line (place_of bytes)) text a d.0 b e.0 d.1 e.1 d.2 e.2 in
    let same : a ≡ b = same_piece text a b d.0 e.0 d.1 e.1 left in
    let more : Same ps qs r q = same_division ps qs (bytes ++ text_of a) d.0 r q d.3 (moved bytes a b d.0 e.0 qs q same left e.3) in
    record { pieces = ap₂ (λ (x : List ℕ) (xs : List Piece). Skipped x ∷ xs) same more.pieces; answer = more.answer }
same_division (Read a ∷ ps) (Read b ∷ qs) bytes text r q d e =
    let same : a ≡ b = same_longest text a b d.4.longest e.4.longest in
    let left : d.0 ≡ e.0 = same_rest text a b d.0 e.0 d.1 e.1 same in
    let more : Same ps qs d.5 e.5 = same_division ps qs (bytes ++ text_of a) d.0 d.5 e.5 d.6 (moved bytes a b d.0 e.0 qs e.5 same left e.6) in
    let kinds : d.3 ≡ e.3 = one_kind b d.3 e.3 (subst (IsSpelling d.3) same d.4.spelling) e.4.spelling in
    record {
      pieces = ap₂ (λ (x : List ℕ) (xs : List Piece). Read x ∷ xs) same more.pieces;
      answer = d.7 ∙ ap₂ (λ (x : List ℕ) (y : Result (List TokenTree) Refusal). prepend (token_at bytes d.3 x) y) same more.answer
          ∙ ap (λ (k : TokenKind). prepend (token_at bytes k b) e.5) kinds ∙ sym e.7;
    }

-- ---- the laws

start_is : (text : List ℕ) → spot_at start text ≡ spot_behind [] text
start_is text = same_spot start (place_of []) text (sym place_of-nil)

text_tokens : (bytes : List ℕ) → is_utf8 bytes ≡ true → lexed bytes ≡ tokens_from (spot_behind [] (chars bytes))
unfolding lexed
text_tokens bytes e = rw e (ap tokens_from (start_is (chars bytes)))

bad_bytes : (bytes : List ℕ) → is_utf8 bytes ≡ false → lexed bytes ≡ Err (fault_at fault.BadByte (place_at bytes (utf8_valid_len bytes)))
unfolding lexed
bad_bytes bytes e = rw e refl

pub found : (bytes : List ℕ) → AreTokens bytes (lexed bytes)
found bytes =
    elim (cases_Bool (is_utf8 bytes)) [
      | inl text ↦ (
          let d : Divides [] (chars bytes) (tokens_from (spot_behind [] (chars bytes))) = divides [] (chars bytes) in
          inl (IsUtf8-from_is_utf8 bytes text, d.pieces, subst (IsDivided [] (chars bytes) d.pieces) (sym (text_tokens bytes text)) d.are))
      | inr bad ↦ inr ((λ text. both_ways (is_utf8 bytes) bad (is_utf8-from_IsUtf8 bytes text)), bad_bytes bytes bad)
    ]

same_tokens : (bytes : List ℕ) (r q : Result (List TokenTree) Refusal) → AreTokens bytes r → AreTokens bytes q → r ≡ q
same_tokens bytes r q (inl a) (inl b) = (same_division a.1 b.1 [] (chars bytes) r q a.2 b.2).answer
same_tokens bytes r q (inl a) (inr b) = absurd (b.0 a.0)
same_tokens bytes r q (inr a) (inl b) = absurd (a.0 b.0)
same_tokens bytes r q (inr a) (inr b) = a.1 ∙ sym b.1

pub only : (bytes : List ℕ) (r : Result (List TokenTree) Refusal) → AreTokens bytes r → r ≡ lexed bytes
only bytes r are = same_tokens bytes r (lexed bytes) are (found bytes)

pub one_list : (bytes text : List ℕ) (ps qs : List Piece) (r q : Result (List TokenTree) Refusal) → IsDivided bytes text ps r → IsDivided bytes text qs q → (ps ≡ qs) × (r ≡ q)
one_list bytes text ps qs r q d e = let same : Same ps qs r q = same_division ps qs bytes text r q d e in (same.pieces, same.answer)

-- ---- one step of a reader

comes : (src : List ℕ) (from : ℕ) (r : Result (List TokenTree) Refusal) → tokens_from (spot src from) ≡ r → ComesFrom src from r
comes src from r e =
    let d : Divides (take from src) (chars (drop from src)) (tokens_from (spot src from)) = divides (take from src) (chars (drop from src)) in
    (d.pieces, subst (IsDivided (take from src) (chars (drop from src)) d.pieces) e d.are)

end_kind : (k : TokenKind) → is_end k ≡ true → k ≡ kind.End
end_kind kind.End e = refl
end_kind kind.Name e = absurd cc
end_kind kind.Word e = absurd cc
end_kind kind.Int e = absurd cc
end_kind kind.Str e = absurd cc
end_kind kind.Punct e = absurd cc

pub next_token : (src : List ℕ) (from to : ℕ) (t : TokenTree) → next (spot src from) ≡ Ok (record { token = t; behind = spot src to }) → IsNext src from t to
next_token src from to t e =
    elim (cases_Bool (is_end t.kind)) [
      | inl end ↦ inl (end_kind t.kind end, comes src from (Ok (t ∷ [])) (tokens_end (spot src from) (record { token = t; behind = spot src to }) e end))
      | inr more ↦ inr (no_end t.kind more, tokens_from (spot src to), comes src to (tokens_from (spot src to)) refl, comes src from (prepend t (tokens_from (spot src to))) (tokens_on (spot src from) (record { token = t; behind = spot src to }) e more))
    ]

pub next_fault : (src : List ℕ) (from : ℕ) (r : Refusal) → next (spot src from) ≡ Err r → ComesFrom src from (Err r)
next_fault src from r e = comes src from (Err r) (tokens_fault (spot src from) r e)

-- ---- what a call answers

pub read_as : (bytes : List ℕ) (q : Result (List TokenTree) Refusal) → lexed bytes ≡ q → (r : Result (List TokenTree) Refusal) × AreTokens bytes r × (r ≡ q)
read_as bytes q e = (lexed bytes, found bytes, e)

pub gives_read : {X : Type 0} (view : X → List TokenTree) (bytes : List ℕ) (result : Result X Stop) (q : Result (List TokenTree) Refusal) → lexed bytes ≡ q → Gives view result q
    → (r : Result (List TokenTree) Refusal) × AreTokens bytes r × Gives view result r
gives_read view bytes result q e gives = (lexed bytes, found bytes, subst (Gives view result) (sym e) gives)

pub gives_only : {X : Type 0} (view : X → List TokenTree) (bytes : List ℕ) (result : Result X Stop) (q : Result (List TokenTree) Refusal) → lexed bytes ≡ q → Gives view result q
    → (r : Result (List TokenTree) Refusal) → AreTokens bytes r → Gives view result r
gives_only view bytes result q e gives r are = subst (Gives view result) (sym (only bytes r are ∙ e)) gives
