-- A skipped piece is what is skipped: one stands at the front of a text exactly where it is left behind.
use Rattle.std.proofs.Common.{◌≡◌, ℕ, Bool, true, false, not, ◌&&◌, ◌||◌, eqb, inl, inr, List, [], ◌∷◌, ◌++◌, length, Option, Some, None, is_some, append_assoc, refl, sym, ap, ◌∙◌, subst, arith}
use Rattle.std.specs.Prelude.{◌≢◌, codes, IsTrue}
use Rattle.std.specs.Str.{chars}
use Rattle.std.specs.List.{list_all}
use Rattle.std.proofs.lemmas.Bool.{cases_Bool, and_parts, and_from, or_cases, eqb-true, eqb-false, ne_eqb, both_ways}
use Rattle.std.proofs.lemmas.Bool.Decides.{nat_tests}
use Rattle.std.proofs.lemmas.List.{length-append}
use Rattle.cx_lexer.specs.Characters.{is_blank, is_newline, is_digit}
use Rattle.cx_lexer.specs.Division.{IsFront, IsLine, BeginsDirective, IsSkipped, NothingSkipped}
use Rattle.cx_lexer.specs.Reading.{behind_line, behind_comment, behind_word, or_else, starts_with_word, some_begins_with_digit, line_comment_mark, comment_mark, number_mark, line_mark, pragma_mark, hash_mark, behind_marked_line, is_directive, behind_blank, behind_line_comment, behind_block_comment, behind_directive, behind_skipped}
use Rattle.cx_lexer.proofs.CharacterLemmas.{behind_word_itself}
use Rattle.cx_lexer.proofs.Passing.{Passed, passed, while_past, while_stops, word_front, or_some, and_some}

-- a skipped piece at the front of a text, and what is left behind it
pub record Skip (begins : Bool) (text rest : List ℕ) : Type 0 where
  pub piece : List ℕ
  pub parts : text ≡ piece ++ rest
  pub skipped : IsSkipped begins piece rest

pub head_same : (a b : ℕ) (xs ys : List ℕ) → a ∷ xs ≡ b ∷ ys → a ≡ b
head_same a b xs ys e = cc

pub tail_same : (a b : ℕ) (xs ys : List ℕ) → a ∷ xs ≡ b ∷ ys → xs ≡ ys
tail_same a b xs ys e = cc

-- ---- the marks

pub comment_is : comment_mark ≡ codes "/*"
unfolding comment_mark chars
comment_is = refl

line_comment_is : line_comment_mark ≡ codes "//"
unfolding line_comment_mark chars
line_comment_is = refl

hash_is : hash_mark ≡ codes "#"
unfolding hash_mark chars
hash_is = refl

number_is : number_mark ≡ codes "# "
unfolding number_mark chars
number_is = refl

line_is : line_mark ≡ codes "#line "
unfolding line_mark chars
line_is = refl

pragma_is : pragma_mark ≡ codes "#pragma"
unfolding pragma_mark chars
pragma_is = refl

-- ---- lines

abbrev goes_on : ℕ → Bool
goes_on c = not (is_newline c)

ends_here : (c : ℕ) → is_newline c ≡ true → goes_on c ≡ false
ends_here c e = rw e refl

newline_from : (c : ℕ) → goes_on c ≡ false → is_newline c ≡ true
newline_from c e = elim (cases_Bool (is_newline c)) [ inl is_so ↦ is_so | inr is_not ↦ (let f = rw is_not at e in let g : true ≡ false = f in absurd cc) ]

-- the rest of a line is left behind
line_past : (piece rest : List ℕ) → IsLine piece rest → behind_line (piece ++ rest) ≡ rest
unfolding behind_line
line_past piece rest line =
    while_past goes_on piece rest line.one_line ∙ while_stops goes_on rest (λ c others e. ends_here c (line.ends c others e))

pub record LineParts (text : List ℕ) : Type 0 where
  pub front : List ℕ
  pub is : text ≡ front ++ behind_line text
  pub line : IsLine front (behind_line text)

line_parts : (text : List ℕ) → LineParts text
unfolding behind_line
line_parts text =
    let r : Passed goes_on text = passed goes_on text in
    record { front = r.front; is = r.is; line = record { one_line = r.all; ends = λ c others e. newline_from c (r.ends c others e) } }

-- the same behind characters that are no newline
more_line : (mark front rest : List ℕ) → list_all goes_on mark ≡ true → IsLine front rest → IsLine (mark ++ front) rest
more_line [] front rest all line = line
more_line (c ∷ cs) front rest all line =
    let parts = and_parts (goes_on c) (list_all goes_on cs) all in
    let more = more_line cs front rest parts.1 line in
    record { one_line = and_from (goes_on c) (list_all goes_on (cs ++ front)) parts.0 more.one_line; ends = more.ends }

pub record Marked (mark text rest : List ℕ) : Type 0 where
  pub piece : List ℕ
  pub parts : text ≡ piece ++ rest
  pub begins : IsFront mark piece
  pub line : IsLine piece rest

marked_found : (mark text rest : List ℕ) → list_all goes_on mark ≡ true → behind_marked_line mark text ≡ Some rest → Marked mark text rest
unfolding behind_marked_line
marked_found mark text rest all e =
    let found = and_some (behind_word mark text) (λ r. Some (behind_line r)) rest e in
    let is : behind_line found.0 ≡ rest = (let f : Some (behind_line found.0) ≡ Some rest = found.2 in cc) in
    let l = line_parts found.0 in
    record {
      piece = mark ++ l.front;
      parts = word_front mark text found.0 found.1 ∙ ap (λ (x : List ℕ). mark ++ x) (l.is ∙ ap (λ (x : List ℕ). l.front ++ x) is) ∙ sym (append_assoc mark l.front rest);
      begins = (l.front, refl);
      line = subst (IsLine (mark ++ l.front)) is (more_line mark l.front (behind_line found.0) all l.line);
    }

marked_again : (mark others rest : List ℕ) → IsLine others rest → behind_marked_line mark (mark ++ (others ++ rest)) ≡ Some rest
unfolding behind_marked_line
marked_again mark others rest line = rw (behind_word_itself mark (others ++ rest), line_past others rest line) refl

-- ---- what is found is skipped text

blank_found : (begins : Bool) (text rest : List ℕ) → behind_blank text ≡ Some rest → Skip begins text rest
unfolding behind_blank
blank_found begins [] rest e = absurd cc
blank_found begins (c ∷ cs) rest e =
    elim (cases_Bool (is_blank c)) [
      | inl on ↦ (
          let f = rw on at e in
          let g : Some cs ≡ Some rest = f in
          let h : cs ≡ rest = cc in
          record { piece = c ∷ []; parts = ap (λ (x : List ℕ). c ∷ x) h; skipped = inl (c, refl, on) })
      | inr off ↦ (let f = rw off at e in let g : None ≡ Some rest = f in absurd cc)
    ]

line_comment_found : (begins : Bool) (text rest : List ℕ) → behind_line_comment text ≡ Some rest → Skip begins text rest
unfolding behind_line_comment
line_comment_found begins text rest e =
    let m = marked_found (codes "//") text rest refl (rw line_comment_is at e) in
    record { piece = m.piece; parts = m.parts; skipped = inr (inl (m.begins, m.line)) }

-- the star that stands before what is left, if one does
abbrev star_before : Bool → List ℕ → List ℕ
star_before true text = 42 ∷ text
star_before false text = text

abbrev IsFirstEnd : List ℕ → Type 0
IsFirstEnd inside = (front others : List ℕ) → inside ++ codes "*/" ≡ front ++ (codes "*/" ++ others) → others ≡ []

pub record Closed (text rest : List ℕ) : Type 0 where
  pub inside : List ℕ
  pub parts : text ≡ inside ++ (codes "*/" ++ rest)
  pub next : IsFirstEnd inside

end_first : IsFirstEnd []
end_first [] others e = cc
end_first (c ∷ []) others e = absurd cc
end_first (c ∷ d ∷ front) others e = absurd (omega (arith, ap length e, length-append front (codes "*/" ++ others)))

-- one more character inside, which does not close the comment
first_more : (x : ℕ) (text inside behind others : List ℕ) → text ≡ inside ++ (codes "*/" ++ behind) → x ≡ 42 → (x ≡ 42 → (others : List ℕ) → text ≡ 47 ∷ others → ⊥) → inside ++ codes "*/" ≡ 47 ∷ others → ⊥
first_more x text [] behind others parts star apart e = eqb-false 42 47 refl (head_same 42 47 (47 ∷ []) others e)
first_more x text (d ∷ i) behind others parts star apart e =
    let is : d ≡ 47 = head_same d 47 (i ++ codes "*/") others e in
    apart star (i ++ (codes "*/" ++ behind)) (parts ∙ ap (λ (y : ℕ). y ∷ (i ++ (codes "*/" ++ behind))) is)

end_more : (x : ℕ) (text inside behind : List ℕ) → text ≡ inside ++ (codes "*/" ++ behind) → (x ≡ 42 → (others : List ℕ) → text ≡ 47 ∷ others → ⊥) → IsFirstEnd inside → IsFirstEnd (x ∷ inside)
end_more x text inside behind parts apart next [] others e =
    let star : x ≡ 42 = head_same x 42 (inside ++ codes "*/") (47 ∷ others) e in
    let rest : inside ++ codes "*/" ≡ 47 ∷ others = tail_same x 42 (inside ++ codes "*/") (47 ∷ others) e in
    absurd (first_more x text inside behind others parts star apart rest)
end_more x text inside behind parts apart next (d ∷ front) others e =
    next front others (tail_same x d (inside ++ codes "*/") (front ++ (codes "*/" ++ others)) e)

closed_more : (x : ℕ) (text rest : List ℕ) → (x ≡ 42 → (others : List ℕ) → text ≡ 47 ∷ others → ⊥) → Closed text rest → Closed (x ∷ text) rest
closed_more x text rest apart k = record { inside = x ∷ k.inside; parts = ap (λ (y : List ℕ). x ∷ y) k.parts; next = end_more x text k.inside rest k.parts apart k.next }

closed_at : (c : ℕ) (cs rest : List ℕ) → Closed (star_before (eqb c 42) cs) rest → Closed (c ∷ cs) rest
closed_at c cs rest k =
    elim (cases_Bool (eqb c 42)) [
      | inl star ↦ (
          let f = rw star at k in
          let g : Closed (42 ∷ cs) rest = f in
          subst (λ (x : ℕ). Closed (x ∷ cs) rest) (sym (eqb-true c 42 star)) g)
      | inr other ↦ (
          let f = rw other at k in
          let g : Closed cs rest = f in
          closed_more c cs rest (λ is. absurd (eqb-false c 42 other is)) g)
    ]

-- The text behind the `/*` is closed where the reader says, and a star that was read is the first character.
closed_found : (star : Bool) (text rest : List ℕ) → behind_comment star text ≡ Some rest → Closed (star_before star text) rest
unfolding behind_comment
closed_found false [] rest e = absurd cc
closed_found true [] rest e = absurd cc
closed_found false (c ∷ cs) rest e = closed_at c cs rest (closed_found (eqb c 42) cs rest e)
closed_found true (c ∷ cs) rest e =
    elim (cases_Bool (eqb c 47)) [
      | inl slash ↦ (
          let f = rw slash at e in
          let g : Some cs ≡ Some rest = f in
          let h : cs ≡ rest = cc in
          let k : c ≡ 47 = eqb-true c 47 slash in
          record { inside = []; parts = ap (λ (x : ℕ). 42 ∷ x ∷ cs) k ∙ ap (λ (x : List ℕ). 42 ∷ 47 ∷ x) h; next = end_first })
      | inr other ↦ (
          let f = rw other at e in
          let k : Closed (c ∷ cs) rest = closed_at c cs rest (closed_found (eqb c 42) cs rest f) in
          closed_more 42 (c ∷ cs) rest (λ _ others is. eqb-false c 47 other (let first : c ≡ 47 = cc in first)) k)
    ]

next_tail : (c : ℕ) (inside : List ℕ) → IsFirstEnd (c ∷ inside) → IsFirstEnd (star_before (eqb c 42) inside)
next_tail c inside next =
    elim (cases_Bool (eqb c 42)) [
      | inl star ↦ rw star (subst (λ (x : ℕ). IsFirstEnd (x ∷ inside)) (eqb-true c 42 star) next)
      | inr other ↦ rw other (λ front others e. next (c ∷ front) others (ap (λ (x : List ℕ). c ∷ x) e))
    ]

not_closing : (inside : List ℕ) → inside ++ codes "*/" ≢ []
not_closing [] e = absurd cc
not_closing (c ∷ cs) e = absurd cc

closed_again : (star : Bool) (inside rest : List ℕ) → IsFirstEnd (star_before star inside) → behind_comment star (inside ++ (codes "*/" ++ rest)) ≡ Some rest
unfolding behind_comment
closed_again false [] rest next = refl
closed_again true [] rest next = refl
closed_again false (c ∷ cs) rest next = closed_again (eqb c 42) cs rest (next_tail c cs next)
closed_again true (c ∷ cs) rest next =
    let other : eqb c 47 ≡ false = ne_eqb c 47 (λ is. not_closing cs (next [] (cs ++ codes "*/") (ap (λ (x : ℕ). 42 ∷ x ∷ (cs ++ codes "*/")) is))) in
    rw other (closed_again (eqb c 42) cs rest (next_tail c cs (λ front others e. next (42 ∷ front) others (ap (λ (x : List ℕ). 42 ∷ x) e))))

block_comment_found : (begins : Bool) (text rest : List ℕ) → behind_block_comment text ≡ Some rest → Skip begins text rest
unfolding behind_block_comment
block_comment_found begins text rest e =
    let found = and_some (behind_word comment_mark text) (behind_comment false) rest e in
    let k : Closed found.0 rest = closed_found false found.0 rest found.2 in
    let front : text ≡ codes "/*" ++ found.0 = word_front comment_mark text found.0 found.1 ∙ ap (λ (m : List ℕ). m ++ found.0) comment_is in
    record {
      piece = codes "/*" ++ (k.inside ++ codes "*/");
      parts = front ∙ ap (λ (x : List ℕ). codes "/*" ++ x) (k.parts ∙ sym (append_assoc k.inside (codes "*/") rest));
      skipped = inr (inr (inl (record { inside = k.inside; is = refl; next = k.next })));
    }

-- ---- directives

pub begins_found : (mark text : List ℕ) → starts_with_word mark text ≡ true → IsFront mark text
unfolding starts_with_word
begins_found mark text e = found (behind_word mark text) refl e
  where
    found : (o : Option (List ℕ)) → behind_word mark text ≡ o → is_some o ≡ true → IsFront mark text
    found None is s = absurd cc
    found (Some rest) is s = (rest, word_front mark text rest is)

number_found : (text : List ℕ) → some_begins_with_digit (behind_word number_mark text) ≡ true → (d : ℕ) × IsTrue (is_digit d) × IsFront (codes "# " ++ d ∷ []) text
number_found text e = found (behind_word number_mark text) refl e
  where
    found : (o : Option (List ℕ)) → behind_word number_mark text ≡ o → some_begins_with_digit o ≡ true → (d : ℕ) × IsTrue (is_digit d) × IsFront (codes "# " ++ d ∷ []) text
    found None is s = absurd cc
    found (Some []) is s = absurd cc
    found (Some (d ∷ rest)) is s = (d, s, (rest, word_front (codes "# ") text (d ∷ rest) (rw number_is at is)))

directive_begins : (text : List ℕ) → is_directive text ≡ true → BeginsDirective text
unfolding is_directive
directive_begins text e =
    elim (or_cases (some_begins_with_digit (behind_word number_mark text) || starts_with_word line_mark text) (starts_with_word pragma_mark text) e) [
      | inl others ↦ elim (or_cases (some_begins_with_digit (behind_word number_mark text)) (starts_with_word line_mark text) others) [
        | inl digit ↦ inl (number_found text digit)
        | inr line ↦ inr (inl (begins_found (codes "#line ") text (rw line_is at line)))
      ]
      | inr pragma ↦ inr (inr (begins_found (codes "#pragma") text (rw pragma_is at pragma)))
    ]

no_newline : (c : ℕ) → goes_on c ≡ true → is_newline c ≡ true → ⊥
no_newline c on newline = both_ways (goes_on c) (ends_here c newline) on

line_tail : (c : ℕ) (cs rest : List ℕ) → IsLine (c ∷ cs) rest → IsLine cs rest
line_tail c cs rest line = record { one_line = (and_parts (goes_on c) (list_all goes_on cs) line.one_line).1; ends = line.ends }

-- what a line and its end begin with, the line begins with, where no newline is in it
front_of_line : (mark piece rest : List ℕ) → list_all goes_on mark ≡ true → IsLine piece rest → IsFront mark (piece ++ rest) → IsFront mark piece
front_of_line [] piece rest all line f = (piece, refl)
front_of_line (m ∷ ms) [] rest all line f = absurd (no_newline m (and_parts (goes_on m) (list_all goes_on ms) all).0 (line.ends m (ms ++ f.0) f.1))
front_of_line (m ∷ ms) (c ∷ cs) rest all line f =
    let more : IsFront ms cs = front_of_line ms cs rest (and_parts (goes_on m) (list_all goes_on ms) all).1 (line_tail c cs rest line) (f.0, tail_same c m (cs ++ rest) (ms ++ f.0) f.1) in
    (more.0, ap (λ (x : ℕ). x ∷ cs) (head_same c m (cs ++ rest) (ms ++ f.0) f.1) ∙ ap (λ (x : List ℕ). m ∷ x) more.1)

digit_goes_on : (d : ℕ) → is_digit d ≡ true → goes_on d ≡ true
unfolding is_digit
digit_goes_on d e = grind (arith, nat_tests)

directive_of_line : (piece rest : List ℕ) → IsLine piece rest → BeginsDirective (piece ++ rest) → BeginsDirective piece
directive_of_line piece rest line (inl digit) = inl (digit.0, digit.1, front_of_line (35 ∷ 32 ∷ digit.0 ∷ []) piece rest (rw (digit_goes_on digit.0 digit.1) refl) line digit.2)
directive_of_line piece rest line (inr (inl mark)) = inr (inl (front_of_line (codes "#line ") piece rest refl line mark))
directive_of_line piece rest line (inr (inr mark)) = inr (inr (front_of_line (codes "#pragma") piece rest refl line mark))

directive_found : (begins : Bool) (text rest : List ℕ) → behind_directive begins text ≡ Some rest → Skip begins text rest
unfolding behind_directive
directive_found begins text rest e =
    elim (cases_Bool (begins && is_directive text)) [
      | inl on ↦ (
          let f = rw on at e in
          let parts = and_parts begins (is_directive text) on in
          let m = marked_found (codes "#") text rest refl (rw hash_is at f) in
          record { piece = m.piece; parts = m.parts; skipped = inr (inr (inr (parts.0, directive_of_line m.piece rest m.line (subst BeginsDirective m.parts (directive_begins text parts.1)), m.line))) })
      | inr off ↦ (let f = rw off at e in let g : None ≡ Some rest = f in absurd cc)
    ]

pub skipped_found : (begins : Bool) (text rest : List ℕ) → behind_skipped begins text ≡ Some rest → Skip begins text rest
unfolding behind_skipped
skipped_found begins text rest e =
    elim (or_some (behind_blank text) (or_else (behind_line_comment text) (or_else (behind_block_comment text) (behind_directive begins text))) rest e) [
      | inl blank ↦ blank_found begins text rest blank
      | inr e₁ ↦ elim (or_some (behind_line_comment text) (or_else (behind_block_comment text) (behind_directive begins text)) rest e₁) [
        | inl line ↦ line_comment_found begins text rest line
        | inr e₂ ↦ elim (or_some (behind_block_comment text) (behind_directive begins text) rest e₂) [
          | inl block ↦ block_comment_found begins text rest block
          | inr directive ↦ directive_found begins text rest directive
        ]
      ]
    ]

-- ---- what is skipped text is left behind

blank_again : (begins : Bool) (c : ℕ) (rest : List ℕ) → is_blank c ≡ true → behind_skipped begins (c ∷ rest) ≡ Some rest
unfolding behind_skipped behind_blank
blank_again begins c rest on = rw on refl

line_comment_again : (begins : Bool) (others rest : List ℕ) → IsLine (codes "//" ++ others) rest → behind_skipped begins ((codes "//" ++ others) ++ rest) ≡ Some rest
unfolding behind_skipped behind_blank is_blank behind_line_comment
line_comment_again begins others rest line =
    let again : behind_marked_line line_comment_mark (codes "//" ++ (others ++ rest)) ≡ Some rest =
    ap (λ (m : List ℕ). behind_marked_line m (codes "//" ++ (others ++ rest))) line_comment_is ∙ marked_again (codes "//") others rest (record { one_line = line.one_line; ends = line.ends }) in
    rw again refl

block_comment_again : (begins : Bool) (inside rest : List ℕ) → IsFirstEnd inside → behind_skipped begins ((codes "/*" ++ (inside ++ codes "*/")) ++ rest) ≡ Some rest
unfolding behind_skipped behind_blank is_blank behind_line_comment behind_marked_line line_comment_mark chars behind_block_comment comment_mark behind_word
block_comment_again begins inside rest next =
    let again : behind_comment false ((inside ++ codes "*/") ++ rest) ≡ Some rest = ap (behind_comment false) (append_assoc inside (codes "*/") rest) ∙ closed_again false inside rest next in
    rw again refl

hash_alone : (text : List ℕ) → behind_skipped true (35 ∷ text) ≡ behind_directive true (35 ∷ text)
unfolding behind_skipped behind_blank is_blank behind_line_comment behind_marked_line line_comment_mark chars behind_block_comment comment_mark behind_word
hash_alone text = refl

-- a directive's line, by what stands behind its `#`
hash_again : (others rest : List ℕ) → is_directive (35 ∷ (others ++ rest)) ≡ true → IsLine (35 ∷ others) rest → behind_directive true (35 ∷ (others ++ rest)) ≡ Some rest
unfolding behind_directive
hash_again others rest directive line =
    rw directive (ap (λ (m : List ℕ). behind_marked_line m (35 ∷ (others ++ rest))) hash_is ∙ marked_again (codes "#") others rest (line_tail 35 others rest line))

number_begins : (d : ℕ) (text : List ℕ) → is_digit d ≡ true → is_directive (35 ∷ 32 ∷ d ∷ text) ≡ true
unfolding is_directive number_mark chars behind_word
number_begins d text digit = rw digit refl

line_begins : (text : List ℕ) → is_directive (codes "#line " ++ text) ≡ true
unfolding is_directive number_mark line_mark chars behind_word starts_with_word
line_begins text = refl

pragma_begins : (text : List ℕ) → is_directive (codes "#pragma" ++ text) ≡ true
unfolding is_directive number_mark line_mark pragma_mark chars behind_word starts_with_word
pragma_begins text = refl

-- the piece begins with `#`, and it begins a directive
pub record Hash (piece : List ℕ) : Type 0 where
  pub others : List ℕ
  pub is : piece ≡ 35 ∷ others
  pub begins : (rest : List ℕ) → is_directive (35 ∷ (others ++ rest)) ≡ true

hash_of : (piece : List ℕ) → BeginsDirective piece → Hash piece
hash_of piece (inl digit) = record { others = 32 ∷ digit.0 ∷ digit.2.0; is = digit.2.1; begins = λ rest. number_begins digit.0 (digit.2.0 ++ rest) digit.1 }
hash_of piece (inr (inl mark)) = record { others = codes "line " ++ mark.0; is = mark.1; begins = λ rest. line_begins (mark.0 ++ rest) }
hash_of piece (inr (inr mark)) = record { others = codes "pragma" ++ mark.0; is = mark.1; begins = λ rest. pragma_begins (mark.0 ++ rest) }

directive_again : (piece rest : List ℕ) → Hash piece → IsLine piece rest → behind_skipped true (piece ++ rest) ≡ Some rest
directive_again piece rest h line =
    ap (λ (x : List ℕ). behind_skipped true (x ++ rest)) h.is ∙ hash_alone (h.others ++ rest) ∙ hash_again h.others rest (h.begins rest) (subst (λ (x : List ℕ). IsLine x rest) h.is line)

pub skipped_again : (begins : Bool) (piece rest : List ℕ) → IsSkipped begins piece rest → behind_skipped begins (piece ++ rest) ≡ Some rest
skipped_again begins piece rest (inl blank) = ap (λ (x : List ℕ). behind_skipped begins (x ++ rest)) blank.1 ∙ blank_again begins blank.0 rest blank.2
skipped_again begins piece rest (inr (inl line)) =
    ap (λ (x : List ℕ). behind_skipped begins (x ++ rest)) line.0.1 ∙ line_comment_again begins line.0.0 rest (subst (λ (x : List ℕ). IsLine x rest) line.0.1 line.1)
skipped_again begins piece rest (inr (inr (inl block))) = ap (λ (x : List ℕ). behind_skipped begins (x ++ rest)) block.is ∙ block_comment_again begins block.inside rest block.next
skipped_again begins piece rest (inr (inr (inr directive))) =
    ap (λ (b : Bool). behind_skipped b (piece ++ rest)) directive.0 ∙ directive_again piece rest (hash_of piece directive.1) directive.2

-- ---- one skipped piece stands at the front of a text, or none

pub nothing_skipped : (begins : Bool) (text : List ℕ) → behind_skipped begins text ≡ None → NothingSkipped begins text
nothing_skipped begins text none piece rest parts skipped =
    let e : Some rest ≡ None = sym (skipped_again begins piece rest skipped) ∙ ap (behind_skipped begins) (sym parts) ∙ none in
    cc

-- two skipped pieces at the front of a text leave the same behind
pub same_skipped : (begins : Bool) (text piece rest other left : List ℕ) → text ≡ piece ++ rest → text ≡ other ++ left → IsSkipped begins piece rest → IsSkipped begins other left → rest ≡ left
same_skipped begins text piece rest other left parts others skipped so =
    let e : Some rest ≡ Some left = sym (skipped_again begins piece rest skipped) ∙ ap (behind_skipped begins) (sym parts ∙ others) ∙ skipped_again begins other left so in
    cc
