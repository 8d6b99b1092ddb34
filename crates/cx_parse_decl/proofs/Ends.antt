-- Where the tokens of a unit end, and the tokens that pieces belong to.
use Rattle.std.proofs.Common.{◌≡◌, ◌≢◌, ℕ, Bool, true, false, ◌&&◌, ◌||◌, List, [], ◌∷◌, ◌++◌, codes, if◌then◌else◌, refl, sym, ap, ◌∙◌, subst, true≢false, append-nil, append_assoc}
use Rattle.std.specs.Str.{bytes_eq}
use Rattle.cx_lexer.specs.declared.token.TokenKind.{TokenKind}
use Rattle.cx_lexer.specs.declared.token.TokenKind.TheVariants as kind
use Rattle.cx_lexer.specs.Division.{EndsOnce, AreSpelled}
use Rattle.cx_lexer.specs.Tokens.{TokenTree}
use Rattle.cx_grammar.specs.Pieces.{Piece, First, Second, All, as_piece, is_double, halves, pieces}
use Rattle.cx_grammar.specs.Declarations.{is_end_kind}
use Rattle.cx_spots.specs.Ends.{is_end, ends}
use Rattle.cx_parse_decl.proofs.Endless.{is_last, has_last}

-- ---- the end

not_end : (k : TokenKind) → k ≢ kind.End → is_end_kind k ≡ false
not_end kind.End ne = absurd (ne refl)
not_end other ne = refl

-- a token without text is no `>>`
bare : (t : TokenTree) → t.text ≡ [] → is_double t ≡ false
unfolding is_double
bare t e = ap (λ (s : List ℕ). bytes_eq s (codes ">>")) e

-- whether some piece is of the end
abbrev pub has_end : List Piece → Bool
has_end [] = false
has_end (p ∷ ps) = is_end_kind p.token.kind || has_end ps

-- the last of some pieces, and no other one, is the end
pub record Closes (ps : List Piece) : Type 0 where
  pub front : List Piece
  pub last : Piece
  pub parts : ps ≡ front ++ last ∷ []
  pub others : has_end front ≡ false
  pub closes : is_last last ≡ true

one_more : (t : TokenTree) (b : Bool) (ps : List Piece) → is_end_kind t.kind ≡ false → Closes ps → Closes ((if b then as_piece t First ∷ as_piece t Second ∷ [] else as_piece t All ∷ []) ++ ps)
one_more t true ps e c = record {
  front = as_piece t First ∷ as_piece t Second ∷ c.front;
  last = c.last;
  parts = ap (λ (z : List Piece). as_piece t First ∷ as_piece t Second ∷ z) c.parts;
  others = rw e c.others;
  closes = c.closes;
}
one_more t false ps e c = record {
  front = as_piece t All ∷ c.front;
  last = c.last;
  parts = ap (λ (z : List Piece). as_piece t All ∷ z) c.parts;
  others = rw e c.others;
  closes = c.closes;
}

the_last : (t : TokenTree) → t.kind ≡ kind.End → is_double t ≡ false → Closes (pieces (t ∷ []))
the_last t e d = record {
  front = [];
  last = as_piece t All;
  parts = ap (λ (b : Bool). (if b then as_piece t First ∷ as_piece t Second ∷ [] else as_piece t All ∷ []) ++ []) d;
  others = refl;
  closes = ap (λ (k : TokenKind). is_end_kind k && true) e;
}

pub pieces_close : (ts : List TokenTree) → EndsOnce ts → AreSpelled ts → Closes (pieces ts)
pieces_close [] once spelled = absurd once
pieces_close (t ∷ []) once spelled = the_last t once (bare t (spelled.0.bare once))
pieces_close (t ∷ u ∷ ts) once spelled = one_more t (is_double t) (pieces (u ∷ ts)) (not_end t.kind once.0) (pieces_close (u ∷ ts) once.1 spelled.1)

end_of : (t : TokenTree) → t.kind ≡ kind.End → t.text ≡ [] → is_end t ≡ true
unfolding is_end
end_of t e d = ap (λ (k : TokenKind). is_end_kind k && bytes_eq t.text []) e ∙ ap (λ (x : List ℕ). bytes_eq x []) d

pub tokens_end : (ts : List TokenTree) → EndsOnce ts → AreSpelled ts → ends ts ≡ true
unfolding ends
tokens_end [] once spelled = absurd once
tokens_end (t ∷ []) once spelled = end_of t once (spelled.0.bare once)
tokens_end (t ∷ u ∷ ts) once spelled = tokens_end (u ∷ ts) once.1 spelled.1

pub closes_last : (ps : List Piece) → Closes ps → has_last ps ≡ true
closes_last ps c = ap (λ (z : List Piece). has_last z) c.parts ∙ go c.front c.last c.closes
  where
    go : (us : List Piece) (p : Piece) → is_last p ≡ true → has_last (us ++ p ∷ []) ≡ true
    go [] p e = rw e refl
    go (u ∷ us) p e = by (is_last u) (has_last (us ++ p ∷ [])) (go us p e)
      where
        by : (a b : Bool) → b ≡ true → (a || b) ≡ true
        by true b e = refl
        by false b e = e

-- behind the end is nothing
pub nothing_behind : (vs : List Piece) (e : Piece) (rest front : List Piece) (last : Piece) → is_end_kind e.token.kind ≡ true → has_end front ≡ false → (vs ++ e ∷ []) ++ rest ≡ front ++ last ∷ [] → rest ≡ []
nothing_behind [] e rest [] last is none d = cc
nothing_behind [] e rest (f ∷ fs) last is none d =
    let same : e ≡ f = cc in
    absurd (true≢false (sym is ∙ ap (λ (z : Piece). is_end_kind z.token.kind) same ∙ left_false (is_end_kind f.token.kind) (has_end fs) none))
  where
    left_false : (a b : Bool) → (a || b) ≡ false → a ≡ false
    left_false true b e = e
    left_false false b e = refl
nothing_behind (v ∷ vs) e rest [] last is none d = absurd (some vs e rest (let f : (vs ++ e ∷ []) ++ rest ≡ [] = cc in f))
  where
    some : (vs : List Piece) (e : Piece) (rest : List Piece) → (vs ++ e ∷ []) ++ rest ≡ [] → ⊥
    some [] e rest d = cc
    some (v ∷ vs) e rest d = cc
nothing_behind (v ∷ vs) e rest (f ∷ fs) last is none d = nothing_behind vs e rest fs last is (right_false (is_end_kind f.token.kind) (has_end fs) none) (let f : (vs ++ e ∷ []) ++ rest ≡ fs ++ last ∷ [] = cc in f)
  where
    right_false : (a b : Bool) → (a || b) ≡ false → b ≡ false
    right_false true b e = absurd (true≢false e)
    right_false false b e = e

-- ---- the token of a piece

-- a piece is of a token: the pieces before it go on from those of the tokens before, and with it go on to those with it
pub record OfToken (ts : List TokenTree) (us : List Piece) (p : Piece) : Type 0 where
  pub front : List TokenTree
  pub token : TokenTree
  pub behind : List TokenTree
  pub parts : ts ≡ front ++ token ∷ behind
  pub of : p.token ≡ token
  pub more : List Piece
  pub before : us ≡ pieces front ++ more
  pub rest : List Piece
  pub with' : pieces (front ++ token ∷ []) ≡ us ++ p ∷ rest

later_token : (t : TokenTree) (ts : List TokenTree) (hs us : List Piece) (p : Piece) → halves t ≡ hs → OfToken ts us p → OfToken (t ∷ ts) (hs ++ us) p
later_token t ts hs us p e o = record {
  front = t ∷ o.front;
  token = o.token;
  behind = o.behind;
  parts = ap (λ (z : List TokenTree). t ∷ z) o.parts;
  of = o.of;
  more = o.more;
  before = ap (λ (z : List Piece). hs ++ z) o.before ∙ (sym (append_assoc hs (pieces o.front) o.more) ∙ ap (λ (z : List Piece). (z ++ pieces o.front) ++ o.more) (sym e));
  rest = o.rest;
  with' = ap (λ (z : List Piece). z ++ pieces (o.front ++ o.token ∷ [])) e ∙ (ap (λ (z : List Piece). hs ++ z) o.with' ∙ sym (append_assoc hs us (p ∷ o.rest)));
}

this_token : (t : TokenTree) (ts : List TokenTree) (us rest : List Piece) (p : Piece) → halves t ≡ us ++ p ∷ rest → p.token ≡ t → OfToken (t ∷ ts) us p
this_token t ts us rest p e d = record {
  front = [];
  token = t;
  behind = ts;
  parts = refl;
  of = d;
  more = us;
  before = refl;
  rest = rest;
  with' = append-nil (halves t) ∙ e;
}

uncons : {X : Type 0} (a b : X) (s t : List X) → a ∷ s ≡ b ∷ t → (a ≡ b) × (s ≡ t)
uncons a b s t e = (cc, cc)

halves_by : (t : TokenTree) (b : Bool) → is_double t ≡ b → halves t ≡ (if b then as_piece t First ∷ as_piece t Second ∷ [] else as_piece t All ∷ [])
halves_by t b e = ap (λ (z : Bool). if z then as_piece t First ∷ as_piece t Second ∷ [] else as_piece t All ∷ []) e

module _ (t : TokenTree) (ts : List TokenTree) (rest : List Piece) (p : Piece) (again : (hs vs : List Piece) → halves t ≡ hs → pieces ts ≡ vs ++ p ∷ rest → OfToken (t ∷ ts) (hs ++ vs) p) where
  whole : (us : List Piece) → halves t ≡ as_piece t All ∷ [] → as_piece t All ∷ pieces ts ≡ us ++ p ∷ rest → OfToken (t ∷ ts) us p
  whole [] d f =
      let q = uncons (as_piece t All) p (pieces ts) rest f in
      this_token t ts [] [] p (d ∙ ap (λ (z : Piece). z ∷ []) q.0) (ap (λ (z : Piece). z.token) (sym q.0))
  whole (u ∷ us) d f =
      let q = uncons (as_piece t All) u (pieces ts) (us ++ p ∷ rest) f in
      subst (λ (z : Piece). OfToken (t ∷ ts) (z ∷ us) p) q.0 (again (as_piece t All ∷ []) us d q.1)

  second : (us : List Piece) → halves t ≡ as_piece t First ∷ as_piece t Second ∷ [] → as_piece t Second ∷ pieces ts ≡ us ++ p ∷ rest → OfToken (t ∷ ts) (as_piece t First ∷ us) p
  second [] d f =
      let q = uncons (as_piece t Second) p (pieces ts) rest f in
      this_token t ts (as_piece t First ∷ []) [] p (d ∙ ap (λ (z : Piece). as_piece t First ∷ z ∷ []) q.0) (ap (λ (z : Piece). z.token) (sym q.0))
  second (u ∷ us) d f =
      let q = uncons (as_piece t Second) u (pieces ts) (us ++ p ∷ rest) f in
      subst (λ (z : Piece). OfToken (t ∷ ts) (as_piece t First ∷ z ∷ us) p) q.0 (again (as_piece t First ∷ as_piece t Second ∷ []) us d q.1)

  parted : (us : List Piece) → halves t ≡ as_piece t First ∷ as_piece t Second ∷ [] → as_piece t First ∷ as_piece t Second ∷ pieces ts ≡ us ++ p ∷ rest → OfToken (t ∷ ts) us p
  parted [] d f =
      let q = uncons (as_piece t First) p (as_piece t Second ∷ pieces ts) rest f in
      this_token t ts [] (as_piece t Second ∷ []) p (d ∙ ap (λ (z : Piece). z ∷ as_piece t Second ∷ []) q.0) (ap (λ (z : Piece). z.token) (sym q.0))
  parted (u ∷ us) d f =
      let q = uncons (as_piece t First) u (as_piece t Second ∷ pieces ts) (us ++ p ∷ rest) f in
      subst (λ (z : Piece). OfToken (t ∷ ts) (z ∷ us) p) q.0 (second us d q.1)

  behind_halves : (b : Bool) → is_double t ≡ b → (us : List Piece) → pieces (t ∷ ts) ≡ us ++ p ∷ rest → OfToken (t ∷ ts) us p
  behind_halves true d us f = let h = halves_by t true d in parted us h (sym (ap (λ (z : List Piece). z ++ pieces ts) h) ∙ f)
  behind_halves false d us f = let h = halves_by t false d in whole us h (sym (ap (λ (z : List Piece). z ++ pieces ts) h) ∙ f)

pub of_token : (ts : List TokenTree) (us rest : List Piece) (p : Piece) → pieces ts ≡ us ++ p ∷ rest → OfToken ts us p
of_token [] [] rest p e = absurd (cc)
of_token [] (u ∷ us) rest p e = absurd (cc)
of_token (t ∷ ts) us rest p e = behind_halves t ts rest p (λ hs vs d f. later_token t ts hs vs p d (of_token ts vs rest p f)) (is_double t) refl us e
