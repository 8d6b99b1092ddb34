-- The laws of one token.
use Rattle.std.proofs.Common.{◌≡◌, ◌<◌, ◌⊎◌, inl, inr, suc, Bool, true, false, if◌then◌else◌, List, [], ◌∷◌, ◌++◌, length, Ok, Err, refl, sym, ap, ◌∙◌, subst, arith}
use Rattle.cx_tokens.specs.Pieces.{Piece}
use Rattle.cx_syntax.specs.declared.stopped.Stopped.TheVariants.{Ended, Deep}
use Rattle.cx_syntax.specs.declared.context.Context.{Context}
use Rattle.cx_syntax.specs.States.{State, cut, grow, freed, misfit, fits, Reading}
use Rattle.cx_syntax.specs.Productions.{Class, token, read_token}
use Rattle.cx_syntax_laws.proofs.Lawful.{grown, freed_reading, Open, Next, Opened, Stays, Misfits, TooDeep, Freed, Same, Deeper, Lawful, Filled, Takes, Opens}
use Rattle.cx_syntax_laws.proofs.Readings.{ok_value, open_as, next_as, freed_as}

-- a piece that does not fit is no end
misfit_closed : (A : Type 0) (t : Piece) → Open {A = A} (Err (misfit t.token)) → ⊥
unfolding misfit
misfit_closed A t o = o

-- what is read at a piece that fits or not, and is nested too deep or not
abbrev at_piece : Bool → Bool → Piece → State → Reading Piece
at_piece true true y u = Ok (y, u)
at_piece true false y u = Err (Deep y.token.at)
at_piece false b y u = Err (misfit y.token)

module _ (c : Context) (q : Class) where
  token_read : (s : State) (y : Piece) (ts : List Piece) → read_token c q s (y ∷ ts) ≡ at_piece (q s.names y) (fits c s) y (cut s ts)
  unfolding read_token
  token_read s y ts = by_tests (q s.names y) (fits c s)
    where
      by_tests : (a b : Bool) → (if a then (if b then Ok (y, cut s ts) else Err (Deep y.token.at)) else Err (misfit y.token)) ≡ at_piece a b y (cut s ts)
      by_tests true true = refl
      by_tests true false = refl
      by_tests false b = refl

  token_ended : (s : State) → read_token c q s [] ≡ Err Ended
  unfolding read_token
  token_ended s = refl

  free_fits : (s : State) → fits c (freed s) ≡ true
  free_fits s = refl

  same_fits : (s : State) (ts : List Piece) → fits c (cut s ts) ≡ fits c s
  same_fits s ts = refl

  -- a token that is read
  pub token_value : (s : State) (l : List Piece) → s.left ≡ l → (t : State) (x : Piece) → read_token c q s l ≡ Ok (x, t) → (token c q).whole s x t
  token_value s [] e t x h = absurd (let k = token_ended s in cc)
  token_value s (y ∷ ts) e t x h = by_tests (q s.names y) (fits c s) refl refl (sym (token_read s y ts) ∙ h)
    where
      by_tests : (a b : Bool) → q s.names y ≡ a → fits c s ≡ b → at_piece a b y (cut s ts) ≡ Ok (x, t) → (token c q).whole s x t
      by_tests true true f g k =
          let w = ok_value y x (cut s ts) t k in
          let l : ts ≡ t.left = ap (λ (u : State). u.left) w.1 in
          (e ∙ (λ i. w.0 i ∷ l i), sym w.1 ∙ ap (λ (z : List Piece). cut s z) l, subst (λ (z : Piece). q s.names z ≡ true) w.0 f, g)
      by_tests true false f g k = absurd (cc)
      by_tests false b f g k = absurd (cc)

  token_complete : (s t : State) (x : Piece) → (token c q).whole s x t → read_token c q s s.left ≡ Ok (x, t)
  token_complete s t x w =
      ap (λ (l : List Piece). read_token c q s l) w.0 ∙ token_read s x t.left
      ∙ ap (λ (a : Bool). at_piece a (fits c s) x (cut s t.left)) w.2
      ∙ ap (λ (b : Bool). at_piece true b x (cut s t.left)) w.3
      ∙ ap (λ (u : State). Ok (x, u)) (sym w.1)

  token_begun : (s : State) → (token c q).front s → Open (read_token c q s s.left)
  token_begun s (inl e) = open_as (ap (λ (l : List Piece). read_token c q s l) e ∙ token_ended s) tt
  token_begun s (inr w) = open_as (token_complete s (cut s []) w.0 (w.1, refl, w.2, w.3)) refl

  token_open : (s : State) (l : List Piece) → s.left ≡ l → Open (read_token c q s l) → (token c q).front s
  token_open s [] e o = inl e
  token_open s (y ∷ ts) e o = by_tests (q s.names y) (fits c s) refl refl (open_as (sym (token_read s y ts)) o)
    where
      by_tests : (a b : Bool) → q s.names y ≡ a → fits c s ≡ b → Open (at_piece a b y (cut s ts)) → (token c q).front s
      by_tests true true f g k = inr (y, e ∙ ap (λ (z : List Piece). y ∷ z) k, f, g)
      by_tests true false f g k = absurd k
      by_tests false b f g k = absurd (misfit_closed Piece y k)

  token_grown : (s : State) (vs : List Piece) (l : List Piece) → Open (read_token c q s l) ⊎ (read_token c q (grow s vs) (l ++ vs) ≡ grown (read_token c q s l) vs)
  token_grown s vs [] = inl (open_as (token_ended s) tt)
  token_grown s vs (y ∷ ts) =
      inr (token_read (grow s vs) y (ts ++ vs) ∙ ap (λ (b : Bool). at_piece (q s.names y) b y (cut s (ts ++ vs))) (same_fits s (s.left ++ vs))
      ∙ by_tests (q s.names y) (fits c s) ∙ ap (λ (r : Reading Piece). grown r vs) (sym (token_read s y ts)))
    where
      by_tests : (a b : Bool) → at_piece a b y (cut s (ts ++ vs)) ≡ grown (at_piece a b y (cut s ts)) vs
      by_tests true true = refl
      by_tests true false = refl
      by_tests false b = refl

  -- one piece
  pub token_next : {strict : Bool} (s : State) (t : Piece) (before : Reading Piece) → before ≡ Err Ended → (ls : List Piece) → Next strict ls t before (read_token c q s (t ∷ [])) (read_token c q (freed s) (t ∷ []))
  token_next {strict} s t before e ls =
      next_as refl (token_read s t []) (token_read (freed s) t [] ∙ ap (λ (b : Bool). at_piece (q s.names t) b t (cut (freed s) [])) (free_fits s))
      (by_tests (q s.names t) (fits c s))
    where
      by_tests : (a b : Bool) → Next strict ls t before (at_piece a b t (cut s [])) (at_piece a true t (cut (freed s) []))
      by_tests true true = Opened refl
      by_tests true false = TooDeep refl refl
      by_tests false b = Misfits e refl

  token_more : {strict : Bool} (s : State) (t : Piece) (l : List Piece) → Open (read_token c q s l)
      → Next strict l t (read_token c q s l) (read_token c q (grow s (t ∷ [])) (l ++ t ∷ [])) (read_token c q (freed (grow s (t ∷ []))) (l ++ t ∷ []))
  token_more s t [] o = token_next (grow s (t ∷ [])) t (read_token c q s []) (token_ended s) []
  token_more {strict} s t (y ∷ ts) o =
      next_as (token_read s y ts)
      (token_read (grow s (t ∷ [])) y (ts ++ t ∷ []) ∙ ap (λ (b : Bool). at_piece (q s.names y) b y (cut s (ts ++ t ∷ []))) (same_fits s (s.left ++ t ∷ [])))
      refl
      (by_tests (q s.names y) (fits c s) (open_as (sym (token_read s y ts)) o))
    where
      by_tests : (a b : Bool) → Open (at_piece a b y (cut s ts))
          → Next strict (y ∷ ts) t (at_piece a b y (cut s ts)) (at_piece a b y (cut s (ts ++ t ∷ []))) (read_token c q (freed (grow s (t ∷ []))) ((y ∷ ts) ++ t ∷ []))
      by_tests true true k = Stays y (cut s ts) refl k refl
      by_tests true false k = absurd k
      by_tests false b k = absurd (misfit_closed Piece y k)

  token_freed : (s : State) (l : List Piece) → Freed (read_token c q s l) (read_token c q (freed s) l)
  token_freed s [] = Same (token_ended (freed s) ∙ ap freed_reading (sym (token_ended s)))
  token_freed s (y ∷ ts) =
      freed_as (token_read s y ts) (token_read (freed s) y ts ∙ ap (λ (b : Bool). at_piece (q s.names y) b y (cut (freed s) ts)) (free_fits s))
      (by_tests (q s.names y) (fits c s))
    where
      by_tests : (a b : Bool) → Freed (at_piece a b y (cut s ts)) (at_piece a true y (cut (freed s) ts))
      by_tests true true = Same refl
      by_tests true false = Deeper y.token.at refl
      by_tests false b = Same refl

  token_taken : (s t : State) (x : Piece) → (token c q).whole s x t → (length t.left < length s.left) × (t.free ≡ s.free)
  token_taken s t x w =
      let e : length s.left ≡ suc (length t.left) = ap length w.0 in
      (omega arith, ap (λ (u : State). u.free) w.1)

  pub lawful_token : (strict : Bool) → Lawful strict (token c q)
  lawful_token strict = record {
    basic = record {
      sound = λ s t x e. token_value s s.left refl t x e;
      complete = token_complete;
      begun = token_begun;
      ended = λ s o. token_open s s.left refl o;
      nothing = λ s e. token_begun s (inl e);
      ahead = λ s vs. token_grown s vs s.left;
      unlimited = λ s. token_freed s s.left;
      part = λ s t x e. record { taken = x ∷ []; split = (token_value s s.left refl t x e).0 };
      limit = λ s t x e. (token_taken s t x (token_value s s.left refl t x e)).1;
    };
    next = λ s t o. token_more s t s.left o;
  }

  pub filled_token : Filled (token c q)
  filled_token = record { filled = λ s e. ap (λ (l : List Piece). read_token c q s l) e ∙ token_ended s }

  pub takes_token : Takes (token c q)
  takes_token = record { takes = λ s t x e. (token_taken s t x (token_value s s.left refl t x e)).0 }

  -- a token of a class begins with each piece of it
  pub opens_token : Opens q (token c q)
  opens_token = record {
    opens = λ s t before e h. next_as refl
        (ap (λ (l : List Piece). read_token c q s l) e ∙ token_read s t [] ∙ ap (λ (a : Bool). at_piece a (fits c s) t (cut s [])) h)
        (ap (λ (l : List Piece). read_token c q (freed s) l) e ∙ token_read (freed s) t [] ∙ ap (λ (a : Bool). at_piece a (fits c (freed s)) t (cut (freed s) [])) h
        ∙ ap (λ (b : Bool). at_piece true b t (cut (freed s) [])) (free_fits s))
        (by_fit s t before (fits c s));
  }
    where
      by_fit : (s : State) (t : Piece) (before : Reading Piece) (b : Bool) → Next true [] t before (at_piece true b t (cut s [])) (Ok (t, cut (freed s) []))
      by_fit s t before true = Opened refl
      by_fit s t before false = TooDeep refl refl
