-- Parameters are as they are printed.
use Rattle.std.proofs.Common.{inl, ℕ, Bool, true, false, ◌&&◌, [], codes, Option, None, Some, refl}
use Rattle.cx_base.specs.declared.place.Place.{Place}
use Rattle.cx_tree.specs.Statements.{WrittenType, OfType, OfAuto}
use Rattle.cx_tree.specs.Declarations.{ParameterTree}
use Rattle.cx_grammar.specs.Production.{Production, ◌>>=◌, token}
use Rattle.cx_grammar.specs.Words.{word, any_name}
use Rattle.cx_grammar.specs.Names.{Context, concept_name}
use Rattle.cx_grammar.specs.Types.{Numbered, Below, type_id, Named, type_place}
use Rattle.cx_grammar.specs.Expressions.{levels}
use Rattle.cx_grammar.specs.Requires.{constraint}
use Rattle.cx_grammar.specs.Statements.{auto_behind, place_or}
use Rattle.cx_grammar.specs.Declarations.{parameter_behind, typed_parameter, auto_parameter, const_parameter, parameter}
use Rattle.cx_grammar.specs.Printed.{IsAsPrinted, trees_of}
use Rattle.cx_grammar.proofs.Printed.{Starts, token-Starts, first-Starts}
use Rattle.cx_grammar_laws.specs.Printed.{maybe_named, typed_name, constrained_name, auto_name, printed_parameter}
use Rattle.cx_grammar_laws.proofs.Cases.{Any, First, turned, ◌then◌, second-Alike, skip-Alike, PrintedWhere, printed_alike, everywhere, by_first, avoids-Apart, give-Avoids}
use Rattle.cx_grammar_laws.proofs.Statements.{auto_behind-Starts}
use Rattle.cx_grammar_laws.proofs.Autos.{constraint-Starts, const_first, type_or_auto}
use Rattle.cx_grammar_laws.proofs.Behind.{SameWhere, printed_where, as_printed, or_where, behind_where, next_tells, no_kind}

-- a name or none
behind-Printed : (c : Context) (at : Place) (of : Numbered WrittenType) → PrintedWhere Any any_name (parameter_behind c at of) (maybe_named c at of)
unfolding parameter_behind
behind-Printed c at of = next_tells any_name any_name (token-Starts c.load any_name _) (avoids-Apart (λ ts e. e) (give-Avoids any_name _)) (λ l. refl)

module _ (b : Below) (c : Context) (n : ℕ) where
  abbrev constrained : Option Place → Bool → Production (Named ParameterTree)
  constrained at before = constraint b c n >>= (λ k. auto_parameter c (Some (place_or k.0.mark.at at)) before (Some k.0) k.1)

  abbrev plain : Option Place → Bool → Production (Named ParameterTree)
  plain at before = auto_parameter c at before None n

  constrained-Starts : (at : Option Place) (before : Bool) → Starts (concept_name c) (constrained at before)
  constrained-Starts at before = first-Starts _ (constraint-Starts b c n)

  plain-Starts : (at : Option Place) (before : Bool) → Starts (word (codes "auto")) (plain at before)
  unfolding auto_parameter
  plain-Starts at before = first-Starts _ (auto_behind-Starts c at before None n)

  constrained-starts : (at : Option Place) (before : Bool) (l : ℕ) → (constrained at before).front l []
  unfolding constraint
  constrained-starts at before l = inl (inl (inl refl))

  plain-starts : (at : Option Place) (before : Bool) (l : ℕ) → (plain at before).front l []
  unfolding auto_parameter auto_behind
  plain-starts at before l = inl (inl (inl refl))

  typed-Same : SameWhere any_name (trees_of (type_id b c n >>= typed_parameter c)) (typed_name b c n)
  unfolding typed_parameter
  typed-Same = behind_where (trees_of (type_id b c n)) (λ of. as_printed (behind-Printed c (type_place of.0) (OfType of.0, of.1)))

  constrained-Same : (at : Option Place) (before : Bool) → SameWhere any_name (trees_of (constrained at before)) (constrained_name b c n at before)
  unfolding auto_parameter
  constrained-Same at before =
      behind_where (trees_of (constraint b c n)) (λ k.
      behind_where (trees_of (auto_behind c (Some (place_or k.0.mark.at at)) before (Some k.0) k.1)) (λ a. as_printed (behind-Printed c a.0.mark.at (OfAuto a.0, a.1))))

  plain-Same : (at : Option Place) (before : Bool) → SameWhere any_name (trees_of (plain at before)) (auto_name c n at before)
  unfolding auto_parameter
  plain-Same at before = behind_where (trees_of (auto_behind c at before None n)) (λ a. as_printed (behind-Printed c a.0.mark.at (OfAuto a.0, a.1)))

module _ (requires : Bool) (depth : ℕ) (c : Context) (n : ℕ) where
  abbrev b : Below
  b = levels requires depth

  with_autos : PrintedWhere Any any_name (parameter true b c n) (printed_parameter true b c n)
  unfolding parameter const_parameter printed_parameter
  with_autos =
      printed_where
      (or_where (typed-Same b c n)
      (or_where (or_where (constrained-Same b c n None false) (plain-Same b c n None false))
      (behind_where (trees_of (token c.load (word (codes "const")))) (λ t. or_where (constrained-Same b c n (Some t.token.at) true) (plain-Same b c n (Some t.token.at) true)))))
      (type_or_auto requires depth c n (typed_parameter c) any_name (constrained b c n) (plain b c n) (constrained-Starts b c n) (plain-Starts b c n) (constrained-starts b c n) (plain-starts b c n))

  without_autos : PrintedWhere Any any_name (parameter false b c n) (printed_parameter false b c n)
  unfolding parameter const_parameter printed_parameter
  without_autos =
      printed_where (typed-Same b c n)
      (by_first (word (codes "const"))
      (printed_alike any_name
      (second-Alike (First (word (codes "const"))) (token c.load (word (codes "const"))) (λ t.
      skip-Alike (λ p. false && concept_name c p) _ _ (λ ts k. no_kind _ (λ p. refl) ts)
      then skip-Alike (λ p. false && word (codes "auto") p) _ _ (λ ts k. no_kind _ (λ p. refl) ts))
      then turned (const_first requires depth c n (typed_parameter c))))
      (printed_alike any_name
      (skip-Alike (λ p. false && concept_name c p) _ _ (λ ts k. no_kind _ (λ p. refl) ts)
      then skip-Alike (λ p. false && word (codes "auto") p) _ _ (λ ts k. no_kind _ (λ p. refl) ts))))

  parameter_where : (autos : Bool) → PrintedWhere Any any_name (parameter autos b c n) (printed_parameter autos b c n)
  parameter_where true = with_autos
  parameter_where false = without_autos

  pub parameter_printed : (autos : Bool) → IsAsPrinted (parameter autos b c n) any_name (printed_parameter autos b c n)
  parameter_printed autos = everywhere (parameter_where autos)
