-- Variables are as they are printed.
use Rattle.std.proofs.Common.{inl, ℕ, Bool, [], codes, Option, None, refl}
use Rattle.cx_base.specs.declared.place.Place.{Place}
use Rattle.cx_tree.specs.Statements.{StmtTree}
use Rattle.cx_grammar.specs.Production.{Production}
use Rattle.cx_grammar.specs.Words.{word}
use Rattle.cx_grammar.specs.Names.{Context, concept_name}
use Rattle.cx_grammar.specs.Types.{Below, Named}
use Rattle.cx_grammar.specs.Expressions.{levels}
use Rattle.cx_grammar.specs.Requires.{constraint}
use Rattle.cx_grammar.specs.Statements.{auto_behind, variable_of, typed_variable, constrained_auto, plain_auto, const_variable, variable}
use Rattle.cx_grammar.specs.Printed.{IsAsPrinted}
use Rattle.cx_grammar.proofs.Printed.{Starts, first-Starts}
use Rattle.cx_grammar_laws.specs.Printed.{nothing, printed_variable}
use Rattle.cx_grammar_laws.proofs.Cases.{everywhere}
use Rattle.cx_grammar_laws.proofs.Statements.{auto_behind-Starts}
use Rattle.cx_grammar_laws.proofs.Autos.{constraint-Starts, type_or_auto}

module _ (b : Below) (c : Context) (n : ℕ) (is_constexpr : Bool) (at : Option Place) (before : Bool) where
  constrained-Starts : Starts (concept_name c) (constrained_auto b c at is_constexpr before n)
  unfolding constrained_auto
  constrained-Starts = first-Starts _ (constraint-Starts b c n)

  plain-Starts : Starts (word (codes "auto")) (plain_auto b c at is_constexpr before n)
  unfolding plain_auto
  plain-Starts = first-Starts _ (auto_behind-Starts c at before None n)

  abbrev constrained : Production (Named StmtTree)
  constrained = constrained_auto b c at is_constexpr before n

  abbrev plain : Production (Named StmtTree)
  plain = plain_auto b c at is_constexpr before n

  constrained-starts : (l : ℕ) → constrained.front l []
  unfolding constrained_auto constraint
  constrained-starts l = inl (inl (inl refl))

  plain-starts : (l : ℕ) → plain.front l []
  unfolding plain_auto auto_behind
  plain-starts l = inl (inl (inl refl))

module _ (requires : Bool) (depth : ℕ) (c : Context) (is_constexpr : Bool) (n : ℕ) where
  abbrev b : Below
  b = levels requires depth

  pub variable_printed : IsAsPrinted (variable b c is_constexpr n) nothing (printed_variable b c is_constexpr n)
  unfolding printed_variable variable const_variable typed_variable
  variable_printed =
      everywhere
      (type_or_auto requires depth c n (variable_of b c is_constexpr) nothing (λ at before. constrained_auto b c at is_constexpr before n) (λ at before. plain_auto b c at is_constexpr before n) (constrained-Starts b c n is_constexpr) (plain-Starts b c n is_constexpr) (constrained-starts b c n is_constexpr) (plain-starts b c n is_constexpr))
