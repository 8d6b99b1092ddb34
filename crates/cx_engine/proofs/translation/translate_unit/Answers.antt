use Rattle.std.proofs.Common.{◌≡◌, length, List, Ok, refl, ap, sym, ◌∙◌, subst, arith}
use Rattle.std.specs.Prelude.{map}
use Rattle.std.specs.List.{AllByRecursion}
use Rattle.std.proofs.lemmas.List.{length-map}
use Rattle.cx_plain.specs.PlainTree.{PlainFunction, function_view}
use Rattle.cx_plain.specs.PlainTyping.{IsTypedFunction}
use Rattle.cx_statements.specs.DeclarationViews.{unit_tree}
use Rattle.cx_engine.specs.declared.definitions.Definition.{Definition}
use Rattle.cx_engine.specs.Definitions.{definition_tree}
use Rattle.cx_engine.specs.Names.{declared, names_unit}
use Rattle.cx_engine.specs.Plain.{plain_function}
use Rattle.cx_engine.proofs.FormsLemmas.{forms_length}
use Rattle.cx_engine.proofs.MeaningLemmas.{runs, is_typed}
use Rattle.cx_engine.proofs.translation.translate_unit.Goals as goal

pub plain_functions-requires : goal.plain_functions-requires
plain_functions-requires c =
    let fs = map definition_tree c.in_ok-definitions.definitions.items in
    let all : c.in_ok-names.names ≡ map declared fs = c.in_ok-names.ensures.all ∙ ap (λ (ds : List Definition). map declared (map definition_tree ds)) c.deref.ensures.value in
    let few : length fs ≡ length (unit_tree c.args.unit.now) = forms_length (unit_tree c.args.unit.now) fs c.in_ok-definitions.ensures in
    record { room = omega (arith, ap length all, length-map fs declared, few, c.requires.room) }

pub returns-clause-typed : goal.returns-clause-typed
returns-clause-typed c =
    let fs = map definition_tree c.in_ok-definitions.definitions.items in
    let functions : map function_view c.from_vec.result ≡ map (plain_function (map declared fs)) fs =
    rw (c.from_vec.ensures, c.in_ok-functions.ensures.ok, c.deref-2.ensures.value, c.in_ok-names.ensures.all, c.deref.ensures.value) refl in
    let named : names_unit fs ≡ Ok tt = rw c.deref.ensures.value at c.in_ok-names.ensures.exact in
    subst (λ (gs : List PlainFunction). AllByRecursion (IsTypedFunction (length gs)) gs) (sym functions) (is_typed fs named)

pub returns-clause-means : goal.returns-clause-means
returns-clause-means c =
    let fs = map definition_tree c.in_ok-definitions.definitions.items in
    let functions : map function_view c.from_vec.result ≡ map (plain_function (map declared fs)) fs =
    rw (c.from_vec.ensures, c.in_ok-functions.ensures.ok, c.deref-2.ensures.value, c.in_ok-names.ensures.all, c.deref.ensures.value) refl in
    let named : names_unit fs ≡ Ok tt = rw c.deref.ensures.value at c.in_ok-names.ensures.exact in
    (fs, c.in_ok-definitions.ensures, λ n k f at. rw functions (runs (unit_tree c.args.unit.now) fs c.in_ok-definitions.ensures named n k f at))
