-- When the names of a unit are well formed, and what its first fault of names is, by the numbers of its functions
-- ([basic.scope.pdecl], [basic.lookup.unqual]).
use Rattle.std.specs.Prelude.{◌≡◌, ◌<◌, ◌+◌, ℕ, List, ◌∷◌, ◌++◌, Some, slice_get, take}
use Rattle.std.specs.List.{AllByRecursion}
use Rattle.cx_base.specs.declared.fault.Fault.{Fault}
use Rattle.cx_engine.specs.Definitions.{Definition}
use Rattle.cx_engine.specs.Forms.{Mention}
use Rattle.cx_engine.specs.Names.{calls_in, redeclared, unknown_name}

-- One of the first n functions has this name.
pub record IsAmongFirst (n : ℕ) (u : List Definition) (name : List ℕ) : Type 0 where
  pub number : ℕ
  pub function : Definition
  pub within : number < n
  pub there : slice_get u number ≡ Some function
  pub named : function.name ≡ name

-- Two functions of one name are one, and a function calls names of functions before it or its own.
pub record IsWellNamed (u : List Definition) : Type 0 where
  pub once : (i j : ℕ) (f g : Definition) → slice_get u i ≡ Some f → slice_get u j ≡ Some g → f.name ≡ g.name → i ≡ j
  pub known : (j : ℕ) (f : Definition) → slice_get u j ≡ Some f → AllByRecursion (λ c. IsAmongFirst (j + 1) u c.name) (calls_in f.value)

-- The functions before that of number j are well named, and that function declares the name of the function of
-- number i again: the fault stands at the later name, and `also` has the earlier one.
pub record Redeclares (u : List Definition) (fault : Fault) (i j : ℕ) : Type 0 where
  pub earlier : Definition
  pub later : Definition
  pub before : IsWellNamed (take j u)
  pub order : i < j
  pub declares : slice_get u i ≡ Some earlier
  pub declares_again : slice_get u j ≡ Some later
  pub same_name : earlier.name ≡ later.name
  pub says : fault ≡ redeclared later.at earlier.at

-- The functions before that of number j are well named, and the name of that function is new. It calls names of
-- functions before it or its own, and then one that none of these has: the fault stands at that name.
pub record CallsUnknown (u : List Definition) (fault : Fault) (j : ℕ) : Type 0 where
  pub caller : Definition
  pub earlier : List Mention
  pub call : Mention
  pub later : List Mention
  pub before : IsWellNamed (take j u)
  pub there : slice_get u j ≡ Some caller
  pub new : ¬ IsAmongFirst j u caller.name
  pub calls : calls_in caller.value ≡ earlier ++ call ∷ later
  pub known : AllByRecursion (λ c. IsAmongFirst (j + 1) u c.name) earlier
  pub unknown : ¬ IsAmongFirst (j + 1) u call.name
  pub says : fault ≡ unknown_name call.at
