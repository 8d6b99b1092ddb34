-- The trees that every definition of the language speaks of: types ([basic.types]), template arguments ([temp.arg]) and dependent expressions ([temp.dep]).
-- They are plain: two of them that are written alike are one tree. Names are the bytes of their text.
use Rattle.std.specs.Prelude.{ℕ, ℤ, List, [], ◌∷◌}
use Rattle.cx_base.specs.declared.numbers.DeclId.{DeclId}
use Rattle.cx_base.specs.declared.value.Scalar.{Scalar}
use Rattle.cx_term.specs.declared.word.Word.{Word}

mutual
  pub data Term : Type 0 where
    -- the template parameter at this position
    param : ℕ → Term
    -- a scalar type, or void
    scalar : Scalar → Term
    void : Term
    -- a class that is no template's, and a class template with its arguments
    struct : DeclId → Term
    inst : DeclId → Arguments → Term
    -- a type with const, and a reference to a type
    const : Term → Term
    ref : Term → Term
    -- the member type of this name, and the type of an expression
    member : Term → List ℕ → Term
    decltype : Term → Term
    -- a value of a scalar type
    val : Scalar → ℤ → Term
    -- a local variable or parameter, and functions by their name and how many of them are visible
    local : ℕ → Term
    functions : List ℕ → ℕ → Term
    -- a dependent expression of these parts
    form : Word → Arguments → Term

  -- a list of trees
  pub data Arguments : Type 0 where
    nothing : Arguments
    argument : Term → Arguments → Arguments

-- the list of trees of these members, and the members of a list
abbrev pub arguments : List Term → Arguments
arguments [] = nothing
arguments (t ∷ ts) = argument t (arguments ts)

abbrev pub members : Arguments → List Term
members nothing = []
members (argument t xs) = t ∷ members xs
