-- The trees of declarations ([dcl.dcl], [class], [temp]) and of a unit.
use Rattle.std.specs.Prelude.{ℕ, Bool, List, Option}
use Rattle.cx_base.specs.declared.value.Scalar.{Scalar}
use Rattle.cx_productions.specs.Trees.{Mark, ExprTree, TypeTree, ArgumentTrees, ConstraintTree}
use Rattle.cx_productions.specs.StatementTrees.{WrittenType, InitTree, AssertTree, StmtTree}

-- The words before a declaration ([dcl.stc], [dcl.inline], [dcl.constexpr]).
pub record Specifiers : Type 0 where
  pub is_inline : Bool
  pub is_static : Bool
  pub is_constexpr : Bool

-- A parameter of a function ([dcl.fct]); its place is that of its name, or of its type where it has none.
pub record ParameterTree : Type 0 where
  pub mark : Mark
  pub type : WrittenType
  pub name : Option (List ℕ)

-- A declaration of a function; its place is that of its name. A body is a block.
pub record FunctionTree : Type 0 where
  pub mark : Mark
  pub specifiers : Specifiers
  pub result : TypeTree
  pub name : List ℕ
  pub parameters : List ParameterTree
  pub is_const : Bool
  pub trailing : Option ExprTree
  pub body : Option StmtTree

-- An alias ([dcl.typedef]); its place is that of its name.
pub record AliasTree : Type 0 where
  pub mark : Mark
  pub name : List ℕ
  pub type : TypeTree

-- A variable of the unit, or a static constant; its place is that of its name.
pub record ConstantTree : Type 0 where
  pub mark : Mark
  pub specifiers : Specifiers
  pub type : TypeTree
  pub name : List ℕ
  pub init : InitTree

-- A member of a struct ([class.mem]).
pub data MemberTree : Type 0 where
  EmptyMember : Mark → MemberTree
  AliasMember : AliasTree → MemberTree
  FieldMember : Mark → TypeTree → (name : List ℕ) → MemberTree
  ConstantMember : ConstantTree → MemberTree
  FunctionMember : FunctionTree → MemberTree

-- A struct, or the class that a class template or a specialisation declares; its place is that of its name.
pub record StructTree : Type 0 where
  pub mark : Mark
  pub name : List ℕ
  pub members : List MemberTree

-- A template parameter ([temp.param]): of a type, constrained or not, or a value. Its place is that of its name, or of
-- its first token where it has none.
pub data TemplateParameterTree : Type 0 where
  TypeParameter : Mark → (name : Option (List ℕ)) → (default : Option TypeTree) → TemplateParameterTree
  ConstrainedParameter : Mark → ConstraintTree → (name : Option (List ℕ)) → (default : Option TypeTree) → TemplateParameterTree
  ValueParameter : Mark → Scalar → (name : Option (List ℕ)) → (default : Option ExprTree) → TemplateParameterTree

-- What a template declares ([temp.pre]).
pub data TemplatedTree : Type 0 where
  FunctionTemplate : FunctionTree → TemplatedTree
  StructTemplate : StructTree → TemplatedTree
  ConceptDefinition : Mark → (name : List ℕ) → ExprTree → TemplatedTree
  Specialisation : StructTree → ArgumentTrees → TemplatedTree

-- A declaration. The place of a template is that of the name that it declares.
pub data DeclTree : Type 0 where
  EmptyDecl : Mark → DeclTree
  AssertDecl : AssertTree → DeclTree
  AliasDecl : AliasTree → DeclTree
  ConstantDecl : ConstantTree → DeclTree
  FunctionDecl : FunctionTree → DeclTree
  StructDecl : StructTree → DeclTree
  TemplateDecl : Mark → List TemplateParameterTree → (clause : Option ExprTree) → TemplatedTree → DeclTree

-- the place of what a template declares
abbrev pub templated_place : TemplatedTree → Mark
templated_place (FunctionTemplate f) = f.mark
templated_place (StructTemplate s) = s.mark
templated_place (ConceptDefinition m name e) = m
templated_place (Specialisation s arguments) = s.mark

-- a declaration's own node
abbrev pub decl_mark : DeclTree → Mark
decl_mark (EmptyDecl m) = m
decl_mark (AssertDecl a) = a.mark
decl_mark (AliasDecl a) = a.mark
decl_mark (ConstantDecl c) = c.mark
decl_mark (FunctionDecl f) = f.mark
decl_mark (StructDecl s) = s.mark
decl_mark (TemplateDecl m parameters clause templated) = m

-- A unit: its declarations in order ([basic.link]).
abbrev pub UnitTree : Type 0
UnitTree = List DeclTree
