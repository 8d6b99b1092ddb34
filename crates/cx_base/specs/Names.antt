-- The words that a report writes for kinds of fault and for limits: the names of the variants.
use Rattle.std.specs.Prelude.{ℕ, List, codes}
use Rattle.cx_base.specs.declared.kind.Kind.{Kind}
use Rattle.cx_base.specs.declared.kind.Kind.TheVariants as kind
use Rattle.cx_base.specs.declared.limit.Limit.{Limit}
use Rattle.cx_base.specs.declared.limit.Limit.TheVariants as limit

unfoldable pub kind_name : Kind → List ℕ
kind_name kind.BadByte = codes "BadByte"
kind_name kind.BadToken = codes "BadToken"
kind_name kind.Syntax = codes "Syntax"
kind_name kind.Unsupported = codes "Unsupported"
kind_name kind.UnknownName = codes "UnknownName"
kind_name kind.Redeclared = codes "Redeclared"
kind_name kind.LateOverload = codes "LateOverload"
kind_name kind.InvalidMapping = codes "InvalidMapping"
kind_name kind.InvalidType = codes "InvalidType"
kind_name kind.InvalidExpr = codes "InvalidExpr"
kind_name kind.NoViable = codes "NoViable"
kind_name kind.Ambiguous = codes "Ambiguous"
kind_name kind.Unsatisfied = codes "Unsatisfied"
kind_name kind.NotConstant = codes "NotConstant"
kind_name kind.NotBool = codes "NotBool"
kind_name kind.AssertFailed = codes "AssertFailed"
kind_name kind.Incomplete = codes "Incomplete"
kind_name kind.NoDefinition = codes "NoDefinition"
kind_name kind.NotMoreSpecialised = codes "NotMoreSpecialised"
kind_name kind.LiteralTooBig = codes "LiteralTooBig"

unfoldable pub limit_name : Limit → List ℕ
limit_name limit.Source = codes "Source"
limit_name limit.Depth = codes "Depth"
limit_name limit.Height = codes "Height"
limit_name limit.Instances = codes "Instances"
limit_name limit.Steps = codes "Steps"
limit_name limit.Calls = codes "Calls"
limit_name limit.Clauses = codes "Clauses"
limit_name limit.Atoms = codes "Atoms"
limit_name limit.TermSize = codes "TermSize"
limit_name limit.Object = codes "Object"
limit_name limit.Output = codes "Output"
