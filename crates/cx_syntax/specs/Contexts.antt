-- Where a production stands: how many constructs may still be open at its tokens, and which brackets it is within.
--
-- The load of a token is the number of constructs that are open where it stands, and a token fits where its load is at
-- most 256. A production is told its room, which counts down: 257 for a unit, and one less for each construct that is
-- open. So a token fits where there is room for one. These are the constructs, and where each of them is open:
--
--     a declaration, a statement, a requirement     deeper     from its first token to its last
--     a type                                        deeper     from the first token of its core to the last of the type
--     ( ) and { }                                   inside     from the opening to the closing token
--     < > of template arguments and parameters      listed     from the opening to the closing token
--     a unary operator                              deeper     from itself to the end of its operand
--     a binary or a postfix operator                deeper     from the token after it to the end of its chain
--     a conditional                                 deeper     from the token after its `?` to its end
--     an assignment                                 deeper     from the token after its operator to its end
use Rattle.std.specs.Prelude.{◌-◌, Bool, true, false}
use Rattle.cx_syntax.specs.declared.context.OpenLists.{OpenLists}
use Rattle.cx_syntax.specs.declared.context.OpenLists.TheVariants as lists
use Rattle.cx_syntax.specs.declared.context.Context.{Context}

abbrev pub more_lists : OpenLists → OpenLists
more_lists lists.None = lists.One
more_lists lists.One = lists.Several
more_lists lists.Several = lists.Several

-- Within one more construct.
unfoldable pub deeper : Context → Context
deeper c = record { room = c.room - 1; lists = c.lists }

-- Within one more pair of brackets that is no list of template arguments.
unfoldable pub inside : Context → Context
inside c = record { room = c.room - 1; lists = lists.None }

-- Within one more list of template arguments.
unfoldable pub listed : Context → Context
listed c = record { room = c.room - 1; lists = more_lists c.lists }

-- whether a list of template arguments is open
abbrev pub is_listed : OpenLists → Bool
is_listed lists.None = false
is_listed other = true

-- whether two are
abbrev pub is_twice_listed : OpenLists → Bool
is_twice_listed lists.Several = true
is_twice_listed other = false
