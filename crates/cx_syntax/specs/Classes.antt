-- Classes of pieces that productions ask for. Each is shut: a production asks for it by its name.
use Rattle.std.specs.Prelude.{Bool, ◌||◌, ◌&&◌, not, is_some}
use Rattle.cx_tokens.specs.declared.word.Word.{Word}
use Rattle.cx_tokens.specs.declared.punctuator.Punctuator.{Punctuator}
use Rattle.cx_tokens.specs.declared.punctuator.Punctuator.TheVariants as punctuator
use Rattle.cx_tokens.specs.Literals.{type_of}
use Rattle.cx_tokens.specs.Pieces.{Piece, is_word, is_punctuator, is_name, is_literal, is_string, is_end, is_all, is_first, is_second}
use Rattle.cx_names.specs.declared.name_kind.NameKind.{NameKind}
use Rattle.cx_names.specs.Frames.{Frames}
use Rattle.cx_names.specs.Kinds.{is_kind}
use Rattle.cx_syntax.specs.declared.context.OpenLists.{OpenLists}
use Rattle.cx_syntax.specs.Contexts.{is_listed, is_twice_listed}
use Rattle.cx_syntax.specs.Productions.{Class}

-- A reserved word.
unfoldable pub word : Word → Class
word w names p = is_word w p.token.kind

-- A punctuator that is one piece.
unfoldable pub punct : Punctuator → Class
punct w names p = is_all p.half && is_punctuator w p.token.kind

-- Any name; a name of a kind.
unfoldable pub any_name : Class
any_name names p = is_name p.token.kind

unfoldable pub name_of : NameKind → Class
name_of kind names p = is_name p.token.kind && is_kind kind names p.token.text

-- A literal that is a value of one of its types; a string; the end of the text.
unfoldable pub literal : Class
literal names p = is_literal p.token.kind && is_some (type_of p.token.text)

unfoldable pub string : Class
string names p = is_string p.token.kind

unfoldable pub end : Class
end names p = is_end p.token.kind

-- The second half of `>>`.
unfoldable pub second_half : Class
second_half names p = is_second p.half

-- What closes a list of template arguments, of which so many are open: `>`, or a half of `>>`, whose first half closes
-- only where two are open.
unfoldable pub closing : OpenLists → Class
closing lists names p =
    (is_all p.half && is_punctuator punctuator.Greater p.token.kind) || (is_first p.half && is_twice_listed lists) || (is_second p.half && is_listed lists)

-- No piece.
unfoldable pub nothing : Class
nothing names p = Bool.false

-- ---- classes of classes

-- One class or another.
infixl 4 ◌or◌
abbrev pub ◌or◌ : Class → Class → Class
(q or r) names p = q names p || r names p

-- A class where something holds; none else.
abbrev pub where_holds : Bool → Class → Class
where_holds is q names p = is && q names p

-- Any piece but those of a class.
abbrev pub any_but : Class → Class
any_but q names p = not (q names p)
