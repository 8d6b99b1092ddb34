-- Classes of characters. A character is its code point; a text is the list of its characters.
use Rattle.std.specs.Prelude.{ℕ, Bool, ◌||◌, ◌&&◌, nat_le, ◌==◌}
use Rattle.unicode_ident.specs.Ident.{is_xid_start, is_xid_continue}

-- Space, tab and the characters 0A to 0D.
unfoldable pub is_blank : ℕ → Bool
is_blank c = c == 32 || (nat_le 9 c && nat_le c 13)

-- The end of a line.
abbrev pub is_newline : ℕ → Bool
is_newline c = c == 10

unfoldable pub is_digit : ℕ → Bool
is_digit c = nat_le 48 c && nat_le c 57

-- What begins a name ([lex.name]): `_`, or a character with the property XID_Start.
unfoldable pub begins_name : ℕ → Bool
begins_name c = c == 95 || is_xid_start c

-- What goes on with a name: a character with the property XID_Continue, which `_` has.
unfoldable pub continues_name : ℕ → Bool
continues_name c = is_xid_continue c

-- One of e, E, p, P, behind which a number takes a sign.
unfoldable pub begins_exponent : ℕ → Bool
begins_exponent c = c == 101 || c == 69 || c == 112 || c == 80

-- What goes on with a number behind a character ([lex.ppnumber]): what goes on with a name, a point, a quotation
-- mark, and a sign directly behind one of e, E, p, P.
unfoldable pub continues_number : ℕ → ℕ → Bool
continues_number before c = continues_name c || c == 46 || c == 39 || (begins_exponent before && (c == 43 || c == 45))
