-- The only word whose text a text can be, found from its mnemonic and the digits at the places of its operands. Whether it
-- is that word's text is for the reader to compare.
use Rattle.std.specs.Prelude.{ℕ, ◌+◌, ◌-◌, ◌*◌, ◌%◌, Bool, cond, List, [], ◌∷◌, length, Some, None, Option, ◌==◌, nat_lt, slice_index, drop, ◌&&◌, nat_le}
use Rattle.names.specs.Names.{first_word}
use Rattle.forms.specs.Table.{row_of}
use Rattle.text.specs.declared.syntax.Piece.{Piece}
use Rattle.text.specs.declared.syntax.Piece.TheVariants.{Comma, Open, Close, High, Middle, Low, SystemHigh, SystemMiddle, Signed5, Signed6, Signed8, Byte}
use Rattle.text.specs.declared.syntax.Syntax.{Syntax}
use Rattle.text.specs.Syntax.{pieces_of, syntax_named}

abbrev pub is_digit : ℕ → Bool
is_digit c = nat_le 48 c && nat_lt c 58

-- how many digits the number of one to three digits at the start of a text has, and the number
abbrev pub number_width : List ℕ → ℕ
number_width text = cond (is_digit (slice_index text 1)) (cond (is_digit (slice_index text 2)) 3 2) 1

abbrev pub number : List ℕ → ℕ
number text =
    cond (is_digit (slice_index text 1))
    (cond (is_digit (slice_index text 2))
    (slice_index text 0 % 16 * 100 + slice_index text 1 % 16 * 10 + slice_index text 2 % 16)
    (slice_index text 0 % 16 * 10 + slice_index text 1 % 16))
    (slice_index text 0 % 16)

-- the same with a sign before it, as a field of `values` values
abbrev pub signed : ℕ → List ℕ → ℕ
signed values text = cond (slice_index text 0 == 45) ((values - number (drop 1 text) % values) % values) (number text % values)

abbrev pub signed_width : List ℕ → ℕ
signed_width text = cond (slice_index text 0 == 45) (1 + number_width (drop 1 text)) (number_width text)

-- what the piece at the start of a text adds to the word, and how many characters it has
abbrev pub field : Piece → List ℕ → ℕ
field Comma text = 0
field Open text = 0
field Close text = 0
field High text = slice_index text 1 % 8 * 512
field Middle text = slice_index text 1 % 8 * 64
field Low text = slice_index text 1 % 8
field SystemHigh text = slice_index text 1 % 8 * 512
field SystemMiddle text = slice_index text 1 % 8 * 64
field Signed5 text = signed 32 text
field Signed6 text = signed 64 text
field Signed8 text = signed 256 text
field Byte text = number text % 256

abbrev pub width : Piece → List ℕ → ℕ
width Comma text = 2
width Open text = 1
width Close text = 1
width High text = 2
width Middle text = 2
width Low text = 2
width SystemHigh text = 2
width SystemMiddle text = 2
width Signed5 text = signed_width text
width Signed6 text = signed_width text
width Signed8 text = signed_width text
width Byte text = number_width text

-- what a list of operands adds to the word
abbrev pub fields : List Piece → List ℕ → ℕ
fields [] text = 0
fields (piece ∷ pieces) text = field piece text + fields pieces (drop (width piece text) text)

-- the value of the hexadecimal digit at an index
abbrev pub hex_at : List ℕ → ℕ → ℕ
hex_at text i = cond (nat_lt (slice_index text i) 58) (slice_index text i % 16) ((slice_index text i + 9) % 16)

abbrev pub candidate_by : List ℕ → Option Syntax → ℕ
candidate_by text (Some s) =
    ((row_of s.form).value + fields (pieces_of s.operands) (drop (length (first_word text) + 1) text)) % 65536
candidate_by text None = hex_at text 6 * 4096 + hex_at text 7 * 256 + hex_at text 8 * 16 + hex_at text 9

abbrev pub candidate_of : List ℕ → ℕ
candidate_of text = candidate_by text (syntax_named text)
