-- The text of a word.
use Rattle.std.specs.Prelude.{ℕ, ◌+◌, ◌-◌, ◌*◌, ◌/◌, ◌%◌, cond, List, [], ◌∷◌, ◌++◌, Some, None, codes, Option, ◌==◌, length, nat_lt}
use Rattle.std.specs.List.{flat_map}
use Rattle.names.specs.Names.{first_word}
use Rattle.forms.specs.declared.Form.{Form}
use Rattle.forms.specs.declared.FormRow.{FormRow}
use Rattle.forms.specs.Table.{form_of}
use Rattle.text.specs.declared.syntax.Piece.{Piece}
use Rattle.text.specs.declared.syntax.Piece.TheVariants.{Comma, Open, Close, High, Middle, Low, SystemHigh, SystemMiddle, Signed5, Signed6, Signed8, Byte}
use Rattle.text.specs.Syntax.{pieces_of, syntax_of}

-- a number below 1,000 in decimal, without leading zeros
abbrev pub decimal : ℕ → List ℕ
decimal n =
    cond (nat_lt n 10) ((48 + n) ∷ [])
    (cond (nat_lt n 100) ((48 + n / 10) ∷ (48 + n % 10) ∷ []) ((48 + n / 100) ∷ (48 + n / 10 % 10) ∷ (48 + n % 10) ∷ []))

-- a field of 2 * half values in two's complement: the upper half is written as a negative number
abbrev pub signed_decimal : ℕ → ℕ → List ℕ
signed_decimal half n = cond (nat_lt n half) (decimal n) (codes "-" ++ decimal (2 * half - n))

abbrev pub register : ℕ → List ℕ
register n = codes "R" ++ ((48 + n) ∷ [])

abbrev pub system_register : ℕ → List ℕ
system_register n = codes "S" ++ ((48 + n) ∷ [])

abbrev pub piece_text : ℕ → Piece → List ℕ
piece_text word Comma = codes ", "
piece_text word Open = codes "("
piece_text word Close = codes ")"
piece_text word High = register (word / 512 % 8)
piece_text word Middle = register (word / 64 % 8)
piece_text word Low = register (word % 8)
piece_text word SystemHigh = system_register (word / 512 % 8)
piece_text word SystemMiddle = system_register (word / 64 % 8)
piece_text word Signed5 = signed_decimal 16 (word % 32)
piece_text word Signed6 = signed_decimal 32 (word % 64)
piece_text word Signed8 = signed_decimal 128 (word % 256)
piece_text word Byte = decimal (word % 256)

abbrev pub pieces_text : ℕ → List Piece → List ℕ
pieces_text word pieces = flat_map (piece_text word) pieces

-- operands stand behind a blank
abbrev pub operands_text : ℕ → List Piece → List ℕ
operands_text word pieces = cond (length pieces == 0) [] (codes " " ++ pieces_text word pieces)

-- the text of a word as one of a form
abbrev pub form_text : ℕ → Form → List ℕ
form_text word f = first_word (syntax_of f).name.letters ++ operands_text word (pieces_of (syntax_of f).value.operands)

-- a hexadecimal digit, in capitals
abbrev pub hex_digit : ℕ → ℕ
hex_digit n = cond (nat_lt n 10) (48 + n) (55 + n)

abbrev pub hex_word : ℕ → List ℕ
hex_word word = hex_digit (word / 4096) ∷ hex_digit (word / 256 % 16) ∷ hex_digit (word / 16 % 16) ∷ hex_digit (word % 16) ∷ []

-- the text of a word of no form
abbrev pub raw_text : ℕ → List ℕ
raw_text word = codes ".word " ++ hex_word word

abbrev pub text_by : ℕ → Option FormRow → List ℕ
text_by word (Some row) = form_text word row.form
text_by word None = raw_text word

abbrev pub text_of : ℕ → List ℕ
text_of word = text_by word (form_of word)
