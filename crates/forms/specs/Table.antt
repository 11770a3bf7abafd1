-- The forms of instruction words, each by the picture of its sixteen bits, bit 15 first. A 0 or a 1 has to stand so in
-- every word of the form; d, a and b are register numbers, and n is a number.
use Rattle.std.specs.List.{find}
use Rattle.std.specs.Prelude.{◌≡◌, ℕ, zero, suc, ◌+◌, ◌*◌, ◌<◌, Bool, true, cond, List, [], ◌∷◌, length, is_some, codes, Option, ◌==◌, bit_and, slice_index_or}
use Prim.Native.String.{String}
use Rattle.forms.specs.declared.Form.{Form}
use Rattle.forms.specs.declared.Form.TheVariants as form
use Rattle.forms.specs.declared.FormRow.{FormRow}

-- 1 at a bit that has to be 1
abbrev one : ℕ → ℕ
one c = cond (c == 49) 1 0

-- 1 at a bit that has to be 0 or has to be 1
abbrev fixed : ℕ → ℕ
fixed c = cond (c == 48) 1 (one c)

-- the number whose binary digits stand in a picture
abbrev numeral : (ℕ → ℕ) → ℕ → List ℕ → ℕ
numeral digit high [] = high
numeral digit high (c ∷ cs) = numeral digit (2 * high + digit c) cs

abbrev row : String → Form → FormRow
row picture f = record { mask = numeral fixed 0 (codes picture); value = numeral one 0 (codes picture); form = f }

abbrev pub form_rows : List FormRow
form_rows =
    row "0000dddaaa000bbb" form.And
    ∷ row "0000dddaaa001bbb" form.Or
    ∷ row "0000dddaaa010bbb" form.Xor
    ∷ row "0000dddaaa011000" form.Not
    ∷ row "0000dddaaa100bbb" form.Add
    ∷ row "0000dddaaa101bbb" form.Sub
    ∷ row "0000dddaaa110bbb" form.Sha
    ∷ row "0000dddaaa111bbb" form.Shl
    ∷ row "0001dddaaa000bbb" form.Cmplt
    ∷ row "0001dddaaa001bbb" form.Cmple
    ∷ row "0001dddaaa011bbb" form.Cmpeq
    ∷ row "0001dddaaa100bbb" form.Cmpltu
    ∷ row "0001dddaaa101bbb" form.Cmpleu
    ∷ row "0010dddaaa0nnnnn" form.Addi
    ∷ row "0010bbbaaa100000" form.Jz
    ∷ row "0010bbbaaa100001" form.Jnz
    ∷ row "0010000aaa100011" form.Jmp
    ∷ row "0010bbbaaa100100" form.Jal
    ∷ row "0010000aaa100111" form.Calls
    ∷ row "0011dddaaannnnnn" form.Ld
    ∷ row "1101dddaaannnnnn" form.Ldb
    ∷ row "0100bbbaaannnnnn" form.St
    ∷ row "1110bbbaaannnnnn" form.Stb
    ∷ row "0101ddd0nnnnnnnn" form.Movi
    ∷ row "0101ddd1nnnnnnnn" form.Movih
    ∷ row "0110bbb0nnnnnnnn" form.Bz
    ∷ row "0110bbb1nnnnnnnn" form.Bnz
    ∷ row "0111ddd0nnnnnnnn" form.In
    ∷ row "0111bbb1nnnnnnnn" form.Out
    ∷ row "1000dddaaa000bbb" form.Mul
    ∷ row "1000dddaaa001bbb" form.Mulh
    ∷ row "1000dddaaa010bbb" form.Mulhu
    ∷ row "1111000000100000" form.Ei
    ∷ row "1111000000100001" form.Di
    ∷ row "1111000000100100" form.Reti
    ∷ row "1111ddd000101000" form.Getiid
    ∷ row "1111dddaaa101100" form.Rds
    ∷ row "1111dddaaa110000" form.Wrs
    ∷ row "1111bbbaaa110100" form.Wrpi
    ∷ row "1111bbbaaa110101" form.Wrvi
    ∷ row "1111bbbaaa110110" form.Wrpd
    ∷ row "1111bbbaaa110111" form.Wrvd
    ∷ row "1111000aaa111000" form.Flush
    ∷ row "1111111111111111" form.Halt
    ∷ []

-- a word belongs to a row if it has the bits that have to stand so
abbrev pub belongs : ℕ → FormRow → Bool
belongs word row = bit_and word row.mask == row.value

-- the form of a word
abbrev pub form_of : ℕ → Option FormRow
form_of word = find (belongs word) form_rows

-- the place of a form in the table
abbrev pub form_number : Form → ℕ
form_number form.And = 0
form_number form.Or = 1
form_number form.Xor = 2
form_number form.Not = 3
form_number form.Add = 4
form_number form.Sub = 5
form_number form.Sha = 6
form_number form.Shl = 7
form_number form.Cmplt = 8
form_number form.Cmple = 9
form_number form.Cmpeq = 10
form_number form.Cmpltu = 11
form_number form.Cmpleu = 12
form_number form.Addi = 13
form_number form.Jz = 14
form_number form.Jnz = 15
form_number form.Jmp = 16
form_number form.Jal = 17
form_number form.Calls = 18
form_number form.Ld = 19
form_number form.Ldb = 20
form_number form.St = 21
form_number form.Stb = 22
form_number form.Movi = 23
form_number form.Movih = 24
form_number form.Bz = 25
form_number form.Bnz = 26
form_number form.In = 27
form_number form.Out = 28
form_number form.Mul = 29
form_number form.Mulh = 30
form_number form.Mulhu = 31
form_number form.Ei = 32
form_number form.Di = 33
form_number form.Reti = 34
form_number form.Getiid = 35
form_number form.Rds = 36
form_number form.Wrs = 37
form_number form.Wrpi = 38
form_number form.Wrvi = 39
form_number form.Wrpd = 40
form_number form.Wrvd = 41
form_number form.Flush = 42
form_number form.Halt = 43

-- the row of a form
abbrev pub row_of : Form → FormRow
row_of f = slice_index_or form_rows (form_number f) (record { mask = 0; value = 0; form = form.And })

-- no word belongs to two rows: where it belongs to the rows at two places, these are one place
abbrev pub Disjoint : List FormRow → Type 0
Disjoint rows =
    (word i j : ℕ) (none : FormRow) → i < length rows → j < length rows → belongs word (slice_index_or rows i none) ≡ true → belongs word (slice_index_or rows j none) ≡ true → i ≡ j

-- how many of the numbers below n pass a test
unfoldable pub count_below : (ℕ → Bool) → ℕ → ℕ
count_below test zero = 0
count_below test (suc n) = count_below test n + cond (test n) 1 0

-- how many words have a form
abbrev pub legal_words : List FormRow → ℕ
legal_words rows = count_below (λ (word : ℕ). is_some (find (belongs word) rows)) 65536
