-- Every text is short, and the word of each word's text is that word: computed row by row, at the words of each row.
use Rattle.std.specs.List.{list_all}
use Rattle.std.proofs.Common.{◌≡◌, ℕ, ◌/◌, ◌%◌, ◌<◌, ◌≤◌, Bool, ◌&&◌, T, eqb, leb, List, [], ◌∷◌, map, length, take, Some, None, Option, refl, ap, ◌∙◌, arith, lit≤, eqb→eq, leb→le}
use Rattle.std.proofs.lemmas.List.{take_all}
use Rattle.search.proofs.Rules.{and_left, and_right, each_same, first_each}
use Rattle.forms.specs.declared.FormRow.{FormRow}
use Rattle.forms.specs.Table.{form_rows, form_of, belongs}
use Rattle.forms.proofs.ByRows.{row_passes, by_rows}
use Rattle.text.specs.declared.syntax.Syntax.{Syntax}
use Rattle.text.specs.Syntax.{syntax_of, syntax_named}
use Rattle.text.specs.Text.{text_of, text_by, form_text, raw_text, hex_digit}
use Rattle.text.specs.Candidate.{candidate_of, candidate_by, hex_at}

-- the text of a word of a row is short, and the word is found again from its operands
abbrev short : FormRow → ℕ → Bool
short row word = leb (length (form_text word row.form)) 24

abbrev found : FormRow → ℕ → Bool
found row word = eqb (candidate_by (form_text word row.form) (Some (syntax_of row.form).value)) word

unfoldable right : FormRow → ℕ → Bool
right row word = short row word && found row word

all_right : T (list_all (row_passes right) form_rows)
unfolding right
all_right = tt

-- a text begins with the mnemonic of its form, whatever its operands
abbrev named : ℕ → FormRow → Option Syntax
named word row = syntax_named (form_text word row.form)

abbrev expected : FormRow → Option Syntax
expected row = Some (syntax_of row.form).value

names_found : (word : ℕ) → map (named word) form_rows ≡ map expected form_rows
names_found word = refl

name_found : (word : ℕ) (row : FormRow) → form_of word ≡ Some row → named word row ≡ expected row
name_found word =
    first_each (belongs word) (λ (row : FormRow). named word row ≡ expected row) form_rows (each_same (named word) expected form_rows (names_found word))

-- a hexadecimal digit is read back
digit_back : (n : ℕ) → n < 16 → hex_at (hex_digit n ∷ []) 0 ≡ n
digit_back n h = grind arith

raw_back : (word : ℕ) → word < 65536 → candidate_by (raw_text word) None ≡ word
raw_back word h =
    let a = digit_back (word / 4096) (omega arith) in
    let b = digit_back (word / 256 % 16) (omega arith) in
    let c = digit_back (word / 16 % 16) (omega arith) in
    let d = digit_back (word % 16) (omega arith) in
    omega arith

record Good (word : ℕ) (text : List ℕ) : Type 0 where
  few : length text ≤ 24
  again : candidate_of text ≡ word

good : (word : ℕ) → word < 65536 → (o : Option FormRow) → form_of word ≡ o → Good word (text_by word o)
unfolding right
good word h None e = record { few = lit≤ tt; again = raw_back word h }
good word h (Some row) e =
    let t = by_rows right all_right word h row e in
    record {
      few = leb→le (length (form_text word row.form)) 24 (and_left (short row word) (found row word) t);
      again =
          ap (candidate_by (form_text word row.form)) (name_found word row e)
          ∙ eqb→eq (candidate_by (form_text word row.form) (Some (syntax_of row.form).value)) word (and_right (short row word) (found row word) t);
    }

pub text_short : (word : ℕ) → word < 65536 → length (text_of word) ≤ 24
text_short word h = (good word h (form_of word) refl).few

pub candidate_back : (word : ℕ) → word < 65536 → candidate_of (text_of word) ≡ word
candidate_back word h = (good word h (form_of word) refl).again

-- a text that was cut at 24 bytes is whole
pub whole : (word : ℕ) → word < 65536 → take 24 (text_of word) ≡ text_of word
whole word h = take_all 24 (text_of word) (text_short word h)
