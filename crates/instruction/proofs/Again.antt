-- What a word says, said again, is that word: computed row by row.
use Rattle.std.specs.List.{list_all}
use Rattle.std.proofs.Common.{◌≡◌, ℕ, ◌<◌, Bool, T, eqb, Some, None, Option, refl, sym, subst, eqb→eq}
use Rattle.std.specs.Option.{option_map}
use Rattle.forms.specs.declared.FormRow.{FormRow}
use Rattle.forms.specs.Table.{form_rows, form_of}
use Rattle.forms.proofs.ByRows.{row_passes, by_rows}
use Rattle.instruction.specs.declared.Instruction.{Instruction}
use Rattle.instruction.specs.Decode.{instruction_of, decode_of}
use Rattle.instruction.specs.Encode.{word_of, SaidAgain}

unfoldable again : FormRow → ℕ → Bool
again row word = eqb (word_of (instruction_of row.form word)) word

all_again : T (list_all (row_passes again) form_rows)
unfolding again
all_again = tt

pub said_again : (word : ℕ) (said : Option Instruction) → word < 65536 → said ≡ decode_of word → SaidAgain word said
unfolding again
said_again word said h value = subst (SaidAgain word) (sym value) (go (form_of word) refl)
  where
    go : (o : Option FormRow) → form_of word ≡ o → SaidAgain word (option_map (λ (row : FormRow). instruction_of row.form word) o)
    go None e = tt
    go (Some row) e = eqb→eq (word_of (instruction_of row.form word)) word (by_rows again all_again word h row e)
