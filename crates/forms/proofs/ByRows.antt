-- What is computed of each row, at the words that belong to it, holds of each word with that form.
use Rattle.std.specs.List.{list_all}
use Rattle.std.proofs.Common.{◌≡◌, ℕ, ◌/◌, ◌<◌, Bool, true, false, T, Some}
use borrow.Author.Tests.{clash}
use Rattle.search.proofs.Rules.{each_all, first_each, first_passes}
use Rattle.forms.specs.declared.FormRow.{FormRow}
use Rattle.forms.specs.Table.{form_rows, belongs, form_of}
use Rattle.forms.proofs.Words.{every_in, every_at}
use Rattle.forms.proofs.Legal.{fixes_upper, rows_fix_upper, same_upper}

abbrev implies : Bool → Bool → Bool
implies true b = b
implies false b = true

apply : (a b : Bool) → T (implies a b) → a ≡ true → T b
apply true b t e = t
apply false b t e = absurd (clash e)

-- the test passes at each word of the row
abbrev pub row_passes : (FormRow → ℕ → Bool) → FormRow → Bool
row_passes test row = every_in (λ (word : ℕ). implies (belongs word row) (test row word)) 12 (row.value / 4096)

pub by_rows : (test : FormRow → ℕ → Bool) → T (list_all (row_passes test) form_rows)
    → (word : ℕ) → word < 65536 → (row : FormRow) → form_of word ≡ Some row → T (test row word)
by_rows test t word h row e =
    let b = first_passes (belongs word) form_rows row e in
    let u = first_each (belongs word) (λ (r : FormRow). T (fixes_upper r)) form_rows (each_all fixes_upper form_rows rows_fix_upper) row e in
    let p = first_each (belongs word) (λ (r : FormRow). T (row_passes test r)) form_rows (each_all (row_passes test) form_rows t) row e in
    apply (belongs word row) (test row word)
    (every_at (λ (w : ℕ). implies (belongs w row) (test row w)) 12 (row.value / 4096) word p (same_upper word row h u b)) b
