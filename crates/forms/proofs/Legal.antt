-- How many words have a form: counted over the sixteen blocks of words with the same upper four bits, at the few rows that
-- such words can belong to.
use Rattle.std.specs.List.{find, list_all}
use Rattle.std.proofs.Common.{◌≡◌, ℕ, zero, suc, ◌+◌, ◌*◌, ◌/◌, ◌%◌, ◌^◌, ◌<◌, ◌≤◌, Bool, true, false, cond, T, eqb, List, [], ◌∷◌, is_some, Some, Option, sym, refl, ap, ◌∙◌, subst, arith, eqb→eq, eq-eqb, eqb-true}
use borrow.Author.Tests.{clash}
use lib.Bits.{bit_and, and_shr, and_mask}
use Rattle.search.proofs.Rules.{and_left, and_right}
use Rattle.forms.specs.declared.FormRow.{FormRow}
use Rattle.forms.specs.Table.{form_rows, belongs, count_below, legal_words}
use Rattle.forms.proofs.Words.{count_in, count_same, count_block}

-- every row fixes the upper four bits
abbrev pub fixes_upper : FormRow → Bool
fixes_upper row = eqb (row.mask / 4096) 15

pub rows_fix_upper : T (list_all fixes_upper form_rows)
rows_fix_upper = tt

-- so a word that belongs to a row has the row's upper four bits
pub same_upper : (word : ℕ) (row : FormRow) → word < 65536 → T (fixes_upper row) → belongs word row ≡ true → word / 4096 ≡ row.value / 4096
same_upper word row h t b =
    let e = eqb-true (bit_and word row.mask) row.value b in
    let p : bit_and (word / 4096) (row.mask / 4096) ≡ row.value / 4096 = sym (and_shr word row.mask 12) ∙ ap (λ (x : ℕ). x / 4096) e in
    let q : bit_and (word / 4096) 15 ≡ row.value / 4096 = subst (λ (x : ℕ). bit_and (word / 4096) x ≡ row.value / 4096) (eqb→eq (row.mask / 4096) 15 t) p in
    let s : bit_and (word / 4096) 15 ≡ word / 4096 % 16 = and_mask (word / 4096) 4 in
    omega arith

-- the rows of the words in a block
abbrev rows_in : ℕ → List FormRow → List FormRow
rows_in q [] = []
rows_in q (row ∷ rows) = cond (eqb (row.value / 4096) q) (row ∷ rows_in q rows) (rows_in q rows)

found_in : (word q : ℕ) (rows : List FormRow) → word < 65536 → word / 4096 ≡ q → T (list_all fixes_upper rows)
    → find (belongs word) rows ≡ find (belongs word) (rows_in q rows)
found_in word q [] h e t = refl
found_in word q (row ∷ rows) h e t =
    go (eqb (row.value / 4096) q) refl (belongs word row) refl (found_in word q rows h e (and_right (fixes_upper row) (list_all fixes_upper rows) t))
  where
    go : (u : Bool) → eqb (row.value / 4096) q ≡ u → (b : Bool) → belongs word row ≡ b
        → find (belongs word) rows ≡ find (belongs word) (rows_in q rows)
        → find (belongs word) (row ∷ rows) ≡ find (belongs word) (cond u (row ∷ rows_in q rows) (rows_in q rows))
    go true p b s rest = ap (λ (o : Option FormRow). cond (belongs word row) (Some row) o) rest
    go false p true s rest =
        let u = same_upper word row h (and_left (fixes_upper row) (list_all fixes_upper rows) t) s in
        absurd (clash (sym p ∙ eq-eqb (row.value / 4096) q (sym u ∙ e)))
    go false p false s rest = ap (λ (c : Bool). cond c (Some row) (find (belongs word) rows)) s ∙ rest

abbrev legal : List FormRow → ℕ → Bool
legal rows word = is_some (find (belongs word) rows)

abbrev sum_blocks : ℕ → ℕ
sum_blocks zero = 0
sum_blocks (suc q) = sum_blocks q + count_in (legal (rows_in q form_rows)) 12 q

by_blocks : (n : ℕ) → n ≤ 16 → count_below (legal form_rows) (4096 * n) ≡ sum_blocks n
unfolding count_below
by_blocks zero h = refl
by_blocks (suc q) h =
    let e : 4096 * suc q ≡ 2 ^ 12 * (q + 1) = omega arith in
    ap (count_below (legal form_rows)) e ∙ count_block (legal form_rows) 12 q
    ∙ ap (λ (n : ℕ). n + count_in (legal form_rows) 12 q) (by_blocks q (omega arith))
    ∙ ap (λ (n : ℕ). sum_blocks q + n)
    (count_same (legal form_rows) (legal (rows_in q form_rows)) 12 q (λ w p. ap is_some (found_in w q form_rows (omega arith) p rows_fix_upper)))

counted : sum_blocks 16 ≡ 39076
counted = refl

pub legal_count : legal_words form_rows ≡ 39076
legal_count = by_blocks 16 (omega arith) ∙ counted
