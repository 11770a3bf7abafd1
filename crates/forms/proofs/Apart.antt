-- No word belongs to two rows: any two rows differ in a bit that both fix. The test of that is computed over the table.
use Rattle.std.specs.List.{list_all}
use Rattle.std.proofs.Common.{◌≡◌, ℕ, zero, suc, ◌<◌, Bool, true, not, ◌&&◌, T, eqb, List, [], ◌∷◌, length, get_or, sym, refl, ap, ◌∙◌, subst, le_of_suc-le-suc, not-suc-le-zero, eq-eqb, eqb-true}
use lib.Bits.{bit_and}
use Rattle.std.proofs.lemmas.Nat.{and_assoc, and_comm}
use Rattle.search.proofs.Rules.{and_left, and_right}
use Rattle.forms.specs.declared.FormRow.{FormRow}
use Rattle.forms.specs.Table.{belongs, Disjoint}

-- the bits that both rows fix are not the same in both
abbrev apart : FormRow → FormRow → Bool
apart r s = not (eqb (bit_and r.value s.mask) (bit_and s.value r.mask))

abbrev pub all_apart : List FormRow → Bool
all_apart [] = true
all_apart (r ∷ rows) = list_all (apart r) rows && all_apart rows

-- two masks may be taken in either order
and_swap : (word m n : ℕ) → bit_and (bit_and word m) n ≡ bit_and (bit_and word n) m
and_swap word m n = and_assoc n word m ∙ ap (bit_and word) (and_comm m n) ∙ sym (and_assoc m word n)

clash : (r s : FormRow) (word : ℕ) → T (apart r s) → belongs word r ≡ true → belongs word s ≡ true → ⊥
clash r s word t p q =
    let same : bit_and r.value s.mask ≡ bit_and s.value r.mask
    = ap (λ (x : ℕ). bit_and x s.mask) (sym (eqb-true (bit_and word r.mask) r.value p)) ∙ and_swap word r.mask s.mask
    ∙ ap (λ (x : ℕ). bit_and x r.mask) (eqb-true (bit_and word s.mask) s.value q) in
    subst (λ (x : Bool). T (not x)) (eq-eqb (bit_and r.value s.mask) (bit_and s.value r.mask) same) t

all_at : (rule : FormRow → Bool) (rows : List FormRow) → T (list_all rule rows) → (none : FormRow) (i : ℕ) → i < length rows → T (rule (get_or rows i none))
all_at rule [] t none i h = absurd (not-suc-le-zero h)
all_at rule (r ∷ rows) t none zero h = and_left (rule r) (list_all rule rows) t
all_at rule (r ∷ rows) t none (suc i) h = all_at rule rows (and_right (rule r) (list_all rule rows) t) none i (le_of_suc-le-suc h)

pub disjoint : (rows : List FormRow) → T (all_apart rows) → Disjoint rows
disjoint [] t word i j none hi hj p q = absurd (not-suc-le-zero hi)
disjoint (r ∷ rows) t word zero zero none hi hj p q = refl
disjoint (r ∷ rows) t word zero (suc j) none hi hj p q =
    absurd (clash r (get_or rows j none) word (all_at (apart r) rows (and_left (list_all (apart r) rows) (all_apart rows) t) none j (le_of_suc-le-suc hj)) p q)
disjoint (r ∷ rows) t word (suc i) zero none hi hj p q =
    absurd (clash r (get_or rows i none) word (all_at (apart r) rows (and_left (list_all (apart r) rows) (all_apart rows) t) none i (le_of_suc-le-suc hi)) q p)
disjoint (r ∷ rows) t word (suc i) (suc j) none hi hj p q =
    ap suc (disjoint rows (and_right (list_all (apart r) rows) (all_apart rows) t) word i j none (le_of_suc-le-suc hi) (le_of_suc-le-suc hj) p q)
