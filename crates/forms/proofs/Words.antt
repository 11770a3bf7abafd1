-- A test of every word, computed block by block: the block q of width k has the 2 ^ k numbers that are q above their
-- lowest k bits.
use Rattle.std.proofs.Common.{◌≡◌, ℕ, zero, suc, ◌+◌, ◌*◌, ◌/◌, ◌%◌, ◌^◌, Bool, cond, ◌&&◌, T, ◌⊎◌, sym, refl, ap, ◌∙◌, subst, ap₂, inl, inr, ⊎_elim, add_assoc, mul_assoc, pow-suc, arith}
use Rattle.std.proofs.lemmas.Nat.{shr-shr}
use Rattle.search.proofs.Rules.{and_left, and_right}
use Rattle.forms.specs.Table.{count_below}

-- a block is two blocks of the next smaller width
half_of : (k q w : ℕ) → w / 2 ^ suc k ≡ q → w / 2 ^ k / 2 ≡ q
half_of k q w e = rw (shr-shr w k 1) (subst (λ (n : ℕ). w / 2 ^ n ≡ q) (let s : suc k ≡ k + 1 = omega arith in s) e)

of_half : (k q w : ℕ) → w / 2 ^ k / 2 ≡ q → w / 2 ^ suc k ≡ q
of_half k q w e = subst (λ (n : ℕ). w / 2 ^ n ≡ q) (let s : k + 1 ≡ suc k = omega arith in s) (rw (shr-shr w k 1) at e)

halves : (m q r : ℕ) → m % 2 ≡ r → m / 2 ≡ q → (m ≡ 2 * q) ⊎ (m ≡ 2 * q + 1)
halves m q zero p e = inl (omega arith)
halves m q (suc r) p e = inr (omega arith)

-- the test passes at each number of a block
abbrev pub every_in : (ℕ → Bool) → ℕ → ℕ → Bool
every_in test zero q = test q
every_in test (suc k) q = every_in test k (2 * q) && every_in test k (2 * q + 1)

pub every_at : (test : ℕ → Bool) (k q w : ℕ) → T (every_in test k q) → w / 2 ^ k ≡ q → T (test w)
every_at test zero q w t e = subst (λ (x : ℕ). T (test x)) (let s : q ≡ w = omega arith in s) t
every_at test (suc k) q w t e =
    ⊎_elim
    (λ (p : w / 2 ^ k ≡ 2 * q). every_at test k (2 * q) w (and_left (every_in test k (2 * q)) (every_in test k (2 * q + 1)) t) p)
    (λ (p : w / 2 ^ k ≡ 2 * q + 1). every_at test k (2 * q + 1) w (and_right (every_in test k (2 * q)) (every_in test k (2 * q + 1)) t) p)
    (halves (w / 2 ^ k) q (w / 2 ^ k % 2) refl (half_of k q w e))

-- how many numbers of a block pass
abbrev pub count_in : (ℕ → Bool) → ℕ → ℕ → ℕ
count_in test zero q = cond (test q) 1 0
count_in test (suc k) q = count_in test k (2 * q) + count_in test k (2 * q + 1)

-- tests that agree in a block count the same in it
pub count_same : (f g : ℕ → Bool) (k q : ℕ) → ((w : ℕ) → w / 2 ^ k ≡ q → f w ≡ g w) → count_in f k q ≡ count_in g k q
count_same f g zero q h = ap (λ (b : Bool). cond b 1 0) (h q (omega arith))
count_same f g (suc k) q h =
    ap₂ ◌+◌ (count_same f g k (2 * q) (λ w e. h w (of_half k q w (omega arith)))) (count_same f g k (2 * q + 1) (λ w e. h w (of_half k q w (omega arith))))

-- the numbers below the end of a block are those below its start and those in it
pub count_block : (test : ℕ → Bool) (k q : ℕ) → count_below test (2 ^ k * (q + 1)) ≡ count_below test (2 ^ k * q) + count_in test k q
unfolding count_below
count_block test zero q = let e : 2 ^ 0 * (q + 1) ≡ suc q = omega arith in let d : 2 ^ 0 * q ≡ q = omega arith in rw (e, d)
count_block test (suc k) q =
    let p : 2 ^ suc k ≡ 2 ^ k * 2 = pow-suc 2 k in
    let whole : 2 ^ suc k * (q + 1) ≡ 2 ^ k * ((2 * q + 1) + 1) = rw (p, mul_assoc (2 ^ k) 2 (q + 1)) (ap (λ (n : ℕ). 2 ^ k * n) (omega arith)) in
    let below : 2 ^ suc k * q ≡ 2 ^ k * (2 * q) = rw (p, mul_assoc (2 ^ k) 2 q) refl in
    ap (count_below test) whole ∙ count_block test k (2 * q + 1) ∙ ap (λ (n : ℕ). n + count_in test k (2 * q + 1)) (count_block test k (2 * q))
    ∙ add_assoc (count_below test (2 ^ k * (2 * q))) (count_in test k (2 * q)) (count_in test k (2 * q + 1))
    ∙ ap (λ (n : ℕ). count_below test n + (count_in test k (2 * q) + count_in test k (2 * q + 1))) (sym below)
