-- The results of the operations as signed numbers.
use Rattle.std.proofs.Common.{◌≡◌, ℕ, zero, suc, ◌+◌, ◌-◌, ◌*◌, ◌/◌, ◌%◌, ◌^◌, ◌<◌, ◌≤◌, ℤ, pos, negsuc, ◌-ℤ◌, ◌*ℤ◌, neg_ℤ, refl, ap, sym, subst, ◌∙◌, arith, w16, of_z, rules}
use lib.Signed.{mag, mag_shr}
use Rattle.std.proofs.lemmas.Int.{ints, to_z-of_z, wrapping_add-bits, wrapping_sub-bits, wrapping_mul-bits}
use Rattle.std.proofs.lemmas.Bool.Decides.{nat_tests}
use Rattle.std.proofs.lemmas.Nat.{mul-le}
use Rattle.arithmetic.specs.Words.{signed, word_of}
use Rattle.arithmetic.specs.Values.{SignedLaw, value_of, floor_divided, shifted}
use Rattle.arithmetic.specs.declared.Operation.{Operation}
use Rattle.arithmetic.specs.declared.Operation.TheVariants.{And, Or, Xor, Add, Subtract, ShiftArithmetic, ShiftLogical, Less, LessOrEqual, Equal, LessUnsigned, LessOrEqualUnsigned, Multiply, MultiplyHigh, MultiplyHighUnsigned}

word_bits : (z : ℤ) → mag z < 32768 → word_of z ≡ of_z w16 z
word_bits (pos n) h = omega arith
word_bits (negsuc n) h = omega arith

-- a signed number of 16 bits is what its word stands for
pub signed_word : (z : ℤ) → mag z < 32768 → signed (word_of z) ≡ z
signed_word z h = ap signed (word_bits z h) ∙ to_z-of_z w16 z (record { sfits = h })

difference : (x y : ℕ) → x < 65536 → y < 65536 → word_of (pos x -ℤ pos y) ≡ (x + (65536 - y)) % 65536
difference x y f g = search (rules, ints)

magnitude : (x : ℕ) → x < 65536 → mag (signed x) < 32768
magnitude x h = search (rules, ints)

quotient_small : (z : ℤ) (k : ℕ) → mag z < 32768 → mag (floor_divided z (2 ^ k)) < 32768
quotient_small z k h = omega (arith, mag_shr z (2 ^ k))

mag_neg : (n : ℕ) → mag (neg_ℤ (pos n)) ≤ n
mag_neg zero = omega arith
mag_neg (suc n) = omega arith

product_small : (a b : ℤ) → mag a < 32768 → mag b < 32768 → mag (a *ℤ b) ≤ 32768 * 32768
product_small (pos a) (pos b) f g = omega (arith, mul-le a b 32768 32768 (omega arith) (omega arith))
product_small (pos a) (negsuc b) f g = omega (arith, mag_neg (a * suc b), mul-le a (suc b) 32768 32768 (omega arith) (omega arith))
product_small (negsuc a) (pos b) f g = omega (arith, mag_neg (suc a * b), mul-le (suc a) b 32768 32768 (omega arith) (omega arith))
product_small (negsuc a) (negsuc b) f g = omega (arith, mul-le (suc a) (suc b) 32768 32768 (omega arith) (omega arith))

mag_floor : (z : ℤ) (n : ℕ) → mag (floor_divided z n) ≡ mag z / n
mag_floor (pos a) n = refl
mag_floor (negsuc a) n = refl

high_small : (a b : ℤ) → mag a < 32768 → mag b < 32768 → mag (floor_divided (a *ℤ b) 65536) < 32768
high_small a b f g = omega (arith, product_small a b f g, mag_floor (a *ℤ b) 65536)

right : (v : ℤ) (x y : ℕ) → 16 ≤ y % 32 → shifted v x y ≡ word_of (floor_divided v (2 ^ (32 - y % 32)))
right v x y h = grind (arith, nat_tests)

law : (o : Operation) (x y : ℕ) → x < 65536 → y < 65536 → SignedLaw o x y (value_of o x y)
unfolding SignedLaw
law And x y f g = tt
law Or x y f g = tt
law Xor x y f g = tt
law Add x y f g = wrapping_add-bits w16 x y f g
law Subtract x y f g = ap signed (difference x y f g) ∙ wrapping_sub-bits w16 x y f g
law ShiftArithmetic x y f g = λ h.
    ap signed (right (signed x) x y h)
    ∙ signed_word (floor_divided (signed x) (2 ^ (32 - y % 32))) (quotient_small (signed x) (32 - y % 32) (magnitude x f))
law ShiftLogical x y f g = tt
law Less x y f g = tt
law LessOrEqual x y f g = tt
law Equal x y f g = tt
law LessUnsigned x y f g = tt
law LessOrEqualUnsigned x y f g = tt
law Multiply x y f g = wrapping_mul-bits w16 x y f g
law MultiplyHigh x y f g =
    signed_word (floor_divided (signed x *ℤ signed y) 65536) (high_small (signed x) (signed y) (magnitude x f) (magnitude y g))
law MultiplyHighUnsigned x y f g = tt

pub signed_law : (o : Operation) (x y r : ℕ) → x < 65536 → y < 65536 → r ≡ value_of o x y → SignedLaw o x y r
signed_law o x y r f g e = subst (λ (n : ℕ). SignedLaw o x y n) (sym e) (law o x y f g)
