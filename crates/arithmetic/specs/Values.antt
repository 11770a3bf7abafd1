-- What the operations on two registers give.
use Rattle.std.specs.Prelude.{◌≡◌, ℕ, ◌-◌, ◌*◌, ◌%◌, ◌^◌, ◌≤◌, cond, ℤ, pos, ◌+ℤ◌, ◌-ℤ◌, ◌*ℤ◌, ◌==◌, bit_and, bit_or, bit_xor, int_le, int_lt, nat_le, nat_lt}
use Rattle.std.specs.Int.Signed.{shr_z}
use Rattle.std.specs.Int.{int_wrap, w16}
use Rattle.arithmetic.specs.Words.{signed, word_of, flag_of}
use Rattle.arithmetic.specs.declared.Operation.{Operation}
use Rattle.arithmetic.specs.declared.Operation.TheVariants.{And, Or, Xor, Add, Subtract, ShiftArithmetic, ShiftLogical, Less, LessOrEqual, Equal, LessUnsigned, LessOrEqualUnsigned, Multiply, MultiplyHigh, MultiplyHighUnsigned}

-- an integer divided and rounded down
abbrev pub floor_divided : ℤ → ℕ → ℤ
floor_divided z n = shr_z z n

-- to the left by k: times a power of two
abbrev pub shifted_left : ℕ → ℕ → ℕ
shifted_left x k = x * 2 ^ k % 65536

-- to the right by k: divided by a power of two and rounded down
abbrev pub shifted_right : ℤ → ℕ → ℕ
shifted_right v k = word_of (floor_divided v (2 ^ k))

-- the amount of a shift is the low five bits of y as a signed number from -16 to 15: left if it is not
-- negative, else right; v is the number that is shifted to the right
abbrev pub shifted : ℤ → ℕ → ℕ → ℕ
shifted v x y = cond (nat_lt (y % 32) 16) (shifted_left x (y % 32)) (shifted_right v (32 - y % 32))

abbrev pub value_of : Operation → ℕ → ℕ → ℕ
value_of And x y = bit_and x y
value_of Or x y = bit_or x y
value_of Xor x y = bit_xor x y
value_of Add x y = word_of (pos x +ℤ pos y)
value_of Subtract x y = word_of (pos x -ℤ pos y)
value_of ShiftArithmetic x y = shifted (signed x) x y
value_of ShiftLogical x y = shifted (pos x) x y
value_of Less x y = flag_of (int_lt (signed x) (signed y))
value_of LessOrEqual x y = flag_of (int_le (signed x) (signed y))
value_of Equal x y = flag_of (x == y)
value_of LessUnsigned x y = flag_of (nat_lt x y)
value_of LessOrEqualUnsigned x y = flag_of (nat_le x y)
value_of Multiply x y = word_of (pos x *ℤ pos y)
value_of MultiplyHigh x y = word_of (floor_divided (signed x *ℤ signed y) 65536)
value_of MultiplyHighUnsigned x y = word_of (floor_divided (pos x *ℤ pos y) 65536)

-- What the results are as signed numbers, where the definition above speaks of them otherwise: a sum, a
-- difference and a product wrap round in the same way as those of signed numbers; a shift to the right that copies
-- the sign, and the high half of a product, are the signed number divided and rounded down.
unfoldable pub SignedLaw : Operation → ℕ → ℕ → ℕ → Type 0
SignedLaw And x y r = Unit {0}
SignedLaw Or x y r = Unit {0}
SignedLaw Xor x y r = Unit {0}
SignedLaw Add x y r = signed r ≡ int_wrap w16 (signed x +ℤ signed y)
SignedLaw Subtract x y r = signed r ≡ int_wrap w16 (signed x -ℤ signed y)
SignedLaw ShiftArithmetic x y r = 16 ≤ y % 32 → signed r ≡ floor_divided (signed x) (2 ^ (32 - y % 32))
SignedLaw ShiftLogical x y r = Unit {0}
SignedLaw Less x y r = Unit {0}
SignedLaw LessOrEqual x y r = Unit {0}
SignedLaw Equal x y r = Unit {0}
SignedLaw LessUnsigned x y r = Unit {0}
SignedLaw LessOrEqualUnsigned x y r = Unit {0}
SignedLaw Multiply x y r = signed r ≡ int_wrap w16 (signed x *ℤ signed y)
SignedLaw MultiplyHigh x y r = signed r ≡ floor_divided (signed x *ℤ signed y) 65536
SignedLaw MultiplyHighUnsigned x y r = Unit {0}
