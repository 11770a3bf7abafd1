-- The numbers of commands: decimal, or hexadecimal after 0x.
use Rattle.std.specs.Prelude.{ℕ, ◌+◌, ◌*◌, ◌≤◌, Bool, if◌then◌else◌, ◌&&◌, List, [], ◌∷◌, drop, codes, Some, None, Option, nat_eq, nat_le, nat_lt}
use Rattle.std.specs.Bool.{then_some}
use Rattle.std.specs.Char.{digit_value, is_digit}
use Rattle.std.specs.List.{starts_with}
use Rattle.std.specs.Option.{option_and_then, IfSome}

-- a number that was read is at most `most`
abbrev pub Within : ℕ → Option ℕ → Type 0
Within most number = IfSome number (λ n. n ≤ most)

-- the value of a digit, of the decimal or of the hexadecimal ones
abbrev pub digit_of : ℕ → Option ℕ
digit_of c = then_some (is_digit c 16) (digit_value c)

-- the value of the digits of `high` and one more, if that is one of the base and the number does not pass `most`
abbrev pub with_digit : ℕ → ℕ → ℕ → ℕ → Option ℕ
with_digit base most high c = option_and_then (λ d. then_some (nat_lt d base && nat_le (high * base + d) most) (high * base + d)) (digit_of c)

-- the value of the digits behind those of `high`
abbrev pub value_from : ℕ → ℕ → ℕ → List ℕ → Option ℕ
value_from base most high [] = Some high
value_from base most high (c ∷ cs) = option_and_then (λ value. value_from base most value cs) (with_digit base most high c)

abbrev pub digits_of : ℕ → ℕ → List ℕ → Option ℕ
digits_of base most [] = None
digits_of base most (c ∷ cs) = value_from base most 0 (c ∷ cs)

abbrev pub is_hexadecimal : List ℕ → Bool
is_hexadecimal word = starts_with nat_eq word (codes "0x")

abbrev pub number_of : List ℕ → ℕ → Option ℕ
number_of word most = if is_hexadecimal word then digits_of 16 most (drop 2 word) else digits_of 10 most word
