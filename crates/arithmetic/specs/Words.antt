-- A word is a number below 65,536; it stands for a signed number too.
use Rattle.std.specs.Prelude.{ℕ, ◌+◌, ◌-◌, ◌*◌, ◌%◌, Bool, true, false, ℤ, pos, negsuc, ◌+ℤ◌, ◌*ℤ◌}
use Rattle.std.proofs.Common.{to_z}
use Rattle.std.specs.Int.{w8, w16}

-- two's complement: n below 32,768, and n - 65,536 from there on
abbrev pub signed : ℕ → ℤ
signed n = to_z w16 n

-- the same of a byte: n below 128, and n - 256 from there on
abbrev pub signed_byte : ℕ → ℤ
signed_byte n = to_z w8 n

-- an integer modulo 65,536; -1 is 65,535
abbrev pub word_of : ℤ → ℕ
word_of (pos n) = n % 65536
word_of (negsuc n) = 65535 - n % 65536

-- every bit turned
abbrev pub complement_of : ℕ → ℕ
complement_of x = 65535 - x

-- x + n
abbrev pub signed_added : ℕ → ℤ → ℕ
signed_added x n = word_of (pos x +ℤ n)

-- x + 2 n: n words of two bytes from x
abbrev pub words_added : ℕ → ℤ → ℕ
words_added x n = word_of (pos x +ℤ pos 2 *ℤ n)

-- the signed number in a byte, as a word
abbrev pub byte_extended : ℕ → ℕ
byte_extended b = word_of (signed_byte b)

-- what a comparison gives
abbrev pub flag_of : Bool → ℕ
flag_of true = 1
flag_of false = 0

-- n in bits 15..8, and below them the low byte of x
abbrev pub high_byte_set : ℕ → ℕ → ℕ
high_byte_set x n = n * 256 + x % 256
