-- The bytes of a record, as the format writes it.
use Rattle.std.specs.Prelude.{ℕ, ◌/◌, ◌%◌, List, [], ◌∷◌, length}

-- A 16-bit number is written low byte first.
abbrev pub low : ℕ → ℕ
low n = n % 256

abbrev pub high : ℕ → ℕ
high n = n / 256

-- A block: the mark, kind 1, the address, the length, the body.
abbrev pub block_bytes : ℕ → List ℕ → List ℕ
block_bytes address body =
    0x53 ∷ 0x33 ∷ 1 ∷ low address ∷ high address ∷ low (length body) ∷ high (length body) ∷ body

-- The end: the mark, kind 2, the sum.
abbrev pub end_bytes : ℕ → List ℕ
end_bytes sum = 0x53 ∷ 0x33 ∷ 2 ∷ low sum ∷ high sum ∷ []
