-- What may stand behind a command's name.
use Rattle.std.specs.Prelude.{ℕ, ◌≤◌, List, Option}
use Rattle.std.specs.Option.{option_and_then, option_zip, IfSome}
use Rattle.monitor.specs.Words.{Parts, split_of}
use Rattle.monitor.specs.Numbers.{number_of}

-- one number of at most `most`
abbrev pub one_number : Option (List ℕ) → ℕ → Option ℕ
one_number rest most = option_and_then (λ word. number_of word most) rest

abbrev pub numbers_in : Parts → ℕ → ℕ → Option (ℕ × ℕ)
numbers_in words first second = option_zip (number_of words.word first) (one_number words.rest second)

-- two numbers, each of at most what it may be
abbrev pub two_numbers : Option (List ℕ) → ℕ → ℕ → Option (ℕ × ℕ)
two_numbers rest first second = option_and_then (λ line. numbers_in (split_of line) first second) rest

-- the numbers that were read are at most what they may be
abbrev pub BothWithin : ℕ → ℕ → Option (ℕ × ℕ) → Type 0
BothWithin first second numbers = IfSome numbers (λ n. (n.0 ≤ first) × (n.1 ≤ second))
