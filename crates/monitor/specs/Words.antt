-- A line is its first word and, behind a blank, the rest.
use Rattle.std.specs.Prelude.{ℕ, ◌+◌, cond, List, length, drop, Some, None, Option, nat_lt}
use Rattle.std.specs.Borrow.{Bor}
use Rattle.names.specs.Names.{first_word}
use Rattle.monitor.specs.declared.words.Split.{Split}

pub record Parts : Type 0 where
  pub word : List ℕ
  pub rest : Option (List ℕ)

abbrev pub lent : Option (Bor (List ℕ)) → Option (List ℕ)
lent (Some r) = Some r.now
lent None = None

abbrev pub split : Split → Parts
split s = record { word = s.word.now; rest = lent s.rest }

-- a line that goes on behind its first part has a rest, which may be empty
abbrev pub split_behind : List ℕ → List ℕ → Parts
split_behind word line =
    record {
      word = word;
      rest = cond (nat_lt (length word) (length line)) (Some (drop (length word + 1) line)) None;
    }

abbrev pub split_of : List ℕ → Parts
split_of line = split_behind (first_word line) line
