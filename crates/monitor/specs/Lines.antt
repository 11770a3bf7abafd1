-- A text is its first line and, behind a newline (10), the others.
use Rattle.std.specs.Prelude.{ℕ, List}
use Rattle.names.specs.Names.{before}
use Rattle.monitor.specs.Words.{Parts, split_behind}

-- what stands before the first newline
abbrev pub first_line : List ℕ → List ℕ
first_line text = before 10 text

abbrev pub lines_of : List ℕ → Parts
lines_of text = split_behind (first_line text) text
