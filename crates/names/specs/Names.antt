-- A name is its letters, filled up to eight with blanks (32).
use Rattle.std.specs.Prelude.{ℕ, ◌-◌, cond, List, ◌++◌, length, replicate, Some, None, Option, ◌==◌, nat_lt}
use Rattle.std.specs.Option.{option_map}
use Rattle.std.specs.List.{before_first, find}
use Rattle.std.specs.Str.{bytes_eq}
use Rattle.names.specs.declared.Name.{Name}
use Rattle.names.specs.declared.Named.{Named}

abbrev pub filled : List ℕ → Name
filled word = record { letters = word ++ replicate (8 - length word) 32 }

abbrev pub name_of : List ℕ → Option Name
name_of word = cond (nat_lt 8 (length word)) None (Some (filled word))

-- the first row with a name
abbrev pub row_of : {T : Type 0} → List (Named T) → Option Name → Option (Named T)
row_of {T} rows (Some name) = find (λ (r : Named T). bytes_eq r.name.letters name.letters) rows
row_of {T} rows None = None

-- what the first row of a word has
abbrev pub named : {T : Type 0} → List (Named T) → List ℕ → Option T
named {T} rows word = option_map (λ (r : Named T). r.value) (row_of rows (name_of word))

-- what stands before the first mark
abbrev pub before : ℕ → List ℕ → List ℕ
before mark text = before_first (λ c. c == mark) text

-- what stands before the first blank
abbrev pub first_word : List ℕ → List ℕ
first_word text = before 32 text
