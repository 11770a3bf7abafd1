-- How a text of at most 24 bytes grows: of what comes more, as much is added as fits.
use Rattle.std.specs.Prelude.{ℕ, ◌-◌, List, ◌++◌, length, take}

abbrev pub grown : List ℕ → List ℕ → List ℕ
grown text more = text ++ take (24 - length text) more
