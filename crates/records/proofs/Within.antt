-- A record that is read lies within the file.
use Rattle.std.proofs.Common.{◌≡◌, ℕ, ◌+◌, ◌≤◌, List, length, Ok, arith}
use Rattle.std.proofs.lemmas.Bool.Decides.{nat_tests}
use Rattle.std.proofs.lemmas.List.{length-take, length-drop}
use Rattle.records.specs.Records.{Item, record_of, size_of}

pub record_within : (f : List ℕ) (p : ℕ) (item : Item) → record_of f p ≡ Ok item → p + size_of item ≤ length f
record_within f p item h = grind (arith, nat_tests, length-take {A = ℕ}, length-drop {A = ℕ})
