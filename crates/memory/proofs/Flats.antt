-- What a buffer holds when it comes back from the flat memory over it.
use Rattle.std.proofs.Common.{◌≡◌, ℕ, List, length, get_or, ap, arith}
use base.Fml.{GName}
use Rattle.std.proofs.lemmas.Bool.Decides.{nat_tests}
use Rattle.memory.specs.Meaning.{Rest}
use Rattle.memory.specs.Flat.{flat_bytes, flat_rest, flat_back}

-- a memory over `before` that has kept its rest, and lies over `after` now
pub returned_byte : (before after : List ℕ) (p q : GName) → flat_rest after q ≡ flat_rest before p → (k : ℕ) → get_or after k 0 ≡ flat_back before (flat_bytes after) k
returned_byte before after p q kept k =
    let size : length after ≡ length before = ap (λ (r : Rest). r.size) kept in
    let outside : (flat_rest after q).outside k ≡ (flat_rest before p).outside k = ap (λ (r : Rest). r.outside k) kept in
    grind (arith, nat_tests)

pub flat_place : (before after : List ℕ) (p q : GName) → flat_rest after q ≡ flat_rest before p → q ≡ p
flat_place before after p q kept = ap (λ (r : Rest). r.place) kept
