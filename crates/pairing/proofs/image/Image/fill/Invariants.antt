use Rattle.std.proofs.Common.{◌≡◌, ℕ, ◌+◌, ◌<◌, get_or}
use Rattle.pairing.specs.Images.{image_byte}
use Rattle.pairing.proofs.image.Image.fill.Given as goal

-- what is passed is filled
abbrev pub invariant-loop-i : goal.invariant-loop-i
invariant-loop-i l = (k : ℕ) → k < l.i → get_or l.buffer k 0 ≡ image_byte l.self (l.first + k)
