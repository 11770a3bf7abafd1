use Rattle.std.proofs.Common.{ℕ, ◌+◌, arith}
use Rattle.std.proofs.lemmas.List.FromFn.{fill_by_all}
use Rattle.pairing.specs.Images.{image_byte}
use Rattle.pairing.proofs.image.Image.fill.Goals as goal

pub returns : goal.returns
returns c = fill_by_all (λ (j : ℕ). image_byte c.args.self (c.args.first + j)) c.loop-i.buffer _ 0 c.loop-i.auto.buffer (λ k h. c.loop-i.invariant k (omega arith))
