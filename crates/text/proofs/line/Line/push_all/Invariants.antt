use Rattle.std.proofs.Common.{◌≡◌, take}
use Rattle.text.specs.Lines.{grown}
use Rattle.text.proofs.line.Line.push_all.Given as goal

abbrev pub invariant-loop-byte : goal.invariant-loop-byte
invariant-loop-byte l = l.self ≡ grown l.initial.self (take l.byte-index l.bytes)
