use Rattle.std.proofs.Common.{◌≡◌, ◌+◌, ◌*◌, ◌≤◌, drop}
use Rattle.text.specs.Candidate.{fields}
use Rattle.text.proofs.candidate.fields.Given as goal

-- what is added so far and what the pieces that are left add make up the whole
abbrev pub invariant-loop-piece : goal.invariant-loop-piece
invariant-loop-piece l =
    record { bound : l.sum ≤ 4095 * l.piece-index; whole : l.sum + fields (drop l.piece-index l.pieces) l.rest ≡ fields l.pieces l.operands }
