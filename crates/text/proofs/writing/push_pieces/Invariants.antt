use Rattle.std.proofs.Common.{◌≡◌, take}
use Rattle.text.specs.Text.{pieces_text}
use Rattle.text.specs.Lines.{grown}
use Rattle.text.proofs.writing.push_pieces.Given as goal

abbrev pub invariant-loop-piece : goal.invariant-loop-piece
invariant-loop-piece l = l.line ≡ grown l.initial.line (pieces_text l.word (take l.piece-index l.pieces))
