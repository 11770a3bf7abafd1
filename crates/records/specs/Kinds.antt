-- The kinds of records, by their bytes.
use Rattle.std.specs.Prelude.{ℕ, cond, Ok, Err, Result, ◌==◌}
use Rattle.records.specs.declared.fault.RecordFault.{RecordFault}
use Rattle.records.specs.declared.fault.RecordFault.TheVariants.{UnknownKind}
use Rattle.records.specs.declared.kind.Kind.{Kind}
use Rattle.records.specs.declared.kind.Kind.TheVariants.{Block, End}

-- 1 is a block, 2 the end.
abbrev pub kind_by : ℕ → Result Kind RecordFault
kind_by byte = cond (byte == 1) (Ok Block) (cond (byte == 2) (Ok End) (Err UnknownKind))
