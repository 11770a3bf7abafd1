-- The numbers of the record reader's refusals.
use Rattle.std.specs.Prelude.{ℕ}
use Rattle.records.specs.declared.fault.RecordFault.{RecordFault}
use Rattle.records.specs.declared.fault.RecordFault.TheVariants.{NoMark, CutShort, UnknownKind, BlockLength, TrailingBytes, TooLong}

abbrev pub record_number : RecordFault → ℕ
record_number NoMark = 10
record_number CutShort = 11
record_number UnknownKind = 12
record_number BlockLength = 13
record_number TrailingBytes = 16
record_number TooLong = 18
