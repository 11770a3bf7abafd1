-- What a reader stands for, and which files it opens.
use Rattle.std.specs.Prelude.{ℕ, cond, List, length, Ok, Err, Result, nat_lt}
use Rattle.records.specs.declared.fault.RecordFault.{RecordFault}
use Rattle.records.specs.declared.fault.RecordFault.TheVariants.{TooLong}
use Rattle.records.specs.declared.reader.Reader.{Reader}

-- What a reader stands for: its file and its position.
pub record Reading : Type 0 where
  pub file : List ℕ
  pub position : ℕ

abbrev pub opened : Result Reader RecordFault → Result Reading RecordFault
opened (Ok r) = Ok (record { file = r.file.now; position = r.position })
opened (Err e) = Err e

-- A file of at most 65,535 bytes is read from its start; a longer one is refused.
abbrev pub open_of : List ℕ → Result Reading RecordFault
open_of f = cond (nat_lt 65535 (length f)) (Err TooLong) (Ok (record { file = f; position = 0 }))
