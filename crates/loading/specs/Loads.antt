-- What a load answers and leaves, record by record.
use Rattle.std.specs.Prelude.{ℕ, zero, suc, ◌+◌, List, length, Option, Some, None, Ok, Err, Result}
use Rattle.memory.specs.declared.Mark.{Mark}
use Rattle.records.specs.declared.fault.RecordFault.{RecordFault}
use Rattle.records.specs.Records.{Item, block, end, record_of, size_of}
use Rattle.records.specs.Readings.{Reading, open_of}
use Rattle.faults.specs.declared.CloseFault.{CloseFault}
use Rattle.faults.specs.declared.PutFault.{PutFault}
use Rattle.faults.specs.declared.LoadFault.{LoadFault}
use Rattle.faults.specs.declared.LoadFault.TheVariants as load
use Rattle.loading.specs.declared.load.Loaded.{Loaded}
use Rattle.loading.specs.declared.load.LoadRefusal.{LoadRefusal}
use Rattle.faults.specs.Faults.{load_from_put, load_from_record, load_from_close}
use Rattle.loading.specs.Blocks.{overlaid, put_of}
use Rattle.loading.specs.Closing.{close_of}

-- What one record does: its answer, which is nothing for a block and the sum for an end record, and the ticket's sum, the bytes and the position after it.
pub record Turn : Type 0 where
  pub answer : Result (Option ℕ) LoadFault
  pub sum : ℕ
  pub bytes : ℕ → ℕ
  pub position : ℕ

abbrev pub turn : Result (Option ℕ) LoadFault → ℕ → (ℕ → ℕ) → ℕ → Turn
turn answer sum bytes position = record { answer = answer; sum = sum; bytes = bytes; position = position }

-- A block goes through the ticket: the load goes on, or the ticket's fault is the load's.
abbrev pub put_by : (ℕ → ℕ) → ℕ → ℕ → ℕ → List ℕ → Result ℕ PutFault → Turn
put_by bytes p sum a body (Ok new) = turn (Ok None) new (overlaid bytes a body) (p + size_of (block a body))
put_by bytes p sum a body (Err fault) = turn (Err (load_from_put fault)) sum bytes (p + size_of (block a body))

-- An end record stops the load, and so does a record that cannot be read.
abbrev pub turn_by : (ℕ → Mark) → (ℕ → ℕ) → ℕ → ℕ → Result Item RecordFault → Turn
turn_by marks bytes p sum (Err fault) = turn (Err (load_from_record fault)) sum bytes p
turn_by marks bytes p sum (Ok (end said)) = turn (Ok (Some said)) sum bytes (p + size_of (end said))
turn_by marks bytes p sum (Ok (block a body)) = put_by bytes p sum a body (put_of sum marks a body)

abbrev pub turn_of : (ℕ → Mark) → (ℕ → ℕ) → List ℕ → ℕ → ℕ → Turn
turn_of marks bytes file p sum = turn_by marks bytes p sum (record_of file p)

-- What a whole load answers, and the bytes after it.
pub record Final : Type 0 where
  pub answer : Result Loaded LoadRefusal
  pub bytes : ℕ → ℕ

abbrev pub final : Result Loaded LoadRefusal → (ℕ → ℕ) → Final
final answer bytes = record { answer = answer; bytes = bytes }

-- A refused load says why, at which record, and after how many blocks, which stay written.
abbrev pub refusal : LoadFault → ℕ → ℕ → Result Loaded LoadRefusal
refusal fault offset blocks = Err (record { fault = fault; offset = offset; blocks = blocks })

-- The end record's sum has to be the ticket's.
abbrev pub finish_by : Result ℕ CloseFault → ℕ → ℕ → Result Loaded LoadRefusal
finish_by (Ok sum) offset blocks = Ok (record { blocks = blocks; sum = sum })
finish_by (Err fault) offset blocks = refusal (load_from_close fault) offset blocks

-- After a block the load goes on; after any other answer it is over.
abbrev pub continued_by : Result (Option ℕ) LoadFault → Turn → ℕ → ℕ → Final → Final
continued_by (Err fault) done p blocks rest = final (refusal fault p blocks) done.bytes
continued_by (Ok None) done p blocks rest = rest
continued_by (Ok (Some said)) done p blocks rest = final (finish_by (close_of done.sum said) p blocks) done.bytes

abbrev pub continued : Turn → ℕ → ℕ → Final → Final
continued done p blocks rest = continued_by done.answer done p blocks rest

-- The load of the records from p on, at most n of them.
abbrev pub load_from : ℕ → (ℕ → Mark) → (ℕ → ℕ) → List ℕ → ℕ → ℕ → ℕ → Final
load_from zero marks bytes file p sum blocks = final (refusal load.CutShort p blocks) bytes
load_from (suc n) marks bytes file p sum blocks =
    continued (turn_of marks bytes file p sum) p blocks
    (load_from n marks (turn_of marks bytes file p sum).bytes file (turn_of marks bytes file p sum).position
    (turn_of marks bytes file p sum).sum (blocks + 1))

-- The load of a file that could be opened: it has fewer records than bytes.
abbrev pub load_by : (ℕ → Mark) → (ℕ → ℕ) → Result Reading RecordFault → Final
load_by marks bytes (Ok reading) = load_from (length reading.file + 1) marks bytes reading.file reading.position 0 0
load_by marks bytes (Err fault) = final (refusal (load_from_record fault) 0 0) bytes

abbrev pub load_of : (ℕ → Mark) → (ℕ → ℕ) → List ℕ → Final
load_of marks bytes file = load_by marks bytes (open_of file)
