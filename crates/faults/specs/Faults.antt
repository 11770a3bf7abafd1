-- The numbers of the refusals, and how one fault becomes another on its way up.
use Rattle.std.specs.Prelude.{ℕ}
use Rattle.memory.specs.declared.MemoryFault.{MemoryFault}
use Rattle.records.specs.declared.fault.RecordFault.{RecordFault}
use Rattle.records.specs.declared.fault.RecordFault.TheVariants as rec
use Rattle.faults.specs.declared.Misplaced.{Misplaced}
use Rattle.faults.specs.declared.Misplaced.TheVariants.{Memory}
use Rattle.faults.specs.declared.PlaceFault.{PlaceFault}
use Rattle.faults.specs.declared.PutFault.{PutFault}
use Rattle.faults.specs.declared.PutFault.TheVariants as put
use Rattle.faults.specs.declared.CloseFault.{CloseFault}
use Rattle.faults.specs.declared.LoadFault.{LoadFault}
use Rattle.faults.specs.declared.LoadFault.TheVariants as load

abbrev pub put_number : PutFault → ℕ
put_number put.BlockLength = 13
put_number put.SumTooLarge = 17
put_number (put.Place place) = 14

abbrev pub close_number : CloseFault → ℕ
close_number fault = 15

abbrev pub load_number : LoadFault → ℕ
load_number load.NoMark = 10
load_number load.CutShort = 11
load_number load.UnknownKind = 12
load_number load.BlockLength = 13
load_number (load.Place place) = 14
load_number load.WrongSum = 15
load_number load.TrailingBytes = 16
load_number load.SumTooLarge = 17
load_number load.TooLong = 18

-- Each fault keeps its meaning, and a place its address.
abbrev pub memory_misplaced : MemoryFault → Misplaced
memory_misplaced fault = Memory fault

abbrev pub put_from_place : PlaceFault → PutFault
put_from_place place = put.Place place

abbrev pub load_from_put : PutFault → LoadFault
load_from_put put.BlockLength = load.BlockLength
load_from_put put.SumTooLarge = load.SumTooLarge
load_from_put (put.Place place) = load.Place place

abbrev pub load_from_record : RecordFault → LoadFault
load_from_record rec.NoMark = load.NoMark
load_from_record rec.CutShort = load.CutShort
load_from_record rec.UnknownKind = load.UnknownKind
load_from_record rec.BlockLength = load.BlockLength
load_from_record rec.TrailingBytes = load.TrailingBytes
load_from_record rec.TooLong = load.TooLong

abbrev pub load_from_close : CloseFault → LoadFault
load_from_close fault = load.WrongSum
