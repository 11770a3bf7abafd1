-- The code of each event, and the events that a memory raises.
use Rattle.std.specs.Prelude.{ℕ}
use Rattle.memory.specs.declared.MemoryFault.{MemoryFault}
use Rattle.memory.specs.declared.MemoryFault.TheVariants.{Fixed, Absent}
use Rattle.translation.specs.declared.event.Event.{Event}
use Rattle.translation.specs.declared.event.Event.TheVariants.{IllegalInstruction, OddAddress, FrameAbsent, NoInstructionEntry, NoDataEntry, InstructionNotValid, DataNotValid, ProtectedInstruction, ProtectedData, ReadOnly, Privileged, SystemCall, Interrupt}

abbrev pub code_of : Event → ℕ
code_of IllegalInstruction = 0
code_of OddAddress = 1
code_of FrameAbsent = 5
code_of NoInstructionEntry = 6
code_of NoDataEntry = 7
code_of InstructionNotValid = 8
code_of DataNotValid = 9
code_of ProtectedInstruction = 10
code_of ProtectedData = 11
code_of ReadOnly = 12
code_of Privileged = 13
code_of SystemCall = 14
code_of Interrupt = 15

-- A frame refuses an access because it is fixed or because it is not there.
abbrev pub fault_event : MemoryFault → Event
fault_event Fixed = ReadOnly
fault_event Absent = FrameAbsent
