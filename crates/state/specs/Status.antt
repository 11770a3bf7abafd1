-- The status word and the writes of system registers.
use Rattle.std.specs.Prelude.{ℕ, ◌+◌, ◌/◌, ◌%◌, Bool, ◌==◌}
use Rattle.instruction.specs.declared.SystemRegister.{SystemRegister}
use Rattle.instruction.specs.declared.SystemRegister.TheVariants.{SavedStatus, ReturnAddress, Event, Detail, Scratch, EntryAddress, StackPointer, Status}
use Rattle.state.specs.declared.SystemRegisters.{SystemRegisters}

-- Bit 0 of the status word is 1 in system mode and 0 in user mode; bit 1 says that interrupts are on.
abbrev pub is_user : ℕ → Bool
is_user status = status % 2 == 0

abbrev pub interrupts_on : ℕ → Bool
interrupts_on status = status / 2 % 2 == 1

-- Interrupts are put on or off, and the mode stays.
abbrev pub enabled : ℕ → ℕ
enabled status = status % 2 + 2

abbrev pub disabled : ℕ → ℕ
disabled status = status % 2

-- The two status words keep two bits of what is written to them, and the event keeps four.
abbrev pub masked_for : SystemRegister → ℕ → ℕ
masked_for SavedStatus word = word % 4
masked_for ReturnAddress word = word
masked_for Event word = word % 16
masked_for Detail word = word
masked_for Scratch word = word
masked_for EntryAddress word = word
masked_for StackPointer word = word
masked_for Status word = word % 4

-- One of the system registers becomes another word.
abbrev pub replaced : SystemRegister → ℕ → SystemRegisters → SystemRegisters
replaced SavedStatus v s = record s { saved_status = v }
replaced ReturnAddress v s = record s { return_address = v }
replaced Event v s = record s { event = v }
replaced Detail v s = record s { detail = v }
replaced Scratch v s = record s { scratch = v }
replaced EntryAddress v s = record s { entry_address = v }
replaced StackPointer v s = record s { stack_pointer = v }
replaced Status v s = record s { status = v }

-- A system register takes a word, and the others stay.
abbrev pub system_set : SystemRegister → ℕ → SystemRegisters → SystemRegisters
system_set r word s = replaced r (masked_for r word) s
