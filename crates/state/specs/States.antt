-- The state at the start, and states that differ in one part.
use Rattle.std.specs.Prelude.{ℕ, Bool, false, List, replicate, slice_index, slice_set}
use Rattle.instruction.specs.declared.Register.{Register}
use Rattle.instruction.specs.declared.SystemRegister.{SystemRegister}
use Rattle.instruction.specs.declared.SystemRegister.TheVariants.{SavedStatus, ReturnAddress, Event, Detail, Scratch, EntryAddress, StackPointer, Status}
use Rattle.instruction.specs.Fields.{register_number}
use Rattle.paging.specs.declared.PageTable.{PageTable}
use Rattle.paging.specs.Tables.{start_entries}
use Rattle.state.specs.declared.State.{State}
use Rattle.state.specs.declared.SystemRegisters.{SystemRegisters}
use Rattle.state.specs.declared.Ports.{Ports}
use Rattle.state.specs.declared.Tables.{Tables}

-- At the start all is zero, but the machine is in system mode, PC is 0x8000, and both tables are at their start.
abbrev pub start_system : SystemRegisters
start_system = record {
  saved_status = 0;
  return_address = 0;
  event = 0;
  detail = 0;
  scratch = 0;
  entry_address = 0;
  stack_pointer = 0;
  status = 1;
}

abbrev pub start_table : PageTable
start_table = record { entries = start_entries }

abbrev pub start_state : State
start_state = record {
  registers = replicate 8 0;
  pc = 0x8000;
  system = start_system;
  ports = record { inputs = replicate 256 0; outputs = replicate 256 0 };
  waiting = replicate 8 false;
  tables = record { instruction = start_table; «data» = start_table };
  halted = false;
}

-- The same state with other R registers, another PC, and so on.
abbrev pub with_registers : List ℕ → State → State
with_registers v s = record s { registers = v }

abbrev pub with_pc : ℕ → State → State
with_pc v s = record s { pc = v }

abbrev pub with_system : SystemRegisters → State → State
with_system v s = record s { system = v }

abbrev pub with_ports : Ports → State → State
with_ports v s = record s { ports = v }

abbrev pub with_waiting : List Bool → State → State
with_waiting v s = record s { waiting = v }

abbrev pub with_tables : Tables → State → State
with_tables v s = record s { tables = v }

abbrev pub with_halted : Bool → State → State
with_halted v s = record s { halted = v }

-- The R registers are a list of eight words.
abbrev pub register_at : Register → List ℕ → ℕ
register_at r registers = slice_index registers (register_number r)

abbrev pub register_set : Register → ℕ → State → State
register_set d v s = with_registers (slice_set s.registers (register_number d) v) s

-- The system registers, by their roles.
abbrev pub system_at : SystemRegister → SystemRegisters → ℕ
system_at SavedStatus s = s.saved_status
system_at ReturnAddress s = s.return_address
system_at Event s = s.event
system_at Detail s = s.detail
system_at Scratch s = s.scratch
system_at EntryAddress s = s.entry_address
system_at StackPointer s = s.stack_pointer
system_at Status s = s.status
