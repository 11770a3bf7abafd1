-- The entry into the system.
use Rattle.std.specs.Prelude.{ℕ}
use Rattle.translation.specs.declared.event.Event.{Event}
use Rattle.translation.specs.Events.{code_of}
use Rattle.state.specs.declared.State.{State}
use Rattle.state.specs.declared.SystemRegisters.{SystemRegisters}
use Rattle.state.specs.States.{with_pc, with_system}

-- An entry: S0 takes the status word, S1 takes PC, S2 the event's code and S3 its detail; then the machine is in system
-- mode with interrupts off, at the address in S5.
abbrev pub system_entered : Event → ℕ → ℕ → SystemRegisters → SystemRegisters
system_entered e detail pc s = record s { saved_status = s.status; return_address = pc; event = code_of e; detail = detail; status = 1 }

abbrev pub entered : Event → ℕ → State → State
entered e detail s = with_pc s.system.entry_address (with_system (system_entered e detail s.pc s.system) s)
