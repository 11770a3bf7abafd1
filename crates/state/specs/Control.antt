-- What the privileged instructions do.
use Rattle.std.specs.Prelude.{ℕ, true}
use Rattle.instruction.specs.declared.Privileged.{Privileged}
use Rattle.instruction.specs.declared.Privileged.TheVariants.{EnableInterrupts, DisableInterrupts, ReturnFromEvent, GetInterrupt, ReadSystem, WriteSystem, WriteEntry, Flush, Halt}
use Rattle.instruction.specs.declared.SystemRegister.TheVariants.{Status}
use Rattle.state.specs.declared.privileged.Progress.{Progress}
use Rattle.state.specs.declared.privileged.Progress.TheVariants.{Ran, Halted}
use Rattle.state.specs.declared.State.{State}
use Rattle.state.specs.States.{register_at, register_set, system_at, with_halted, with_pc, with_system, with_tables}
use Rattle.state.specs.Status.{disabled, enabled, replaced, system_set}
use Rattle.state.specs.TableWrites.{entry_set, tables_flushed}
use Rattle.state.specs.Waiting.{interrupt_taken}

-- The status word becomes another.
abbrev pub status_put : ℕ → State → State
status_put v s = with_system (replaced Status v s.system) s

-- EI and DI put interrupts on and off. RETI gives back the status word and the address that an entry saved. GETIID takes the
-- lowest waiting line. RDS and WRS read and write a system register. The table writes put Rb into a field of the entry that
-- Ra names. FLUSH clears "used" in the tables that Ra names. HALT stops the machine.
abbrev pub controlled : Privileged → State → State
controlled EnableInterrupts s = status_put (enabled s.system.status) s
controlled DisableInterrupts s = status_put (disabled s.system.status) s
controlled ReturnFromEvent s = with_pc s.system.return_address (status_put s.system.saved_status s)
controlled (GetInterrupt d) s = interrupt_taken d s
controlled (ReadSystem d r) s = register_set d (system_at r s.system) s
controlled (WriteSystem r a) s = with_system (system_set r (register_at a s.registers) s.system) s
controlled (WriteEntry t f b a) s = with_tables (entry_set t f (register_at a s.registers) (register_at b s.registers) s.tables) s
controlled (Flush a) s = with_tables (tables_flushed (register_at a s.registers) s.tables) s
controlled Halt s = with_halted true s

-- Only HALT halts.
abbrev pub progress_of : Privileged → Progress
progress_of EnableInterrupts = Ran
progress_of DisableInterrupts = Ran
progress_of ReturnFromEvent = Ran
progress_of (GetInterrupt d) = Ran
progress_of (ReadSystem d r) = Ran
progress_of (WriteSystem r a) = Ran
progress_of (WriteEntry t f b a) = Ran
progress_of (Flush a) = Ran
progress_of Halt = Halted
