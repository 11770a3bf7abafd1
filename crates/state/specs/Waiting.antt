-- The waiting lines.
use Rattle.std.specs.Prelude.{ℕ, Bool, false, ◌&&◌, List, is_some, position, Some, None, Option, slice_set}
use Rattle.instruction.specs.declared.Register.{Register}
use Rattle.state.specs.declared.State.{State}
use Rattle.state.specs.States.{register_set, with_waiting}
use Rattle.state.specs.Status.{interrupts_on}

-- The lowest line that waits.
abbrev pub lowest_waiting : List Bool → Option ℕ
lowest_waiting waiting = position (λ (waits : Bool). waits) waiting

-- An interrupt comes if interrupts are on and a line waits.
abbrev pub is_interrupted : State → Bool
is_interrupted s = interrupts_on s.system.status && is_some (lowest_waiting s.waiting)

-- GETIID: Rd takes the lowest waiting line, which waits no longer, or 0 if none waits.
abbrev pub interrupt_given : Option ℕ → Register → State → State
interrupt_given None d s = register_set d 0 s
interrupt_given (Some line) d s = register_set d line (with_waiting (slice_set s.waiting line false) s)

abbrev pub interrupt_taken : Register → State → State
interrupt_taken d s = interrupt_given (lowest_waiting s.waiting) d s
