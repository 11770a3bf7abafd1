-- What each call leaves and answers.
use Rattle.std.specs.Prelude.{Bool, true, false, Some, None, Ok, Err, Option}
use Rattle.translation.specs.declared.event.Event.{Event}
use Rattle.answers.specs.Answers.{step_entry}
use Rattle.execution.specs.Worlds.{Outcome, World, outcome, with_state}
use Rattle.machine.specs.Calls.{drive_answer, driven_at, output_reading, raise_answer, raised_on, register_reading}
use Rattle.machine.specs.Runs.{user_run_call}
use Rattle.machine.specs.Steps.{step_call}
use Rattle.calls.specs.declared.Answer.{Answer}
use Rattle.calls.specs.declared.Answer.TheVariants.{Stepped, Ran, Done, Value}
use Rattle.calls.specs.declared.Call.{Call}
use Rattle.calls.specs.declared.Call.TheVariants.{Step, UserRun, Raise, Drive, Register, Output}

-- The same outcome, with its answer told as a call's.
abbrev pub told : {T : Type 0} → (T → Answer) → Outcome T → Outcome Answer
told label o = outcome o.after (label o.answer)

-- Each call leaves and answers what the machine's own call of that name promises.
abbrev pub call_of : Call → World → Outcome Answer
call_of Step w = told Stepped (step_call w)
call_of (UserRun n) w = told Ran (user_run_call n w)
call_of (Raise line) w = outcome (with_state (raised_on line w.state) w) (Done (raise_answer line))
call_of (Drive port word) w = outcome (with_state (driven_at port word w.state) w) (Done (drive_answer port))
call_of (Register number) w = outcome w (Value (register_reading number w.state.registers))
call_of (Output port) w = outcome w (Value (output_reading port w.state.ports))

-- The event with which a call entered the system: as its step tells, or as what stopped its run. A refused call enters nothing,
-- and neither does one that makes no step.
abbrev pub entry_of : Answer → Option Event
entry_of (Stepped (Ok r)) = step_entry r
entry_of (Stepped (Err r)) = None
entry_of (Ran (Ok r)) = r.stop
entry_of (Ran (Err r)) = None
entry_of (Done r) = None
entry_of (Value r) = None

abbrev pub is_event : Option Event → Bool
is_event (Some e) = true
is_event None = false

-- Whether a call entered the system.
abbrev pub enters : Answer → Bool
enters r = is_event (entry_of r)
