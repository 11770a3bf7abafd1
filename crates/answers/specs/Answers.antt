-- The number of each refusal, and what a step's answer tells.
use Rattle.std.specs.Prelude.{ℕ, Some, None, Option}
use Rattle.translation.specs.declared.event.Event.{Event}
use Rattle.answers.specs.declared.Halt.{Halt}
use Rattle.answers.specs.declared.Refusal.{Refusal}
use Rattle.answers.specs.declared.Refusal.TheVariants.{Halted, NoSuchLine, NoSuchPort, NoSuchRegister, TooManySteps, SystemMode}
use Rattle.answers.specs.declared.StepAnswer.{StepAnswer}
use Rattle.answers.specs.declared.StepAnswer.TheVariants as step

abbrev pub refusal_number : Refusal → ℕ
refusal_number Halted = 1
refusal_number NoSuchLine = 2
refusal_number NoSuchPort = 3
refusal_number NoSuchRegister = 4
refusal_number TooManySteps = 5
refusal_number SystemMode = 6

-- The halt, if the step halted the machine.
abbrev pub step_halt : StepAnswer → Option Halt
step_halt step.Halted = Some (record {})
step_halt step.Ran = None
step_halt (step.Entered e) = None

-- The event with which a step entered the system, if it did.
abbrev pub step_entry : StepAnswer → Option Event
step_entry step.Ran = None
step_entry step.Halted = None
step_entry (step.Entered e) = Some e
