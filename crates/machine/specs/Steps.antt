-- One step of a machine.
use Rattle.std.specs.Prelude.{ℕ, ◌+◌, ◌%◌, cond, Some, None, Ok, Err, Option, Result}
use Rattle.instruction.specs.declared.Instruction.{Instruction}
use Rattle.instruction.specs.Decode.{decode_of}
use Rattle.translation.specs.declared.event.Event.{Event}
use Rattle.translation.specs.declared.event.Event.TheVariants as event
use Rattle.access.specs.Accesses.{fetched}
use Rattle.answers.specs.declared.Refusal.{Refusal}
use Rattle.answers.specs.declared.Refusal.TheVariants as refusal
use Rattle.answers.specs.declared.StepAnswer.{StepAnswer}
use Rattle.answers.specs.declared.StepAnswer.TheVariants as answer
use Rattle.state.specs.declared.privileged.Progress.{Progress}
use Rattle.state.specs.declared.privileged.Progress.TheVariants.{Ran, Halted}
use Rattle.execution.specs.declared.Raised.{Raised}
use Rattle.execution.specs.Worlds.{Outcome, World, outcome, with_state}
use Rattle.state.specs.Entries.{entered}
use Rattle.state.specs.States.{with_pc}
use Rattle.state.specs.Status.{is_user}
use Rattle.state.specs.Waiting.{is_interrupted}
use Rattle.execution.specs.Execution.{executed}

-- An event is entered.
abbrev pub entering : Event → ℕ → World → Outcome StepAnswer
entering e detail w = outcome (with_state (entered e detail w.state) w) (answer.Entered e)

-- An event that an instruction raises is entered.
abbrev pub concluded : Result Progress Raised → World → Outcome StepAnswer
concluded (Ok Ran) w = outcome w answer.Ran
concluded (Ok Halted) w = outcome w answer.Halted
concluded (Err r) w = entering r.event r.detail w

-- A word of no form is an event, in either mode.
abbrev pub performed : Option Instruction → World → Outcome StepAnswer
performed None w = entering event.IllegalInstruction 0 w
performed (Some i) w = concluded (executed i w).answer (executed i w).after

-- A failed fetch is an event whose detail is the address.
abbrev pub fetched_by : Result ℕ Event → ℕ → World → Outcome StepAnswer
fetched_by (Ok word) address w = performed (decode_of word) w
fetched_by (Err e) address w = entering e address w

-- PC stands at the next instruction once the fetch is tried, so that is what an entry saves.
abbrev pub advanced : World → World
advanced w = with_state (with_pc ((w.state.pc + 2) % 65536) w.state) w

abbrev pub tried : World → Outcome StepAnswer
tried w =
    fetched_by (fetched (is_user w.state.system.status) w.state.tables.instruction.entries w.marks w.bytes w.state.pc) w.state.pc (advanced w)

-- An interrupt comes before everything else; then PC itself is saved.
abbrev pub step_of : World → Outcome StepAnswer
step_of w = cond (is_interrupted w.state) (entering event.Interrupt 0 w) (tried w)

-- A halted machine makes no step.
abbrev pub answered : {T : Type 0} → Outcome T → Outcome (Result T Refusal)
answered o = outcome o.after (Ok o.answer)

abbrev pub step_call : World → Outcome (Result StepAnswer Refusal)
step_call w = cond w.state.halted (outcome w (Err refusal.Halted)) (answered (step_of w))
