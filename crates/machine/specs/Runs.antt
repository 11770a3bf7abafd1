-- Runs of many steps, and runs of a user program.
use Rattle.std.specs.Prelude.{ℕ, zero, suc, ◌+◌, cond, not, Some, None, Err, Option, Result, nat_lt}
use Rattle.translation.specs.declared.event.Event.{Event}
use Rattle.answers.specs.declared.Halt.{Halt}
use Rattle.answers.specs.declared.Refusal.{Refusal}
use Rattle.answers.specs.declared.Refusal.TheVariants as refusal
use Rattle.answers.specs.declared.RunAnswer.{RunAnswer}
use Rattle.answers.specs.declared.StepAnswer.{StepAnswer}
use Rattle.answers.specs.Answers.{step_entry, step_halt}
use Rattle.execution.specs.Worlds.{Outcome, World, outcome}
use Rattle.state.specs.Status.{is_user}
use Rattle.machine.specs.Steps.{answered, step_of}

abbrev pub run_answer : {Stop : Type 0} → ℕ → Option Stop → RunAnswer Stop
run_answer steps stop = record { steps = steps; stop = stop }

-- One step more, made before the others.
abbrev pub one_more : {Stop : Type 0} → Outcome (RunAnswer Stop) → Outcome (RunAnswer Stop)
one_more o = outcome o.after (run_answer (o.answer.steps + 1) o.answer.stop)

-- A step that stops the run counts; after any other the run goes on, as `others` says.
abbrev pub run_on : {Stop : Type 0} → Option Stop → World → (World → Outcome (RunAnswer Stop)) → Outcome (RunAnswer Stop)
run_on (Some stop) w others = outcome w (run_answer 1 (Some stop))
run_on None w others = one_more (others w)

-- A run of n steps: none, or one step and then a run of the others. `stop_of` says what of a step's answer stops the run.
unfoldable pub run_of : {Stop : Type 0} → (StepAnswer → Option Stop) → ℕ → World → Outcome (RunAnswer Stop)
run_of stop_of zero w = outcome w (run_answer 0 None)
run_of stop_of (suc n) w = run_on (stop_of (step_of w).answer) (step_of w).after (run_of stop_of n)

-- A run of either kind has at most 1,000,000 steps.
abbrev pub within_limit : {Stop : Type 0} → (StepAnswer → Option Stop) → ℕ → World → Outcome (Result (RunAnswer Stop) Refusal)
within_limit stop_of n w = cond (nat_lt 1000000 n) (outcome w (Err refusal.TooManySteps)) (answered (run_of stop_of n w))

-- A halted machine does not run. A run stops when the machine halts.
abbrev pub run_call : ℕ → World → Outcome (Result (RunAnswer Halt) Refusal)
run_call n w = cond w.state.halted (outcome w (Err refusal.Halted)) (within_limit step_halt n w)

-- A user run wants a machine that is not halted and is in user mode. It stops when the program enters the system; no step in
-- user mode halts.
abbrev pub user_run_call : ℕ → World → Outcome (Result (RunAnswer Event) Refusal)
user_run_call n w =
    cond w.state.halted (outcome w (Err refusal.Halted))
    (cond (not (is_user w.state.system.status)) (outcome w (Err refusal.SystemMode)) (within_limit step_entry n w))
