-- A run keeps the rules that no machine breaks.
use Rattle.std.proofs.Common.{◌≡◌, ℕ, zero, suc, true, ltb, Some, None, Option, Result, ap, ◌∙◌}
use Rattle.std.proofs.lemmas.Bool.{cond_both}
use Rattle.translation.specs.declared.event.Event.{Event}
use Rattle.answers.specs.declared.Halt.{Halt}
use Rattle.answers.specs.declared.Refusal.{Refusal}
use Rattle.answers.specs.declared.RunAnswer.{RunAnswer}
use Rattle.answers.specs.declared.StepAnswer.{StepAnswer}
use Rattle.answers.specs.declared.StepAnswer.TheVariants as answer
use Rattle.answers.specs.Answers.{step_entry, step_halt}
use Rattle.state.specs.declared.State.{State}
use Rattle.state.specs.Status.{is_user}
use Rattle.execution.specs.Worlds.{Outcome, World, outcome}
use Rattle.machine.specs.Runs.{run_of, run_on, within_limit}
use Rattle.machine.specs.Sound.{sound}
use Rattle.machine.specs.Steps.{step_of}
use Rattle.machine.proofs.Soundness.{Going, Good, going_sound, step_good}
use Rattle.machine.proofs.UserSteps.{StaysUser, step_user}

-- what a step leaves: a state that the run goes on with, or a sound one if the step stops it
abbrev Leaves : {Stop : Type 0} → (State → Type 0) → Option Stop → State → Type 0
Leaves Fits None s = Fits s
Leaves Fits (Some stop) s = sound s ≡ true

-- of a kind of run, with the states that it goes on with
module _ {Stop : Type 0} (stop_of : StepAnswer → Option Stop) (Fits : State → Type 0) (fits_sound : (s : State) → Fits s → sound s ≡ true)
    (fits_step : (w : World) → Fits w.state → Leaves Fits (stop_of (step_of w).answer) (step_of w).after.state) where
  on_sound : (stop : Option Stop) (w : World) (others : World → Outcome (RunAnswer Stop)) → ((v : World) → Fits v.state → sound (others v).after.state ≡ true)
      → Leaves Fits stop w.state → sound (run_on stop w others).after.state ≡ true
  on_sound None w others h l = h w l
  on_sound (Some stop) w others h l = l

  run_sound : (n : ℕ) (w : World) → Fits w.state → sound (run_of stop_of n w).after.state ≡ true
  unfolding run_of
  run_sound zero w f = fits_sound w.state f
  run_sound (suc n) w f = on_sound (stop_of (step_of w).answer) (step_of w).after (run_of stop_of n) (run_sound n) (fits_step w f)

  within_limit_sound : (n : ℕ) (w : World) → Fits w.state → sound (within_limit stop_of n w).after.state ≡ true
  within_limit_sound n w f = cond_both (ltb 1000000 n) _ _ (λ (o : Outcome (Result (RunAnswer Stop) Refusal)). sound o.after.state ≡ true) (λ _. fits_sound w.state f) (λ _. run_sound n w f)

left_sound : {T : Type 0} {o : Outcome T} {w : World} {r : T} → outcome w r ≡ o → sound o.after.state ≡ true → sound w.state ≡ true
left_sound e h = ap (λ x. sound x.after.state) e ∙ h

halt_leaves : (r : StepAnswer) (s : State) → Good r s → Leaves Going (step_halt r) s
halt_leaves answer.Ran s g = g
halt_leaves answer.Halted s g = g
halt_leaves (answer.Entered e) s g = g

-- what is known to come of a run is sound
pub halt_run_sound : (n : ℕ) (w : World) {w' : World} {r : Result (RunAnswer Halt) Refusal} → outcome w' r ≡ within_limit step_halt n w → Going w.state → sound w'.state ≡ true
halt_run_sound n w e g =
    left_sound e (within_limit_sound step_halt Going going_sound (λ v h. halt_leaves (step_of v).answer (step_of v).after.state (step_good v h)) n w g)

-- a user program goes on in user mode
abbrev GoingUser : State → Type 0
GoingUser s = Going s × (is_user s.system.status ≡ true)

entry_leaves : (r : StepAnswer) (s : State) → Good r s → StaysUser r s → Leaves GoingUser (step_entry r) s
entry_leaves answer.Ran s g u = (g, u)
entry_leaves answer.Halted s g u = absurd u
entry_leaves (answer.Entered e) s g u = going_sound s g

pub user_run_sound : (n : ℕ) (w : World) {w' : World} {r : Result (RunAnswer Event) Refusal} → outcome w' r ≡ within_limit step_entry n w → Going w.state → is_user w.state.system.status ≡ true
    → sound w'.state ≡ true
user_run_sound n w e g u =
    left_sound e (within_limit_sound step_entry GoingUser (λ s h. going_sound s h.0)
    (λ v h. entry_leaves (step_of v).answer (step_of v).after.state (step_good v h.0) (step_user v h.1)) n w (g, u))
