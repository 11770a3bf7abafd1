-- One turn of a run.
use Rattle.std.proofs.Common.{◌≡◌, ℕ, suc, ◌+◌, ◌-◌, ◌<◌, Some, None, Option, sym, ap, ◌∙◌, arith}
use Rattle.answers.specs.declared.RunAnswer.{RunAnswer}
use Rattle.answers.specs.declared.StepAnswer.{StepAnswer}
use Rattle.execution.specs.Worlds.{Outcome, World, outcome}
use Rattle.machine.specs.Steps.{step_of}
use Rattle.machine.specs.Runs.{run_answer, run_of, run_on}

-- a run, after so many steps made before it
abbrev pub after : {Stop : Type 0} → ℕ → Outcome (RunAnswer Stop) → Outcome (RunAnswer Stop)
after made o = outcome o.after (run_answer (o.answer.steps + made) o.answer.stop)

same_count : {Stop : Type 0} (w : World) (stop : Option Stop) (a b : ℕ) → a ≡ b → outcome w (run_answer a stop) ≡ outcome w (run_answer b stop)
same_count w stop a b p = ap (λ (k : ℕ). outcome w (run_answer k stop)) p

one_step : (n made : ℕ) → made < n → n - made ≡ suc (n - (made + 1))
one_step n made h = omega arith

none_left : (n made : ℕ) → made ≡ n → n - made ≡ 0
none_left n made h = omega arith

module _ {Stop : Type 0} (stop_of : StepAnswer → Option Stop) where
  -- what is left of a run of n steps, after those that were made
  abbrev pub left : ℕ → ℕ → World → Outcome (RunAnswer Stop)
  left n made w = after made (run_of stop_of (n - made) w)

  run_step : (n made : ℕ) (w w' : World) (r : StepAnswer) (stop : Option Stop) → made < n → outcome w' r ≡ step_of w → stop_of r ≡ stop
      → run_of stop_of (n - made) w ≡ run_on stop w' (run_of stop_of (n - (made + 1)))
  unfolding run_of
  run_step n made w w' r stop h e s =
      ap (λ (k : ℕ). run_of stop_of k w) (one_step n made h)
      ∙ (ap (λ (o : Outcome StepAnswer). run_on (stop_of o.answer) o.after (run_of stop_of (n - (made + 1)))) (sym e)
      ∙ ap (λ (x : Option Stop). run_on x w' (run_of stop_of (n - (made + 1)))) s)

  pub run_goes_on : (n made : ℕ) (w : World) {w' : World} {r : StepAnswer} {whole : Outcome (RunAnswer Stop)} → made < n → outcome w' r ≡ step_of w → stop_of r ≡ None
      → left n made w ≡ whole → left n (made + 1) w' ≡ whole
  run_goes_on n made w {w'} {r} h e s i =
      let o = run_of stop_of (n - (made + 1)) w' in
      same_count o.after o.answer.stop (o.answer.steps + (made + 1)) (o.answer.steps + 1 + made) (omega arith)
      ∙ (ap (after made) (sym (run_step n made w w' r None h e s)) ∙ i)

  pub run_stops : (n made : ℕ) (w : World) {w' : World} {r : StepAnswer} {stop : Stop} {whole : Outcome (RunAnswer Stop)} → made < n → outcome w' r ≡ step_of w → stop_of r ≡ Some stop
      → left n made w ≡ whole → outcome w' (run_answer (made + 1) (Some stop)) ≡ whole
  run_stops n made w {w'} {r} {stop} h e s i =
      same_count w' (Some stop) (made + 1) (1 + made) (omega arith)
      ∙ (ap (after made) (sym (run_step n made w w' r (Some stop) h e s)) ∙ i)

  pub run_spent : (n made : ℕ) (w : World) {whole : Outcome (RunAnswer Stop)} → made ≡ n → left n made w ≡ whole → outcome w (run_answer n None) ≡ whole
  unfolding run_of
  run_spent n made w h i =
      same_count w None n (0 + made) (omega arith)
      ∙ (ap (λ (k : ℕ). after made (run_of stop_of k w)) (sym (none_left n made h)) ∙ i)
