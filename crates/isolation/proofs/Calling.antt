-- One call, of two machines in user mode that agree.
use Rattle.std.proofs.Common.{◌≡◌, ℕ, zero, suc, ◌+◌, Bool, true, false, cond, not, ltb, List, set, Some, None, Ok, Err, Option, sym, refl, ap, ◌∙◌, subst, subst₂}
use Rattle.std.proofs.lemmas.Bool.{cond-false, not_from_true}
use Rattle.translation.specs.declared.event.Event.{Event}
use Rattle.answers.specs.declared.Refusal.TheVariants as refusal
use Rattle.answers.specs.declared.StepAnswer.{StepAnswer}
use Rattle.answers.specs.declared.RunAnswer.{RunAnswer}
use Rattle.answers.specs.Answers.{step_entry}
use Rattle.state.specs.declared.Ports.{Ports}
use Rattle.machine.specs.Calls.{drive_answer, output_reading, raise_answer, register_reading}
use Rattle.state.specs.States.{with_ports, with_waiting}
use Rattle.state.specs.Status.{is_user}
use Rattle.machine.specs.Steps.{answered, step_of}
use Rattle.machine.specs.Runs.{one_more, run_answer, run_of, run_on}
use Rattle.execution.specs.Worlds.{Outcome, World, outcome, with_state}
use Rattle.calls.specs.declared.Answer.{Answer}
use Rattle.calls.specs.declared.Answer.TheVariants.{Stepped, Ran, Done, Value}
use Rattle.calls.specs.declared.Call.{Call}
use Rattle.calls.specs.declared.Call.TheVariants as call
use Rattle.calls.specs.Calls.{call_of, enters, is_event, told}
use Rattle.isolation.specs.Share.{Agree}
use Rattle.isolation.proofs.Agreeing.{Running, changed, changed_agree, changed_stands, same_stands, stands_running}
use Rattle.isolation.proofs.Entering.{Both, Paired, paired_after, ran_both, still_ours, still_theirs}
use Rattle.isolation.proofs.Stepping.{step_paired}

-- user runs
abbrev is_run_entry : RunAnswer Event → Bool
is_run_entry r = is_event r.stop

-- two runs of the same length from any two machines that agree
abbrev RunsPaired : ℕ → Type 0
RunsPaired n = (a b : World) → Running a → Running b → Agree a b → Paired is_run_entry a b (run_of step_entry n a) (run_of step_entry n b)

more_paired : (a b : World) (x y : Outcome (RunAnswer Event)) → Paired is_run_entry a b x y → Paired is_run_entry a b (one_more x) (one_more y)
more_paired a b x y p = record { answer = ap (λ (r : RunAnswer Event). run_answer (r.steps + 1) r.stop) p.answer; both = p.both }

on_paired : (n : ℕ) (a b p q : World) → Running a → Running b → (stop : Option Event) → Both (is_event stop) a b p q → RunsPaired n
    → Paired is_run_entry a b (run_on stop p (run_of step_entry n)) (run_on stop q (run_of step_entry n))
on_paired n a b p q u v (Some e) first others = record { answer = refl; both = first }
on_paired n a b p q u v None first others =
    more_paired a b (run_of step_entry n p) (run_of step_entry n q)
    (paired_after is_run_entry a b p q (run_of step_entry n p) (run_of step_entry n q) first
    (others p q (stands_running a p u (still_ours a b p q first)) (stands_running b q v (still_theirs a b p q first)) first.came.agree))

run_paired : (n : ℕ) → RunsPaired n
unfolding run_of
run_paired zero a b u v g = record { answer = refl; both = ran_both a b a b g (same_stands a) (same_stands b) }
run_paired (suc n) a b u v g =
    let p = step_paired a b u v g in
    let first = step_entry (step_of a).answer in
    subst (λ (stop : Option Event). Paired is_run_entry a b (run_on first (step_of a).after (run_of step_entry n)) (run_on stop (step_of b).after (run_of step_entry n))) (ap step_entry p.answer)
    (on_paired n a b (step_of a).after (step_of b).after u v first p.both (run_paired n))

-- calls
pub along : {a b : World} {x x' y y' : Outcome Answer} → x ≡ x' → y ≡ y' → Paired enters a b x y → Paired enters a b x' y'
along {a} {b} e f p = subst₂ (λ (s t : Outcome Answer). Paired enters a b s t) e f p

module _ (a b : World) (u : Running a) (v : Running b) (g : Agree a b) where
  -- a call that leaves all as it was, refused or not
  same_paired : (r q : Answer) → r ≡ q → enters r ≡ false → Paired enters a b (outcome a r) (outcome b q)
  same_paired r q e h = record { answer = e; both = subst (λ (z : Bool). Both z a b a b) (sym h) (ran_both a b a b g (same_stands a) (same_stands b)) }

  step_call_paired : Paired enters a b (call_of call.Step a) (call_of call.Step b)
  step_call_paired =
      along (ap (told Stepped) (sym (cond-false a.state.halted _ _ u.going))) (ap (told Stepped) (sym (cond-false b.state.halted _ _ v.going)))
      (let p = step_paired a b u v g in record { answer = ap (λ (r : StepAnswer). Stepped (Ok r)) p.answer; both = p.both })

  run_call_paired : (n : ℕ) → Paired enters a b (call_of (call.UserRun n) a) (call_of (call.UserRun n) b)
  run_call_paired n = along (made a u) (made b v) (go (ltb 1000000 n))
    where
      counted : Bool → World → Outcome Answer
      counted z w = told Ran (cond z (outcome w (Err refusal.TooManySteps)) (answered (run_of step_entry n w)))

      made : (w : World) → Running w → counted (ltb 1000000 n) w ≡ call_of (call.UserRun n) w
      made w r =
          ap (told Ran)
          (sym (cond-false w.state.halted _ _ r.going ∙ cond-false (not (is_user w.state.system.status)) _ _ (not_from_true _ r.user)))

      go : (z : Bool) → Paired enters a b (counted z a) (counted z b)
      go true = same_paired (Ran (Err refusal.TooManySteps)) (Ran (Err refusal.TooManySteps)) refl refl
      go false = let p = run_paired n a b u v g in record { answer = ap (λ (r : RunAnswer Event). Ran (Ok r)) p.answer; both = p.both }

  -- lines and ports change alike
  changed_call : (o o' : Ports) (x x' : List Bool) (r : Answer) → enters r ≡ false → o ≡ o' → x ≡ x' → Paired enters a b (outcome (changed a.state.registers a.state.pc o x a) r) (outcome (changed b.state.registers b.state.pc o' x' b) r)
  changed_call o o' x x' r h s t =
      record {
        answer = refl;
        both =
            subst (λ (z : Bool). Both z a b (changed a.state.registers a.state.pc o x a) (changed b.state.registers b.state.pc o' x' b)) (sym h)
            (ran_both a b _ _ (changed_agree a b g _ _ _ _ o o' x x' g.but_pc.registers g.pc s t) (changed_stands a _ _ o x) (changed_stands b _ _ o' x'));
      }

  raise_call : (line : ℕ) → Paired enters a b (call_of (call.Raise line) a) (call_of (call.Raise line) b)
  raise_call line = go (ltb line 8)
    where
      go : (z : Bool) → Paired enters a b (outcome (with_state (cond z (with_waiting (set a.state.waiting line true) a.state) a.state) a) (Done (raise_answer line))) (outcome (with_state (cond z (with_waiting (set b.state.waiting line true) b.state) b.state) b) (Done (raise_answer line)))
      go true = changed_call a.state.ports b.state.ports _ _ (Done (raise_answer line)) refl g.but_pc.ports (ap (λ (l : List Bool). set l line true) g.but_pc.waiting)
      go false = same_paired (Done (raise_answer line)) (Done (raise_answer line)) refl refl

  drive_call : (port word : ℕ) → Paired enters a b (call_of (call.Drive port word) a) (call_of (call.Drive port word) b)
  drive_call port word = go (ltb port 256)
    where
      driven : Ports → Ports
      driven o = record { inputs = set o.inputs port word; outputs = o.outputs }

      go : (z : Bool) → Paired enters a b (outcome (with_state (cond z (with_ports (driven a.state.ports) a.state) a.state) a) (Done (drive_answer port))) (outcome (with_state (cond z (with_ports (driven b.state.ports) b.state) b.state) b) (Done (drive_answer port)))
      go true = changed_call (driven a.state.ports) (driven b.state.ports) a.state.waiting b.state.waiting (Done (drive_answer port)) refl (ap driven g.but_pc.ports) g.but_pc.waiting
      go false = same_paired (Done (drive_answer port)) (Done (drive_answer port)) refl refl

  pub call_paired : (c : Call) → Paired enters a b (call_of c a) (call_of c b)
  call_paired call.Step = step_call_paired
  call_paired (call.UserRun n) = run_call_paired n
  call_paired (call.Raise line) = raise_call line
  call_paired (call.Drive port word) = drive_call port word
  call_paired (call.Register number) = same_paired _ _ (ap (λ (l : List ℕ). Value (register_reading number l)) g.but_pc.registers) refl
  call_paired (call.Output port) = same_paired _ _ (ap (λ (o : Ports). Value (output_reading port o)) g.but_pc.ports) refl
