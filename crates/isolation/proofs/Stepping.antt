-- One step, of two machines in user mode that agree.
use Rattle.std.proofs.Common.{◌≡◌, ℕ, ◌+◌, ◌%◌, Bool, true, false, cond, ◌&&◌, List, is_some, Ok, Err, Result, refl, ap, ◌∙◌, subst}
use Rattle.instruction.specs.Decode.{decode_of}
use Rattle.translation.specs.declared.event.Event.{Event}
use Rattle.translation.specs.declared.event.Event.TheVariants as event
use Rattle.access.specs.Accesses.{fetched}
use Rattle.answers.specs.declared.StepAnswer.{StepAnswer}
use Rattle.state.specs.Status.{interrupts_on, is_user}
use Rattle.machine.specs.Steps.{advanced, entering, fetched_by, step_of}
use Rattle.state.specs.Waiting.{is_interrupted, lowest_waiting}
use Rattle.execution.specs.Worlds.{Outcome, World}
use Rattle.isolation.specs.Share.{Agree}
use Rattle.isolation.specs.Law.{Alike}
use Rattle.isolation.proofs.Translation.{fetched_alike}
use Rattle.isolation.proofs.Agreeing.{Running, Stands, changed_agree, changed_stands, fetches_shown, same_stands, stands_running}
use Rattle.isolation.proofs.Entering.{both_alike, paired_after, ran_both}
use Rattle.isolation.proofs.Execution.{StepPaired, is_entry, entering_paired, in_user, performed_paired}

-- what a machine fetches at its PC
abbrev fetched_for : World → Result ℕ Event
fetched_for w = fetched (is_user w.state.system.status) w.state.tables.instruction.entries w.marks w.bytes w.state.pc

advanced_stands : (w : World) → Stands w (advanced w)
advanced_stands w = changed_stands w w.state.registers ((w.state.pc + 2) % 65536) w.state.ports w.state.waiting

-- a step, by whether an interrupt comes
abbrev taken : Bool → World → Outcome StepAnswer
taken interrupted w = cond interrupted (entering event.Interrupt 0 w) (fetched_by (fetched_for w) w.state.pc (advanced w))

module _ (a b : World) (u : Running a) (v : Running b) (g : Agree a b) where
  advanced_agree : Agree (advanced a) (advanced b)
  advanced_agree =
      changed_agree a b g _ _ _ _ _ _ _ _ g.but_pc.registers (ap (λ (n : ℕ). (n + 2) % 65536) g.pc) g.but_pc.ports g.but_pc.waiting

  fetch_same : fetched_for a ≡ fetched_for b
  fetch_same =
      in_user (λ (z : Bool). fetched z a.state.tables.instruction.entries a.marks a.bytes a.state.pc) (λ (z : Bool). fetched z b.state.tables.instruction.entries b.marks b.bytes a.state.pc) _ _ u.user v.user
      (fetched_alike _ _ _ _ _ _ (fetches_shown a b g) a.state.pc)
      ∙ ap (λ (n : ℕ). fetched (is_user b.state.system.status) b.state.tables.instruction.entries b.marks b.bytes n) g.pc

  fetched_paired : (r : Result ℕ Event) → StepPaired a b (fetched_by r a.state.pc (advanced a)) (fetched_by r b.state.pc (advanced b))
  fetched_paired (Ok word) =
      paired_after is_entry a b (advanced a) (advanced b) _ _
      (ran_both a b (advanced a) (advanced b) advanced_agree (advanced_stands a) (advanced_stands b))
      (performed_paired (advanced a) (advanced b) (stands_running a (advanced a) u (advanced_stands a)) (stands_running b (advanced b) v (advanced_stands b)) advanced_agree (decode_of word))
  fetched_paired (Err e) =
      entering_paired a b u v g (advanced a) (advanced b) e a.state.pc b.state.pc advanced_agree (advanced_stands a) (advanced_stands b) g.pc

  tried_paired : StepPaired a b (fetched_by (fetched_for a) a.state.pc (advanced a)) (fetched_by (fetched_for b) b.state.pc (advanced b))
  tried_paired =
      subst (λ (r : Result ℕ Event). StepPaired a b (fetched_by (fetched_for a) a.state.pc (advanced a)) (fetched_by r b.state.pc (advanced b))) fetch_same
      (fetched_paired (fetched_for a))

  interrupted_same : is_interrupted a.state ≡ is_interrupted b.state
  interrupted_same =
      ap (λ (z : Bool). z && is_some (lowest_waiting a.state.waiting)) g.but_pc.interrupts
      ∙ ap (λ (l : List Bool). interrupts_on b.state.system.status && is_some (lowest_waiting l)) g.but_pc.waiting

  pub step_paired : StepPaired a b (step_of a) (step_of b)
  step_paired = subst (λ (z : Bool). StepPaired a b (step_of a) (taken z b)) interrupted_same (go (is_interrupted a.state))
    where
      go : (z : Bool) → StepPaired a b (taken z a) (taken z b)
      go true = entering_paired a b u v g a b event.Interrupt 0 0 g (same_stands a) (same_stands b) refl
      go false = tried_paired

  pub step_alike : Alike a b (step_of a).after (step_of b).after (step_of a).answer (step_of b).answer
  step_alike = both_alike (is_entry (step_of a).answer) a b (step_of a).after (step_of b).after _ _ u v step_paired.answer step_paired.both
