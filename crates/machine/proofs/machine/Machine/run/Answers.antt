use Rattle.machine.proofs.Keeping.{halt_run_sound}
use Rattle.machine.proofs.Soundness.{sound_going}
use Rattle.machine.proofs.machine.Machine.run.Goals as goal

pub invariant_of-self : goal.invariant_of-self
invariant_of-self g c =
    let going = sound_going c.args.self.now.state c.args.self.now.sound c.if-self.false in
    record { sound = halt_run_sound _ _ c.run_within_limit.ensures.outcome going }
