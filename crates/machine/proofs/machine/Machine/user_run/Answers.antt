use Rattle.std.proofs.Common.{rules}
use Rattle.machine.proofs.Keeping.{user_run_sound}
use Rattle.machine.proofs.Soundness.{sound_going}
use Rattle.machine.proofs.machine.Machine.user_run.Goals as goal

pub invariant_of-self : goal.invariant_of-self
invariant_of-self g c =
    let going = sound_going c.args.self.now.state c.args.self.now.sound c.if-self.false in
    record { sound = user_run_sound _ _ c.run_within_limit.ensures.outcome going (search rules) }
