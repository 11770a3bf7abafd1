use Rattle.execution.specs.Worlds.{world}
use Rattle.machine.proofs.Leaving.{refused_law, stepped_law}
use Rattle.machine.proofs.Soundness.{good_sound, sound_going, stepped_good}
use Rattle.machine.proofs.machine.Machine.step.Goals as goal

pub invariant_of-self : goal.invariant_of-self
invariant_of-self g c =
    let before = world c.args.self.now.state (g.Mem.Memory.marks c.args.memory.now) (g.Mem.Memory.bytes c.args.memory.now) in
    let going = sound_going c.args.self.now.state c.args.self.now.sound c.if-self.false in
    record { sound = good_sound _ _ (stepped_good before _ _ c.advance.ensures.outcome going) }

pub returns-then-self-clause-law : goal.returns-then-self-clause-law
returns-then-self-clause-law g c = refused_law _ _

pub returns-clause-law : goal.returns-clause-law
returns-clause-law g c = stepped_law _ _ _ c.advance.ensures.outcome
