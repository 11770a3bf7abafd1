use Rattle.std.proofs.Common.{◌≡◌}
use Rattle.execution.specs.Worlds.{world}
use Rattle.machine.specs.Runs.{run_of}
use Rattle.machine.proofs.Turns.{left}
use Rattle.machine.proofs.running.run_for.Given as goal

-- the steps that are left, after those that are made, come to what the whole run comes to
abbrev pub invariant-loop-made : goal.invariant-loop-made
invariant-loop-made g l =
    (left g.S.Stop.stop_of l.steps l.made (world l.state (g.Mem.Memory.marks l.memory) (g.Mem.Memory.bytes l.memory))
    ≡ run_of g.S.Stop.stop_of l.steps (world l.initial.state (g.Mem.Memory.marks l.initial.memory) (g.Mem.Memory.bytes l.initial.memory)))
    × (g.Mem.Memory.rest l.memory ≡ g.Mem.Memory.rest l.initial.memory)
