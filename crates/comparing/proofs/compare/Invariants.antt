use Rattle.std.proofs.Common.{◌≡◌, ◌≤◌, length}
use Rattle.comparing.specs.Comparisons.{compare_of}
use Rattle.comparing.specs.Sides.{LendsSame, world_of}
use Rattle.comparing.proofs.Turns.{remaining}
use Rattle.comparing.proofs.compare.Given as goal

-- what is left, after the calls that were made, comes to what the whole comparison comes to, and what lies beside the memories stays, as does what the sides lend
abbrev pub invariant-loop-made : goal.invariant-loop-made
invariant-loop-made g l =
    (remaining l.made l.calls l.exchanges
    (world_of g.Ours.Memory.marks g.Ours.Memory.bytes l.ours)
    (world_of g.Theirs.Memory.marks g.Theirs.Memory.bytes l.theirs)
    ≡ compare_of l.calls l.initial.exchanges
    (world_of g.Ours.Memory.marks g.Ours.Memory.bytes l.initial.ours)
    (world_of g.Theirs.Memory.marks g.Theirs.Memory.bytes l.initial.theirs))
    × (g.Ours.Memory.rest l.ours.memory.now ≡ g.Ours.Memory.rest l.initial.ours.memory.now)
    × (g.Theirs.Memory.rest l.theirs.memory.now ≡ g.Theirs.Memory.rest l.initial.theirs.memory.now)
    × (l.made ≤ length l.calls)
    × LendsSame l.initial.ours l.ours
    × LendsSame l.initial.theirs l.theirs
