-- A machine and its memory that are lent together.
use Rattle.std.specs.Prelude.{◌≡◌, ℕ}
use Rattle.memory.specs.declared.Mark.{Mark}
use Rattle.execution.specs.Worlds.{World, world}
use Rattle.comparing.specs.declared.exchange.Side.{Side}

abbrev pub world_of : {Mem : Type 0} → (Mem → ℕ → Mark) → (Mem → ℕ → ℕ) → Side Mem → World
world_of marks bytes side = world side.machine.now.state (marks side.memory.now) (bytes side.memory.now)

-- The side lends the same machine and the same memory as before.
pub record LendsSame {Mem : Type 0} (before after : Side Mem) : Type 0 where
  pub machine : after.machine.ghost_name ≡ before.machine.ghost_name
  pub memory : after.memory.ghost_name ≡ before.memory.ghost_name
