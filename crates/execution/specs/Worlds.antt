-- A machine over its memory.
use Rattle.std.specs.Prelude.{ℕ}
use Rattle.memory.specs.declared.Mark.{Mark}
use Rattle.state.specs.declared.State.{State}

-- The state of a machine, with the mark of each frame and the byte at each address of its memory.
pub record World : Type 0 where
  pub state : State
  pub marks : ℕ → Mark
  pub bytes : ℕ → ℕ

abbrev pub world : State → (ℕ → Mark) → (ℕ → ℕ) → World
world s m b = record { state = s; marks = m; bytes = b }

abbrev pub with_state : State → World → World
with_state s w = world s w.marks w.bytes

-- What something leaves, and what it answers.
pub record Outcome (T : Type 0) : Type 0 where
  pub after : World
  pub answer : T

abbrev pub outcome : {T : Type 0} → World → T → Outcome T
outcome w r = record { after = w; answer = r }
