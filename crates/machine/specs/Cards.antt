-- Worked cases of single steps.
use Rattle.std.specs.Prelude.{◌≡◌, ℕ, List, [], ◌∷◌}
use Rattle.instruction.specs.declared.SystemRegister.TheVariants.{EntryAddress, Status}
use Rattle.instruction.specs.declared.Register.TheVariants.{R1, R2, R3}
use Rattle.memory.specs.declared.Mark.TheVariants.{Plain}
use Rattle.translation.specs.declared.event.Event.TheVariants.{OddAddress, ProtectedData, ProtectedInstruction, SystemCall}
use Rattle.access.specs.Accesses.{word_put}
use Rattle.answers.specs.declared.StepAnswer.{StepAnswer}
use Rattle.answers.specs.declared.StepAnswer.TheVariants.{Ran, Entered}
use Rattle.state.specs.declared.State.{State}
use Rattle.execution.specs.Worlds.{World, outcome, with_state, world}
use Rattle.state.specs.States.{register_set, start_state, with_pc, with_system}
use Rattle.state.specs.Status.{replaced}
use Rattle.machine.specs.Steps.{step_of}

-- A case: where a machine starts, the state that one step leaves, and what it answers. The memory stays as it was.
pub record Card : Type 0 where
  pub start : World
  pub state : State
  pub answer : StepAnswer

abbrev pub card : World → State → StepAnswer → Card
card start state answer = record { start = start; state = state; answer = answer }

abbrev pub Holds : Card → Type 0
Holds c = step_of c.start ≡ outcome (with_state c.state c.start) c.answer

-- All that a case does not name is as at the start, but for the mode where it says so; every frame is plain, and the other
-- bytes are 0.
abbrev pub user_state : State
user_state = with_system (replaced Status 0 start_state.system) start_state

-- PC is at an address where a word lies.
abbrev pub at : ℕ → ℕ → State → World
at address word s = world (with_pc address s) (λ _. Plain) (word_put (λ _. 0) address word)

-- S0 to S3, S5 and S7 after an entry.
abbrev pub entry_system : ℕ → ℕ → ℕ → ℕ → ℕ → State → State
entry_system saved back code detail entry s = with_system (record {
  saved_status = saved;
  return_address = back;
  event = code;
  detail = detail;
  scratch = 0;
  entry_address = entry;
  stack_pointer = 0;
  status = 1;
}) s

-- SHA R2, R1, R3 is 0x0473 and SHL R2, R1, R3 is 0x047B.
abbrev pub shift_state : ℕ → State
shift_state by = register_set R1 0x8001 (register_set R3 by start_state)

abbrev pub shift_card : ℕ → ℕ → ℕ → Card
shift_card word by result = card (at 0x8000 word (shift_state by)) (with_pc 0x8002 (register_set R2 result (shift_state by))) Ran

-- BZ R0, -128 is 0x6080.
abbrev pub branch_start : World
branch_start = at 0 0x6080 user_state

-- LD R1, -32(R2) is 0x32A0.
abbrev pub load_state : ℕ → State
load_state base = register_set R2 base user_state

-- CALLS R3 is 0x20E7.
abbrev pub call_state : State
call_state = with_system (replaced EntryAddress 0x9000 (replaced Status 2 start_state.system)) (register_set R3 7 start_state)

abbrev pub cards : List Card
cards =
    shift_card 0x0473 0x0010 0xFFFF
    ∷ shift_card 0x047B 0x0010 0
    ∷ shift_card 0x0473 0x0020 0x8001
    ∷ shift_card 0x047B 0x0020 0x8001
    ∷ card (at 0 0x6080 start_state) (with_pc 0xFF02 start_state) Ran
    ∷ card branch_start (with_pc 0xFF02 user_state) Ran
    ∷ card (step_of branch_start).after (with_pc 0 (entry_system 0 0xFF04 10 0xFF02 0 user_state)) (Entered ProtectedInstruction)
    ∷ card (at 0x0100 0x32A0 (load_state 1)) (with_pc 0 (entry_system 0 0x0102 1 0xFFC1 0 (load_state 1))) (Entered OddAddress)
    ∷ card (at 0x0100 0x32A0 (load_state 0)) (with_pc 0 (entry_system 0 0x0102 11 0xFFC0 0 (load_state 0))) (Entered ProtectedData)
    ∷ card (at 0x0100 0x20E7 call_state) (with_pc 0x9000 (entry_system 2 0x0102 14 7 0x9000 call_state)) (Entered SystemCall)
    ∷ []
