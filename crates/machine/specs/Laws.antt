-- What every step leaves alone.
use Rattle.std.specs.Prelude.{◌≡◌, ℕ, ◌+◌, Bool, List, Ok, Result, ◌≢◌, slice_index}
use Rattle.memory.specs.declared.Mark.{Mark}
use Rattle.translation.specs.declared.event.Event.{Event}
use Rattle.paging.specs.declared.PageEntry.{PageEntry}
use Rattle.access.specs.Opening.{Reached}
use Rattle.answers.specs.declared.Refusal.{Refusal}
use Rattle.answers.specs.declared.StepAnswer.{StepAnswer}
use Rattle.answers.specs.declared.StepAnswer.TheVariants.{Entered}
use Rattle.execution.specs.Worlds.{World}
use Rattle.state.specs.Status.{is_user}

-- An entry writes just S0 to S3, S7 and PC: S7 takes 1, and PC takes the entry address S5. All else is as it was.
pub record OnlyEntered (before after : World) : Type 0 where
  pub registers : after.state.registers ≡ before.state.registers
  pub ports : after.state.ports ≡ before.state.ports
  pub waiting : after.state.waiting ≡ before.state.waiting
  pub tables : after.state.tables ≡ before.state.tables
  pub halted : after.state.halted ≡ before.state.halted
  pub marks : after.marks ≡ before.marks
  pub bytes : after.bytes ≡ before.bytes
  pub scratch : after.state.system.scratch ≡ before.state.system.scratch
  pub entry_address : after.state.system.entry_address ≡ before.state.system.entry_address
  pub stack_pointer : after.state.system.stack_pointer ≡ before.state.system.stack_pointer
  pub status : after.state.system.status ≡ 1
  pub pc : after.state.pc ≡ before.state.system.entry_address

-- All registers but one are as they were.
pub record AtMostOne (before after : List ℕ) : Type 0 where
  pub number : ℕ
  pub others : (k : ℕ) → (k ≢ number) → slice_index after k ≡ slice_index before k

-- All bytes but two, one after the other, are as they were, and a byte that is not lies in a plain frame that a valid
-- entry of the table, one that is not read-only, names for the page of some address; user mode has that address in its
-- own half.
pub record AtMostTwo (user : Bool) (entries : List PageEntry) (marks : ℕ → Mark) (before after : ℕ → ℕ) : Type 0 where
  pub place : ℕ
  pub others : (k : ℕ) → (k ≢ place) → (k ≢ place + 1) → after k ≡ before k
  pub address : ℕ
  pub reached : (k : ℕ) → (after k ≢ before k) → Reached user entries marks address k

-- A step that raises an event has only entered it; every step changes at most one R register and at most two bytes, and
-- no mark.
pub record StepLaw (before after : World) (r : Result StepAnswer Refusal) : Type 0 where
  pub entry : (e : Event) → r ≡ Ok (Entered e) → OnlyEntered before after
  pub register : AtMostOne before.state.registers after.state.registers
  pub bytes : AtMostTwo (is_user before.state.system.status) before.state.tables.«data».entries before.marks before.bytes after.bytes
  pub marks : after.marks ≡ before.marks
