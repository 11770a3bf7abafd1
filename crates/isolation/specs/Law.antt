-- What is promised of two machines that agree on the user's share, and of each of them.
use Rattle.std.specs.Prelude.{◌≡◌, ℕ, ◌/◌, true, false, List}
use Rattle.machine.specs.Laws.{OnlyEntered}
use Rattle.machine.specs.Sound.{sound}
use Rattle.state.specs.Status.{is_user}
use Rattle.execution.specs.Worlds.{World}
use Rattle.calls.specs.declared.Answer.{Answer}
use Rattle.calls.specs.declared.Call.{Call}
use Rattle.calls.specs.Chains.{Chain}
use Rattle.isolation.specs.Share.{Agree, AgreeButPc, OpenForWriting}

-- A user program changes no table entry, no mark, and no byte in a frame that no user page opens for writing; nor does it
-- halt the machine.
pub record Kept (before after : World) : Type 0 where
  pub tables : after.state.tables ≡ before.state.tables
  pub halted : after.state.halted ≡ before.state.halted
  pub marks : after.marks ≡ before.marks
  pub bytes : (address : ℕ) → (OpenForWriting before.state.tables (address / 1024) → ⊥) → after.bytes address ≡ before.bytes address

-- Where the machines are still in user mode: they agree, and no system register has changed.
pub record StillUser (ours theirs ours' theirs' : World) : Type 0 where
  pub agree : Agree ours' theirs'
  pub our_system : ours'.state.system ≡ ours.state.system
  pub their_system : theirs'.state.system ≡ theirs.state.system

-- Where they have entered the system: just before the entry they agreed, and no system register had changed; after it S0 to
-- S3 are equal, and they agree in all but PC.
pub record HaveEntered (ours theirs ours' theirs' : World) : Type 0 where
  pub our_last : World
  pub their_last : World
  pub agreed : Agree our_last their_last
  pub our_system : our_last.state.system ≡ ours.state.system
  pub their_system : their_last.state.system ≡ theirs.state.system
  pub our_entry : OnlyEntered our_last ours'
  pub their_entry : OnlyEntered their_last theirs'
  pub saved_status : ours'.state.system.saved_status ≡ theirs'.state.system.saved_status
  pub return_address : ours'.state.system.return_address ≡ theirs'.state.system.return_address
  pub event : ours'.state.system.event ≡ theirs'.state.system.event
  pub detail : ours'.state.system.detail ≡ theirs'.state.system.detail
  pub agree : AgreeButPc ours' theirs'

-- What two machines come to, ours from `ours` to `ours'` with the answers `r`, theirs from `theirs` to `theirs'` with `q`.
-- The answers are equal; one is in user mode exactly if the other is.
pub record Alike {T : Type 0} (ours theirs ours' theirs' : World) (r q : T) : Type 0 where
  pub answers : r ≡ q
  pub modes : is_user ours'.state.system.status ≡ is_user theirs'.state.system.status
  pub user : is_user ours'.state.system.status ≡ true → StillUser ours theirs ours' theirs'
  pub entered : is_user ours'.state.system.status ≡ false → HaveEntered ours theirs ours' theirs'
  pub our_kept : Kept ours ours'
  pub their_kept : Kept theirs theirs'

-- The law: two machines that can exist, each over its own memory, are in user mode and agree on the user's share. The same
-- calls are made of both, in any order, refused ones among them, each leaving and answering what its contract says, up to the
-- call that enters the system at the latest. Then they come to the same.
abbrev pub Isolation : Type 0
Isolation =
    (calls : List Call) (ours theirs ours' theirs' : World) (r q : List Answer)
    → sound ours.state ≡ true → sound theirs.state ≡ true
    → is_user ours.state.system.status ≡ true → is_user theirs.state.system.status ≡ true
    → Agree ours theirs
    → Chain calls ours r ours' → Chain calls theirs q theirs'
    → Alike ours theirs ours' theirs' r q
