-- The user's share: all of a machine and its memory that a user program can come to know.
use Rattle.std.specs.Prelude.{◌≡◌, ℕ, ◌/◌, ◌<◌, ◌⊎◌, List}
use Rattle.paging.specs.declared.PageEntry.{PageEntry}
use Rattle.access.specs.Opening.{Opens, OpensForWriting}
use Rattle.paging.specs.Tables.{lookup_of}
use Rattle.state.specs.declared.Tables.{Tables}
use Rattle.state.specs.Status.{interrupts_on, is_user}
use Rattle.execution.specs.Worlds.{World}

-- The user's half of the addresses begins at 0 and has 32 pages.
abbrev pub UserPage : ℕ → Type 0
UserPage page = page < 32

-- The result of a user page in one table is valid and names the frame.
pub record NamedBy (entries : List PageEntry) (frame : ℕ) : Type 0 where
  pub page : ℕ
  pub entry : PageEntry
  pub own : UserPage page
  pub opens : Opens entries page frame entry

-- A frame is named by the instruction table or by the data table.
abbrev pub Named : Tables → ℕ → Type 0
Named tables frame = NamedBy tables.instruction.entries frame ⊎ NamedBy tables.«data».entries frame

-- A frame that the user can write: some page of the user's half finds a data entry for it that is valid and writable.
pub record OpenForWriting (tables : Tables) (frame : ℕ) : Type 0 where
  pub page : ℕ
  pub entry : PageEntry
  pub own : UserPage page
  pub opens : OpensForWriting tables.«data».entries page frame entry

-- Two machines over their memories agree but for PC if each part of the share is the same in both. What a look-up of a user
-- page finds is the two fields of an entry, wherever the table holds it. Since both find the same, both name the same frames,
-- and it is enough to compare those that ours names.
pub record AgreeButPc (ours theirs : World) : Type 0 where
  pub registers : ours.state.registers ≡ theirs.state.registers
  pub mode : is_user ours.state.system.status ≡ is_user theirs.state.system.status
  pub interrupts : interrupts_on ours.state.system.status ≡ interrupts_on theirs.state.system.status
  pub waiting : ours.state.waiting ≡ theirs.state.waiting
  pub ports : ours.state.ports ≡ theirs.state.ports
  pub fetches : (page : ℕ) → UserPage page → lookup_of ours.state.tables.instruction.entries page ≡ lookup_of theirs.state.tables.instruction.entries page
  pub accesses : (page : ℕ) → UserPage page → lookup_of ours.state.tables.«data».entries page ≡ lookup_of theirs.state.tables.«data».entries page
  pub marks : (frame : ℕ) → Named ours.state.tables frame → ours.marks frame ≡ theirs.marks frame
  pub bytes : (address : ℕ) → Named ours.state.tables (address / 1024) → ours.bytes address ≡ theirs.bytes address

-- They agree on the whole of it.
pub record Agree (ours theirs : World) : Type 0 where
  pub but_pc : AgreeButPc ours theirs
  pub pc : ours.state.pc ≡ theirs.state.pc
