-- From a logical address to a physical one: the checks of an access, in their order.
use Rattle.std.specs.Prelude.{ℕ, ◌+◌, ◌*◌, ◌%◌, Bool, true, false, not, ◌&&◌, if◌then◌else◌, List, Some, None, Ok, Err, Option, Result, ◌==◌, nat_le}
use Rattle.memory.specs.declared.Mark.{Mark}
use Rattle.memory.specs.declared.MemoryFault.{MemoryFault}
use Rattle.memory.specs.Meaning.{mark_at, readable_by, write_answer_by}
use Rattle.translation.specs.declared.address.Access.{Access}
use Rattle.translation.specs.declared.address.Access.TheVariants.{Fetch, Load, Store}
use Rattle.translation.specs.declared.address.Width.{Width}
use Rattle.translation.specs.declared.address.Width.TheVariants.{Byte, Word}
use Rattle.translation.specs.declared.event.Event.{Event}
use Rattle.translation.specs.declared.event.Event.TheVariants as event
use Rattle.translation.specs.Events.{fault_event}
use Rattle.paging.specs.declared.PageEntry.{PageEntry}
use Rattle.paging.specs.Tables.{frame_of, is_read_only, is_valid, lookup_of, page_at}

-- A word has to lie at an even address; a byte may lie at any.
abbrev pub is_misaligned : Width → ℕ → Bool
is_misaligned Byte address = false
is_misaligned Word address = address % 2 == 1

-- User mode may not use the addresses from 0x8000 on.
abbrev pub is_protected : Bool → ℕ → Bool
is_protected user address = user && nat_le 32768 address

-- A fetch and a data access raise events of their own.
abbrev pub protected : Access → Event
protected Fetch = event.ProtectedInstruction
protected Load = event.ProtectedData
protected Store = event.ProtectedData

abbrev pub no_entry : Access → Event
no_entry Fetch = event.NoInstructionEntry
no_entry Load = event.NoDataEntry
no_entry Store = event.NoDataEntry

abbrev pub not_valid : Access → Event
not_valid Fetch = event.InstructionNotValid
not_valid Load = event.DataNotValid
not_valid Store = event.DataNotValid

abbrev pub is_store : Access → Bool
is_store Fetch = false
is_store Load = false
is_store Store = true

-- An address lies at the same place in the entry's frame as in its page.
abbrev pub placed : PageEntry → ℕ → ℕ
placed e address = frame_of e.physical_field * 1024 + address % 1024

-- A store writes to its frame, and a fetch or a load reads from it.
abbrev pub permitted : Access → Mark → Result (Unit {0}) MemoryFault
permitted Fetch mark = readable_by mark
permitted Load mark = readable_by mark
permitted Store mark = write_answer_by mark

abbrev pub accessible : Result (Unit {0}) MemoryFault → ℕ → Result ℕ Event
accessible (Ok _) at = Ok at
accessible (Err fault) at = Err (fault_event fault)

-- An access through an entry: the entry is valid, not read-only for a store, and its frame permits it.
abbrev pub through : Access → PageEntry → (ℕ → Mark) → ℕ → Result ℕ Event
through access e marks address =
    if not (is_valid e.physical_field) then Err (not_valid access)
    else if is_store access && is_read_only e.physical_field then Err event.ReadOnly
    else accessible (permitted access (mark_at marks (placed e address))) (placed e address)

abbrev pub found : Access → Option PageEntry → (ℕ → Mark) → ℕ → Result ℕ Event
found access None marks address = Err (no_entry access)
found access (Some e) marks address = through access e marks address

-- An access: an even address for a word, of the user's half in user mode, with an entry.
abbrev pub physical_address : Bool → List PageEntry → (ℕ → Mark) → Access → Width → ℕ → Result ℕ Event
physical_address user entries marks access width address =
    if is_misaligned width address then Err event.OddAddress
    else if is_protected user address then Err (protected access)
    else found access (lookup_of entries (page_at address)) marks address
