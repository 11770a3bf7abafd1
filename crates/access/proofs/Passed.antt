-- What is known of an address that has passed its checks.
use Rattle.std.proofs.Common.{◌≡◌, ℕ, Bool, true, false, ◌&&◌, List, Some, Ok, rules}
use Rattle.memory.specs.declared.Mark.{Mark}
use Rattle.memory.specs.declared.Mark.TheVariants.{Plain, Absent}
use Rattle.memory.specs.Meaning.{mark_at}
use Rattle.translation.specs.declared.address.Access.{Access}
use Rattle.translation.specs.declared.address.Width.{Width}
use Rattle.paging.specs.declared.PageEntry.{PageEntry}
use Rattle.paging.specs.Tables.{is_read_only, is_valid, lookup_of, page_at}
use Rattle.translation.specs.Addresses.{is_misaligned, is_protected, is_store, physical_address, placed}

-- An access that has passed came to its place through a valid entry for its page, and the frame is there. A store's
-- entry is not read-only, and its frame is plain.
pub record Passed (user : Bool) (entries : List PageEntry) (marks : ℕ → Mark) (access : Access) (width : Width) (address at : ℕ) : Type 0 where
  pub entry : PageEntry
  pub found : lookup_of entries (page_at address) ≡ Some entry
  pub valid : is_valid entry.physical_field ≡ true
  pub place : at ≡ placed entry address
  pub aligned : is_misaligned width address ≡ false
  pub allowed : is_protected user address ≡ false
  pub writable : is_store access && is_read_only entry.physical_field ≡ false
  pub there : mark_at marks at ≡ Absent → ⊥
  pub plain : is_store access ≡ true → mark_at marks at ≡ Plain

pub passed : (user : Bool) (entries : List PageEntry) (marks : ℕ → Mark) (access : Access) (width : Width) (address at : ℕ) → physical_address user entries marks access width address ≡ Ok at → Passed user entries marks access width address at
passed user entries marks access width address at p = search rules
