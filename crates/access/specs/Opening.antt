-- Which frames a table opens, and that a store changes bytes only there.
use Rattle.std.specs.Prelude.{◌≡◌, ℕ, ◌/◌, ◌<◌, Bool, true, false, List, Some, ◌≢◌}
use Rattle.memory.specs.declared.Mark.{Mark}
use Rattle.memory.specs.declared.Mark.TheVariants.{Plain}
use Rattle.paging.specs.declared.PageEntry.{PageEntry}
use Rattle.paging.specs.Tables.{frame_of, is_read_only, is_valid, lookup_of, page_at}

-- The entry e is the one for a page, it is valid, and it names the frame.
pub record Opens (entries : List PageEntry) (page frame : ℕ) (e : PageEntry) : Type 0 where
  pub found : lookup_of entries page ≡ Some e
  pub valid : is_valid e.physical_field ≡ true
  pub names : frame ≡ frame_of e.physical_field

-- And it is not read-only.
pub record OpensForWriting (entries : List PageEntry) (page frame : ℕ) (e : PageEntry) : Type 0 where
  pub opens : Opens entries page frame e
  pub writable : is_read_only e.physical_field ≡ false

-- What is known of a byte that a store at an address has changed: it lies in a plain frame that the
-- address's page opens for writing, and user mode has stored in its own half of the addresses.
pub record Reached (user : Bool) (entries : List PageEntry) (marks : ℕ → Mark) (address k : ℕ) : Type 0 where
  pub entry : PageEntry
  pub opens : OpensForWriting entries (page_at address) (k / 1024) entry
  pub plain : marks (k / 1024) ≡ Plain
  pub own : user ≡ true → address < 32768

-- A store changes no byte but such.
pub record Confined (user : Bool) (entries : List PageEntry) (marks : ℕ → Mark) (address : ℕ) (before after : ℕ → ℕ) : Type 0 where
  pub reached : (k : ℕ) → (after k ≢ before k) → Reached user entries marks address k
