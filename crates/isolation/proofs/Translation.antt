-- Tables that agree on the user's pages translate the user's addresses alike, and only to frames that they name.
use Rattle.std.proofs.Common.{◌≡◌, ℕ, ◌+◌, ◌/◌, true, false, List, Some, None, Option, refl, rules}
use Rattle.memory.specs.declared.Mark.{Mark}
use Rattle.translation.specs.declared.address.Access.{Access}
use Rattle.translation.specs.declared.address.Access.TheVariants.{Fetch, Load, Store}
use Rattle.translation.specs.declared.address.Width.{Width}
use Rattle.translation.specs.declared.address.Width.TheVariants.{Byte, Word}
use Rattle.paging.specs.declared.PageEntry.{PageEntry}
use Rattle.paging.specs.Tables.{is_valid, lookup_of, page_at}
use Rattle.translation.specs.Addresses.{found, is_misaligned, is_protected, physical_address, placed}
use Rattle.access.specs.Accesses.{fetched, loaded, loaded_at, store_answer, stored, value_at}
use Rattle.access.proofs.Passed.{Passed, passed}
use Rattle.state.specs.declared.Tables.{Tables}
use Rattle.isolation.specs.Share.{NamedBy, OpenForWriting, UserPage}

-- what one table shows to the user is the same in two memories
pub record Shown (es fs : List PageEntry) (m n : ℕ → Mark) (p q : ℕ → ℕ) : Type 0 where
  pub pages : (page : ℕ) → UserPage page → lookup_of es page ≡ lookup_of fs page
  pub marks : (frame : ℕ) → NamedBy es frame → m frame ≡ n frame
  pub bytes : (k : ℕ) → NamedBy es (k / 1024) → p k ≡ q k

-- an address that user mode may use lies in a user page
own_page : (address : ℕ) → is_protected true address ≡ false → UserPage (page_at address)
own_page address h = search rules

-- the frame of an address that has passed, or of the second byte of a word there
named : (es : List PageEntry) (e : PageEntry) (address at : ℕ) → is_protected true address ≡ false → lookup_of es (page_at address) ≡ Some e → is_valid e.physical_field ≡ true → at ≡ placed e address → NamedBy es (at / 1024)
named es e address at allowed found valid place = search rules

named_next : (es : List PageEntry) (e : PageEntry) (address at : ℕ) → is_misaligned Word address ≡ false → is_protected true address ≡ false → lookup_of es (page_at address) ≡ Some e → is_valid e.physical_field ≡ true → at ≡ placed e address → NamedBy es ((at + 1) / 1024)
named_next es e address at aligned allowed found valid place = search rules

-- a store in user mode changes no byte in a frame that no user page opens for writing
pub stored_kept : (tables : Tables) (m : ℕ → Mark) (p : ℕ → ℕ) (width : Width) (address value k : ℕ) → (OpenForWriting tables (k / 1024) → ⊥) → stored true tables.«data».entries m p width address value k ≡ p k
stored_kept tables m p width address value k shut = search rules

module _ (es fs : List PageEntry) (m n : ℕ → Mark) (p q : ℕ → ℕ) (same : Shown es fs m n p q) where
  found_alike : (access : Access) (o : Option PageEntry) (address : ℕ) → is_protected true address ≡ false → lookup_of es (page_at address) ≡ o → found access o m address ≡ found access o n address
  found_alike access None address allowed h = refl
  found_alike Fetch (Some e) address allowed h = search (rules, named)
  found_alike Load (Some e) address allowed h = search (rules, named)
  found_alike Store (Some e) address allowed h = search (rules, named)

  -- so an access comes to the same address
  address_alike : (access : Access) (width : Width) (address : ℕ) → physical_address true es m access width address ≡ physical_address true fs n access width address
  address_alike access width address = search (rules, same.pages, own_page, found_alike)

  -- what has passed its checks lies in a named frame, both bytes of a word with it
  value_alike : (access : Access) (width : Width) (address at : ℕ) → Passed true es m access width address at → value_at width p at ≡ value_at width q at
  value_alike access Byte address at d = search (rules, same.bytes, named)
  value_alike access Word address at d = search (rules, same.bytes, named, named_next)

  -- so a fetch and a load give the same
  read_alike : (access : Access) (width : Width) (address : ℕ) → loaded_at (physical_address true es m access width address) width p ≡ loaded_at (physical_address true fs n access width address) width q
  read_alike access width address = search (rules, address_alike, value_alike, passed)

  pub fetched_alike : (address : ℕ) → fetched true es m p address ≡ fetched true fs n q address
  fetched_alike address = read_alike Fetch Word address

  pub loaded_alike : (width : Width) (address : ℕ) → loaded true es m p width address ≡ loaded true fs n q width address
  loaded_alike width address = read_alike Load width address

  -- a store answers the same, and leaves the same bytes where they were the same
  pub store_answer_alike : (width : Width) (address : ℕ) → store_answer true es m width address ≡ store_answer true fs n width address
  store_answer_alike width address = search (rules, address_alike)

  pub stored_alike : (width : Width) (address value k : ℕ) → p k ≡ q k → stored true es m p width address value k ≡ stored true fs n q width address value k
  stored_alike width address value k h = search (rules, address_alike)
