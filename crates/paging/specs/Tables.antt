-- A page table is a list of 64 entries.
use Rattle.std.specs.Prelude.{ℕ, ◌+◌, ◌/◌, ◌%◌, Bool, ◌&&◌, List, map, Option, ◌==◌, slice_index_or, slice_set}
use Rattle.std.specs.List.{range_with_len, find}
use Rattle.paging.specs.declared.VirtualField.{VirtualField}
use Rattle.paging.specs.declared.PhysicalField.{PhysicalField}
use Rattle.paging.specs.declared.PageEntry.{PageEntry}

-- The virtual field has 7 bits: the page in bits 5..0, and in bit 6 whether the entry is used.
abbrev pub virtual_of : ℕ → VirtualField
virtual_of word = record { bits = word % 128 }

abbrev pub page_of : VirtualField → ℕ
page_of v = v.bits % 64

abbrev pub is_used : VirtualField → Bool
is_used v = v.bits / 64 % 2 == 1

-- The physical field has 8 bits: the frame in bits 5..0, in bit 6 whether it is read-only, and in
-- bit 7 whether the entry is valid.
abbrev pub physical_of : ℕ → PhysicalField
physical_of word = record { bits = word % 256 }

abbrev pub frame_of : PhysicalField → ℕ
frame_of p = p.bits % 64

abbrev pub is_read_only : PhysicalField → Bool
is_read_only p = p.bits / 64 % 2 == 1

abbrev pub is_valid : PhysicalField → Bool
is_valid p = p.bits / 128 % 2 == 1

-- The page that holds an address.
abbrev pub page_at : ℕ → ℕ
page_at address = address / 1024

-- An entry is one for a page if it is used and has that page.
abbrev pub is_for : ℕ → PageEntry → Bool
is_for page e = is_used e.virtual_field && page_of e.virtual_field == page

-- The entry that counts for a page is the first one for it, valid or not.
abbrev pub lookup_of : List PageEntry → ℕ → Option PageEntry
lookup_of entries page = find (is_for page) entries

-- At the start each page is the frame of the same number, by an entry that is in use and valid.
abbrev pub start_entry : ℕ → PageEntry
start_entry i = record { virtual_field = virtual_of (64 + i); physical_field = physical_of (128 + i) }

abbrev pub start_entries : List PageEntry
start_entries = map start_entry (range_with_len 0 64)

-- An entry that no table holds, for the places past the end of one.
abbrev pub blank_entry : PageEntry
blank_entry = record { virtual_field = virtual_of 0; physical_field = physical_of 0 }

-- An index counts modulo 64.
abbrev pub entry_at : List PageEntry → ℕ → PageEntry
entry_at entries index = slice_index_or entries (index % 64) blank_entry

-- An entry takes a word as its virtual or its physical field.
abbrev pub virtual_set : List PageEntry → ℕ → ℕ → List PageEntry
virtual_set entries index word =
    slice_set entries (index % 64) (record { virtual_field = virtual_of word; physical_field = (entry_at entries index).physical_field })

abbrev pub physical_set : List PageEntry → ℕ → ℕ → List PageEntry
physical_set entries index word =
    slice_set entries (index % 64) (record { virtual_field = (entry_at entries index).virtual_field; physical_field = physical_of word })

-- A flush leaves every page and every physical field, and no entry used.
abbrev pub unused : PageEntry → PageEntry
unused e = record { virtual_field = record { bits = page_of e.virtual_field }; physical_field = e.physical_field }

abbrev pub flushed : List PageEntry → List PageEntry
flushed entries = map unused entries
