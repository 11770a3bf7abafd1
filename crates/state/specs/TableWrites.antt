-- What instructions do to the page tables.
use Rattle.std.specs.Prelude.{ℕ, ◌/◌, ◌%◌, Bool, cond, List, ◌==◌}
use Rattle.instruction.specs.declared.Table.{Table}
use Rattle.instruction.specs.declared.Table.TheVariants as table
use Rattle.instruction.specs.declared.EntryField.{EntryField}
use Rattle.instruction.specs.declared.EntryField.TheVariants.{Physical, Virtual}
use Rattle.paging.specs.declared.PageEntry.{PageEntry}
use Rattle.paging.specs.declared.PageTable.{PageTable}
use Rattle.paging.specs.Tables.{flushed, physical_set, virtual_set}
use Rattle.state.specs.declared.Tables.{Tables}

-- A field of the entry whose index counts modulo 64 takes a word.
abbrev pub field_set : EntryField → ℕ → ℕ → List PageEntry → List PageEntry
field_set Physical index word entries = physical_set entries index word
field_set Virtual index word entries = virtual_set entries index word

abbrev pub with_entries : List PageEntry → PageTable
with_entries entries = record { entries = entries }

abbrev pub entry_set : Table → EntryField → ℕ → ℕ → Tables → Tables
entry_set table.Instruction field index word t =
    record t { instruction = with_entries (field_set field index word t.instruction.entries) }
entry_set table.Data field index word t =
    record t { «data» = with_entries (field_set field index word t.«data».entries) }

-- A flush leaves no entry used.
abbrev pub flushed_if : Bool → PageTable → PageTable
flushed_if condition t = cond condition (with_entries (flushed t.entries)) t

-- Bit 0 of the word flushes the instruction table, and bit 1 the data table.
abbrev pub tables_flushed : ℕ → Tables → Tables
tables_flushed word t = record {
  instruction = flushed_if (word % 2 == 1) t.instruction;
  «data» = flushed_if (word / 2 % 2 == 1) t.«data»;
}
