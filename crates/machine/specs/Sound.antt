-- The rules that no machine breaks.
use Rattle.std.specs.Prelude.{ℕ, ◌%◌, Bool, true, false, ◌&&◌, List, [], ◌∷◌, ◌==◌, nat_lt}
use Rattle.paging.specs.declared.PageEntry.{PageEntry}
use Rattle.state.specs.declared.State.{State}
use Rattle.state.specs.declared.SystemRegisters.{SystemRegisters}
use Rattle.state.specs.declared.Tables.{Tables}

-- S0 and S7 have two bits, and S2 has four.
abbrev pub system_sound : SystemRegisters → Bool
system_sound s = nat_lt s.saved_status 4 && (nat_lt s.status 4 && nat_lt s.event 16)

-- A virtual field has seven bits.
abbrev pub entry_sound : PageEntry → Bool
entry_sound e = nat_lt e.virtual_field.bits 128

abbrev pub entries_sound : List PageEntry → Bool
entries_sound [] = true
entries_sound (e ∷ es) = entry_sound e && entries_sound es

abbrev pub tables_sound : Tables → Bool
tables_sound t = entries_sound t.instruction.entries && entries_sound t.«data».entries

-- A halted machine is in system mode: bit 0 of its status word is 1.
abbrev pub halt_sound : Bool → ℕ → Bool
halt_sound true status = status % 2 == 1
halt_sound false status = true

abbrev pub sound : State → Bool
sound s = system_sound s.system && (tables_sound s.tables && halt_sound s.halted s.system.status)
