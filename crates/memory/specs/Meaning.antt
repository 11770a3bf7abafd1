-- What an access to a memory answers and leaves, by the mark of each frame and the byte at each address.
use Rattle.std.specs.Prelude.{ℕ, ◌/◌, cond, Ok, Err, Result, ◌==◌}
use Rattle.std.specs.Borrow.{GName}
use Rattle.memory.specs.declared.Mark.{Mark}
use Rattle.memory.specs.declared.Mark.TheVariants.{Plain, Fixed, Absent}
use Rattle.memory.specs.declared.MemoryFault.{MemoryFault}
use Rattle.memory.specs.declared.MemoryFault.TheVariants as fault

-- What a memory holds besides its frames. No access touches it, so whoever lends a buffer to a
-- memory knows what the buffer holds when it comes back.
pub record Rest : Type 0 where
  -- the lent buffer's bytes that lie in no frame, by their index, and 0 at the others
  pub outside : ℕ → ℕ
  -- how long the lent buffer is
  pub size : ℕ
  -- the ghost name of the lent buffer
  pub place : GName

-- The mark of an address is that of the frame that holds it.
abbrev pub mark_at : (ℕ → Mark) → ℕ → Mark
mark_at marks address = marks (address / 1024)

-- A frame that is there can be read.
abbrev pub readable_by : Mark → Result (Unit {0}) MemoryFault
readable_by Plain = Ok tt
readable_by Fixed = Ok tt
readable_by Absent = Err fault.Absent

-- A read gives the byte, unless its frame is absent.
abbrev pub read_by : Mark → ℕ → Result ℕ MemoryFault
read_by Plain byte = Ok byte
read_by Fixed byte = Ok byte
read_by Absent byte = Err fault.Absent

abbrev pub read_of : (ℕ → Mark) → (ℕ → ℕ) → ℕ → Result ℕ MemoryFault
read_of marks bytes address = read_by (mark_at marks address) (bytes address)

-- A write is done in a plain frame; elsewhere the mark is the fault.
abbrev pub write_answer_by : Mark → Result (Unit {0}) MemoryFault
write_answer_by Plain = Ok tt
write_answer_by Fixed = Err fault.Fixed
write_answer_by Absent = Err fault.Absent

abbrev pub write_answer : (ℕ → Mark) → ℕ → Result (Unit {0}) MemoryFault
write_answer marks address = write_answer_by (mark_at marks address)

-- The bytes with one byte put at an address.
abbrev pub put : (ℕ → ℕ) → ℕ → ℕ → ℕ → ℕ
put bytes address byte k = cond (k == address) byte (bytes k)

-- Only a plain frame takes a write, and all other bytes are as before.
abbrev pub written_by : Mark → (ℕ → ℕ) → ℕ → ℕ → ℕ → ℕ
written_by Plain bytes address byte = put bytes address byte
written_by Fixed bytes address byte = bytes
written_by Absent bytes address byte = bytes

abbrev pub written : (ℕ → Mark) → (ℕ → ℕ) → ℕ → ℕ → ℕ → ℕ
written marks bytes address byte = written_by (mark_at marks address) bytes address byte
