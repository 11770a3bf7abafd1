-- What the memory over one lent buffer means.
use Rattle.std.specs.Prelude.{ℕ, ◌/◌, min, cond, List, length, nat_lt, slice_index}
use Rattle.std.specs.Borrow.{GName}
use Rattle.memory.specs.declared.Mark.{Mark}
use Rattle.memory.specs.declared.Mark.TheVariants.{Plain, Absent}
use Rattle.memory.specs.Meaning.{Rest}

-- How many frames `size` bytes hold whole, 64 at most.
abbrev pub whole_frames : ℕ → ℕ
whole_frames size = min 64 (size / 1024)

-- The frames that fit into the buffer are plain, and no other frame is there.
abbrev pub flat_marks : ℕ → ℕ → Mark
flat_marks size frame = cond (nat_lt frame (whole_frames size)) Plain Absent

-- A plain frame's bytes are the buffer's, and an absent one's are zero.
abbrev pub flat_bytes : List ℕ → ℕ → ℕ
flat_bytes buffer k = cond (nat_lt (k / 1024) (whole_frames (length buffer))) (slice_index buffer k) 0

-- What the buffer holds past its whole frames.
abbrev pub flat_rest : List ℕ → GName → Rest
flat_rest buffer place = record {
  outside = λ k. cond (nat_lt (k / 1024) (whole_frames (length buffer))) 0 (slice_index buffer k);
  size = length buffer;
  place = place;
}

-- What the buffer holds at index k once it comes back from a memory whose bytes are then `bytes`:
-- those bytes in its whole frames, and what it held past them.
abbrev pub flat_back : List ℕ → (ℕ → ℕ) → ℕ → ℕ
flat_back buffer bytes k = cond (nat_lt (k / 1024) (whole_frames (length buffer))) (bytes k) (slice_index buffer k)
