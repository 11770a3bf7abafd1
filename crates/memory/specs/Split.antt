-- What the memory over a read-only and a writable buffer means.
use Rattle.std.specs.Prelude.{ℕ, ◌+◌, ◌-◌, ◌*◌, ◌/◌, min, cond, List, length, nat_lt, slice_index}
use Rattle.std.specs.Borrow.{GName}
use Rattle.memory.specs.declared.Mark.{Mark}
use Rattle.memory.specs.declared.Mark.TheVariants.{Plain, Fixed, Absent}
use Rattle.memory.specs.Meaning.{Rest}
use Rattle.memory.specs.Flat.{whole_frames}

-- How many whole frames a writable area of `plain` bytes gives behind a read-only one of `fixed`
-- bytes: no frame passes the last.
abbrev pub plain_frames : ℕ → ℕ → ℕ
plain_frames fixed plain = min (64 - whole_frames fixed) (plain / 1024)

-- From frame 0 on there are as many fixed frames as fit into the read-only area, then as many plain
-- ones as fit into the writable area, and no others.
abbrev pub split_marks : ℕ → ℕ → ℕ → Mark
split_marks fixed plain frame =
    cond (nat_lt frame (whole_frames fixed)) Fixed
    (cond (nat_lt frame (whole_frames fixed + plain_frames fixed plain)) Plain Absent)

-- The byte at address k lies at k of the read-only area, or in the writable one, counted from
-- the end of the fixed frames.
abbrev pub split_bytes : List ℕ → List ℕ → ℕ → ℕ
split_bytes fixed plain k =
    cond (nat_lt (k / 1024) (whole_frames (length fixed))) (slice_index fixed k)
    (cond (nat_lt (k / 1024) (whole_frames (length fixed) + plain_frames (length fixed) (length plain)))
    (slice_index plain (k - whole_frames (length fixed) * 1024)) 0)

-- What the writable area holds past its frames.
abbrev pub split_rest : ℕ → List ℕ → GName → Rest
split_rest fixed plain place = record {
  outside = λ k. cond (nat_lt (k / 1024) (plain_frames fixed (length plain))) 0 (slice_index plain k);
  size = length plain;
  place = place;
}
