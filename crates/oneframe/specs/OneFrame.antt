-- What a memory of one frame means.
use Rattle.std.specs.Prelude.{ℕ, ◌/◌, List, cond, ◌==◌, slice_index}
use Rattle.memory.specs.declared.Mark.{Mark}
use Rattle.memory.specs.declared.Mark.TheVariants.{Plain, Absent}
use Rattle.memory.specs.Meaning.{Rest}

-- Frame 0 is plain, and no other frame is there.
abbrev pub one_marks : ℕ → Mark
one_marks frame = cond (frame == 0) Plain Absent

-- Its bytes are those of the array, and all others count as zero.
abbrev pub one_bytes : List ℕ → ℕ → ℕ
one_bytes array k = cond (k / 1024 == 0) (slice_index array k) 0

-- Nothing is lent to it.
abbrev pub one_rest : Rest
one_rest = record { outside = λ k. 0; size = 0; place = 0 }
