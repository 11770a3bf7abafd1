-- What the fields of a word stand for.
use Rattle.std.specs.Prelude.{ℕ, suc, ◌-◌, ◌*◌, cond, [], ◌∷◌, ℤ, pos, negsuc, nat_lt, slice_index_or, Ok, Err, Result, if◌then◌else◌}
use Rattle.instruction.specs.declared.NoSuchRegister.{NoSuchRegister}
use Rattle.instruction.specs.declared.Register.{Register}
use Rattle.instruction.specs.declared.Register.TheVariants.{R0, R1, R2, R3, R4, R5, R6, R7}
use Rattle.instruction.specs.declared.SystemRegister.{SystemRegister}
use Rattle.instruction.specs.declared.SystemRegister.TheVariants.{SavedStatus, ReturnAddress, Event, Detail, Scratch, EntryAddress, StackPointer, Status}

abbrev pub register_of : ℕ → Register
register_of n = slice_index_or (R0 ∷ R1 ∷ R2 ∷ R3 ∷ R4 ∷ R5 ∷ R6 ∷ R7 ∷ []) n R0

abbrev pub system_register_of : ℕ → SystemRegister
system_register_of n =
    slice_index_or (SavedStatus ∷ ReturnAddress ∷ Event ∷ Detail ∷ Scratch ∷ EntryAddress ∷ StackPointer ∷ Status ∷ []) n SavedStatus

-- a number up to 7 names a system register
abbrev pub system_register_numbered : ℕ → Result SystemRegister NoSuchRegister
system_register_numbered n = if nat_lt n 8 then Ok (system_register_of n) else Err (record {})

abbrev pub register_number : Register → ℕ
register_number R0 = 0
register_number R1 = 1
register_number R2 = 2
register_number R3 = 3
register_number R4 = 4
register_number R5 = 5
register_number R6 = 6
register_number R7 = 7

abbrev pub system_number : SystemRegister → ℕ
system_number SavedStatus = 0
system_number ReturnAddress = 1
system_number Event = 2
system_number Detail = 3
system_number Scratch = 4
system_number EntryAddress = 5
system_number StackPointer = 6
system_number Status = 7

-- a field of 2 * half values in two's complement: the upper half stands for the negative numbers
abbrev pub signed_of : ℕ → ℕ → ℤ
signed_of half n = cond (nat_lt n half) (pos n) (negsuc (2 * half - suc n))

-- the eight bits of a signed number
abbrev pub unsigned_of : ℤ → ℕ
unsigned_of (pos n) = n
unsigned_of (negsuc n) = 256 - suc n
