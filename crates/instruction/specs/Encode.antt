-- The word that says an instruction.
use Rattle.std.specs.Prelude.{◌≡◌, ℕ, ◌+◌, ◌*◌, ◌%◌, Some, None, Option}
use Rattle.arithmetic.specs.declared.Operation.{Operation}
use Rattle.arithmetic.specs.declared.Operation.TheVariants as operation
use Rattle.instruction.specs.declared.Table.{Table}
use Rattle.instruction.specs.declared.Table.TheVariants as table
use Rattle.instruction.specs.declared.EntryField.{EntryField}
use Rattle.instruction.specs.declared.EntryField.TheVariants as field
use Rattle.instruction.specs.declared.Register.{Register}
use Rattle.instruction.specs.declared.Instruction.{Instruction}
use Rattle.instruction.specs.declared.Instruction.TheVariants as instruction
use Rattle.instruction.specs.declared.Privileged.{Privileged}
use Rattle.instruction.specs.declared.Privileged.TheVariants as privileged
use Rattle.instruction.specs.Fields.{register_number, system_number, unsigned_of}

abbrev pub operation_bits : Operation → ℕ
operation_bits operation.And = 0x0000
operation_bits operation.Or = 0x0008
operation_bits operation.Xor = 0x0010
operation_bits operation.Add = 0x0020
operation_bits operation.Subtract = 0x0028
operation_bits operation.ShiftArithmetic = 0x0030
operation_bits operation.ShiftLogical = 0x0038
operation_bits operation.Less = 0x1000
operation_bits operation.LessOrEqual = 0x1008
operation_bits operation.Equal = 0x1018
operation_bits operation.LessUnsigned = 0x1020
operation_bits operation.LessOrEqualUnsigned = 0x1028
operation_bits operation.Multiply = 0x8000
operation_bits operation.MultiplyHigh = 0x8008
operation_bits operation.MultiplyHighUnsigned = 0x8010

abbrev pub entry_bits : Table → EntryField → ℕ
entry_bits table.Instruction field.Physical = 0xF034
entry_bits table.Instruction field.Virtual = 0xF035
entry_bits table.Data field.Physical = 0xF036
entry_bits table.Data field.Virtual = 0xF037

-- a register in bits 11 to 9, and in bits 8 to 6
abbrev pub high : Register → ℕ
high r = register_number r * 512

abbrev pub middle : Register → ℕ
middle r = register_number r * 64

abbrev pub privileged_word : Privileged → ℕ
privileged_word privileged.EnableInterrupts = 0xF020
privileged_word privileged.DisableInterrupts = 0xF021
privileged_word privileged.ReturnFromEvent = 0xF024
privileged_word (privileged.GetInterrupt d) = 0xF028 + high d
privileged_word (privileged.ReadSystem d s) = 0xF02C + high d + system_number s * 64
privileged_word (privileged.WriteSystem s a) = 0xF030 + system_number s * 512 + middle a
privileged_word (privileged.WriteEntry t f b a) = entry_bits t f + high b + middle a
privileged_word (privileged.Flush a) = 0xF038 + middle a
privileged_word privileged.Halt = 0xFFFF

abbrev pub word_of : Instruction → ℕ
word_of (instruction.Operate o d a b) = operation_bits o + high d + middle a + register_number b
word_of (instruction.Complement d a) = 0x0018 + high d + middle a
word_of (instruction.AddImmediate d a n) = 0x2000 + high d + middle a + unsigned_of n % 32
word_of (instruction.JumpIfZero b a) = 0x2020 + high b + middle a
word_of (instruction.JumpIfNotZero b a) = 0x2021 + high b + middle a
word_of (instruction.Jump a) = 0x2023 + middle a
word_of (instruction.JumpAndLink b a) = 0x2024 + high b + middle a
word_of (instruction.CallSystem a) = 0x2027 + middle a
word_of (instruction.LoadWord d a n) = 0x3000 + high d + middle a + unsigned_of n % 64
word_of (instruction.LoadByte d a n) = 0xD000 + high d + middle a + unsigned_of n % 64
word_of (instruction.StoreWord b a n) = 0x4000 + high b + middle a + unsigned_of n % 64
word_of (instruction.StoreByte b a n) = 0xE000 + high b + middle a + unsigned_of n % 64
word_of (instruction.MoveImmediate d n) = 0x5000 + high d + unsigned_of n
word_of (instruction.MoveHigh d n) = 0x5100 + high d + n
word_of (instruction.BranchIfZero b n) = 0x6000 + high b + unsigned_of n
word_of (instruction.BranchIfNotZero b n) = 0x6100 + high b + unsigned_of n
word_of (instruction.Input d port) = 0x7000 + high d + port.number
word_of (instruction.Output b port) = 0x7100 + high b + port.number
word_of (instruction.Privileged p) = privileged_word p

-- what a word says, said again, is that word: decoding loses nothing
abbrev pub SaidAgain : ℕ → Option Instruction → Type 0
SaidAgain word None = Unit {0}
SaidAgain word (Some i) = word_of i ≡ word
