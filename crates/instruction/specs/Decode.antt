-- What a word says, by its form. The fields of a word, bit 15 first: four bits of operation; three of the register d (or b,
-- where the instruction only reads it); three of the register a; and below them the register b or a number.
use Rattle.std.specs.Prelude.{ℕ, ◌/◌, ◌%◌, ℤ, Option}
use Rattle.std.specs.Option.{option_map}
use Rattle.arithmetic.specs.declared.Operation.{Operation}
use Rattle.arithmetic.specs.declared.Operation.TheVariants as operation
use Rattle.forms.specs.declared.Form.{Form}
use Rattle.forms.specs.declared.Form.TheVariants as form
use Rattle.forms.specs.declared.FormRow.{FormRow}
use Rattle.forms.specs.Table.{form_of}
use Rattle.instruction.specs.declared.Register.{Register}
use Rattle.instruction.specs.declared.Port.{Port}
use Rattle.instruction.specs.declared.Instruction.{Instruction}
use Rattle.instruction.specs.declared.Instruction.TheVariants as instruction
use Rattle.instruction.specs.declared.Table.{Table}
use Rattle.instruction.specs.declared.Table.TheVariants as table
use Rattle.instruction.specs.declared.EntryField.{EntryField}
use Rattle.instruction.specs.declared.EntryField.TheVariants as field
use Rattle.instruction.specs.declared.Privileged.TheVariants as privileged
use Rattle.instruction.specs.Fields.{register_of, system_register_of, signed_of}

-- the register in bits 11 to 9, in bits 8 to 6, and in bits 2 to 0
abbrev high : ℕ → Register
high word = register_of (word / 512 % 8)

abbrev middle : ℕ → Register
middle word = register_of (word / 64 % 8)

abbrev low : ℕ → Register
low word = register_of (word % 8)

-- the signed numbers in the lowest five, six and eight bits
abbrev number5 : ℕ → ℤ
number5 word = signed_of 16 (word % 32)

abbrev number6 : ℕ → ℤ
number6 word = signed_of 32 (word % 64)

abbrev number8 : ℕ → ℤ
number8 word = signed_of 128 (word % 256)

abbrev pub port_of : ℕ → Port
port_of word = record { number = word % 256 }

abbrev pub operate_of : Operation → ℕ → Instruction
operate_of o word = instruction.Operate o (high word) (middle word) (low word)

abbrev pub write_entry_of : Table → EntryField → ℕ → Instruction
write_entry_of t f word = instruction.Privileged (privileged.WriteEntry t f (high word) (middle word))

abbrev pub instruction_of : Form → ℕ → Instruction
instruction_of form.And word = operate_of operation.And word
instruction_of form.Or word = operate_of operation.Or word
instruction_of form.Xor word = operate_of operation.Xor word
instruction_of form.Add word = operate_of operation.Add word
instruction_of form.Sub word = operate_of operation.Subtract word
instruction_of form.Sha word = operate_of operation.ShiftArithmetic word
instruction_of form.Shl word = operate_of operation.ShiftLogical word
instruction_of form.Cmplt word = operate_of operation.Less word
instruction_of form.Cmple word = operate_of operation.LessOrEqual word
instruction_of form.Cmpeq word = operate_of operation.Equal word
instruction_of form.Cmpltu word = operate_of operation.LessUnsigned word
instruction_of form.Cmpleu word = operate_of operation.LessOrEqualUnsigned word
instruction_of form.Mul word = operate_of operation.Multiply word
instruction_of form.Mulh word = operate_of operation.MultiplyHigh word
instruction_of form.Mulhu word = operate_of operation.MultiplyHighUnsigned word
instruction_of form.Not word = instruction.Complement (high word) (middle word)
instruction_of form.Addi word = instruction.AddImmediate (high word) (middle word) (number5 word)
instruction_of form.Jz word = instruction.JumpIfZero (high word) (middle word)
instruction_of form.Jnz word = instruction.JumpIfNotZero (high word) (middle word)
instruction_of form.Jmp word = instruction.Jump (middle word)
instruction_of form.Jal word = instruction.JumpAndLink (high word) (middle word)
instruction_of form.Calls word = instruction.CallSystem (middle word)
instruction_of form.Ld word = instruction.LoadWord (high word) (middle word) (number6 word)
instruction_of form.Ldb word = instruction.LoadByte (high word) (middle word) (number6 word)
instruction_of form.St word = instruction.StoreWord (high word) (middle word) (number6 word)
instruction_of form.Stb word = instruction.StoreByte (high word) (middle word) (number6 word)
instruction_of form.Movi word = instruction.MoveImmediate (high word) (number8 word)
instruction_of form.Movih word = instruction.MoveHigh (high word) (word % 256)
instruction_of form.Bz word = instruction.BranchIfZero (high word) (number8 word)
instruction_of form.Bnz word = instruction.BranchIfNotZero (high word) (number8 word)
instruction_of form.In word = instruction.Input (high word) (port_of word)
instruction_of form.Out word = instruction.Output (high word) (port_of word)
instruction_of form.Ei word = instruction.Privileged privileged.EnableInterrupts
instruction_of form.Di word = instruction.Privileged privileged.DisableInterrupts
instruction_of form.Reti word = instruction.Privileged privileged.ReturnFromEvent
instruction_of form.Getiid word = instruction.Privileged (privileged.GetInterrupt (high word))
instruction_of form.Rds word = instruction.Privileged (privileged.ReadSystem (high word) (system_register_of (word / 64 % 8)))
instruction_of form.Wrs word = instruction.Privileged (privileged.WriteSystem (system_register_of (word / 512 % 8)) (middle word))
instruction_of form.Wrpi word = write_entry_of table.Instruction field.Physical word
instruction_of form.Wrvi word = write_entry_of table.Instruction field.Virtual word
instruction_of form.Wrpd word = write_entry_of table.Data field.Physical word
instruction_of form.Wrvd word = write_entry_of table.Data field.Virtual word
instruction_of form.Flush word = instruction.Privileged (privileged.Flush (middle word))
instruction_of form.Halt word = instruction.Privileged privileged.Halt

abbrev pub decode_of : ℕ → Option Instruction
decode_of word = option_map (λ (row : FormRow). instruction_of row.form word) (form_of word)
