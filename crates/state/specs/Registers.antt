-- What instructions do to the R registers, PC and the ports.
use Rattle.std.specs.Prelude.{ℕ, Bool, cond, ℤ, slice_index, slice_set}
use Rattle.arithmetic.specs.declared.Operation.{Operation}
use Rattle.arithmetic.specs.Words.{complement_of, high_byte_set, signed_added, word_of, words_added}
use Rattle.arithmetic.specs.Values.{value_of}
use Rattle.instruction.specs.declared.Port.{Port}
use Rattle.instruction.specs.declared.Register.{Register}
use Rattle.state.specs.declared.State.{State}
use Rattle.state.specs.States.{register_at, register_set, with_pc, with_ports}

-- Rd takes what the operation gives for Ra and Rb.
abbrev pub operated : Operation → Register → Register → Register → State → State
operated o d a b s = register_set d (value_of o (register_at a s.registers) (register_at b s.registers)) s

-- NOT: Rd takes Ra with every bit turned.
abbrev pub complemented : Register → Register → State → State
complemented d a s = register_set d (complement_of (register_at a s.registers)) s

-- ADDI: Rd takes Ra + n.
abbrev pub sum_taken : Register → Register → ℤ → State → State
sum_taken d a n s = register_set d (signed_added (register_at a s.registers) n) s

-- MOVI: Rd takes n.
abbrev pub moved_in : Register → ℤ → State → State
moved_in d n s = register_set d (word_of n) s

-- MOVIH: bits 15..8 of Rd take n, and the others stay.
abbrev pub byte_raised : Register → ℕ → State → State
byte_raised d n s = register_set d (high_byte_set (register_at d s.registers) n) s

-- JZ, JNZ and JMP: PC takes a target, if the condition holds. The target keeps its bit 0.
abbrev pub jumped_if : Bool → ℕ → State → State
jumped_if condition to s = cond condition (with_pc to s) s

-- BZ and BNZ: n words on from the next instruction, where PC stands.
abbrev pub branched_if : Bool → ℤ → State → State
branched_if condition n s = jumped_if condition (words_added s.pc n) s

-- JAL: Rb takes the address of the next instruction, and PC takes Ra as it was.
abbrev pub linked : Register → Register → State → State
linked b a s = with_pc (register_at a s.registers) (register_set b s.pc s)

-- IN: Rd takes the word of an input port.
abbrev pub input_taken : Register → Port → State → State
input_taken d port s = register_set d (slice_index s.ports.inputs port.number) s

-- OUT: the word of an output port takes Rb.
abbrev pub output_given : Register → Port → State → State
output_given b port s =
    with_ports (record (s.ports) { outputs = slice_set s.ports.outputs port.number (register_at b s.registers) }) s
