-- What an instruction does to a machine and its memory, once PC stands at the instruction after it.
use Rattle.std.specs.Prelude.{ℕ, ℤ, ◌%◌, Bool, true, false, not, Ok, Err, Result, ◌==◌}
use Rattle.arithmetic.specs.Words.{byte_extended, signed_added, words_added}
use Rattle.instruction.specs.declared.Instruction.{Instruction}
use Rattle.instruction.specs.declared.Instruction.TheVariants as instruction
use Rattle.instruction.specs.declared.Privileged.{Privileged}
use Rattle.instruction.specs.declared.Register.{Register}
use Rattle.translation.specs.declared.address.Width.{Width}
use Rattle.translation.specs.declared.address.Width.TheVariants.{Byte, Word}
use Rattle.translation.specs.declared.event.Event.{Event}
use Rattle.translation.specs.declared.event.Event.TheVariants as event
use Rattle.access.specs.Accesses.{loaded, store_answer, stored}
use Rattle.state.specs.declared.privileged.Progress.{Progress}
use Rattle.state.specs.declared.privileged.Progress.TheVariants.{Ran}
use Rattle.execution.specs.declared.Raised.{Raised}
use Rattle.state.specs.declared.State.{State}
use Rattle.execution.specs.Worlds.{Outcome, World, outcome, with_state, world}
use Rattle.state.specs.States.{register_at, register_set}
use Rattle.state.specs.Status.{is_user}
use Rattle.state.specs.Registers.{branched_if, byte_raised, complemented, input_taken, jumped_if, linked, moved_in, operated, output_given, sum_taken}
use Rattle.state.specs.Control.{controlled, progress_of}

-- An instruction runs or halts, or it raises an event with its detail.
abbrev pub Execution : Type 0
Execution = Outcome (Result Progress Raised)

-- It ran, and left another state.
abbrev pub ran : State → World → Execution
ran s w = outcome (with_state s w) (Ok Ran)

-- It raised an event, and left all as it was.
abbrev pub raising : Event → ℕ → Result Progress Raised
raising e detail = Err (record { event = e; detail = detail })

abbrev pub raised : Event → ℕ → World → Execution
raised e detail w = outcome w (raising e detail)

-- A loaded byte extends its sign.
abbrev pub extended : Width → ℕ → ℕ
extended Byte v = byte_extended (v % 256)
extended Word v = v

-- The address n from x, in words for a word.
abbrev pub offset_by : Width → ℕ → ℤ → ℕ
offset_by Byte x n = signed_added x n
offset_by Word x n = words_added x n

-- LD and LDB: Rd takes what lies at the address; a failed check is the event, with the address as its detail.
abbrev pub loaded_by : Result ℕ Event → Register → Width → ℕ → World → Execution
loaded_by (Ok v) d width address w = ran (register_set d (extended width v) w.state) w
loaded_by (Err e) d width address w = raised e address w

abbrev pub loaded_into : Register → Width → ℕ → World → Execution
loaded_into d width address w =
    loaded_by (loaded (is_user w.state.system.status) w.state.tables.«data».entries w.marks w.bytes width address) d width address w

-- ST and STB: Rb, or its low byte, is stored at the address; a failed check is the event, and then no byte changes.
abbrev pub store_answered_by : Result (Unit {0}) Event → ℕ → Result Progress Raised
store_answered_by (Ok _) address = Ok Ran
store_answered_by (Err e) address = raising e address

abbrev pub stored_from : Register → Width → ℕ → World → Execution
stored_from b width address w =
    outcome
    (world w.state w.marks
    (stored (is_user w.state.system.status) w.state.tables.«data».entries w.marks w.bytes width address (register_at b w.state.registers)))
    (store_answered_by (store_answer (is_user w.state.system.status) w.state.tables.«data».entries w.marks width address) address)

-- User mode may not execute a privileged instruction.
abbrev pub privileged_by : Bool → Privileged → World → Execution
privileged_by true p w = raised event.Privileged 0 w
privileged_by false p w = outcome (with_state (controlled p w.state) w) (Ok (progress_of p))

-- The address of a load or a store is n from Ra. A jump is taken if Rb is zero, or if it is not.
abbrev pub executed : Instruction → World → Execution
executed (instruction.Operate o d a b) w = ran (operated o d a b w.state) w
executed (instruction.Complement d a) w = ran (complemented d a w.state) w
executed (instruction.AddImmediate d a n) w = ran (sum_taken d a n w.state) w
executed (instruction.JumpIfZero b a) w =
    ran (jumped_if (register_at b w.state.registers == 0) (register_at a w.state.registers) w.state) w
executed (instruction.JumpIfNotZero b a) w =
    ran (jumped_if (not (register_at b w.state.registers == 0)) (register_at a w.state.registers) w.state) w
executed (instruction.Jump a) w = ran (jumped_if true (register_at a w.state.registers) w.state) w
executed (instruction.JumpAndLink b a) w = ran (linked b a w.state) w
executed (instruction.CallSystem a) w = raised event.SystemCall (register_at a w.state.registers) w
executed (instruction.LoadWord d a n) w = loaded_into d Word (offset_by Word (register_at a w.state.registers) n) w
executed (instruction.LoadByte d a n) w = loaded_into d Byte (offset_by Byte (register_at a w.state.registers) n) w
executed (instruction.StoreWord b a n) w = stored_from b Word (offset_by Word (register_at a w.state.registers) n) w
executed (instruction.StoreByte b a n) w = stored_from b Byte (offset_by Byte (register_at a w.state.registers) n) w
executed (instruction.MoveImmediate d n) w = ran (moved_in d n w.state) w
executed (instruction.MoveHigh d n) w = ran (byte_raised d n w.state) w
executed (instruction.BranchIfZero b n) w = ran (branched_if (register_at b w.state.registers == 0) n w.state) w
executed (instruction.BranchIfNotZero b n) w = ran (branched_if (not (register_at b w.state.registers == 0)) n w.state) w
executed (instruction.Input d port) w = ran (input_taken d port w.state) w
executed (instruction.Output b port) w = ran (output_given b port w.state) w
executed (instruction.Privileged p) w = privileged_by (is_user w.state.system.status) p w
