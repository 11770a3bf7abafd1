-- What the calls that make no step answer and leave.
use Rattle.std.specs.Prelude.{ℕ, Bool, true, false, cond, List, Ok, Err, Result, nat_lt, slice_index, slice_index_or, slice_set}
use Rattle.instruction.specs.Fields.{system_register_of}
use Rattle.answers.specs.declared.Refusal.{Refusal}
use Rattle.answers.specs.declared.Refusal.TheVariants.{NoSuchLine, NoSuchPort, NoSuchRegister}
use Rattle.state.specs.declared.State.{State}
use Rattle.state.specs.declared.SystemRegisters.{SystemRegisters}
use Rattle.state.specs.declared.Ports.{Ports}
use Rattle.state.specs.States.{system_at, with_ports, with_waiting}

-- There are eight lines, 256 ports of each kind, and eight registers of each kind: a call that names another is refused.
abbrev pub or_refused : {T : Type 0} → Bool → T → Refusal → Result T Refusal
or_refused true v r = Ok v
or_refused false v r = Err r

-- Raise marks a line.
abbrev pub raise_answer : ℕ → Result (Unit {0}) Refusal
raise_answer line = or_refused (nat_lt line 8) tt NoSuchLine

abbrev pub raised_on : ℕ → State → State
raised_on line s = cond (nat_lt line 8) (with_waiting (slice_set s.waiting line true) s) s

-- Drive sets an input word.
abbrev pub drive_answer : ℕ → Result (Unit {0}) Refusal
drive_answer port = or_refused (nat_lt port 256) tt NoSuchPort

abbrev pub driven_at : ℕ → ℕ → State → State
driven_at port word s =
    cond (nat_lt port 256) (with_ports (record { inputs = slice_set s.ports.inputs port word; outputs = s.ports.outputs }) s) s

-- The readings.
abbrev pub register_reading : ℕ → List ℕ → Result ℕ Refusal
register_reading number registers = or_refused (nat_lt number 8) (slice_index registers number) NoSuchRegister

abbrev pub system_reading : ℕ → SystemRegisters → Result ℕ Refusal
system_reading number system = or_refused (nat_lt number 8) (system_at (system_register_of number) system) NoSuchRegister

abbrev pub output_reading : ℕ → Ports → Result ℕ Refusal
output_reading port ports = or_refused (nat_lt port 256) (slice_index ports.outputs port) NoSuchPort

abbrev pub waiting_reading : ℕ → List Bool → Result Bool Refusal
waiting_reading line waiting = or_refused (nat_lt line 8) (slice_index_or waiting line false) NoSuchLine
