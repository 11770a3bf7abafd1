-- What every step leaves alone, by the kinds of instruction.
use Rattle.std.proofs.Common.{◌≡◌, ℕ, ◌+◌, ◌/◌, ◌%◌, Bool, true, false, not, eqb, List, set, Some, None, Ok, Err, Option, Result, sym, refl, ◌∙◌, subst, get_or-set_other}
use Rattle.std.proofs.lemmas.Bool.{cond-false, cond_both, ne_eqb}
use Rattle.memory.specs.declared.Mark.{Mark}
use Rattle.memory.specs.Meaning.{put}
use Rattle.arithmetic.specs.Words.{signed_added, words_added}
use Rattle.instruction.specs.declared.Instruction.{Instruction}
use Rattle.instruction.specs.declared.Instruction.TheVariants as instruction
use Rattle.instruction.specs.declared.Privileged.{Privileged}
use Rattle.instruction.specs.declared.Privileged.TheVariants as privileged
use Rattle.instruction.specs.declared.Register.{Register}
use Rattle.instruction.specs.Fields.{register_number}
use Rattle.instruction.specs.Decode.{decode_of}
use Rattle.translation.specs.declared.address.Access.TheVariants.{Store}
use Rattle.translation.specs.declared.address.Width.{Width}
use Rattle.translation.specs.declared.address.Width.TheVariants.{Byte, Word}
use Rattle.translation.specs.declared.event.Event.{Event}
use Rattle.translation.specs.declared.event.Event.TheVariants as event
use Rattle.paging.specs.declared.PageEntry.{PageEntry}
use Rattle.access.specs.Accesses.{fetched, loaded, store_answer_at, stored_at, value_put}
use Rattle.translation.specs.Addresses.{physical_address}
use Rattle.access.proofs.Confining.{confined}
use Rattle.answers.specs.declared.Refusal.{Refusal}
use Rattle.answers.specs.declared.StepAnswer.{StepAnswer}
use Rattle.answers.specs.declared.StepAnswer.TheVariants as answer
use Rattle.state.specs.declared.State.{State}
use Rattle.execution.specs.Worlds.{Outcome, World, outcome, with_state, world}
use Rattle.state.specs.States.{register_at, register_set}
use Rattle.state.specs.Entries.{entered}
use Rattle.state.specs.Status.{is_user}
use Rattle.state.specs.Registers.{jumped_if, linked, output_given}
use Rattle.state.specs.Waiting.{interrupt_given, is_interrupted, lowest_waiting}
use Rattle.state.specs.Control.{controlled, progress_of}
use Rattle.execution.specs.Execution.{executed, loaded_by, loaded_into, privileged_by, store_answered_by, stored_from}
use Rattle.machine.specs.Steps.{advanced, concluded, entering, fetched_by, performed, step_of}
use Rattle.machine.specs.Laws.{AtMostOne, AtMostTwo, OnlyEntered, StepLaw}
use Rattle.machine.proofs.Soundness.{resolved}

-- registers
none_changed : (xs : List ℕ) → AtMostOne xs xs
none_changed xs = record { number = 0; others = λ k n. refl }

one_changed : (xs : List ℕ) (n v : ℕ) → AtMostOne xs (set xs n v)
one_changed xs n v = record { number = n; others = λ k ne. get_or-set_other xs n k v 0 ne }

abbrev RegisterLaw : State → State → Type 0
RegisterLaw s s' = AtMostOne s.registers s'.registers

-- bytes
abbrev BytesLaw : World → World → Type 0
BytesLaw w w' = AtMostTwo (is_user w.state.system.status) w.state.tables.«data».entries w.marks w.bytes w'.bytes

same_bytes : (user : Bool) (entries : List PageEntry) (marks : ℕ → Mark) (bytes : ℕ → ℕ) → AtMostTwo user entries marks bytes bytes
same_bytes user entries marks bytes = record { place = 0; others = λ k n m. refl; address = 0; reached = λ k h. absurd (h refl) }

put_others : (bytes : ℕ → ℕ) (at v k : ℕ) → (k ≡ at → ⊥) → put bytes at v k ≡ bytes k
put_others bytes at v k n = cond-false (eqb k at) v (bytes k) (ne_eqb k at n)

value_others : (width : Width) (bytes : ℕ → ℕ) (at v k : ℕ) → (k ≡ at → ⊥) → (k ≡ at + 1 → ⊥) → value_put width bytes at v k ≡ bytes k
value_others Byte bytes at v k n m = put_others bytes at (v % 256) k n
value_others Word bytes at v k n m = put_others (put bytes at (v % 256)) (at + 1) (v / 256) k m ∙ put_others bytes at (v % 256) k n

abbrev place_of : Result ℕ Event → ℕ
place_of (Ok at) = at
place_of (Err e) = 0

stored_others : (r : Result ℕ Event) (width : Width) (bytes : ℕ → ℕ) (v k : ℕ) → (k ≡ place_of r → ⊥) → (k ≡ place_of r + 1 → ⊥) → stored_at r width bytes v k ≡ bytes k
stored_others (Ok at) width bytes v k n m = value_others width bytes at v k n m
stored_others (Err e) width bytes v k n m = refl

-- what a step or an instruction leaves, and what it answers
pub record Lawful (w : World) (o : Outcome StepAnswer) : Type 0 where
  pub entry : (e : Event) → o.answer ≡ answer.Entered e → OnlyEntered w o.after
  pub register : RegisterLaw w.state o.after.state
  pub bytes : BytesLaw w o.after
  pub marks : o.after.marks ≡ w.marks

ran_lawful : (w : World) (s : State) → RegisterLaw w.state s → Lawful w (outcome (with_state s w) answer.Ran)
ran_lawful w s l = record { entry = λ e h. absurd cc; register = l; bytes = same_bytes _ _ _ _; marks = refl }

pub only_entered : (e : Event) (detail : ℕ) (w : World) → OnlyEntered w (with_state (entered e detail w.state) w)
only_entered e detail w = record {
  registers = refl;
  ports = refl;
  waiting = refl;
  tables = refl;
  halted = refl;
  marks = refl;
  bytes = refl;
  scratch = refl;
  entry_address = refl;
  stack_pointer = refl;
  status = refl;
  pc = refl;
}

entering_lawful : (e : Event) (detail : ℕ) (w : World) → Lawful w (entering e detail w)
entering_lawful e detail w = record {
  entry = λ e' h. only_entered e detail w;
  register = none_changed w.state.registers;
  bytes = same_bytes _ _ _ _;
  marks = refl;
}

jumped_lawful : (b : Bool) (to : ℕ) (w : World) → Lawful w (outcome (with_state (jumped_if b to w.state) w) answer.Ran)
jumped_lawful true to w = ran_lawful w _ (none_changed w.state.registers)
jumped_lawful false to w = ran_lawful w w.state (none_changed w.state.registers)

set_lawful : (d : Register) (v : ℕ) (w : World) → Lawful w (outcome (with_state (register_set d v w.state) w) answer.Ran)
set_lawful d v w = ran_lawful w (register_set d v w.state) (one_changed w.state.registers (register_number d) v)

loaded_lawful : (r : Result ℕ Event) (d : Register) (width : Width) (address : ℕ) (w : World) → Lawful w (resolved (loaded_by r d width address w))
loaded_lawful (Ok v) d width address w = set_lawful d _ w
loaded_lawful (Err e) d width address w = entering_lawful e address w

-- a store that fails a check leaves every byte
stored_entered : (r : Result ℕ Event) (address : ℕ) (width : Width) (v : ℕ) (w : World) → (e : Event)
    → (concluded (store_answered_by (store_answer_at r) address) (world w.state w.marks (stored_at r width w.bytes v))).answer ≡ answer.Entered e
    → OnlyEntered w (concluded (store_answered_by (store_answer_at r) address) (world w.state w.marks (stored_at r width w.bytes v))).after
stored_entered (Ok at) address width v w e h = absurd cc
stored_entered (Err f) address width v w e h = only_entered f address w

stored_register : (r : Result (Unit {0}) Event) (address : ℕ) (w : World) → RegisterLaw w.state (concluded (store_answered_by r address) w).after.state
stored_register (Ok u) address w = none_changed w.state.registers
stored_register (Err e) address w = none_changed w.state.registers

stored_memory : (r : Result (Unit {0}) Event) (address : ℕ) (w : World)
    → ((concluded (store_answered_by r address) w).after.bytes ≡ w.bytes) × ((concluded (store_answered_by r address) w).after.marks ≡ w.marks)
stored_memory (Ok u) address w = (refl, refl)
stored_memory (Err e) address w = (refl, refl)

store_lawful : (b : Register) (width : Width) (address : ℕ) (w : World) → Lawful w (resolved (stored_from b width address w))
store_lawful b width address w =
    let user = is_user w.state.system.status in
    let entries = w.state.tables.«data».entries in
    let r = physical_address user entries w.marks Store width address in
    let v = register_at b w.state.registers in
    let kept = stored_memory (store_answer_at r) address (stored_from b width address w).after in
    let law : AtMostTwo user entries w.marks w.bytes (stored_at r width w.bytes v) =
    record {
      place = place_of r;
      others = λ k n m. stored_others r width w.bytes v k n m;
      address = address;
      reached = (confined user entries w.marks w.bytes width address v).reached;
    } in
    record {
      entry = stored_entered r address width v w;
      register = stored_register (store_answer_at r) address (stored_from b width address w).after;
      bytes = subst (λ (f : ℕ → ℕ). AtMostTwo user entries w.marks w.bytes f) (sym kept.0) law;
      marks = kept.1;
    }

load_lawful : (d : Register) (width : Width) (address : ℕ) (w : World) → Lawful w (resolved (loaded_into d width address w))
load_lawful d width address w =
    loaded_lawful (loaded (is_user w.state.system.status) w.state.tables.«data».entries w.marks w.bytes width address) d width address w

-- the privileged instructions
taken_register : (o : Option ℕ) (d : Register) (s : State) → RegisterLaw s (interrupt_given o d s)
taken_register None d s = one_changed s.registers (register_number d) 0
taken_register (Some line) d s = one_changed s.registers (register_number d) line

controlled_lawful : (p : Privileged) (w : World) → Lawful w (concluded (Ok (progress_of p)) (with_state (controlled p w.state) w))
controlled_lawful privileged.EnableInterrupts w = ran_lawful w (controlled privileged.EnableInterrupts w.state) (none_changed w.state.registers)
controlled_lawful privileged.DisableInterrupts w = ran_lawful w (controlled privileged.DisableInterrupts w.state) (none_changed w.state.registers)
controlled_lawful privileged.ReturnFromEvent w = ran_lawful w (controlled privileged.ReturnFromEvent w.state) (none_changed w.state.registers)
controlled_lawful (privileged.GetInterrupt d) w =
    ran_lawful w (controlled (privileged.GetInterrupt d) w.state) (taken_register (lowest_waiting w.state.waiting) d w.state)
controlled_lawful (privileged.ReadSystem d r) w = set_lawful d _ w
controlled_lawful (privileged.WriteSystem r a) w = ran_lawful w (controlled (privileged.WriteSystem r a) w.state) (none_changed w.state.registers)
controlled_lawful (privileged.WriteEntry t f b a) w = ran_lawful w (controlled (privileged.WriteEntry t f b a) w.state) (none_changed w.state.registers)
controlled_lawful (privileged.Flush a) w = ran_lawful w (controlled (privileged.Flush a) w.state) (none_changed w.state.registers)
controlled_lawful privileged.Halt w =
    record { entry = λ e h. absurd cc; register = none_changed w.state.registers; bytes = same_bytes _ _ _ _; marks = refl }

privileged_lawful : (b : Bool) (p : Privileged) (w : World) → Lawful w (resolved (privileged_by b p w))
privileged_lawful true p w = entering_lawful event.Privileged 0 w
privileged_lawful false p w = controlled_lawful p w

-- the instructions
executed_lawful : (i : Instruction) (w : World) → Lawful w (resolved (executed i w))
executed_lawful (instruction.Operate o d a b) w = set_lawful d _ w
executed_lawful (instruction.Complement d a) w = set_lawful d _ w
executed_lawful (instruction.AddImmediate d a n) w = set_lawful d _ w
executed_lawful (instruction.JumpIfZero b a) w = jumped_lawful (eqb (register_at b w.state.registers) 0) (register_at a w.state.registers) w
executed_lawful (instruction.JumpIfNotZero b a) w = jumped_lawful (not (eqb (register_at b w.state.registers) 0)) (register_at a w.state.registers) w
executed_lawful (instruction.Jump a) w = jumped_lawful true (register_at a w.state.registers) w
executed_lawful (instruction.JumpAndLink b a) w =
    ran_lawful w (linked b a w.state) (one_changed w.state.registers (register_number b) w.state.pc)
executed_lawful (instruction.CallSystem a) w = entering_lawful event.SystemCall (register_at a w.state.registers) w
executed_lawful (instruction.LoadWord d a n) w = load_lawful d Word (words_added (register_at a w.state.registers) n) w
executed_lawful (instruction.LoadByte d a n) w = load_lawful d Byte (signed_added (register_at a w.state.registers) n) w
executed_lawful (instruction.StoreWord b a n) w = store_lawful b Word (words_added (register_at a w.state.registers) n) w
executed_lawful (instruction.StoreByte b a n) w = store_lawful b Byte (signed_added (register_at a w.state.registers) n) w
executed_lawful (instruction.MoveImmediate d n) w = set_lawful d _ w
executed_lawful (instruction.MoveHigh d n) w = set_lawful d _ w
executed_lawful (instruction.BranchIfZero b n) w = jumped_lawful (eqb (register_at b w.state.registers) 0) (words_added w.state.pc n) w
executed_lawful (instruction.BranchIfNotZero b n) w = jumped_lawful (not (eqb (register_at b w.state.registers) 0)) (words_added w.state.pc n) w
executed_lawful (instruction.Input d port) w = set_lawful d _ w
executed_lawful (instruction.Output b port) w = ran_lawful w (output_given b port w.state) (none_changed w.state.registers)
executed_lawful (instruction.Privileged p) w = privileged_lawful (is_user w.state.system.status) p w

performed_lawful : (o : Option Instruction) (w : World) → Lawful w (performed o w)
performed_lawful None w = entering_lawful event.IllegalInstruction 0 w
performed_lawful (Some i) w = executed_lawful i w

fetched_lawful : (r : Result ℕ Event) (address : ℕ) (w : World) → Lawful w (fetched_by r address w)
fetched_lawful (Ok word) address w = performed_lawful (decode_of word) w
fetched_lawful (Err e) address w = entering_lawful e address w

-- the law reads no PC of the world before the step
from_advanced : (w : World) (o : Outcome StepAnswer) → Lawful (advanced w) o → Lawful w o
from_advanced w o l = record {
  entry = λ e h.
      let n = l.entry e h in
      record { registers = n.registers; ports = n.ports; waiting = n.waiting; tables = n.tables; halted = n.halted; marks = n.marks; bytes = n.bytes; scratch = n.scratch; entry_address = n.entry_address; stack_pointer = n.stack_pointer; status = n.status; pc = n.pc };
  register = l.register;
  bytes = l.bytes;
  marks = l.marks;
}

step_lawful : (w : World) → Lawful w (step_of w)
step_lawful w =
    cond_both (is_interrupted w.state) _ _ (Lawful w) (λ _. entering_lawful event.Interrupt 0 w)
    (λ _. from_advanced w _
    (fetched_lawful (fetched (is_user w.state.system.status) w.state.tables.instruction.entries w.marks w.bytes w.state.pc) w.state.pc (advanced w)))

entered_same : (r : StepAnswer) (e : Event) → ◌≡◌ {A = Result StepAnswer Refusal} (Ok r) (Ok (answer.Entered e)) → r ≡ answer.Entered e
entered_same r e h = cc

-- the law of a step that was made, and of one that was refused
pub stepped_law : (w w' : World) (r : StepAnswer) → outcome w' r ≡ step_of w → StepLaw w w' (Ok r)
stepped_law w w' r p =
    let l = subst (λ (o : Outcome StepAnswer). Lawful w o) (sym p) (step_lawful w) in
    record { entry = λ e h. l.entry e (entered_same r e h); register = l.register; bytes = l.bytes; marks = l.marks }

pub refused_law : (w : World) (f : Refusal) → StepLaw w w (Err f)
refused_law w f =
    record { entry = λ e h. absurd cc; register = none_changed w.state.registers; bytes = same_bytes _ _ _ _; marks = refl }
