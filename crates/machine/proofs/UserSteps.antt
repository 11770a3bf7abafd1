-- A step in user mode enters the system, or runs and stays in user mode. It never halts.
use Rattle.std.proofs.Common.{◌≡◌, ℕ, Bool, true, false, not, eqb, Some, None, Ok, Err, Option, Result, sym, subst}
use Rattle.std.proofs.lemmas.Bool.{cond_both}
use Rattle.arithmetic.specs.Words.{signed_added, words_added}
use Rattle.instruction.specs.declared.Instruction.{Instruction}
use Rattle.instruction.specs.declared.Instruction.TheVariants as instruction
use Rattle.instruction.specs.declared.Privileged.{Privileged}
use Rattle.instruction.specs.declared.Register.{Register}
use Rattle.instruction.specs.Decode.{decode_of}
use Rattle.translation.specs.declared.address.Width.{Width}
use Rattle.translation.specs.declared.address.Width.TheVariants.{Byte, Word}
use Rattle.translation.specs.declared.event.Event.{Event}
use Rattle.access.specs.Accesses.{fetched, loaded, store_answer}
use Rattle.answers.specs.declared.StepAnswer.{StepAnswer}
use Rattle.answers.specs.declared.StepAnswer.TheVariants as answer
use Rattle.state.specs.declared.State.{State}
use Rattle.execution.specs.Worlds.{Outcome, World, outcome}
use Rattle.state.specs.States.{register_at}
use Rattle.state.specs.Registers.{jumped_if}
use Rattle.state.specs.Status.{is_user}
use Rattle.state.specs.Waiting.{is_interrupted}
use Rattle.execution.specs.Execution.{executed, loaded_by, privileged_by, store_answered_by, stored_from}
use Rattle.machine.specs.Steps.{advanced, concluded, fetched_by, performed, step_of}
use Rattle.machine.proofs.Soundness.{resolved}

abbrev InUserMode : State → Type 0
InUserMode s = is_user s.system.status ≡ true

-- what a step in user mode leaves
abbrev pub StaysUser : StepAnswer → State → Type 0
StaysUser answer.Ran s = InUserMode s
StaysUser answer.Halted s = ⊥
StaysUser (answer.Entered e) s = Unit {0}

abbrev StaysAfter : Outcome StepAnswer → Type 0
StaysAfter o = StaysUser o.answer o.after.state

jumped_user : (b : Bool) (to : ℕ) (s : State) → InUserMode s → InUserMode (jumped_if b to s)
jumped_user true to s u = u
jumped_user false to s u = u

loaded_user : (r : Result ℕ Event) (d : Register) (width : Width) (address : ℕ) (w : World) → InUserMode w.state → StaysAfter (resolved (loaded_by r d width address w))
loaded_user (Ok v) d width address w u = u
loaded_user (Err e) d width address w u = tt

load_user : (d : Register) (width : Width) (address : ℕ) (w : World) → InUserMode w.state
    → StaysAfter (resolved (loaded_by (loaded (is_user w.state.system.status) w.state.tables.«data».entries w.marks w.bytes width address) d width address w))
load_user d width address w u = loaded_user (loaded (is_user w.state.system.status) w.state.tables.«data».entries w.marks w.bytes width address) d width address w u

stored_user : (r : Result (Unit {0}) Event) (address : ℕ) (w : World) → InUserMode w.state → StaysAfter (concluded (store_answered_by r address) w)
stored_user (Ok v) address w u = u
stored_user (Err e) address w u = tt

store_user : (b : Register) (width : Width) (address : ℕ) (w : World) → InUserMode w.state → StaysAfter (resolved (stored_from b width address w))
store_user b width address w u =
    stored_user (store_answer (is_user w.state.system.status) w.state.tables.«data».entries w.marks width address) address (stored_from b width address w).after u

privileged_user : (p : Privileged) (w : World) → InUserMode w.state → StaysAfter (resolved (privileged_by (is_user w.state.system.status) p w))
privileged_user p w u = subst (λ (b : Bool). StaysAfter (resolved (privileged_by b p w))) (sym u) tt

executed_user : (i : Instruction) (w : World) → InUserMode w.state → StaysAfter (resolved (executed i w))
executed_user (instruction.Operate o d a b) w u = u
executed_user (instruction.Complement d a) w u = u
executed_user (instruction.AddImmediate d a n) w u = u
executed_user (instruction.JumpIfZero b a) w u = jumped_user (eqb (register_at b w.state.registers) 0) (register_at a w.state.registers) w.state u
executed_user (instruction.JumpIfNotZero b a) w u =
    jumped_user (not (eqb (register_at b w.state.registers) 0)) (register_at a w.state.registers) w.state u
executed_user (instruction.Jump a) w u = u
executed_user (instruction.JumpAndLink b a) w u = u
executed_user (instruction.CallSystem a) w u = tt
executed_user (instruction.LoadWord d a n) w u = load_user d Word (words_added (register_at a w.state.registers) n) w u
executed_user (instruction.LoadByte d a n) w u = load_user d Byte (signed_added (register_at a w.state.registers) n) w u
executed_user (instruction.StoreWord b a n) w u = store_user b Word (words_added (register_at a w.state.registers) n) w u
executed_user (instruction.StoreByte b a n) w u = store_user b Byte (signed_added (register_at a w.state.registers) n) w u
executed_user (instruction.MoveImmediate d n) w u = u
executed_user (instruction.MoveHigh d n) w u = u
executed_user (instruction.BranchIfZero b n) w u = jumped_user (eqb (register_at b w.state.registers) 0) (words_added w.state.pc n) w.state u
executed_user (instruction.BranchIfNotZero b n) w u =
    jumped_user (not (eqb (register_at b w.state.registers) 0)) (words_added w.state.pc n) w.state u
executed_user (instruction.Input d port) w u = u
executed_user (instruction.Output b port) w u = u
executed_user (instruction.Privileged p) w u = privileged_user p w u

performed_user : (o : Option Instruction) (w : World) → InUserMode w.state → StaysAfter (performed o w)
performed_user None w u = tt
performed_user (Some i) w u = executed_user i w u

fetched_user : (r : Result ℕ Event) (address : ℕ) (w : World) → InUserMode w.state → StaysAfter (fetched_by r address w)
fetched_user (Ok word) address w u = performed_user (decode_of word) w u
fetched_user (Err e) address w u = tt

pub step_user : (w : World) → InUserMode w.state → StaysUser (step_of w).answer (step_of w).after.state
step_user w u =
    cond_both (is_interrupted w.state) _ _ StaysAfter (λ _. tt)
    (λ _. fetched_user (fetched (is_user w.state.system.status) w.state.tables.instruction.entries w.marks w.bytes w.state.pc) w.state.pc (advanced w) u)

-- and so is what is known to be left by a step
pub stepped_user : (w w' : World) (r : StepAnswer) → outcome w' r ≡ step_of w → InUserMode w.state → StaysUser r w'.state
stepped_user w w' r e u = subst (λ (o : Outcome StepAnswer). StaysUser o.answer o.after.state) (sym e) (step_user w u)
