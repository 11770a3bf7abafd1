-- A step keeps the rules that no machine breaks.
use Rattle.std.proofs.Common.{◌≡◌, ℕ, zero, suc, ◌%◌, ◌<◌, Bool, true, false, not, eqb, ltb, List, [], ◌∷◌, map, get_or, set, Some, None, Ok, Err, Option, Result, sym, refl, ap, subst, arith}
use Rattle.std.proofs.lemmas.Bool.{and_from, cond_both, and_parts, eq-eqb, eqb-false, lt-ltb, ltb-true}
use Rattle.arithmetic.specs.Words.{signed_added, words_added}
use Rattle.instruction.specs.declared.EntryField.{EntryField}
use Rattle.instruction.specs.declared.EntryField.TheVariants.{Physical, Virtual}
use Rattle.instruction.specs.declared.Instruction.{Instruction}
use Rattle.instruction.specs.declared.Instruction.TheVariants as instruction
use Rattle.instruction.specs.declared.Privileged.{Privileged}
use Rattle.instruction.specs.declared.Privileged.TheVariants as privileged
use Rattle.instruction.specs.declared.Register.{Register}
use Rattle.instruction.specs.declared.SystemRegister.{SystemRegister}
use Rattle.instruction.specs.declared.SystemRegister.TheVariants as system
use Rattle.instruction.specs.declared.Table.{Table}
use Rattle.instruction.specs.declared.Table.TheVariants as table
use Rattle.instruction.specs.Decode.{decode_of}
use Rattle.translation.specs.declared.address.Width.{Width}
use Rattle.translation.specs.declared.address.Width.TheVariants.{Byte, Word}
use Rattle.translation.specs.declared.event.Event.{Event}
use Rattle.translation.specs.declared.event.Event.TheVariants as event
use Rattle.paging.specs.declared.PageEntry.{PageEntry}
use Rattle.paging.specs.declared.PageTable.{PageTable}
use Rattle.access.specs.Accesses.{fetched, loaded, store_answer}
use Rattle.translation.specs.Events.{code_of}
use Rattle.paging.specs.Tables.{blank_entry, entry_at, unused, virtual_of}
use Rattle.answers.specs.declared.StepAnswer.{StepAnswer}
use Rattle.answers.specs.declared.StepAnswer.TheVariants as answer
use Rattle.state.specs.declared.State.{State}
use Rattle.state.specs.declared.SystemRegisters.{SystemRegisters}
use Rattle.state.specs.declared.Tables.{Tables}
use Rattle.execution.specs.Worlds.{Outcome, World, outcome, with_state}
use Rattle.state.specs.States.{register_at}
use Rattle.state.specs.Registers.{jumped_if}
use Rattle.machine.specs.Sound.{entries_sound, entry_sound, halt_sound, sound, system_sound, tables_sound}
use Rattle.state.specs.Status.{disabled, enabled, is_user, system_set}
use Rattle.state.specs.TableWrites.{entry_set, field_set, flushed_if, tables_flushed}
use Rattle.state.specs.Waiting.{interrupt_given, is_interrupted, lowest_waiting}
use Rattle.state.specs.Control.{controlled, progress_of, status_put}
use Rattle.execution.specs.Execution.{Execution, executed, loaded_by, loaded_into, privileged_by, store_answered_by, stored_from}
use Rattle.machine.specs.Steps.{advanced, concluded, entering, fetched_by, performed, step_of}
use Rattle.state.specs.Entries.{entered}

-- a sound state that is not halted
abbrev pub Going : State → Type 0
Going s = (system_sound s.system ≡ true) × (tables_sound s.tables ≡ true) × (s.halted ≡ false)

-- the system registers' three bounds
pub record Bounded (s : SystemRegisters) : Type 0 where
  pub saved : s.saved_status < 4
  pub status : s.status < 4
  pub event : s.event < 16

bounded : (s : SystemRegisters) → system_sound s ≡ true → Bounded s
bounded s h =
    let a = and_parts (ltb s.saved_status 4) _ h in
    let b = and_parts (ltb s.status 4) _ a.1 in
    record { saved = ltb-true _ _ a.0; status = ltb-true _ _ b.0; event = ltb-true _ _ b.1 }

bounded_sound : (s : SystemRegisters) → Bounded s → system_sound s ≡ true
bounded_sound s b = and_from _ _ (lt-ltb _ _ b.saved) (and_from _ _ (lt-ltb _ _ b.status) (lt-ltb _ _ b.event))

made_sound : (s : State) → system_sound s.system ≡ true → tables_sound s.tables ≡ true → halt_sound s.halted s.system.status ≡ true → sound s ≡ true
made_sound s a b c = and_from _ _ a (and_from _ _ b c)

pub going_sound : (s : State) → Going s → sound s ≡ true
going_sound s g = made_sound s g.0 g.1 (ap (λ (b : Bool). halt_sound b s.system.status) g.2)

pub sound_going : (s : State) → sound s ≡ true → s.halted ≡ false → Going s
sound_going s h r =
    let a = and_parts (system_sound s.system) _ h in
    let b = and_parts (tables_sound s.tables) _ a.1 in
    (a.0, b.0, r)

-- an entry
code_small : (e : Event) → code_of e < 16
code_small event.IllegalInstruction = omega arith
code_small event.OddAddress = omega arith
code_small event.FrameAbsent = omega arith
code_small event.NoInstructionEntry = omega arith
code_small event.NoDataEntry = omega arith
code_small event.InstructionNotValid = omega arith
code_small event.DataNotValid = omega arith
code_small event.ProtectedInstruction = omega arith
code_small event.ProtectedData = omega arith
code_small event.ReadOnly = omega arith
code_small event.Privileged = omega arith
code_small event.SystemCall = omega arith
code_small event.Interrupt = omega arith

pub entered_going : (e : Event) (detail : ℕ) (s : State) → Going s → Going (entered e detail s)
entered_going e detail s g =
    (bounded_sound (entered e detail s).system (record { saved = (bounded s.system g.0).status; status = omega arith; event = code_small e }), g.1, g.2)

-- the tables
entries_set : (es : List PageEntry) (i : ℕ) (e : PageEntry) → entries_sound es ≡ true → entry_sound e ≡ true → entries_sound (set es i e) ≡ true
entries_set [] i e h k = refl
entries_set (x ∷ xs) zero e h k = and_from _ _ k (and_parts (entry_sound x) _ h).1
entries_set (x ∷ xs) (suc i) e h k =
    let p = and_parts (entry_sound x) (entries_sound xs) h in and_from _ _ p.0 (entries_set xs i e p.1 k)

entries_at : (es : List PageEntry) (i : ℕ) → entries_sound es ≡ true → entry_sound (entry_at es i) ≡ true
entries_at es i h = go es (i % 64) h
  where
    go : (xs : List PageEntry) (k : ℕ) → entries_sound xs ≡ true → entry_sound (get_or xs k blank_entry) ≡ true
    go [] k p = refl
    go (x ∷ xs) zero p = (and_parts (entry_sound x) _ p).0
    go (x ∷ xs) (suc k) p = go xs k (and_parts (entry_sound x) _ p).1

virtual_small : (word : ℕ) → ltb (virtual_of word).bits 128 ≡ true
virtual_small word = lt-ltb _ _ (omega arith)

field_sound : (f : EntryField) (index word : ℕ) (es : List PageEntry) → entries_sound es ≡ true → entries_sound (field_set f index word es) ≡ true
field_sound Physical index word es h = entries_set es (index % 64) _ h (entries_at es index h)
field_sound Virtual index word es h = entries_set es (index % 64) _ h (virtual_small word)

entry_set_sound : (t : Table) (f : EntryField) (index word : ℕ) (ts : Tables) → tables_sound ts ≡ true → tables_sound (entry_set t f index word ts) ≡ true
entry_set_sound table.Instruction f index word ts h =
    let p = and_parts (entries_sound ts.instruction.entries) _ h in and_from _ _ (field_sound f index word _ p.0) p.1
entry_set_sound table.Data f index word ts h =
    let p = and_parts (entries_sound ts.instruction.entries) _ h in and_from _ _ p.0 (field_sound f index word _ p.1)

unused_sound : (es : List PageEntry) → entries_sound (map unused es) ≡ true
unused_sound [] = refl
unused_sound (e ∷ es) = and_from _ _ (lt-ltb _ _ (omega arith)) (unused_sound es)

flushed_sound : (b : Bool) (t : PageTable) → entries_sound t.entries ≡ true → entries_sound (flushed_if b t).entries ≡ true
flushed_sound true t h = unused_sound t.entries
flushed_sound false t h = h

tables_flushed_sound : (word : ℕ) (ts : Tables) → tables_sound ts ≡ true → tables_sound (tables_flushed word ts) ≡ true
tables_flushed_sound word ts h =
    let p = and_parts (entries_sound ts.instruction.entries) _ h in
    and_from _ _ (flushed_sound _ ts.instruction p.0) (flushed_sound _ ts.«data» p.1)

-- the system registers
system_set_sound : (r : SystemRegister) (word : ℕ) (s : SystemRegisters) → system_sound s ≡ true → system_sound (system_set r word s) ≡ true
system_set_sound r word s h = bounded_sound (system_set r word s) (go r (bounded s h))
  where
    go : (q : SystemRegister) → Bounded s → Bounded (system_set q word s)
    go system.SavedStatus b = record { saved = omega arith; status = b.status; event = b.event }
    go system.ReturnAddress b = record { saved = b.saved; status = b.status; event = b.event }
    go system.Event b = record { saved = b.saved; status = b.status; event = omega arith }
    go system.Detail b = record { saved = b.saved; status = b.status; event = b.event }
    go system.Scratch b = record { saved = b.saved; status = b.status; event = b.event }
    go system.EntryAddress b = record { saved = b.saved; status = b.status; event = b.event }
    go system.StackPointer b = record { saved = b.saved; status = b.status; event = b.event }
    go system.Status b = record { saved = b.saved; status = omega arith; event = b.event }

-- what a step leaves: a machine that goes on, or a halted one that is sound
abbrev pub Good : StepAnswer → State → Type 0
Good answer.Ran s = Going s
Good answer.Halted s = sound s ≡ true
Good (answer.Entered e) s = Going s

abbrev GoodAfter : Outcome StepAnswer → Type 0
GoodAfter o = Good o.answer o.after.state

pub good_sound : (r : StepAnswer) (s : State) → Good r s → sound s ≡ true
good_sound answer.Ran s g = going_sound s g
good_sound answer.Halted s g = g
good_sound (answer.Entered e) s g = going_sound s g

pub good_going : (r : StepAnswer) (s : State) → Good r s → (r ≡ answer.Halted → ⊥) → Going s
good_going answer.Ran s g n = g
good_going answer.Halted s g n = absurd (n refl)
good_going (answer.Entered e) s g n = g

-- what an instruction comes to
abbrev pub resolved : Execution → Outcome StepAnswer
resolved x = concluded x.answer x.after

-- the privileged instructions
status_going : (s : State) (v : ℕ) → Going s → v < 4 → Going (status_put v s)
status_going s v g h =
    let b = bounded s.system g.0 in
    (bounded_sound (status_put v s).system (record { saved = b.saved; status = h; event = b.event }), g.1, g.2)

taken_going : (o : Option ℕ) (d : Register) (s : State) → Going s → Going (interrupt_given o d s)
taken_going None d s g = g
taken_going (Some line) d s g = g

odd : (n : ℕ) → is_user n ≡ false → eqb (n % 2) 1 ≡ true
odd n h = eq-eqb _ _ (let e = eqb-false (n % 2) 0 h in omega arith)

controlled_good : (p : Privileged) (w : World) → Going w.state → is_user w.state.system.status ≡ false
    → GoodAfter (concluded (Ok (progress_of p)) (with_state (controlled p w.state) w))
controlled_good privileged.EnableInterrupts w g u = status_going w.state (enabled w.state.system.status) g (omega arith)
controlled_good privileged.DisableInterrupts w g u = status_going w.state (disabled w.state.system.status) g (omega arith)
controlled_good privileged.ReturnFromEvent w g u =
    status_going w.state w.state.system.saved_status g (bounded w.state.system g.0).saved
controlled_good (privileged.GetInterrupt d) w g u = taken_going (lowest_waiting w.state.waiting) d w.state g
controlled_good (privileged.ReadSystem d r) w g u = g
controlled_good (privileged.WriteSystem r a) w g u = (system_set_sound r (register_at a w.state.registers) w.state.system g.0, g.1, g.2)
controlled_good (privileged.WriteEntry t f b a) w g u =
    (g.0, entry_set_sound t f (register_at a w.state.registers) (register_at b w.state.registers) w.state.tables g.1, g.2)
controlled_good (privileged.Flush a) w g u = (g.0, tables_flushed_sound (register_at a w.state.registers) w.state.tables g.1, g.2)
controlled_good privileged.Halt w g u =
    made_sound (controlled privileged.Halt w.state) g.0 g.1 (odd w.state.system.status u)

-- the instructions
entering_good : (e : Event) (detail : ℕ) (w : World) → Going w.state → GoodAfter (entering e detail w)
entering_good e detail w g = entered_going e detail w.state g

jumped_going : (b : Bool) (to : ℕ) (s : State) → Going s → Going (jumped_if b to s)
jumped_going true to s g = g
jumped_going false to s g = g

loaded_good : (r : Result ℕ Event) (d : Register) (width : Width) (address : ℕ) (w : World) → Going w.state → GoodAfter (resolved (loaded_by r d width address w))
loaded_good (Ok v) d width address w g = g
loaded_good (Err e) d width address w g = entering_good e address w g

stored_good : (r : Result (Unit {0}) Event) (address : ℕ) (w : World) → Going w.state → GoodAfter (concluded (store_answered_by r address) w)
stored_good (Ok u) address w g = g
stored_good (Err e) address w g = entering_good e address w g

privileged_good : (b : Bool) (p : Privileged) (w : World) → Going w.state → is_user w.state.system.status ≡ b → GoodAfter (resolved (privileged_by b p w))
privileged_good true p w g u = entering_good event.Privileged 0 w g
privileged_good false p w g u = controlled_good p w g u

load_good : (d : Register) (width : Width) (address : ℕ) (w : World) → Going w.state → GoodAfter (resolved (loaded_into d width address w))
load_good d width address w g =
    loaded_good (loaded (is_user w.state.system.status) w.state.tables.«data».entries w.marks w.bytes width address) d width address w g

store_good : (b : Register) (width : Width) (address : ℕ) (w : World) → Going w.state → GoodAfter (resolved (stored_from b width address w))
store_good b width address w g =
    stored_good (store_answer (is_user w.state.system.status) w.state.tables.«data».entries w.marks width address) address (stored_from b width address w).after g

executed_good : (i : Instruction) (w : World) → Going w.state → GoodAfter (resolved (executed i w))
executed_good (instruction.Operate o d a b) w g = g
executed_good (instruction.Complement d a) w g = g
executed_good (instruction.AddImmediate d a n) w g = g
executed_good (instruction.JumpIfZero b a) w g = jumped_going (eqb (register_at b w.state.registers) 0) (register_at a w.state.registers) w.state g
executed_good (instruction.JumpIfNotZero b a) w g =
    jumped_going (not (eqb (register_at b w.state.registers) 0)) (register_at a w.state.registers) w.state g
executed_good (instruction.Jump a) w g = g
executed_good (instruction.JumpAndLink b a) w g = g
executed_good (instruction.CallSystem a) w g = entering_good event.SystemCall (register_at a w.state.registers) w g
executed_good (instruction.LoadWord d a n) w g = load_good d Word (words_added (register_at a w.state.registers) n) w g
executed_good (instruction.LoadByte d a n) w g = load_good d Byte (signed_added (register_at a w.state.registers) n) w g
executed_good (instruction.StoreWord b a n) w g = store_good b Word (words_added (register_at a w.state.registers) n) w g
executed_good (instruction.StoreByte b a n) w g = store_good b Byte (signed_added (register_at a w.state.registers) n) w g
executed_good (instruction.MoveImmediate d n) w g = g
executed_good (instruction.MoveHigh d n) w g = g
executed_good (instruction.BranchIfZero b n) w g = jumped_going (eqb (register_at b w.state.registers) 0) (words_added w.state.pc n) w.state g
executed_good (instruction.BranchIfNotZero b n) w g =
    jumped_going (not (eqb (register_at b w.state.registers) 0)) (words_added w.state.pc n) w.state g
executed_good (instruction.Input d port) w g = g
executed_good (instruction.Output b port) w g = g
executed_good (instruction.Privileged p) w g = privileged_good (is_user w.state.system.status) p w g refl

performed_good : (o : Option Instruction) (w : World) → Going w.state → GoodAfter (performed o w)
performed_good None w g = entering_good event.IllegalInstruction 0 w g
performed_good (Some i) w g = executed_good i w g

fetched_good : (r : Result ℕ Event) (address : ℕ) (w : World) → Going w.state → GoodAfter (fetched_by r address w)
fetched_good (Ok word) address w g = performed_good (decode_of word) w g
fetched_good (Err e) address w g = entering_good e address w g

pub step_good : (w : World) → Going w.state → Good (step_of w).answer (step_of w).after.state
step_good w g =
    cond_both (is_interrupted w.state) _ _ GoodAfter (λ _. entering_good event.Interrupt 0 w g)
    (λ _. fetched_good (fetched (is_user w.state.system.status) w.state.tables.instruction.entries w.marks w.bytes w.state.pc) w.state.pc (advanced w) g)

-- and so is what is known to be left by a step
pub stepped_good : (w w' : World) (r : StepAnswer) → outcome w' r ≡ step_of w → Going w.state → Good r w'.state
stepped_good w w' r e g = subst (λ (o : Outcome StepAnswer). Good o.answer o.after.state) (sym e) (step_good w g)
