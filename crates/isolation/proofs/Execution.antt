-- One instruction, of two machines in user mode that agree.
use Rattle.std.proofs.Common.{◌≡◌, ℕ, Bool, true, false, not, eqb, List, get_or, set, Some, None, Ok, Err, Option, Result, sym, refl, ap, ◌∙◌, subst}
use Rattle.std.proofs.lemmas.Bool.{false≢true}
use Rattle.arithmetic.specs.Values.{value_of}
use Rattle.arithmetic.specs.Words.{complement_of, high_byte_set, signed_added, words_added}
use Rattle.instruction.specs.declared.Instruction.{Instruction}
use Rattle.instruction.specs.declared.Instruction.TheVariants as instruction
use Rattle.instruction.specs.declared.Privileged.{Privileged}
use Rattle.instruction.specs.declared.Register.{Register}
use Rattle.instruction.specs.Fields.{register_number}
use Rattle.translation.specs.declared.address.Width.{Width}
use Rattle.translation.specs.declared.address.Width.TheVariants.{Byte, Word}
use Rattle.translation.specs.declared.event.Event.{Event}
use Rattle.translation.specs.declared.event.Event.TheVariants as event
use Rattle.access.specs.Accesses.{loaded, store_answer, stored}
use Rattle.answers.specs.declared.StepAnswer.{StepAnswer}
use Rattle.answers.specs.declared.StepAnswer.TheVariants as answer
use Rattle.answers.specs.Answers.{step_entry}
use Rattle.state.specs.declared.Ports.{Ports}
use Rattle.state.specs.declared.SystemRegisters.{SystemRegisters}
use Rattle.execution.specs.Execution.{executed, extended, loaded_by, loaded_into, privileged_by, store_answered_by, stored_from}
use Rattle.state.specs.Registers.{jumped_if}
use Rattle.state.specs.States.{register_at, register_set}
use Rattle.state.specs.Status.{is_user}
use Rattle.machine.specs.Steps.{concluded, entering, performed}
use Rattle.execution.specs.Worlds.{Outcome, World, outcome, with_state, world}
use Rattle.machine.proofs.Soundness.{resolved}
use Rattle.calls.specs.Calls.{is_event}
use Rattle.isolation.specs.Share.{Agree}
use Rattle.isolation.proofs.Translation.{loaded_alike, store_answer_alike, stored_alike, stored_kept}
use Rattle.isolation.proofs.Agreeing.{Running, Stands, accesses_shown, changed, changed_agree, changed_stands, same_stands, status_alike}
use Rattle.isolation.proofs.Entering.{Paired, entering_both, ran_both}

-- two steps, or what is left of them, answer the same and come to the same
abbrev pub is_entry : StepAnswer → Bool
is_entry r = is_event (step_entry r)

abbrev pub StepPaired : World → World → Outcome StepAnswer → Outcome StepAnswer → Type 0
StepPaired a b x y = Paired is_entry a b x y

-- what is the same in user mode is the same for two machines that are in it
pub in_user : {T : Type 0} (f g : Bool → T) (s t : Bool) → s ≡ true → t ≡ true → f true ≡ g true → f s ≡ g t
in_user f g s t h k e = ap f h ∙ e ∙ sym (ap g k)

-- a load of one machine, and a store
abbrev loaded_for : World → Width → ℕ → Result ℕ Event
loaded_for w width x = loaded (is_user w.state.system.status) w.state.tables.«data».entries w.marks w.bytes width x

abbrev store_answered : World → Width → ℕ → Result (Unit {0}) Event
store_answered w width x = store_answer (is_user w.state.system.status) w.state.tables.«data».entries w.marks width x

abbrev stored_bytes : World → Width → ℕ → ℕ → ℕ → ℕ
stored_bytes w width x n = stored (is_user w.state.system.status) w.state.tables.«data».entries w.marks w.bytes width x n

abbrev store_left : World → Register → Width → ℕ → World
store_left w r width x = world w.state w.marks (stored_bytes w width x (register_at r w.state.registers))

store_stands : (w : World) → Running w → (r : Register) (width : Width) (x : ℕ) → Stands w (store_left w r width x)
store_stands w u r width x =
    let n = register_at r w.state.registers in
    record {
      system = refl;
      kept = record {
        tables = refl;
        halted = refl;
        marks = refl;
        bytes = λ k shut.
            ap (λ (z : Bool). stored z w.state.tables.«data».entries w.marks w.bytes width x n k) u.user
            ∙ stored_kept w.state.tables w.marks w.bytes width x n k shut;
      };
    }

-- the ports with a word put out
abbrev given : Ports → ℕ → ℕ → Ports
given o word number = record { inputs = o.inputs; outputs = set o.outputs number word }

module _ (a b : World) (u : Running a) (v : Running b) (g : Agree a b) where
  -- an event is raised
  pub entering_paired : (p q : World) (e : Event) (d d' : ℕ) → Agree p q → Stands a p → Stands b q → d ≡ d' → StepPaired a b (entering e d p) (entering e d' q)
  entering_paired p q e d d' h s t same =
      let status = ap (λ (y : SystemRegisters). y.status) s.system ∙ status_alike a b u v g ∙ sym (ap (λ (y : SystemRegisters). y.status) t.system) in
      record { answer = refl; both = entering_both a b p q e d d' status h s t same }

  raised_paired : (e : Event) (d d' : ℕ) → d ≡ d' → StepPaired a b (entering e d a) (entering e d' b)
  raised_paired e d d' same = entering_paired a b e d d' g (same_stands a) (same_stands b) same

  -- registers, PC and ports change alike
  changed_paired : (r r' : List ℕ) (c c' : ℕ) (o o' : Ports) → r ≡ r' → c ≡ c' → o ≡ o' → StepPaired a b (outcome (changed r c o a.state.waiting a) answer.Ran) (outcome (changed r' c' o' b.state.waiting b) answer.Ran)
  changed_paired r r' c c' o o' p q s =
      record {
        answer = refl;
        both =
            ran_both a b _ _
            (changed_agree a b g r r' c c' o o' a.state.waiting b.state.waiting p q s g.but_pc.waiting)
            (changed_stands a r c o a.state.waiting)
            (changed_stands b r' c' o' b.state.waiting);
      }

  at_alike : (r : Register) → register_at r a.state.registers ≡ register_at r b.state.registers
  at_alike r = ap (λ (l : List ℕ). register_at r l) g.but_pc.registers

  set_alike : (d : Register) (x y : ℕ) → x ≡ y → set a.state.registers (register_number d) x ≡ set b.state.registers (register_number d) y
  set_alike d x y e = ap (λ (l : List ℕ). set l (register_number d) x) g.but_pc.registers ∙ ap (λ (k : ℕ). set b.state.registers (register_number d) k) e

  register_paired : (d : Register) (x y : ℕ) → x ≡ y → StepPaired a b (outcome (with_state (register_set d x a.state) a) answer.Ran) (outcome (with_state (register_set d y b.state) b) answer.Ran)
  register_paired d x y e =
      changed_paired (set a.state.registers (register_number d) x) (set b.state.registers (register_number d) y) a.state.pc b.state.pc a.state.ports b.state.ports
      (set_alike d x y e) g.pc g.but_pc.ports

  jumped_paired : (s t : Bool) (to to' : ℕ) → s ≡ t → to ≡ to' → StepPaired a b (outcome (with_state (jumped_if s to a.state) a) answer.Ran) (outcome (with_state (jumped_if t to' b.state) b) answer.Ran)
  jumped_paired s t to to' e f =
      subst (λ (z : Bool). StepPaired a b (outcome (with_state (jumped_if s to a.state) a) answer.Ran) (outcome (with_state (jumped_if z to' b.state) b) answer.Ran)) e (go s)
    where
      go : (z : Bool) → StepPaired a b (outcome (with_state (jumped_if z to a.state) a) answer.Ran) (outcome (with_state (jumped_if z to' b.state) b) answer.Ran)
      go true = changed_paired a.state.registers b.state.registers to to' a.state.ports b.state.ports g.but_pc.registers f g.but_pc.ports
      go false = changed_paired a.state.registers b.state.registers a.state.pc b.state.pc a.state.ports b.state.ports g.but_pc.registers g.pc g.but_pc.ports

  -- loads
  loaded_paired : (r : Result ℕ Event) (d : Register) (width : Width) (x : ℕ) → StepPaired a b (resolved (loaded_by r d width x a)) (resolved (loaded_by r d width x b))
  loaded_paired (Ok n) d width x = register_paired d (extended width n) (extended width n) refl
  loaded_paired (Err e) d width x = raised_paired e x x refl

  load_paired : (d : Register) (width : Width) (x y : ℕ) → x ≡ y → StepPaired a b (resolved (loaded_into d width x a)) (resolved (loaded_into d width y b))
  load_paired d width x y e =
      subst (λ (k : ℕ). StepPaired a b (resolved (loaded_into d width x a)) (resolved (loaded_into d width k b))) e
      (subst (λ (r : Result ℕ Event). StepPaired a b (resolved (loaded_into d width x a)) (resolved (loaded_by r d width x b))) same (loaded_paired (loaded_for a width x) d width x))
    where
      same : loaded_for a width x ≡ loaded_for b width x
      same =
          in_user (λ (z : Bool). loaded z a.state.tables.«data».entries a.marks a.bytes width x) (λ (z : Bool). loaded z b.state.tables.«data».entries b.marks b.bytes width x) _ _ u.user v.user
          (loaded_alike _ _ _ _ _ _ (accesses_shown a b g) width x)

  -- stores
  stored_paired : (r : Result (Unit {0}) Event) (x : ℕ) (p q : World) → Agree p q → Stands a p → Stands b q → StepPaired a b (concluded (store_answered_by r x) p) (concluded (store_answered_by r x) q)
  stored_paired (Ok _) x p q h s t = record { answer = refl; both = ran_both a b p q h s t }
  stored_paired (Err e) x p q h s t = entering_paired p q e x x h s t refl

  store_paired : (r : Register) (width : Width) (x y : ℕ) → x ≡ y → StepPaired a b (resolved (stored_from r width x a)) (resolved (stored_from r width y b))
  store_paired r width x y e =
      subst (λ (k : ℕ). StepPaired a b (resolved (stored_from r width x a)) (resolved (stored_from r width k b))) e
      (subst (λ (z : Result (Unit {0}) Event). StepPaired a b (resolved (stored_from r width x a)) (concluded (store_answered_by z x) (store_left b r width x))) answers
      (stored_paired (store_answered a width x) x (store_left a r width x) (store_left b r width x) agreed (store_stands a u r width x) (store_stands b v r width x)))
    where
      answers : store_answered a width x ≡ store_answered b width x
      answers =
          in_user (λ (z : Bool). store_answer z a.state.tables.«data».entries a.marks width x) (λ (z : Bool). store_answer z b.state.tables.«data».entries b.marks width x) _ _ u.user v.user
          (store_answer_alike _ _ _ _ _ _ (accesses_shown a b g) width x)

      bytes_alike : (n : ℕ) (k : ℕ) → a.bytes k ≡ b.bytes k → stored_bytes a width x n k ≡ stored_bytes b width x n k
      bytes_alike n k h =
          in_user (λ (z : Bool). stored z a.state.tables.«data».entries a.marks a.bytes width x n k) (λ (z : Bool). stored z b.state.tables.«data».entries b.marks b.bytes width x n k) _ _ u.user v.user
          (stored_alike _ _ _ _ _ _ (accesses_shown a b g) width x n k h)

      agreed : Agree (store_left a r width x) (store_left b r width x)
      agreed = record {
        but_pc = record {
          registers = g.but_pc.registers;
          mode = g.but_pc.mode;
          interrupts = g.but_pc.interrupts;
          waiting = g.but_pc.waiting;
          ports = g.but_pc.ports;
          fetches = g.but_pc.fetches;
          accesses = g.but_pc.accesses;
          marks = g.but_pc.marks;
          bytes = λ k named. bytes_alike (register_at r a.state.registers) k (g.but_pc.bytes k named) ∙ ap (λ (n : ℕ). stored_bytes b width x n k) (at_alike r);
        };
        pc = g.pc;
      }

  -- privileged instructions
  privileged_paired : (p : Privileged) (s t : Bool) → s ≡ true → t ≡ true → StepPaired a b (resolved (privileged_by s p a)) (resolved (privileged_by t p b))
  privileged_paired p true true h k = raised_paired event.Privileged 0 0 refl
  privileged_paired p true false h k = absurd (false≢true k)
  privileged_paired p false true h k = absurd (false≢true h)
  privileged_paired p false false h k = absurd (false≢true h)

  -- every instruction
  executed_paired : (i : Instruction) → StepPaired a b (resolved (executed i a)) (resolved (executed i b))
  executed_paired (instruction.Operate o d x y) =
      register_paired d _ _ (ap (λ (l : List ℕ). value_of o (register_at x l) (register_at y l)) g.but_pc.registers)
  executed_paired (instruction.Complement d x) = register_paired d _ _ (ap complement_of (at_alike x))
  executed_paired (instruction.AddImmediate d x n) = register_paired d _ _ (ap (λ (k : ℕ). signed_added k n) (at_alike x))
  executed_paired (instruction.JumpIfZero y x) = jumped_paired _ _ _ _ (ap (λ (k : ℕ). eqb k 0) (at_alike y)) (at_alike x)
  executed_paired (instruction.JumpIfNotZero y x) = jumped_paired _ _ _ _ (ap (λ (k : ℕ). not (eqb k 0)) (at_alike y)) (at_alike x)
  executed_paired (instruction.Jump x) = jumped_paired true true _ _ refl (at_alike x)
  executed_paired (instruction.JumpAndLink y x) =
      changed_paired (set a.state.registers (register_number y) a.state.pc) (set b.state.registers (register_number y) b.state.pc) _ _ a.state.ports b.state.ports
      (set_alike y a.state.pc b.state.pc g.pc) (at_alike x) g.but_pc.ports
  executed_paired (instruction.CallSystem x) = raised_paired event.SystemCall _ _ (at_alike x)
  executed_paired (instruction.LoadWord d x n) = load_paired d Word _ _ (ap (λ (k : ℕ). words_added k n) (at_alike x))
  executed_paired (instruction.LoadByte d x n) = load_paired d Byte _ _ (ap (λ (k : ℕ). signed_added k n) (at_alike x))
  executed_paired (instruction.StoreWord y x n) = store_paired y Word _ _ (ap (λ (k : ℕ). words_added k n) (at_alike x))
  executed_paired (instruction.StoreByte y x n) = store_paired y Byte _ _ (ap (λ (k : ℕ). signed_added k n) (at_alike x))
  executed_paired (instruction.MoveImmediate d n) = register_paired d _ _ refl
  executed_paired (instruction.MoveHigh d n) = register_paired d _ _ (ap (λ (k : ℕ). high_byte_set k n) (at_alike d))
  executed_paired (instruction.BranchIfZero y n) =
      jumped_paired _ _ _ _ (ap (λ (k : ℕ). eqb k 0) (at_alike y)) (ap (λ (k : ℕ). words_added k n) g.pc)
  executed_paired (instruction.BranchIfNotZero y n) =
      jumped_paired _ _ _ _ (ap (λ (k : ℕ). not (eqb k 0)) (at_alike y)) (ap (λ (k : ℕ). words_added k n) g.pc)
  executed_paired (instruction.Input d port) = register_paired d _ _ (ap (λ (o : Ports). get_or o.inputs port.number 0) g.but_pc.ports)
  executed_paired (instruction.Output y port) =
      changed_paired a.state.registers b.state.registers a.state.pc b.state.pc _ _ g.but_pc.registers g.pc
      (ap (λ (o : Ports). given o (register_at y a.state.registers) port.number) g.but_pc.ports ∙ ap (λ (k : ℕ). given b.state.ports k port.number) (at_alike y))
  executed_paired (instruction.Privileged p) = privileged_paired p _ _ u.user v.user

  pub performed_paired : (o : Option Instruction) → StepPaired a b (performed o a) (performed o b)
  performed_paired None = raised_paired event.IllegalInstruction 0 0 refl
  performed_paired (Some i) = executed_paired i
