-- Two machines in user mode that agree, with the same changes of what the user may change.
use Rattle.std.proofs.Common.{◌≡◌, ℕ, ◌%◌, ◌<◌, Bool, true, false, ltb, List, sym, refl, ap, ◌∙◌, subst, inl, inr, arith}
use Rattle.std.proofs.lemmas.Bool.{and_parts, eqb-true, ltb-true}
use Rattle.std.proofs.lemmas.Bool.Decides.{nat_tests}
use Rattle.state.specs.declared.Ports.{Ports}
use Rattle.state.specs.declared.SystemRegisters.{SystemRegisters}
use Rattle.machine.specs.Sound.{halt_sound, sound, system_sound, tables_sound}
use Rattle.state.specs.States.{with_pc, with_ports, with_registers, with_waiting}
use Rattle.state.specs.Status.{interrupts_on, is_user}
use Rattle.execution.specs.Worlds.{World, with_state}
use Rattle.isolation.specs.Share.{Agree}
use Rattle.isolation.specs.Law.{Kept}
use Rattle.isolation.proofs.Translation.{Shown}

-- a machine in user mode runs, and its status word has two bits
pub record Running (w : World) : Type 0 where
  pub user : is_user w.state.system.status ≡ true
  pub going : w.state.halted ≡ false
  pub small : w.state.system.status < 4

unhalted : (h : Bool) (status : ℕ) → halt_sound h status ≡ true → is_user status ≡ true → h ≡ false
unhalted true status s u = let e = eqb-true (status % 2) 1 s in let f = eqb-true (status % 2) 0 u in absurd (omega arith)
unhalted false status s u = refl

pub sound_running : (w : World) → sound w.state ≡ true → is_user w.state.system.status ≡ true → Running w
sound_running w s u =
    let p = and_parts (system_sound w.state.system) _ s in
    let q = and_parts (ltb w.state.system.saved_status 4) _ p.0 in
    let r = and_parts (ltb w.state.system.status 4) _ q.1 in
    let t = and_parts (tables_sound w.state.tables) _ p.1 in
    record { user = u; going = unhalted w.state.halted w.state.system.status t.1 u; small = ltb-true _ _ r.0 }

-- the status words of two that agree are equal
same_status : (s t : ℕ) → s < 4 → t < 4 → is_user s ≡ is_user t → interrupts_on s ≡ interrupts_on t → s ≡ t
same_status s t h k u i = grind (arith, nat_tests)

pub status_alike : (a b : World) → Running a → Running b → Agree a b → a.state.system.status ≡ b.state.system.status
status_alike a b u v g = same_status a.state.system.status b.state.system.status u.small v.small g.but_pc.mode g.but_pc.interrupts

-- what each table shows is the same
pub fetches_shown : (a b : World) → Agree a b → Shown a.state.tables.instruction.entries b.state.tables.instruction.entries a.marks b.marks a.bytes b.bytes
fetches_shown a b g = record { pages = g.but_pc.fetches; marks = λ f h. g.but_pc.marks f (inl h); bytes = λ k h. g.but_pc.bytes k (inl h) }

pub accesses_shown : (a b : World) → Agree a b → Shown a.state.tables.«data».entries b.state.tables.«data».entries a.marks b.marks a.bytes b.bytes
accesses_shown a b g = record { pages = g.but_pc.accesses; marks = λ f h. g.but_pc.marks f (inr h); bytes = λ k h. g.but_pc.bytes k (inr h) }

-- a state with other registers, another PC, other ports and other marks of lines
abbrev pub changed : List ℕ → ℕ → Ports → List Bool → World → World
changed r c o x w = with_state (with_registers r (with_pc c (with_ports o (with_waiting x w.state)))) w

pub changed_agree : (a b : World) → Agree a b → (r r' : List ℕ) (c c' : ℕ) (o o' : Ports) (x x' : List Bool) → r ≡ r' → c ≡ c' → o ≡ o' → x ≡ x' → Agree (changed r c o x a) (changed r' c' o' x' b)
changed_agree a b g r r' c c' o o' x x' p q s t =
    record {
      but_pc = record {
        registers = p;
        mode = g.but_pc.mode;
        interrupts = g.but_pc.interrupts;
        waiting = t;
        ports = s;
        fetches = g.but_pc.fetches;
        accesses = g.but_pc.accesses;
        marks = g.but_pc.marks;
        bytes = g.but_pc.bytes;
      };
      pc = q;
    }

-- what a user program leaves as it was, before any entry
pub record Stands (w v : World) : Type 0 where
  pub system : v.state.system ≡ w.state.system
  pub kept : Kept w v

pub changed_stands : (w : World) (r : List ℕ) (c : ℕ) (o : Ports) (x : List Bool) → Stands w (changed r c o x w)
changed_stands w r c o x = record { system = refl; kept = record { tables = refl; halted = refl; marks = refl; bytes = λ _ _. refl } }

pub same_stands : (w : World) → Stands w w
same_stands w = record { system = refl; kept = record { tables = refl; halted = refl; marks = refl; bytes = λ _ _. refl } }

pub stands_running : (w v : World) → Running w → Stands w v → Running v
stands_running w v u s =
    let e = ap (λ (y : SystemRegisters). y.status) s.system in
    record { user = ap is_user e ∙ u.user; going = s.kept.halted ∙ u.going; small = subst (λ (n : ℕ). n < 4) (sym e) u.small }
