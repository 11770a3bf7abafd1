-- What two machines that agree come to, by an entry or without one, and one such stretch after another.
use Rattle.std.proofs.Common.{◌≡◌, ℕ, ◌/◌, Bool, true, false, sym, refl, ap, ◌∙◌, subst}
use Rattle.std.proofs.lemmas.Bool.{true≢false}
use Rattle.translation.specs.declared.event.Event.{Event}
use Rattle.state.specs.declared.SystemRegisters.{SystemRegisters}
use Rattle.state.specs.declared.Tables.{Tables}
use Rattle.state.specs.Status.{is_user}
use Rattle.state.specs.Entries.{entered}
use Rattle.execution.specs.Worlds.{Outcome, World, with_state}
use Rattle.machine.proofs.Leaving.{only_entered}
use Rattle.isolation.specs.Share.{Agree, AgreeButPc, OpenForWriting}
use Rattle.isolation.specs.Law.{Alike, HaveEntered, Kept, StillUser}
use Rattle.isolation.proofs.Agreeing.{Running, Stands}

-- where they are, by whether they have entered the system
abbrev pub Came : Bool → World → World → World → World → Type 0
Came false a b a' b' = StillUser a b a' b'
Came true a b a' b' = HaveEntered a b a' b'

pub record Both (t : Bool) (a b a' b' : World) : Type 0 where
  pub came : Came t a b a' b'
  pub ours : Kept a a'
  pub theirs : Kept b b'

pub ran_both : (a b a' b' : World) → Agree a' b' → Stands a a' → Stands b b' → Both false a b a' b'
ran_both a b a' b' g s t =
    record { came = record { agree = g; our_system = s.system; their_system = t.system }; ours = s.kept; theirs = t.kept }

-- an entry, of one machine
abbrev pub entered_by : Event → ℕ → World → World
entered_by e detail w = with_state (entered e detail w.state) w

-- and of two
entered_agree : (p q : World) (e : Event) (d d' : ℕ) → Agree p q → AgreeButPc (entered_by e d p) (entered_by e d' q)
entered_agree p q e d d' g = record {
  registers = g.but_pc.registers;
  mode = refl;
  interrupts = refl;
  waiting = g.but_pc.waiting;
  ports = g.but_pc.ports;
  fetches = g.but_pc.fetches;
  accesses = g.but_pc.accesses;
  marks = g.but_pc.marks;
  bytes = g.but_pc.bytes;
}

entered_kept : (w p : World) (e : Event) (d : ℕ) → Kept w p → Kept w (entered_by e d p)
entered_kept w p e d k = record { tables = k.tables; halted = k.halted; marks = k.marks; bytes = k.bytes }

pub entering_both : (a b p q : World) (e : Event) (d d' : ℕ) → p.state.system.status ≡ q.state.system.status → Agree p q → Stands a p → Stands b q → d ≡ d' → Both true a b (entered_by e d p) (entered_by e d' q)
entering_both a b p q e d d' status g s t same =
    record {
      came = record {
        our_last = p;
        their_last = q;
        agreed = g;
        our_system = s.system;
        their_system = t.system;
        our_entry = only_entered e d p;
        their_entry = only_entered e d' q;
        saved_status = status;
        return_address = g.pc;
        event = refl;
        detail = same;
        agree = entered_agree p q e d d' g;
      };
      ours = entered_kept a p e d s.kept;
      theirs = entered_kept b q e d' t.kept;
    }

-- what was kept in a row was kept
pub kept_after : (w p v : World) → Kept w p → Kept p v → Kept w v
kept_after w p v k l =
    record {
      tables = l.tables ∙ k.tables;
      halted = l.halted ∙ k.halted;
      marks = l.marks ∙ k.marks;
      bytes = λ x shut. l.bytes x (λ h. shut (subst (λ (t : Tables). OpenForWriting t (x / 1024)) k.tables h)) ∙ k.bytes x shut;
    }

came_after : (t : Bool) (a b p q a' b' : World) → StillUser a b p q → Came t p q a' b' → Came t a b a' b'
came_after false a b p q a' b' s c =
    record { agree = c.agree; our_system = c.our_system ∙ s.our_system; their_system = c.their_system ∙ s.their_system }
came_after true a b p q a' b' s c =
    record {
      our_last = c.our_last;
      their_last = c.their_last;
      agreed = c.agreed;
      our_system = c.our_system ∙ s.our_system;
      their_system = c.their_system ∙ s.their_system;
      our_entry = c.our_entry;
      their_entry = c.their_entry;
      saved_status = c.saved_status;
      return_address = c.return_address;
      event = c.event;
      detail = c.detail;
      agree = c.agree;
    }

pub both_after : (t : Bool) (a b p q a' b' : World) → Both false a b p q → Both t p q a' b' → Both t a b a' b'
both_after t a b p q a' b' x y =
    record {
      came = came_after t a b p q a' b' x.came y.came;
      ours = kept_after a p a' x.ours y.ours;
      theirs = kept_after b q b' x.theirs y.theirs;
    }

-- two outcomes answer the same and come to the same, by whether the answer tells of an entry
pub record Paired {T : Type 0} (entry : T → Bool) (a b : World) (x y : Outcome T) : Type 0 where
  pub answer : x.answer ≡ y.answer
  pub both : Both (entry x.answer) a b x.after y.after

pub paired_after : {T : Type 0} (entry : T → Bool) (a b p q : World) (x y : Outcome T) → Both false a b p q → Paired entry p q x y → Paired entry a b x y
paired_after entry a b p q x y first later =
    record { answer = later.answer; both = both_after (entry x.answer) a b p q x.after y.after first later.both }

-- two machines that are still in user mode run on
pub still_ours : (a b p q : World) → Both false a b p q → Stands a p
still_ours a b p q x = record { system = x.came.our_system; kept = x.ours }

pub still_theirs : (a b p q : World) → Both false a b p q → Stands b q
still_theirs a b p q x = record { system = x.came.their_system; kept = x.theirs }

-- the mode at the end tells whether they have entered the system
user_status : (s t : SystemRegisters) → s ≡ t → is_user t.status ≡ true → is_user s.status ≡ true
user_status s t e u = ap (λ (y : SystemRegisters). is_user y.status) e ∙ u

pub both_alike : {T : Type 0} (t : Bool) (a b a' b' : World) (r q : T) → Running a → Running b → r ≡ q → Both t a b a' b' → Alike a b a' b' r q
both_alike false a b a' b' r q u v e x =
    let ours : is_user a'.state.system.status ≡ true = user_status _ _ x.came.our_system u.user in
    let theirs : is_user b'.state.system.status ≡ true = user_status _ _ x.came.their_system v.user in
    record {
      answers = e;
      modes = ours ∙ sym theirs;
      user = λ _. x.came;
      entered = λ h. absurd (true≢false (sym ours ∙ h));
      our_kept = x.ours;
      their_kept = x.theirs;
    }
both_alike true a b a' b' r q u v e x =
    let ours : is_user a'.state.system.status ≡ false = ap is_user x.came.our_entry.status in
    let theirs : is_user b'.state.system.status ≡ false = ap is_user x.came.their_entry.status in
    record {
      answers = e;
      modes = ours ∙ sym theirs;
      user = λ h. absurd (true≢false (sym h ∙ ours));
      entered = λ _. x.came;
      our_kept = x.ours;
      their_kept = x.theirs;
    }
