-- The isolation law, by induction over the list of calls.
use Rattle.std.proofs.Common.{◌≡◌, Bool, true, false, List, [], ◌∷◌, sym, refl, ap, ◌∙◌, subst}
use Rattle.std.proofs.lemmas.Bool.{false≢true}
use Rattle.execution.specs.Worlds.{World, outcome}
use Rattle.calls.specs.declared.Answer.{Answer}
use Rattle.calls.specs.declared.Call.{Call}
use Rattle.calls.specs.Calls.{call_of, enters}
use Rattle.calls.specs.Chains.{Chain, done, next, entry}
use Rattle.isolation.specs.Share.{Agree}
use Rattle.isolation.specs.Law.{Isolation}
use Rattle.isolation.proofs.Agreeing.{Running, same_stands, sound_running, stands_running}
use Rattle.isolation.proofs.Entering.{Both, Paired, both_after, both_alike, ran_both, still_ours, still_theirs}
use Rattle.isolation.proofs.Calling.{along, call_paired}

-- what two chains come to
record Ends (a b a' b' : World) (rs qs : List Answer) : Type 0 where
  entered : Bool
  answers : rs ≡ qs
  both : Both entered a b a' b'

-- one call, as a chain links it
linked : (c : Call) (a b v v' : World) (r r' : Answer) → Running a → Running b → Agree a b → call_of c a ≡ outcome v r → call_of c b ≡ outcome v' r' → Paired enters a b (outcome v r) (outcome v' r')
linked c a b v v' r r' u w g h k = along h k (call_paired a b u w g c)

known : (t : Bool) (a b v v' : World) (r r' : Answer) → Paired enters a b (outcome v r) (outcome v' r') → enters r ≡ t → Both t a b v v'
known t a b v v' r r' p h = subst (λ (z : Bool). Both z a b v v') h p.both

apart : {P : Type 0} (r r' : Answer) → r ≡ r' → enters r ≡ false → enters r' ≡ true → P
apart r r' e h k = absurd (false≢true (sym h ∙ ap enters e ∙ k))

chains : {cs : List Call} {a b a' b' : World} {rs qs : List Answer} → Running a → Running b → Agree a b → Chain cs a rs a' → Chain cs b qs b' → Ends a b a' b' rs qs
chains {a = a} {b = b} u w g done done =
    record { entered = false; answers = refl; both = ran_both a b a b g (same_stands a) (same_stands b) }
chains {a = a} {b = b} {a' = a'} {b' = b'} u w g (next {c = c} {v = v} {r = r} {rs = rs} h n rest) (next {v = v'} {r = r'} k m others) =
    let p = linked c a b v v' r r' u w g h k in
    let first = known false a b v v' r r' p n in
    let e = chains (stands_running a v u (still_ours a b v v' first)) (stands_running b v' w (still_theirs a b v v' first)) first.came.agree rest others in
    record {
      entered = e.entered;
      answers = ap (λ (x : Answer). x ∷ rs) p.answer ∙ ap (λ (xs : List Answer). r' ∷ xs) e.answers;
      both = both_after e.entered a b v v' a' b' first e.both;
    }
chains {a = a} {b = b} u w g (next {c = c} {v = v} {r = r} h n rest) (entry {v = v'} {r = r'} k m) =
    apart r r' (linked c a b v v' r r' u w g h k).answer n m
chains {a = a} {b = b} u w g (entry {c = c} {v = v} {r = r} h n) (next {v = v'} {r = r'} k m others) =
    apart r' r (sym (linked c a b v v' r r' u w g h k).answer) m n
chains {a = a} {b = b} u w g (entry {c = c} {v = v} {r = r} h n) (entry {v = v'} {r = r'} k m) =
    let p = linked c a b v v' r r' u w g h k in
    record { entered = true; answers = ap (λ (x : Answer). x ∷ []) p.answer; both = known true a b v v' r r' p n }

pub isolation : Isolation
isolation cs a b a' b' rs qs s t u v g ours theirs =
    let x = sound_running a s u in
    let y = sound_running b t v in
    let e = chains x y g ours theirs in
    both_alike e.entered a b a' b' rs qs x y e.answers e.both
