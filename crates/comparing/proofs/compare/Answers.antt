use Rattle.std.proofs.Common.{◌≡◌, ◌<◌, length, sym, ◌∙◌, arith}
use Rattle.std.proofs.lemmas.Bool.{ltb-false, ltb-true}
use Rattle.std.proofs.lemmas.List.{set-get_or}
use Rattle.comparing.specs.declared.exchange.Side.{Side}
use Rattle.comparing.specs.Sides.{LendsSame}
use Rattle.comparing.proofs.Telling.{isolated}
use Rattle.comparing.proofs.Turns.{ends, goes_on, over}
use Rattle.comparing.proofs.compare.Goals.{else-loop-made-test, then-loop-made-test+in_default}
use Rattle.comparing.proofs.compare.Goals as goal

-- a side that lends the same over one call and over the next lends the same over both
same : {Mem : Type 0} {s t u : Side Mem} → LendsSame s t → LendsSame t u → LendsSame s u
same p q = record { machine = q.machine ∙ p.machine; memory = q.memory ∙ p.memory }

pub loop-made-preserved : goal.loop-made-preserved
loop-made-preserved g c =
    let i = c.loop-made.invariant in
    let given = c.give_both-exchange.ensures in
    let found = c.in-Some.ensures.lookup in
    let before = ltb-true c.loop-made.made (length c.args.calls.now) (sym found.0) in
    let slot : c.loop-made.made < length c.loop-made.exchanges = omega arith in (
      goes_on _ _ c.loop-made.made _ _ _ _ before slot found.1 given.ours given.theirs c.entry.ensures c.entry-in-loop-made.ensures (sym c.has_entry.ensures ∙ c.if-has_entry.false) i.0,
      given.our_rest ∙ i.1,
      given.their_rest ∙ i.2,
      omega arith,
      same i.4 given.our_side,
      same i.5 given.their_side,
    )

pub returns-then-has_entry : goal.returns-then-has_entry
returns-then-has_entry g c =
    let i = c.loop-made.invariant in
    let given = c.give_both-exchange.ensures in
    let found = c.in-Some.ensures.lookup in
    let slot : c.loop-made.made < length c.loop-made.exchanges = omega arith in
    let exact = ends _ _ c.loop-made.made _ _ _ _ (ltb-true _ _ (sym found.0)) slot found.1 given.ours given.theirs c.entry.ensures c.entry-in-loop-made.ensures (sym c.has_entry.ensures ∙ c.if-has_entry.true) i.0 in
    record {
      exact = exact;
      isolated = isolated _ _ _ _ _ _ _ _ c.args.ours.now.machine.now.sound c.args.theirs.now.machine.now.sound exact;
      our_rest = given.our_rest ∙ i.1;
      their_rest = given.their_rest ∙ i.2;
      our_side = same i.4 given.our_side;
      their_side = same i.5 given.their_side;
    }

pub returns : goal.returns
returns g c =
    let i = c.loop-made.invariant in
    let kept : c.loop-made-test.exchanges ≡ c.loop-made.exchanges = elim c.loop-made-test.branch [ else-loop-made-test w ↦ w.exchanges-is | then-loop-made-test+in_default w ↦ w.exchanges-is ∙ set-get_or _ _ _ ] in
    let used_up : c.loop-made.made ≡ c.min.result = elim c.loop-made-test.branch [ else-loop-made-test w ↦ omega arith | then-loop-made-test+in_default w ↦ (let none = ltb-false c.loop-made.made (length c.args.calls.now) (sym w.in_default.ensures.lookup.0) in omega arith) ] in
    let exact = over _ _ _ c.loop-made.made _ _ _ kept used_up (omega arith) i.0 in
    record {
      exact = exact;
      isolated = isolated _ _ _ _ _ _ _ _ c.args.ours.now.machine.now.sound c.args.theirs.now.machine.now.sound exact;
      our_rest = i.1;
      their_rest = i.2;
      our_side = i.4;
      their_side = i.5;
    }
