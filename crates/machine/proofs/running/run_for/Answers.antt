use Rattle.std.proofs.Common.{◌≡◌, sym, ◌∙◌, arith}
use Rattle.machine.proofs.Turns.{run_goes_on, run_spent, run_stops}
use Rattle.machine.proofs.running.run_for.Goals as goal

pub loop-made-preserved : goal.loop-made-preserved
loop-made-preserved g c =
    let i = c.loop-made.invariant in
    (run_goes_on g.S.Stop.stop_of _ _ _ c.loop-made-test.true c.advance.ensures.outcome (sym c.stop_of.ensures ∙ c.in_default.is) i.0, c.advance.ensures.rest ∙ i.1)

pub returns-in-Some-clause-outcome : goal.returns-in-Some-clause-outcome
returns-in-Some-clause-outcome g c =
    run_stops g.S.Stop.stop_of _ _ _ c.loop-made-test.true c.advance.ensures.outcome (sym c.stop_of.ensures ∙ c.in-Some.is) c.loop-made.invariant.0

pub returns-clause-outcome : goal.returns-clause-outcome
returns-clause-outcome g c =
    let all : c.loop-made.made ≡ c.args.steps = omega arith in
    run_spent g.S.Stop.stop_of _ _ _ all c.loop-made.invariant.0
