-- What a comparison tells of two machines that agree.
use Rattle.std.proofs.Common.{◌≡◌, true, List, sym, subst}
use Rattle.machine.specs.Sound.{sound}
use Rattle.execution.specs.Worlds.{World}
use Rattle.calls.specs.declared.Call.{Call}
use Rattle.isolation.proofs.Theorem.{isolation}
use Rattle.comparing.specs.declared.exchange.Comparison.{Comparison}
use Rattle.comparing.specs.declared.exchange.Exchange.{Exchange}
use Rattle.comparing.specs.Comparisons.{Compared, compare_of, compared}
use Rattle.comparing.specs.Isolated.{Isolated}
use Rattle.comparing.proofs.Chains.{chains, same_entries}

abbrev IsolatedBy : World → World → Compared → Type 0
IsolatedBy a b o = Isolated a b o.ours o.theirs o.exchanges o.answer

isolated_of : (cs : List Call) (slots : List Exchange) (a b : World) → sound a.state ≡ true → sound b.state ≡ true → IsolatedBy a b (compare_of cs slots a b)
isolated_of cs slots a b s t u v g =
    let o = compare_of cs slots a b in
    let both = chains cs slots a b in
    let alike = isolation _ a b o.ours o.theirs _ _ s t u v g both.ours both.theirs in
    record { alike = alike; entries = same_entries cs slots a b alike.answers }

-- and so of what is known to come of a comparison
pub isolated : (cs : List Call) (slots slots' : List Exchange) (a b a' b' : World) (r : Comparison) → sound a.state ≡ true → sound b.state ≡ true
    → compared a' b' slots' r ≡ compare_of cs slots a b → Isolated a b a' b' slots' r
isolated cs slots slots' a b a' b' r s t e = subst (IsolatedBy a b) (sym e) (isolated_of cs slots a b s t)
