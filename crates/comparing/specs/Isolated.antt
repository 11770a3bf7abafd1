-- What the isolation law says of a comparison.
use Rattle.std.specs.Prelude.{◌≡◌, true, List, map, take}
use Rattle.state.specs.Status.{is_user}
use Rattle.execution.specs.Worlds.{World}
use Rattle.calls.specs.declared.Answer.{Answer}
use Rattle.isolation.specs.Share.{Agree}
use Rattle.isolation.specs.Law.{Alike}
use Rattle.comparing.specs.declared.exchange.Comparison.{Comparison}
use Rattle.comparing.specs.declared.exchange.Exchange.{Exchange}

-- The answers that one side gave to the calls that were made.
abbrev pub our_answers : Comparison → List Exchange → List Answer
our_answers r slots = map (λ (e : Exchange). e.ours) (take r.calls slots)

abbrev pub their_answers : Comparison → List Exchange → List Answer
their_answers r slots = map (λ (e : Exchange). e.theirs) (take r.calls slots)

-- The machines cannot be told apart by their answers, nor by whether and with which event they entered the system.
pub record Indistinct (ours theirs ours' theirs' : World) (slots : List Exchange) (r : Comparison) : Type 0 where
  pub alike : Alike ours theirs ours' theirs' (our_answers r slots) (their_answers r slots)
  pub entries : r.ours ≡ r.theirs

-- So it is if both were in user mode and agreed on the user's share.
abbrev pub Isolated : World → World → World → World → List Exchange → Comparison → Type 0
Isolated ours theirs ours' theirs' slots r =
    is_user ours.state.system.status ≡ true → is_user theirs.state.system.status ≡ true → Agree ours theirs
    → Indistinct ours theirs ours' theirs' slots r
