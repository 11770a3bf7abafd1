use Rattle.std.proofs.Common.{◌≡◌, false}
use Rattle.loading_cases.proofs.full_ticket.Given as goal

abbrev pub invariant-loop : goal.invariant-loop
invariant-loop l = l.ticket.spent ≡ false
