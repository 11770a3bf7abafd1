-- What closing a ticket answers.
use Rattle.std.specs.Prelude.{ℕ, cond, Ok, Err, Result, ◌==◌}
use Rattle.faults.specs.declared.CloseFault.{CloseFault}

-- The ticket's sum, if it is closed with that sum.
abbrev pub close_of : ℕ → ℕ → Result ℕ CloseFault
close_of held sum = cond (held == sum) (Ok held) (Err (record {}))
