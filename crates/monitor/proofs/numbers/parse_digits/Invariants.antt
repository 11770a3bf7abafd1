use Rattle.std.proofs.Common.{◌≡◌, ◌≤◌, drop}
use Rattle.monitor.specs.Numbers.{value_from, digits_of}
use Rattle.monitor.proofs.numbers.parse_digits.Given as goal

-- the whole is what the digits that are left make of the value so far
abbrev pub invariant-loop-digit : goal.invariant-loop-digit
invariant-loop-digit l = record {
  bound : l.value ≤ l.most;
  rest : digits_of l.base l.most l.digits ≡ value_from l.base l.most l.value (drop l.digit-index l.digits);
}
