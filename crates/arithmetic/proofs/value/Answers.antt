use Rattle.std.proofs.Common.{arith, rules}
use Rattle.arithmetic.proofs.SignedLaws.{signed_law}
use Rattle.arithmetic.proofs.value.Goals as goal

pub returns-in-MultiplyHigh-clause-signed : goal.returns-in-MultiplyHigh-clause-signed
returns-in-MultiplyHigh-clause-signed c = signed_law _ _ _ _ (omega arith) (omega arith) (search rules)
