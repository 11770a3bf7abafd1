-- The law is the theorem.
use Rattle.isolation.proofs.Theorem.{isolation}
use Rattle.isolation.proofs.isolation_law.Goals as goal

pub returns : goal.returns
returns c = isolation
