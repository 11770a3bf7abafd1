use Rattle.std.proofs.Common.{rules}
use Rattle.loading.proofs.Accounts.{accounted_at}
use Rattle.loading.proofs.Files.{faithful_at}
use Rattle.loading.proofs.load.load.Goals as goal

pub returns-clause-accounted : goal.returns-clause-accounted
returns-clause-accounted g c =
    accounted_at (g.Mem.Memory.marks c.args.memory.now) (g.Mem.Memory.bytes c.args.memory.now) c.args.file.now _ _ (search rules) (search rules)

pub returns-clause-faithful : goal.returns-clause-faithful
returns-clause-faithful g c =
    faithful_at (g.Mem.Memory.marks c.args.memory.now) (g.Mem.Memory.bytes c.args.memory.now) c.args.file.now _ _ (search rules) (search rules)
