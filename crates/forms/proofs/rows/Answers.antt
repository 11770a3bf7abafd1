use Rattle.std.proofs.Common.{refl}
use Rattle.forms.specs.Table.{form_rows}
use Rattle.forms.proofs.Apart.{disjoint}
use Rattle.forms.proofs.Legal.{legal_count}
use Rattle.forms.proofs.rows.Goals as goal

pub returns : goal.returns
returns c = record { table = refl; disjoint = disjoint form_rows tt; legal = legal_count }
