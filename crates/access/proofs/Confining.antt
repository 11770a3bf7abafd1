-- A store changes bytes only in a plain frame that its page opens for writing.
use Rattle.std.proofs.Common.{ℕ, Bool, List, rules}
use Rattle.memory.specs.declared.Mark.{Mark}
use Rattle.translation.specs.declared.address.Width.{Width}
use Rattle.paging.specs.declared.PageEntry.{PageEntry}
use Rattle.access.specs.Accesses.{stored}
use Rattle.access.specs.Opening.{Confined}

pub confined : (user : Bool) (entries : List PageEntry) (marks : ℕ → Mark) (bytes : ℕ → ℕ) (width : Width) (address value : ℕ) → Confined user entries marks address bytes (stored user entries marks bytes width address value)
confined user entries marks bytes width address value = search rules
