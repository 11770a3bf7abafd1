use Rattle.std.proofs.Common.{rules}
use Rattle.std.proofs.lemmas.List.FromFn.{fill_by_all}
use Rattle.paging.specs.Tables.{blank_entry, start_entry}
use Rattle.paging.proofs.PageTable.start.Goals as goal

pub returns : goal.returns
returns c =
    fill_by_all start_entry c.from_fn.result 64 blank_entry c.from_fn.ensures.items.long
    (λ k h. let made = c.from_fn.ensures.items.at k blank_entry h in search rules)
