use Rattle.std.proofs.Common.{◌≡◌, ◌++◌, map, take, drop}
use Rattle.paging.specs.Tables.{unused}
use Rattle.paging.proofs.flush_entries.Given as goal

-- the entries that are passed are unused, and the rest are as they were
abbrev pub invariant-loop-entry : goal.invariant-loop-entry
invariant-loop-entry l =
    l.entries ≡ map unused (take l.entry-index l.initial.entries) ++ drop l.entry-index l.initial.entries
