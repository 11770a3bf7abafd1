use Rattle.std.proofs.Common.{◌≡◌, ◌+◌, ◌-◌, ◌≤◌, false, length}
use Rattle.loading.specs.Loads.{load_from}
use Rattle.loading.proofs.load.load_records.Given as goal

-- what is left of the load gives what the whole load gives
abbrev pub invariant-records : goal.invariant-records
invariant-records g l =
    let ms = g.Mem.Memory.marks l.initial.memory in
    let f = l.initial.reader.file.now in
    record {
      file : l.reader.file.now ≡ f;
      spent : l.ticket.spent ≡ false;
      counted : l.blocks ≤ l.reader.position;
      marks : g.Mem.Memory.marks l.memory ≡ ms;
      rest : g.Mem.Memory.rest l.memory ≡ g.Mem.Memory.rest l.initial.memory;
      outcome : load_from (length f + 1 - l.blocks) ms (g.Mem.Memory.bytes l.memory) f l.reader.position l.ticket.sum l.blocks
          ≡ load_from (length f + 1) ms (g.Mem.Memory.bytes l.initial.memory) f 0 0 0;
    }

abbrev pub decreases-records : goal.decreases-records
decreases-records g l = length l.initial.reader.file.now - l.reader.position
