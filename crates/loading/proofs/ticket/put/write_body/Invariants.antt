use Rattle.std.proofs.Common.{◌≡◌, take}
use Rattle.loading.specs.Blocks.{overlaid}
use Rattle.loading.proofs.ticket.put.write_body.Given as goal

abbrev pub invariant-bytes : goal.invariant-bytes
invariant-bytes g l = record {
  marks : g.Mem.Memory.marks l.memory ≡ g.Mem.Memory.marks l.initial.memory;
  rest : g.Mem.Memory.rest l.memory ≡ g.Mem.Memory.rest l.initial.memory;
  bytes : g.Mem.Memory.bytes l.memory ≡ overlaid (g.Mem.Memory.bytes l.initial.memory) l.address (take l.i l.body);
}
