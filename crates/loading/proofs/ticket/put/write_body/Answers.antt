use Rattle.std.proofs.Common.{ℕ, ◌+◌, ◌/◌, ap, ◌∙◌}
use Rattle.std.proofs.lemmas.List.{take_all}
use Rattle.memory.specs.declared.Mark.{Mark}
use Rattle.loading.proofs.Places.{written_more}
use Rattle.loading.proofs.ticket.put.write_body.Goals as goal

pub bytes-preserved : goal.bytes-preserved
bytes-preserved g c =
    let i = c.bytes.invariant in
    let w = c.write.ensures in
    let plain = ap (λ (m : ℕ → Mark). m ((c.args.address + c.bytes.i) / 1024)) i.marks ∙ c.requires.plain c.bytes.i c.bytes-test.true in
    record {
      marks = w.marks ∙ i.marks;
      rest = w.rest ∙ i.rest;
      bytes =
          written_more (g.Mem.Memory.marks c.bytes.memory) (g.Mem.Memory.bytes c.args.memory.now) c.args.address c.bytes.i c.args.body.now c.bytes-test.true plain i.bytes w.bytes;
    }

pub returns : goal.returns
returns g c =
    let i = c.bytes.invariant in
    let whole = take_all c.bytes.i c.args.body.now c.bytes-test.false in
    record { bytes = cc; marks = i.marks; rest = i.rest }
