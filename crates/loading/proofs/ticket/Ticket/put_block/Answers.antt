use Rattle.loading.proofs.Places.{place_free}
use Rattle.loading.proofs.ticket.Ticket.put_block.Goals as goal

pub write_body-requires : goal.write_body-requires
write_body-requires g c =
    let f = place_free (g.Mem.Memory.marks c.args.memory.now) c.args.address _ c.in_ok-check_place.ensures in
    record { room = f.0; plain = f.1 }
