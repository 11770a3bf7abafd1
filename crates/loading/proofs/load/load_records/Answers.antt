use Rattle.std.proofs.Common.{◌≡◌, ◌<◌, Result, ap, ◌∙◌, arith, rules}
use Rattle.loading.specs.declared.load.Loaded.{Loaded}
use Rattle.loading.specs.declared.load.LoadRefusal.{LoadRefusal}
use Rattle.loading.specs.Closing.{close_of}
use Rattle.loading.specs.Loads.{final, finish_by}
use Rattle.loading.proofs.Turns.{put_moves, load_on}
use Rattle.loading.proofs.load.load_records.Goals as goal

pub records-preserved : goal.records-preserved
records-preserved g c =
    let i = c.records.invariant in
    let s = rw c.in-Ok-None.field-0-is at c.in-Ok-None.ensures in
    let on = load_on _ _ _ _ _ _ _ _ s.turn i.marks i.file i.counted c.records.reader.within i.outcome in
    let moved : c.records.reader.position < c.take_record.new.reader.position =
    put_moves (g.Mem.Memory.marks c.records.memory) (g.Mem.Memory.bytes c.records.memory) _ _ _ s.turn in
    record { file = s.file ∙ i.file; spent = s.spent; counted = omega arith; marks = s.marks ∙ i.marks; rest = s.rest ∙ i.rest; outcome = on }

pub returns-in-Ok-Some-clause-outcome : goal.returns-in-Ok-Some-clause-outcome
returns-in-Ok-Some-clause-outcome g c =
    let i = c.records.invariant in
    let s = rw c.in-Ok-Some.field-0-is at c.in-Ok-Some.ensures in
    let on = load_on _ _ _ _ _ _ _ _ s.turn i.marks i.file i.counted c.records.reader.within i.outcome in
    let closed : c.map_err.result ≡ finish_by (close_of c.take_record.new.ticket.sum c.in-Ok-Some.sum) c.records.reader.position _ = search rules in
    ap (λ (r : Result Loaded LoadRefusal). final r (g.Mem.Memory.bytes c.take_record.new.memory)) closed ∙ on

pub returns-in-Err-clause-outcome : goal.returns-in-Err-clause-outcome
returns-in-Err-clause-outcome g c =
    let i = c.records.invariant in
    let on = load_on _ _ _ _ _ _ _ _ c.in-Err.ensures.turn i.marks i.file i.counted c.records.reader.within i.outcome in
    search rules
