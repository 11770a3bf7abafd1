use Rattle.std.proofs.Common.{◌≡◌, ◌/◌, ◌<◌, length, sym, ap, ◌∙◌, arith, rules}
use Rattle.memory.specs.declared.Mark.{Mark}
use Rattle.memory.specs.declared.Mark.TheVariants.{Plain}
use Rattle.memory.specs.Meaning.{written_by}
use Rattle.memory.specs.Split.{split_marks, split_bytes}
use Rattle.memory.proofs.Splits.{split_put, put_rest}
use Rattle.memory.proofs.split.meaning.SplitMemoryMemory.write.Goals as goal

pub returns : goal.returns
returns c =
    let fixed = c.args.self.now.fixed.now in
    let plain = c.args.self.now.plain.now in
    let a = c.args.address in
    let room : a < 65536 = omega arith in
    let p : Plain ≡ split_marks (length fixed) (length plain) (a / 1024) = sym c.in_ok-writable.ensures.plain ∙ c.mark.ensures.answer in
    let bytes = split_put fixed plain a c.args.byte room p ∙ ap (λ (m : Mark). written_by m (split_bytes fixed plain) a c.args.byte) p in
    let rest = put_rest fixed plain a c.args.byte room p c.args.self.now.plain.ghost_name in
    record { answer = search rules; bytes = search rules; marks = search rules; rest = search rules }
