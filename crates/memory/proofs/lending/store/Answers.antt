use Rattle.std.proofs.Common.{◌≡◌, ℕ, length, get_or, ap, ◌∙◌, rules}
use Rattle.memory.specs.declared.Mark.{Mark}
use Rattle.memory.specs.Meaning.{write_answer, written}
use Rattle.memory.specs.Flat.{flat_back, flat_bytes, flat_marks}
use Rattle.memory.proofs.Flats.{returned_byte, flat_place}
use Rattle.memory.proofs.lending.store.Goals as goal

pub returns : goal.returns
returns c =
    let before = c.args.buffer.now in
    let after = c.write_to.new.memory.buffer.now in
    let a = c.args.address in
    let b = c.args.byte in
    let made = c.over-memory.ensures in
    let done = c.write_to.ensures in
    let kept = done.rest ∙ made.rest in
    let place = flat_place before after _ c.write_to.new.memory.buffer.ghost_name kept in
    let stored : flat_bytes after ≡ written (flat_marks (length c.over-memory.result.buffer.now)) (flat_bytes c.over-memory.result.buffer.now) a b = done.bytes in
    let bytes : flat_bytes after ≡ written (flat_marks (length before)) (flat_bytes before) a b =
    stored ∙ (ap (λ (m : ℕ → Mark). written m (flat_bytes c.over-memory.result.buffer.now) a b) made.marks ∙ ap (λ (f : ℕ → ℕ). written (flat_marks (length before)) f a b) made.bytes) in
    record {
      answer = done.answer ∙ ap (λ (m : ℕ → Mark). write_answer m a) made.marks;
      length = search rules;
      buffer = λ k.
          let e : get_or after k 0 ≡ flat_back before (written (flat_marks (length before)) (flat_bytes before) a b) k =
          returned_byte before after _ c.write_to.new.memory.buffer.ghost_name kept k ∙ ap (λ (f : ℕ → ℕ). flat_back before f k) bytes in
          search rules;
    }
