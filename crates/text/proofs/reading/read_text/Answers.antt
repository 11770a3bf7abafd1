use Rattle.std.proofs.Common.{◌≡◌, ℕ, ◌<◌, List, length, Ok, Err, sym, refl, ap, ◌∙◌, arith}
use Rattle.std.proofs.lemmas.Slice.Eq.{bytes_eq-Decides}
use Rattle.std.proofs.lemmas.Bool.Decides.{not_from_Decides}
use Rattle.text.specs.declared.TextRefusal.TheVariants.{NoWord}
use Rattle.text.specs.Calls.{ReadsAs}
use Rattle.text.specs.Text.{text_of}
use Rattle.text.specs.Candidate.{candidate_of}
use Rattle.text.proofs.Back.{candidate_back, text_short}
use Rattle.text.proofs.reading.read_text.Goals as goal

-- the word of a text is its candidate
one : (text : List ℕ) (word other : ℕ) → word ≡ candidate_of text → other < 65536 → text_of other ≡ text → other ≡ word
one text word other e h p = sym (candidate_back other h) ∙ ap candidate_of p ∙ sym e

-- no word's text is longer than 24 bytes
long : (text : List ℕ) → 24 < length text → ReadsAs text (Err NoWord)
long text h = (refl, λ other k p. let short = text_short other k in let same = ap (λ (t : List ℕ). length t) p in omega arith)

pub returns-then-text-gt-LINE : goal.returns-then-text-gt-LINE
returns-then-text-gt-LINE c =
    let reads = long c.args.text.now (omega arith) in
    record { word = reads; back = λ other h p. absurd (reads.1 other h p) }

pub returns-then-is_text_of : goal.returns-then-is_text_of
returns-then-is_text_of c =
    let text = c.args.text.now in
    let word = c.candidate-word.result in
    let same : text_of word ≡ text = (bytes_eq-Decides (text_of word) text).0 (sym c.is_text_of.ensures ∙ c.if-is_text_of.true) in
    record {
      word = (omega arith, same, λ other h p. one text word other c.candidate-word.ensures h p);
      back = λ other h p. ap Ok (sym (one text word other c.candidate-word.ensures h p));
    }

pub returns-else-is_text_of : goal.returns-else-is_text_of
returns-else-is_text_of c =
    let text = c.args.text.now in
    let word = c.candidate-word.result in
    let none = λ (other : ℕ) (h : other < 65536) (p : text_of other ≡ text).
    not_from_Decides _ (bytes_eq-Decides (text_of word) text) (sym c.is_text_of.ensures ∙ c.if-is_text_of.false)
    (ap text_of (sym (one text word other c.candidate-word.ensures h p)) ∙ p) in
    record { word = (refl, none); back = λ other h p. absurd (none other h p) }
