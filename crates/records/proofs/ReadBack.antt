-- A record that the format has written is read back.
use Rattle.std.proofs.Common.{◌≡◌, ℕ, ◌+◌, ◌*◌, ◌≤◌, List, ◌++◌, length, drop, Ok, sym, refl, ap, ◌∙◌, arith}
use Rattle.std.proofs.lemmas.List.{length-append, drop-drop, drop_at, take_at}
use Rattle.std.proofs.lemmas.Bool.Decides.{nat_tests}
use Rattle.records.specs.Records.{block, end, record_in, record_of}
use Rattle.records.specs.Files.{low, high, block_bytes, end_bytes}

word_back : (n : ℕ) → low n + high n * 256 ≡ n
word_back n = omega arith

block_back : (a : ℕ) (body rest : List ℕ) → 1 ≤ length body → length body ≤ 1024 → record_in (block_bytes a body ++ rest) ≡ Ok (block a body)
block_back a body rest some few =
    let address = word_back a in
    let count = word_back (length body) in
    let size = length-append body rest in
    let taken = take_at body rest (length body) refl in
    grind (arith, nat_tests)

end_back : (sum : ℕ) → record_in (end_bytes sum) ≡ Ok (end sum)
end_back sum = let said = word_back sum in grind (arith, nat_tests)

module _ (f : List ℕ) (p a : ℕ) (body rest : List ℕ) (e : drop p f ≡ block_bytes a body ++ rest) where
  pub block_next : drop (p + (7 + length body)) f ≡ rest
  block_next =
      sym (drop-drop (7 + length body) p f)
      ∙ (ap (λ (l : List ℕ). drop (7 + length body) l) e ∙ drop_at (block_bytes a body) rest (7 + length body) (omega arith))

  pub block_reads : 1 ≤ length body → length body ≤ 1024 → record_of f p ≡ Ok (block a body)
  block_reads some few = ap record_in e ∙ block_back a body rest some few

pub end_reads : (f : List ℕ) (p sum : ℕ) → drop p f ≡ end_bytes sum → record_of f p ≡ Ok (end sum)
end_reads f p sum e = ap record_in e ∙ end_back sum
