-- A file made of blocks is loaded as those blocks.
use Rattle.std.proofs.Common.{◌≡◌, ℕ, zero, suc, ◌+◌, ◌<◌, ◌≤◌, true, false, List, [], ◌∷◌, length, drop, is_ok, Ok, Err, Result, sym, refl, ap, ◌∙◌, subst, add-zero, arith}
use Rattle.std.specs.List.{AllByRecursion}
use Rattle.std.proofs.lemmas.List.{length-append}
use Rattle.std.proofs.lemmas.Bool.Decides.{nat_tests}
use Rattle.memory.specs.declared.Mark.{Mark}
use Rattle.records.specs.declared.fault.RecordFault.{RecordFault}
use Rattle.records.specs.Records.{Item, block, record_of}
use Rattle.records.specs.Readings.{Reading, open_of}
use Rattle.records.specs.Files.{end_bytes}
use Rattle.records.proofs.Within.{record_within}
use Rattle.records.proofs.ReadBack.{block_reads, block_next, end_reads}
use Rattle.faults.specs.declared.PutFault.{PutFault}
use Rattle.loading.specs.declared.load.Loaded.{Loaded}
use Rattle.loading.specs.declared.load.LoadRefusal.{LoadRefusal}
use Rattle.loading.specs.Blocks.{overlaid, put_of}
use Rattle.loading.specs.Closing.{close_of}
use Rattle.loading.specs.Loads.{Turn, Final, final, put_by, turn_by, continued, finish_by, load_from, load_by, load_of}
use Rattle.loading.specs.Laws.{Block, Fits, overlaid_all, Sized, total, records_before, file_of, Faithful}
use Rattle.loading.proofs.Places.{place_plain}
use Rattle.loading.proofs.Accounts.{put_fits}

-- a ticket takes each block that fits, as long as its sum can be kept
put_takes : (s : ℕ) (marks : ℕ → Mark) (b : Block) → Sized b → s + length b.body ≤ 65535 → Fits marks b
    → put_of s marks b.address b.body ≡ Ok (s + length b.body)
put_takes s marks b sized small fits = let free = place_plain marks b.address (length b.body) fits.0 fits.1 in grind (arith, nat_tests)

-- what is said of a load that begins with `s` summed and `k` blocks written
record Loads (marks : ℕ → Mark) (bytes : ℕ → ℕ) (s k : ℕ) (blocks : List Block) (x : Final) : Type 0 where
  takes : AllByRecursion (Fits marks) blocks → x ≡ final (Ok (record { blocks = k + length blocks; sum = s + total blocks })) (overlaid_all bytes blocks)
  fitting : is_ok x.answer ≡ true → AllByRecursion (Fits marks) blocks

load_end : (marks : ℕ → Mark) (bytes : ℕ → ℕ) (p s k : ℕ) → Loads marks bytes s k [] (final (finish_by (close_of s (s + 0)) p k) bytes)
load_end marks bytes p s k =
    let closed : close_of s (s + 0) ≡ Ok s = grind (arith, nat_tests) in
    let e : final (finish_by (close_of s (s + 0)) p k) bytes ≡ final (Ok (record { blocks = k + 0; sum = s + 0 })) bytes =
    ap (λ r. final (finish_by r p k) bytes) closed
    ∙ (ap (λ (n : ℕ). final (Ok (record { blocks = n; sum = s })) bytes) (sym (add-zero k))
    ∙ ap (λ (n : ℕ). final (Ok (record { blocks = k + 0; sum = n })) bytes) (sym (add-zero s))) in
    record { takes = λ _. e; fitting = λ _. tt }

load_more : (marks : ℕ → Mark) (bytes : ℕ → ℕ) (s k new : ℕ) (b : Block) (blocks : List Block) (x : Final) → Fits marks b → new ≡ s + length b.body
    → Loads marks (overlaid bytes b.address b.body) new (k + 1) blocks x → Loads marks bytes s k (b ∷ blocks) x
load_more marks bytes s k new b blocks x fits e h =
    let count : k + 1 + length blocks ≡ k + suc (length blocks) = omega arith in
    let sum : new + total blocks ≡ s + (length b.body + total blocks) = omega arith in
    let after : ℕ → ℕ = overlaid_all bytes (b ∷ blocks) in
    record {
      takes = λ all.
          h.takes all.1
          ∙ (ap (λ (n : ℕ). final (Ok (record { blocks = n; sum = new + total blocks })) after) count
          ∙ ap (λ (n : ℕ). final (Ok (record { blocks = k + suc (length blocks); sum = n })) after) sum);
      fitting = λ ok. (fits, h.fitting ok);
    }

module _ (marks : ℕ → Mark) (f : List ℕ) (short : length f ≤ 65535) where
  abbrev next : ℕ → ℕ → ℕ → Turn → Final
  next n p k t = continued t p k (load_from n marks t.bytes f t.position t.sum (k + 1))

  by_put : (n p s k : ℕ) (bytes : ℕ → ℕ) (b : Block) (blocks : List Block) (y : Result ℕ PutFault) → put_of s marks b.address b.body ≡ y
      → Sized b → s + length b.body ≤ 65535
      → ((new : ℕ) → new ≡ s + length b.body → Loads marks (overlaid bytes b.address b.body) new (k + 1) blocks (load_from n marks (overlaid bytes b.address b.body) f (p + (7 + length b.body)) new (k + 1)))
      → Loads marks bytes s k (b ∷ blocks) (next n p k (put_by bytes p s b.address b.body y))
  by_put n p s k bytes b blocks (Ok new) q sized small ih =
      let fits = put_fits s marks b.address b.body q in
      load_more marks bytes s k new b blocks _ fits.0 fits.1 (ih new fits.1)
  by_put n p s k bytes b blocks (Err e) q sized small ih =
      record {
        takes = λ all.
            let q' : put_of s marks b.address b.body ≡ Ok (s + length b.body) = put_takes s marks b sized small all.0 in
            cc;
        fitting = λ ok. let no : false ≡ true = ok in cc;
      }

  load_blocks : (blocks : List Block) (n p s k : ℕ) (bytes : ℕ → ℕ) → drop p f ≡ records_before blocks (end_bytes (s + total blocks)) → AllByRecursion Sized blocks → s ≤ p
      → length blocks < n → Loads marks bytes s k blocks (load_from n marks bytes f p s k)
  load_blocks [] zero p s k bytes e sized sp fuel = absurd (omega arith)
  load_blocks (b ∷ blocks) zero p s k bytes e sized sp fuel = absurd (omega arith)
  load_blocks [] (suc n) p s k bytes e sized sp fuel =
      subst (λ (x : Result Item RecordFault). Loads marks bytes s k [] (next n p k (turn_by marks bytes p s x))) (sym (end_reads f p (s + 0) e)) (load_end marks bytes p s k)
  load_blocks (b ∷ blocks) (suc n) p s k bytes e sized sp fuel =
      let a : ℕ = b.address in
      let body : List ℕ = b.body in
      let ending : List ℕ = records_before blocks (end_bytes (s + (length body + total blocks))) in
      let r : record_of f p ≡ Ok (block a body) = block_reads f p a body ending e sized.0.0 sized.0.1 in
      let within : p + (7 + length body) ≤ length f = record_within f p (block a body) r in
      let rest : drop (p + (7 + length body)) f ≡ ending = block_next f p a body ending e in
      subst (λ (x : Result Item RecordFault). Loads marks bytes s k (b ∷ blocks) (next n p k (turn_by marks bytes p s x))) (sym r)
      (by_put n p s k bytes b blocks (put_of s marks a body) refl sized.0 (omega arith)
      (λ new is.
      let same : s + (length body + total blocks) ≡ new + total blocks = omega arith in
      load_blocks blocks n (p + (7 + length body)) new (k + 1) (overlaid bytes a body)
      (rest ∙ ap (λ (m : ℕ). records_before blocks (end_bytes m)) same) sized.1 (omega arith) (omega arith)))

-- a file has more bytes than blocks
enough : (blocks : List Block) (ending : List ℕ) → length blocks ≤ length (records_before blocks ending)
enough [] ending = omega arith
enough (b ∷ blocks) ending =
    let h : length blocks ≤ length (records_before blocks ending) = enough blocks ending in
    let l = length-append b.body (records_before blocks ending) in
    omega arith

load_file : (marks : ℕ → Mark) (bytes : ℕ → ℕ) (f : List ℕ) (blocks : List Block) → f ≡ file_of blocks → length f ≤ 65535 → AllByRecursion Sized blocks
    → Loads marks bytes 0 0 blocks (load_of marks bytes f)
load_file marks bytes f blocks e short sized =
    let opened : open_of f ≡ Ok (record { file = f; position = 0 }) = grind (arith, nat_tests) in
    let sum : total blocks ≡ 0 + total blocks = omega arith in
    let many : length blocks ≤ length f = omega (arith, enough blocks (end_bytes (total blocks)), ap (λ (l : List ℕ). length l) e) in
    subst (λ (x : Result Reading RecordFault). Loads marks bytes 0 0 blocks (load_by marks bytes x)) (sym opened)
    (load_blocks marks f short blocks (length f + 1) 0 0 0 bytes (e ∙ ap (λ (m : ℕ). records_before blocks (end_bytes m)) sum) sized (omega arith) (omega arith))

-- the law, said of what a load has answered and left
pub faithful_at : (marks : ℕ → Mark) (bytes : ℕ → ℕ) (f : List ℕ) (r : Result Loaded LoadRefusal) (now : ℕ → ℕ)
    → r ≡ (load_of marks bytes f).answer → now ≡ (load_of marks bytes f).bytes → Faithful marks bytes now f r
faithful_at marks bytes f r now answer left = record {
  taken = λ blocks e short sized fit.
      let x = (load_file marks bytes f blocks e short sized).takes fit in
      let count : 0 + length blocks ≡ length blocks = omega arith in
      let sum : 0 + total blocks ≡ total blocks = omega arith in (
        answer ∙ (ap (λ (y : Final). y.answer) x
            ∙ (ap (λ (n : ℕ). Ok (record { blocks = n; sum = 0 + total blocks })) count ∙ ap (λ (n : ℕ). Ok (record { blocks = length blocks; sum = n })) sum)),
        left ∙ ap (λ (y : Final). y.bytes) x,
      );
  fitting = λ blocks e short sized ok. (load_file marks bytes f blocks e short sized).fitting (ap (λ (y : Result Loaded LoadRefusal). is_ok y) (sym answer) ∙ ok);
}
