-- The law of every load: the accepted blocks account for each byte.
use Rattle.std.proofs.Common.{◌≡◌, ℕ, zero, suc, ◌+◌, ◌-◌, ◌<◌, Bool, true, false, cond, ltb, ◌⊎◌, List, [], ◌∷◌, length, Ok, Err, Result, sym, refl, ap, ◌∙◌, subst, subst₂, inl, inr, add-zero, arith}
use Rattle.std.specs.List.{AllByRecursion}
use Rattle.std.proofs.lemmas.Bool.{cases_lt}
use Rattle.std.proofs.lemmas.Bool.Decides.{nat_tests}
use Rattle.memory.specs.declared.Mark.{Mark}
use Rattle.memory.specs.declared.Mark.TheVariants.{Plain}
use Rattle.memory.specs.Meaning.{mark_at}
use Rattle.records.specs.declared.fault.RecordFault.{RecordFault}
use Rattle.records.specs.declared.fault.RecordFault.TheVariants.{TooLong}
use Rattle.records.specs.Records.{Item, block, end, record_of, after}
use Rattle.faults.specs.declared.CloseFault.{CloseFault}
use Rattle.faults.specs.declared.PutFault.{PutFault}
use Rattle.loading.specs.declared.load.Loaded.{Loaded}
use Rattle.loading.specs.declared.load.LoadRefusal.{LoadRefusal}
use Rattle.loading.specs.Blocks.{overlaid, place_of, put_of}
use Rattle.loading.specs.Closing.{close_of}
use Rattle.loading.specs.Loads.{Turn, Final, put_by, turn_by, continued, finish_by, load_from, load_by, load_of}
use Rattle.loading.specs.Laws.{Block, Covers, Uncovered, carries, LastCarries, Fits, overlaid_all, block_before, blocks_from, blocks_of, accepted, Accounted}
use Rattle.loading.proofs.Places.{place_free}

-- a block that a ticket takes fits, and adds its length to the sum
pub put_fits : (sum : ℕ) (marks : ℕ → Mark) (a : ℕ) (body : List ℕ) {new : ℕ} → put_of sum marks a body ≡ Ok new
    → Fits marks (record { address = a; body = body }) × (new ≡ sum + length body)
put_fits sum marks a body {new = new} h =
    let free : place_of marks a (length body) ≡ Ok tt = grind (arith, nat_tests) in
    (place_free marks a (length body) (sym free), grind (arith, nat_tests))

finish_counts : (x : Result ℕ CloseFault) (p k : ℕ) → blocks_of (finish_by x p k) ≡ k
finish_counts (Ok s) p k = refl
finish_counts (Err e) p k = refl

-- what a load from p on has accepted, after k blocks
record Taken (marks : ℕ → Mark) (bytes : ℕ → ℕ) (f : List ℕ) (p k : ℕ) (x : Final) : Type 0 where
  more : ℕ
  count : blocks_of x.answer ≡ k + more
  size : length (blocks_from more f p) ≡ more
  laid : x.bytes ≡ overlaid_all bytes (blocks_from more f p)
  fit : AllByRecursion (Fits marks) (blocks_from more f p)

none_more : (marks : ℕ → Mark) (bytes : ℕ → ℕ) (f : List ℕ) (p k : ℕ) (x : Final) → blocks_of x.answer ≡ k → x.bytes ≡ bytes → Taken marks bytes f p k x
none_more marks bytes f p k x c b = record { more = 0; count = c ∙ sym (add-zero k); size = refl; laid = b; fit = tt }

one_more : (marks : ℕ → Mark) (bytes : ℕ → ℕ) (f : List ℕ) (p k a : ℕ) (body : List ℕ) (x : Final) → record_of f p ≡ Ok (block a body) → Fits marks (record { address = a; body = body })
    → Taken marks (overlaid bytes a body) f (p + (7 + length body)) (k + 1) x → Taken marks bytes f p k x
one_more marks bytes f p k a body x r fits t =
    let first : Block = record { address = a; body = body } in
    let rest : List Block = blocks_from t.more f (p + (7 + length body)) in
    let e : blocks_from (suc t.more) f p ≡ first ∷ rest =
    ap (λ (y : Result Item RecordFault). block_before y (blocks_from t.more f (after p y))) r in
    let c : blocks_of x.answer ≡ k + suc t.more = omega (arith, t.count) in
    let all : AllByRecursion (Fits marks) (first ∷ rest) = (fits, t.fit) in
    record {
      more = suc t.more;
      count = c;
      size = ap (λ (bs : List Block). length bs) e ∙ ap suc t.size;
      laid = t.laid ∙ ap (λ (bs : List Block). overlaid_all bytes bs) (sym e);
      fit = subst (λ (bs : List Block). AllByRecursion (Fits marks) bs) (sym e) all;
    }

taken_from : (n : ℕ) (marks : ℕ → Mark) (bytes : ℕ → ℕ) (f : List ℕ) (p s k : ℕ) → Taken marks bytes f p k (load_from n marks bytes f p s k)
taken_from zero marks bytes f p s k = none_more marks bytes f p k (load_from zero marks bytes f p s k) refl refl
taken_from (suc n) marks bytes f p s k = by_record (record_of f p) refl (λ bytes' p' s'. taken_from n marks bytes' f p' s' (k + 1))
  where
    next : Turn → Final
    next t = continued t p k (load_from n marks t.bytes f t.position t.sum (k + 1))

    by_put : (a : ℕ) (body : List ℕ) (y : Result ℕ PutFault) → put_of s marks a body ≡ y → record_of f p ≡ Ok (block a body)
        → ((bytes' : ℕ → ℕ) (p' s' : ℕ) → Taken marks bytes' f p' (k + 1) (load_from n marks bytes' f p' s' (k + 1)))
        → Taken marks bytes f p k (next (put_by bytes p s a body y))
    by_put a body (Err e) q r ih = none_more marks bytes f p k _ refl refl
    by_put a body (Ok new) q r ih =
        one_more marks bytes f p k a body _ r (put_fits s marks a body q).0 (ih (overlaid bytes a body) (p + (7 + length body)) new)

    by_record : (x : Result Item RecordFault) → record_of f p ≡ x
        → ((bytes' : ℕ → ℕ) (p' s' : ℕ) → Taken marks bytes' f p' (k + 1) (load_from n marks bytes' f p' s' (k + 1)))
        → Taken marks bytes f p k (next (turn_by marks bytes p s x))
    by_record (Err e) r ih = none_more marks bytes f p k _ refl refl
    by_record (Ok (end said)) r ih = none_more marks bytes f p k _ (finish_counts (close_of s said) p k) refl
    by_record (Ok (block a body)) r ih = by_put a body (put_of s marks a body) refl r ih

taken_all : (marks : ℕ → Mark) (bytes : ℕ → ℕ) (f : List ℕ) → Taken marks bytes f 0 0 (load_of marks bytes f)
taken_all marks bytes f = go (ltb 65535 (length f))
  where
    go : (b : Bool) → Taken marks bytes f 0 0 (load_by marks bytes (cond b (Err TooLong) (Ok (record { file = f; position = 0 }))))
    go true = none_more marks bytes f 0 0 _ refl refl
    go false = taken_from (length f + 1) marks bytes f 0 0 0

-- one block, and the blocks after it, at an address
covered : (b : Block) (k : ℕ) → Covers b k ⊎ (Covers b k → ⊥)
covered b k = elim (cases_lt k b.address) [
  | inl h ↦ inr (λ c. omega arith)
  | inr h ↦ elim (cases_lt k (b.address + length b.body)) [ inl g ↦ inl (h, g) | inr g ↦ inr (λ c. omega arith) ]
]

over_covered : (bytes : ℕ → ℕ) (b : Block) (k : ℕ) → Covers b k → overlaid bytes b.address b.body k ≡ carries b k
over_covered bytes b k c = grind (arith, nat_tests)

over_uncovered : (bytes : ℕ → ℕ) (b : Block) (k : ℕ) → (Covers b k → ⊥) → overlaid bytes b.address b.body k ≡ bytes k
over_uncovered bytes b k c = grind (arith, nat_tests)

carried_all : (blocks : List Block) (bytes : ℕ → ℕ) (k : ℕ) → (Uncovered blocks k × (overlaid_all bytes blocks k ≡ bytes k)) ⊎ LastCarries blocks k (overlaid_all bytes blocks k)
carried_all [] bytes k = inl (tt, refl)
carried_all (b ∷ blocks) bytes k =
    elim (carried_all blocks (overlaid bytes b.address b.body) k) [
      | inr last ↦ inr (inl last)
      | inl u ↦ elim (covered b k) [
        | inl c ↦ inr (inr (u.0, c, u.1 ∙ over_covered bytes b k c))
        | inr n ↦ inl ((n, u.0), u.1 ∙ over_uncovered bytes b k n)
      ]
    ]

plain_all : (marks : ℕ → Mark) (blocks : List Block) (bytes : ℕ → ℕ) (k : ℕ) → AllByRecursion (Fits marks) blocks
    → (overlaid_all bytes blocks k ≡ bytes k) ⊎ ((k < 65536) × (mark_at marks k ≡ Plain))
plain_all marks [] bytes k fits = inl refl
plain_all marks (b ∷ blocks) bytes k fits =
    elim (plain_all marks blocks (overlaid bytes b.address b.body) k fits.1) [
      | inr p ↦ inr p
      | inl e ↦ elim (covered b k) [
        | inl c ↦
            let at : b.address + (k - b.address) ≡ k = omega arith in
            inr (omega arith, ap (λ (i : ℕ). mark_at marks i) (sym at) ∙ fits.0.1 (k - b.address) (omega arith))
        | inr n ↦ inl (e ∙ over_uncovered bytes b k n)
      ]
    ]

pub load_accounted : (marks : ℕ → Mark) (bytes : ℕ → ℕ) (f : List ℕ) → Accounted marks bytes (load_of marks bytes f).bytes f (load_of marks bytes f).answer
load_accounted marks bytes f =
    let t = taken_all marks bytes f in
    let x : Final = load_of marks bytes f in
    let n : blocks_of x.answer ≡ t.more = omega (arith, t.count) in
    let e : accepted x.answer f ≡ blocks_from t.more f 0 = ap (λ (m : ℕ). blocks_from m f 0) n in
    let laid : x.bytes ≡ overlaid_all bytes (accepted x.answer f) = t.laid ∙ ap (λ (bs : List Block). overlaid_all bytes bs) (sym e) in
    let fit : AllByRecursion (Fits marks) (accepted x.answer f) = subst (λ (bs : List Block). AllByRecursion (Fits marks) bs) (sym e) t.fit in
    record {
      counted = ap (λ (bs : List Block). length bs) e ∙ (t.size ∙ sym n);
      carried = λ k.
          subst (λ (v : ℕ). (Uncovered (accepted x.answer f) k × (v ≡ bytes k)) ⊎ LastCarries (accepted x.answer f) k v)
          (ap (λ (g : ℕ → ℕ). g k) (sym laid)) (carried_all (accepted x.answer f) bytes k);
      plain = λ k changed. elim (plain_all marks (accepted x.answer f) bytes k fit) [
        | inl same ↦ absurd (changed (ap (λ (g : ℕ → ℕ). g k) laid ∙ same))
        | inr p ↦ p
      ];
    }

-- the law, said of what a load has answered and left
pub accounted_at : (marks : ℕ → Mark) (bytes : ℕ → ℕ) (f : List ℕ) (r : Result Loaded LoadRefusal) (now : ℕ → ℕ)
    → r ≡ (load_of marks bytes f).answer → now ≡ (load_of marks bytes f).bytes → Accounted marks bytes now f r
accounted_at marks bytes f r now e d =
    subst₂ (λ (v : ℕ → ℕ) (x : Result Loaded LoadRefusal). Accounted marks bytes v f x) (sym d) (sym e) (load_accounted marks bytes f)
