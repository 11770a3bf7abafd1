-- Where a block may lie: at most two frames decide, and a free place is plain byte for byte.
use Rattle.std.proofs.Common.{cond, ltb, ◌≡◌, ℕ, zero, suc, ◌+◌, ◌-◌, ◌*◌, ◌/◌, ◌<◌, ◌≤◌, List, length, get_or, take, Ok, Err, Result, sym, refl, ap, ◌∙◌, inl, inr, add-zero, zero-add, arith}
use mathlib.Core.Path.{fun_ext}
use Rattle.std.proofs.lemmas.List.{length-take, get_or-take}
use Rattle.std.proofs.lemmas.Bool.{cases_eq, cases_lt}
use Rattle.std.proofs.lemmas.Bool.Decides.{nat_tests}
use Rattle.memory.specs.declared.Mark.{Mark}
use Rattle.memory.specs.declared.Mark.TheVariants.{Plain, Fixed, Absent}
use Rattle.memory.specs.Meaning.{mark_at, write_answer, write_answer_by, put, written, written_by}
use Rattle.faults.specs.declared.PlaceFault.{PlaceFault}
use Rattle.loading.specs.Blocks.{placed, and_then, first_refused, place_of, AllPlain, overlaid}

-- what the memory answers for the byte at an address
abbrev pub byte_at : (ℕ → Mark) → ℕ → Result (Unit {0}) PlaceFault
byte_at marks a = placed a (write_answer marks a)

plain_byte : (marks : ℕ → Mark) (a : ℕ) → mark_at marks a ≡ Plain → byte_at marks a ≡ Ok tt
plain_byte marks a e = ap (λ (m : Mark). placed a (write_answer_by m)) e

free_byte : (marks : ℕ → Mark) (a : ℕ) → byte_at marks a ≡ Ok tt → mark_at marks a ≡ Plain
free_byte marks a e = grind (arith, nat_tests)

-- bytes of one plain frame are free
plain_frame : (marks : ℕ → Mark) (f a n : ℕ) → marks f ≡ Plain → f * 1024 ≤ a → a + n ≤ f * 1024 + 1024 → first_refused marks a n ≡ Ok tt
plain_frame marks f a zero e low high = refl
plain_frame marks f a (suc n) e low high =
    let same : a / 1024 ≡ f = omega arith in
    ap (λ (x : Result (Unit {0}) PlaceFault). and_then x (first_refused marks (a + 1) n)) (plain_byte marks a (ap marks same ∙ e))
    ∙ plain_frame marks f (a + 1) n e (omega arith) (omega arith)

-- the first byte of a frame decides for all that lie in it
one_frame : (marks : ℕ → Mark) (f a n : ℕ) → f * 1024 ≤ a → a + suc n ≤ f * 1024 + 1024 → first_refused marks a (suc n) ≡ byte_at marks a
one_frame marks f a n low high = go (mark_at marks a) refl
  where
    go : (m : Mark) → mark_at marks a ≡ m → first_refused marks a (suc n) ≡ byte_at marks a
    go Plain e =
        let same : a / 1024 ≡ f = omega arith in
        plain_frame marks f a (suc n) (ap marks (sym same) ∙ e) low high ∙ sym (plain_byte marks a e)
    go Fixed e = grind (arith, nat_tests)
    go Absent e = grind (arith, nat_tests)

and_assoc : {E : Type 0} (x y z : Result (Unit {0}) E) → and_then (and_then x y) z ≡ and_then x (and_then y z)
and_assoc (Ok u) y z = refl
and_assoc (Err e) y z = refl

-- the bytes in two parts
in_parts : (marks : ℕ → Mark) (a m n : ℕ) → first_refused marks a (m + n) ≡ and_then (first_refused marks a m) (first_refused marks (a + m) n)
in_parts marks a zero n = ap (λ (k : ℕ). first_refused marks a k) (zero-add n) ∙ ap (λ (k : ℕ). first_refused marks k n) (sym (add-zero a))
in_parts marks a (suc m) n =
    let up : suc m + n ≡ suc (m + n) = omega arith in
    let over : a + 1 + m ≡ a + suc m = omega arith in
    ap (λ (k : ℕ). first_refused marks a k) up
    ∙ (ap (λ (x : Result (Unit {0}) PlaceFault). and_then (byte_at marks a) x) (in_parts marks (a + 1) m n)
    ∙ (sym (and_assoc (byte_at marks a) (first_refused marks (a + 1) m) (first_refused marks (a + 1 + m) n))
    ∙ ap (λ (k : ℕ). and_then (first_refused marks a (suc m)) (first_refused marks k n)) over))

one_decides : (marks : ℕ → Mark) (a n : ℕ) → 0 < n → n ≤ 1024 → (a + n - 1) / 1024 * 1024 ≤ a → first_refused marks a n ≡ byte_at marks a
one_decides marks a n some few h =
    let up : n ≡ suc (n - 1) = omega arith in
    ap (λ (k : ℕ). first_refused marks a k) up ∙ one_frame marks (a / 1024) a (n - 1) (omega arith) (omega arith)

two_decide : (marks : ℕ → Mark) (a n : ℕ) → 0 < n → n ≤ 1024 → a < (a + n - 1) / 1024 * 1024
    → first_refused marks a n ≡ and_then (byte_at marks a) (byte_at marks ((a + n - 1) / 1024 * 1024))
two_decide marks a n some few h =
    let l : ℕ = (a + n - 1) / 1024 * 1024 in
    let m : ℕ = l - a in
    let split : n ≡ suc (m - 1) + suc (n - m - 1) = omega arith in
    let at : a + suc (m - 1) ≡ l = omega arith in
    ap (λ (k : ℕ). first_refused marks a k) split
    ∙ (in_parts marks a (suc (m - 1)) (suc (n - m - 1))
    ∙ (ap (λ (x : Result (Unit {0}) PlaceFault). and_then x (first_refused marks (a + suc (m - 1)) (suc (n - m - 1)))) (one_frame marks (a / 1024) a (m - 1) (omega arith) (omega arith))
    ∙ (ap (λ (k : ℕ). and_then (byte_at marks a) (first_refused marks k (suc (n - m - 1)))) at
    ∙ ap (λ (x : Result (Unit {0}) PlaceFault). and_then (byte_at marks a) x) (one_frame marks (l / 1024) l (n - m - 1) (omega arith) (omega arith)))))

-- the answer for a block, from what its one or two frames answer
pub by_frames : (marks : ℕ → Mark) (a n : ℕ) → 0 < n → n ≤ 1024 → a + n ≤ 65536
    → place_of marks a n ≡ and_then (byte_at marks a) (cond (ltb a ((a + n - 1) / 1024 * 1024)) (byte_at marks ((a + n - 1) / 1024 * 1024)) (Ok tt))
by_frames marks a n some few room =
    let within : place_of marks a n ≡ first_refused marks a n = grind (arith, nat_tests) in
    elim (cases_lt a ((a + n - 1) / 1024 * 1024)) [
      | inl two ↦ let e = two_decide marks a n some few two in grind (arith, nat_tests)
      | inr one ↦ let e = one_decides marks a n some few one in grind (arith, nat_tests)
    ]

-- a free place is plain byte for byte
free_plain : (marks : ℕ → Mark) (a n : ℕ) → first_refused marks a n ≡ Ok tt → AllPlain marks a n
free_plain marks a zero e i h = absurd (omega arith)
free_plain marks a (suc n) e i h =
    let here : byte_at marks a ≡ Ok tt = grind (arith, nat_tests) in
    let later : first_refused marks (a + 1) n ≡ Ok tt = grind (arith, nat_tests) in
    elim (cases_eq i 0) [
      | inl z ↦ let at : a + i ≡ a = omega arith in ap (λ (k : ℕ). mark_at marks k) at ∙ free_byte marks a here
      | inr z ↦
          let at : a + i ≡ a + 1 + (i - 1) = omega arith in
          ap (λ (k : ℕ). mark_at marks k) at ∙ free_plain marks (a + 1) n later (i - 1) (omega arith)
    ]

pub place_free : (marks : ℕ → Mark) (a n : ℕ) {u : Unit {0}} → Ok u ≡ place_of marks a n → (a + n ≤ 65536) × AllPlain marks a n
place_free marks a n e =
    let room : a + n ≤ 65536 = grind (arith, nat_tests) in
    let free : first_refused marks a n ≡ Ok tt = grind (arith, nat_tests) in
    (room, free_plain marks a n free)

-- one byte more of a body
put_more : (bytes : ℕ → ℕ) (a i : ℕ) (body : List ℕ) → i < length body
    → put (overlaid bytes a (take i body)) (a + i) (get_or body i 0) ≡ overlaid bytes a (take (i + 1) body)
put_more bytes a i body h = fun_ext (λ k.
    let l = length-take i body in
    let l' = length-take (i + 1) body in
    let g = get_or-take i body (k - a) 0 in
    let g' = get_or-take (i + 1) body (k - a) 0 in
    let at : k ≡ a + i → k - a ≡ i = λ e. omega arith in
    grind (arith, nat_tests))

pub written_more : (marks : ℕ → Mark) (bytes : ℕ → ℕ) {now next : ℕ → ℕ} (a i : ℕ) (body : List ℕ) → i < length body → mark_at marks (a + i) ≡ Plain
    → now ≡ overlaid bytes a (take i body) → next ≡ written marks now (a + i) (get_or body i 0) → next ≡ overlaid bytes a (take (i + 1) body)
written_more marks bytes {now = now} a i body h plain e d =
    d ∙ (ap (λ (m : Mark). written_by m now (a + i) (get_or body i 0)) plain
    ∙ (ap (λ (f : ℕ → ℕ). put f (a + i) (get_or body i 0)) e ∙ put_more bytes a i body h))

-- a place that is plain byte for byte is free
plain_free : (marks : ℕ → Mark) (a n : ℕ) → AllPlain marks a n → first_refused marks a n ≡ Ok tt
plain_free marks a zero plain = refl
plain_free marks a (suc n) plain =
    let here : mark_at marks a ≡ Plain = ap (λ (k : ℕ). mark_at marks k) (sym (add-zero a)) ∙ plain 0 (omega arith) in
    ap (λ (x : Result (Unit {0}) PlaceFault). and_then x (first_refused marks (a + 1) n)) (plain_byte marks a here)
    ∙ plain_free marks (a + 1) n (λ i h.
    let at : a + 1 + i ≡ a + (i + 1) = omega arith in
    ap (λ (k : ℕ). mark_at marks k) at ∙ plain (i + 1) (omega arith))

pub place_plain : (marks : ℕ → Mark) (a n : ℕ) → a + n ≤ 65536 → AllPlain marks a n → place_of marks a n ≡ Ok tt
place_plain marks a n room plain =
    let free = plain_free marks a n plain in grind (arith, nat_tests)
