-- The load's loop: one record more.
use Rattle.std.proofs.Common.{◌≡◌, ℕ, suc, ◌+◌, ◌-◌, ◌<◌, ◌≤◌, List, length, Ok, Err, Result, Option, Some, None, sym, refl, ap, ◌∙◌, arith}
use Rattle.memory.specs.declared.Mark.{Mark}
use Rattle.records.specs.declared.fault.RecordFault.{RecordFault}
use Rattle.records.specs.Records.{Item, block, end, record_of}
use Rattle.faults.specs.declared.PutFault.{PutFault}
use Rattle.loading.specs.Blocks.{put_of}
use Rattle.loading.specs.Loads.{Turn, Final, turn, put_by, turn_by, turn_of, continued, load_from}

put_position : (bytes : ℕ → ℕ) (p s a : ℕ) (body : List ℕ) (y : Result ℕ PutFault) → (put_by bytes p s a body y).position ≡ p + (7 + length body)
put_position bytes p s a body (Ok new) = refl
put_position bytes p s a body (Err e) = refl

-- a block that is put moves the reader on
pub put_moves : (marks : ℕ → Mark) (bytes : ℕ → ℕ) (f : List ℕ) (p s : ℕ) {s' p' : ℕ} {bytes' : ℕ → ℕ}
    → turn (Ok None) s' bytes' p' ≡ turn_of marks bytes f p s → p < p'
put_moves marks bytes f p s {s' = s'} {p' = p'} {bytes' = bytes'} h = go (record_of f p) h
  where
    go : (x : Result Item RecordFault) → turn (Ok None) s' bytes' p' ≡ turn_by marks bytes p s x → p < p'
    go (Err e) h = let a : ◌≡◌ {A = Result (Option ℕ) _} (Ok None) (Err _) = ap (λ (t : Turn). t.answer) h in (cc)
    go (Ok (end n)) h = let a : ◌≡◌ {A = Result (Option ℕ) _} (Ok None) (Ok (Some n)) = ap (λ (t : Turn). t.answer) h in (cc)
    go (Ok (block a body)) h =
        let q : p' ≡ p + (7 + length body) = ap (λ (t : Turn). t.position) h ∙ put_position bytes p s a body (put_of s marks a body) in
        omega arith

-- what is left of a load, one record on; marks and file are those that the load began with
pub load_on : (marks marks' : ℕ → Mark) (bytes : ℕ → ℕ) (f g : List ℕ) (p s k : ℕ) {t : Turn} {whole : Final} → t ≡ turn_of marks' bytes g p s → marks' ≡ marks → g ≡ f → k ≤ p → p ≤ length g
    → load_from (length f + 1 - k) marks bytes f p s k ≡ whole
    → continued t p k (load_from (length f + 1 - (k + 1)) marks t.bytes f t.position t.sum (k + 1)) ≡ whole
load_on marks marks' bytes f g p s k {t = t} h m e kp pf rest =
    let same : length g ≡ length f = ap (λ (l : List ℕ). length l) e in
    let up : length f + 1 - k ≡ suc (length f + 1 - (k + 1)) = omega arith in
    let at : t ≡ turn_of marks bytes f p s = h ∙ (ap (λ (x : ℕ → Mark). turn_of x bytes g p s) m ∙ ap (λ (x : List ℕ). turn_of marks bytes x p s) e) in
    ap (λ (x : Turn). continued x p k (load_from (length f + 1 - (k + 1)) marks x.bytes f x.position x.sum (k + 1))) at
    ∙ (ap (λ (n : ℕ). load_from n marks bytes f p s k) (sym up) ∙ rest)
