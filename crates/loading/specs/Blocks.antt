-- What putting a block into a memory answers and leaves.
use Rattle.std.specs.Prelude.{◌≡◌, ℕ, zero, suc, ◌+◌, ◌-◌, ◌<◌, cond, List, length, Ok, Err, Result, ◌==◌, nat_lt, slice_index}
use Rattle.memory.specs.declared.Mark.{Mark}
use Rattle.memory.specs.declared.Mark.TheVariants.{Plain}
use Rattle.memory.specs.declared.MemoryFault.{MemoryFault}
use Rattle.memory.specs.Meaning.{mark_at, write_answer}
use Rattle.faults.specs.declared.Misplaced.TheVariants.{Past}
use Rattle.faults.specs.declared.PlaceFault.{PlaceFault}
use Rattle.faults.specs.declared.PutFault.{PutFault}
use Rattle.faults.specs.declared.PutFault.TheVariants as put
use Rattle.faults.specs.Faults.{memory_misplaced}

-- What the memory answers to a write, with the address.
abbrev pub placed : ℕ → Result (Unit {0}) MemoryFault → Result (Unit {0}) PlaceFault
placed address (Ok done) = Ok tt
placed address (Err fault) = Err (record { fault = memory_misplaced fault; address = address })

-- The first of two answers that is a refusal.
abbrev pub and_then : {E : Type 0} → Result (Unit {0}) E → Result (Unit {0}) E → Result (Unit {0}) E
and_then (Ok done) next = next
and_then (Err fault) next = Err fault

-- The first of `count` bytes from `address` on whose frame is not plain, with the fault by its mark.
abbrev pub first_refused : (ℕ → Mark) → ℕ → ℕ → Result (Unit {0}) PlaceFault
first_refused marks address zero = Ok tt
first_refused marks address (suc count) =
    and_then (placed address (write_answer marks address)) (first_refused marks (address + 1) count)

-- A byte past the last address is refused first, whatever the frames are.
abbrev pub place_of : (ℕ → Mark) → ℕ → ℕ → Result (Unit {0}) PlaceFault
place_of marks address count =
    cond (nat_lt 65536 (address + count)) (Err (record { fault = Past; address = 65536 })) (first_refused marks address count)

-- Each of `count` bytes from `address` on lies in a plain frame.
abbrev pub AllPlain : (ℕ → Mark) → ℕ → ℕ → Type 0
AllPlain marks address count = (i : ℕ) → i < count → mark_at marks (address + i) ≡ Plain

-- The bytes with a body laid over them from an address on.
abbrev pub overlaid : (ℕ → ℕ) → ℕ → List ℕ → ℕ → ℕ
overlaid bytes address body k =
    cond (nat_lt k address) (bytes k)
    (cond (nat_lt k (address + length body)) (slice_index body (k - address)) (bytes k))

-- The new sum, if the place is free.
abbrev pub summed : ℕ → Result (Unit {0}) PlaceFault → Result ℕ PutFault
summed sum (Ok done) = Ok sum
summed sum (Err place) = Err (put.Place place)

-- What a ticket with this sum answers to a block.
abbrev pub put_of : ℕ → (ℕ → Mark) → ℕ → List ℕ → Result ℕ PutFault
put_of sum marks address body =
    cond (length body == 0) (Err put.BlockLength)
    (cond (nat_lt 1024 (length body)) (Err put.BlockLength)
    (cond (nat_lt 65535 (sum + length body)) (Err put.SumTooLarge)
    (summed (sum + length body) (place_of marks address (length body)))))

-- The ticket's sum and the bytes after that answer: a refusal changes neither.
abbrev pub sum_after : ℕ → Result ℕ PutFault → ℕ
sum_after sum (Ok new) = new
sum_after sum (Err fault) = sum

abbrev pub bytes_after : (ℕ → ℕ) → ℕ → List ℕ → Result ℕ PutFault → ℕ → ℕ
bytes_after bytes address body (Ok new) = overlaid bytes address body
bytes_after bytes address body (Err fault) = bytes
