-- What a load does, said of the blocks of the file and not of the reader's way through it.
use Rattle.std.specs.Prelude.{◌≡◌, ℕ, zero, suc, ◌+◌, ◌-◌, ◌<◌, ◌≤◌, true, ◌⊎◌, List, [], ◌∷◌, ◌++◌, length, is_ok, Ok, Err, Result, ◌≢◌, slice_index}
use Rattle.std.specs.List.{AllByRecursion}
use Rattle.memory.specs.declared.Mark.{Mark}
use Rattle.memory.specs.declared.Mark.TheVariants.{Plain}
use Rattle.memory.specs.Meaning.{mark_at}
use Rattle.records.specs.declared.fault.RecordFault.{RecordFault}
use Rattle.records.specs.Records.{Item, block, end, record_of, after}
use Rattle.records.specs.Files.{block_bytes, end_bytes}
use Rattle.loading.specs.declared.load.Loaded.{Loaded}
use Rattle.loading.specs.declared.load.LoadRefusal.{LoadRefusal}
use Rattle.loading.specs.Blocks.{AllPlain, overlaid}

-- A block of a file: where it is to lie, and its bytes.
pub record Block : Type 0 where
  pub address : ℕ
  pub body : List ℕ

-- A block covers the addresses from its own on, one for each byte of its body.
abbrev pub Covers : Block → ℕ → Type 0
Covers b k = (b.address ≤ k) × (k < b.address + length b.body)

abbrev pub Uncovered : List Block → ℕ → Type 0
Uncovered blocks k = AllByRecursion (λ b. Covers b k → ⊥) blocks

-- The byte that a block carries for an address.
abbrev pub carries : Block → ℕ → ℕ
carries b k = slice_index b.body (k - b.address)

-- The byte is what the last of the blocks that cover the address carries.
abbrev pub LastCarries : List Block → ℕ → ℕ → Type 0
LastCarries [] k byte = ⊥
LastCarries (b ∷ later) k byte = LastCarries later k byte ⊎ (Uncovered later k × Covers b k × (byte ≡ carries b k))

-- A block fits if all its bytes have addresses, in plain frames.
abbrev pub Fits : (ℕ → Mark) → Block → Type 0
Fits marks b = (b.address + length b.body ≤ 65536) × AllPlain marks b.address (length b.body)

-- The bytes with one block after the other laid over them.
abbrev pub overlaid_all : (ℕ → ℕ) → List Block → ℕ → ℕ
overlaid_all bytes [] = bytes
overlaid_all bytes (b ∷ blocks) = overlaid_all (overlaid bytes b.address b.body) blocks

-- The first n records of a file from p on, as far as they are blocks.
abbrev pub block_before : Result Item RecordFault → List Block → List Block
block_before (Ok (block address body)) blocks = record { address = address; body = body } ∷ blocks
block_before (Ok (end sum)) blocks = []
block_before (Err fault) blocks = []

abbrev pub blocks_from : ℕ → List ℕ → ℕ → List Block
blocks_from zero file p = []
blocks_from (suc n) file p = block_before (record_of file p) (blocks_from n file (after p (record_of file p)))

-- How many blocks a load says that it has written.
abbrev pub blocks_of : Result Loaded LoadRefusal → ℕ
blocks_of (Ok loaded) = loaded.blocks
blocks_of (Err refusal) = refusal.blocks

-- The accepted blocks: the first of the file, as many as the answer says.
abbrev pub accepted : Result Loaded LoadRefusal → List ℕ → List Block
accepted answer file = blocks_from (blocks_of answer) file 0

-- Whatever the file is: the answer counts the accepted blocks; each byte is as it was, where no
-- accepted block covers it, or is what the last of them that covers it carries; and only bytes
-- in plain frames have changed.
pub record Accounted (marks : ℕ → Mark) (before : ℕ → ℕ) (now : ℕ → ℕ) (file : List ℕ) (answer : Result Loaded LoadRefusal) : Type 0 where
  pub counted : length (accepted answer file) ≡ blocks_of answer
  pub carried : (k : ℕ) → (Uncovered (accepted answer file) k × (now k ≡ before k)) ⊎ LastCarries (accepted answer file) k (now k)
  pub plain : (k : ℕ) → (now k ≢ before k) → (k < 65536) × (mark_at marks k ≡ Plain)

-- A block that a file may hold: 1 to 1,024 bytes.
abbrev pub Sized : Block → Type 0
Sized b = (1 ≤ length b.body) × (length b.body ≤ 1024)

abbrev pub total : List Block → ℕ
total [] = 0
total (b ∷ blocks) = length b.body + total blocks

-- The file that the format's rules make of a list of blocks: a record for each, and the end
-- record with the sum of their lengths.
abbrev pub records_before : List Block → List ℕ → List ℕ
records_before [] ending = ending
records_before (b ∷ blocks) ending = block_bytes b.address b.body ++ records_before blocks ending

abbrev pub file_of : List Block → List ℕ
file_of blocks = records_before blocks (end_bytes (total blocks))

-- Such a file, if it is not too long, is accepted exactly when each block fits; the load then
-- answers the number of blocks and the sum, and leaves the blocks laid one over the other.
pub record Faithful (marks : ℕ → Mark) (before : ℕ → ℕ) (now : ℕ → ℕ) (file : List ℕ) (answer : Result Loaded LoadRefusal) : Type 0 where
  pub taken : (blocks : List Block) → file ≡ file_of blocks → length file ≤ 65535 → AllByRecursion Sized blocks → AllByRecursion (Fits marks) blocks
      → (answer ≡ Ok (record { blocks = length blocks; sum = total blocks })) × (now ≡ overlaid_all before blocks)
  pub fitting : (blocks : List Block) → file ≡ file_of blocks → length file ≤ 65535 → AllByRecursion Sized blocks → is_ok answer ≡ true → AllByRecursion (Fits marks) blocks
