-- The records of a load file, as lists of bytes give them.
use Rattle.std.specs.Prelude.{ℕ, ◌+◌, ◌*◌, cond, List, length, take, drop, Ok, Err, Result, ◌==◌, nat_lt, slice_index}
use Rattle.records.specs.declared.fault.RecordFault.{RecordFault}
use Rattle.records.specs.declared.fault.RecordFault.TheVariants.{NoMark, CutShort, BlockLength, TrailingBytes}
use Rattle.records.specs.declared.kind.Kind.{Kind}
use Rattle.records.specs.declared.kind.Kind.TheVariants as kind
use Rattle.records.specs.declared.reader.Record.{Record}
use Rattle.records.specs.declared.reader.Record.TheVariants as rec
use Rattle.records.specs.Kinds.{kind_by}

-- What a record says: bytes to lie from an address on, or the sum of all such bytes.
pub data Item : Type 0 where
  block : ℕ → List ℕ → Item
  end : ℕ → Item

abbrev pub item_of : Record → Item
item_of (rec.Block address body) = block address body.now
item_of (rec.End sum) = end sum

-- What the reader's answer says.
abbrev pub seen : Result Record RecordFault → Result Item RecordFault
seen (Ok r) = Ok (item_of r)
seen (Err e) = Err e

-- The 16-bit number at i, its low byte first.
abbrev pub word_at : List ℕ → ℕ → ℕ
word_at f i = slice_index f i + slice_index f (i + 1) * 256

-- A block behind its mark and kind: address, length, and a body of 1 to 1,024 bytes.
abbrev pub block_by : List ℕ → ℕ → Result Item RecordFault
block_by content count =
    cond (count == 0) (Err BlockLength)
    (cond (nat_lt 1024 count) (Err BlockLength)
    (cond (nat_lt (length content) (4 + count)) (Err CutShort)
    (Ok (block (word_at content 0) (take count (drop 4 content))))))

abbrev pub block_in : List ℕ → Result Item RecordFault
block_in content = cond (nat_lt (length content) 4) (Err CutShort) (block_by content (word_at content 2))

-- An end record behind its mark and kind: the sum, and nothing after it.
abbrev pub end_in : List ℕ → Result Item RecordFault
end_in content =
    cond (nat_lt (length content) 2) (Err CutShort)
    (cond (nat_lt 2 (length content)) (Err TrailingBytes)
    (Ok (end (word_at content 0))))

-- The layout goes by the kind.
abbrev pub content_by : List ℕ → Result Kind RecordFault → Result Item RecordFault
content_by content (Ok kind.Block) = block_in content
content_by content (Ok kind.End) = end_in content
content_by content (Err e) = Err e

-- The record that begins a list of bytes: the mark 0x53 0x33, then the kind.
abbrev pub record_in : List ℕ → Result Item RecordFault
record_in bytes =
    cond (nat_lt (length bytes) 3) (Err CutShort)
    (cond (slice_index bytes 0 == 0x53)
    (cond (slice_index bytes 1 == 0x33) (content_by (drop 3 bytes) (kind_by (slice_index bytes 2))) (Err NoMark))
    (Err NoMark))

-- The record that begins at p.
abbrev pub record_of : List ℕ → ℕ → Result Item RecordFault
record_of f p = record_in (drop p f)

-- How many bytes a record takes.
abbrev pub size_of : Item → ℕ
size_of (block address body) = 7 + length body
size_of (end sum) = 5

-- Where the position is after an answer: behind the record, or where it was.
abbrev pub after : ℕ → Result Item RecordFault → ℕ
after p (Ok item) = p + size_of item
after p (Err e) = p
