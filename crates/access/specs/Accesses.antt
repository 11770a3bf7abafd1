-- What a fetch, a load and a store answer, and the bytes that a store leaves.
use Rattle.std.specs.Prelude.{ℕ, ◌+◌, ◌*◌, ◌/◌, ◌%◌, Bool, List, Ok, Err, Result}
use Rattle.memory.specs.declared.Mark.{Mark}
use Rattle.memory.specs.Meaning.{put}
use Rattle.translation.specs.declared.address.Access.TheVariants.{Fetch, Load, Store}
use Rattle.translation.specs.declared.address.Width.{Width}
use Rattle.translation.specs.declared.address.Width.TheVariants.{Byte, Word}
use Rattle.translation.specs.declared.event.Event.{Event}
use Rattle.paging.specs.declared.PageEntry.{PageEntry}
use Rattle.translation.specs.Addresses.{physical_address}

-- A word has its low byte first.
abbrev pub word_at : (ℕ → ℕ) → ℕ → ℕ
word_at bytes at = bytes at + 256 * bytes (at + 1)

abbrev pub word_put : (ℕ → ℕ) → ℕ → ℕ → ℕ → ℕ
word_put bytes at word = put (put bytes at (word % 256)) (at + 1) (word / 256)

-- What lies at a physical address, by the width of the access.
abbrev pub value_at : Width → (ℕ → ℕ) → ℕ → ℕ
value_at Byte bytes at = bytes at
value_at Word bytes at = word_at bytes at

-- A byte store stores the low byte.
abbrev pub value_put : Width → (ℕ → ℕ) → ℕ → ℕ → ℕ → ℕ
value_put Byte bytes at value = put bytes at (value % 256)
value_put Word bytes at value = word_put bytes at value

-- What passed its checks is read; else the first failed check is the answer.
abbrev pub loaded_at : Result ℕ Event → Width → (ℕ → ℕ) → Result ℕ Event
loaded_at (Ok at) width bytes = Ok (value_at width bytes at)
loaded_at (Err e) width bytes = Err e

abbrev pub fetched : Bool → List PageEntry → (ℕ → Mark) → (ℕ → ℕ) → ℕ → Result ℕ Event
fetched user entries marks bytes address = loaded_at (physical_address user entries marks Fetch Word address) Word bytes

abbrev pub loaded : Bool → List PageEntry → (ℕ → Mark) → (ℕ → ℕ) → Width → ℕ → Result ℕ Event
loaded user entries marks bytes width address = loaded_at (physical_address user entries marks Load width address) width bytes

-- A store answers the first failed check, if there is one.
abbrev pub store_answer_at : Result ℕ Event → Result (Unit {0}) Event
store_answer_at (Ok at) = Ok tt
store_answer_at (Err e) = Err e

abbrev pub store_answer : Bool → List PageEntry → (ℕ → Mark) → Width → ℕ → Result (Unit {0}) Event
store_answer user entries marks width address = store_answer_at (physical_address user entries marks Store width address)

-- A store that fails a check leaves every byte.
abbrev pub stored_at : Result ℕ Event → Width → (ℕ → ℕ) → ℕ → ℕ → ℕ
stored_at (Ok at) width bytes value = value_put width bytes at value
stored_at (Err e) width bytes value = bytes

abbrev pub stored : Bool → List PageEntry → (ℕ → Mark) → (ℕ → ℕ) → Width → ℕ → ℕ → ℕ → ℕ
stored user entries marks bytes width address value =
    stored_at (physical_address user entries marks Store width address) width bytes value
