-- What the public calls answer.
use Rattle.std.specs.Prelude.{◌≡◌, ℕ, ◌<◌, cond, List, ◌++◌, length, drop, Ok, Err, Result, ◌≢◌, nat_lt}
use Rattle.text.specs.declared.TextRefusal.{TextRefusal}
use Rattle.text.specs.declared.TextRefusal.TheVariants.{NoWord, ShortBuffer}
use Rattle.text.specs.Text.{text_of}

abbrev pub refusal_number : TextRefusal → ℕ
refusal_number NoWord = 20
refusal_number ShortBuffer = 21

-- writing answers the text's length, where the buffer is long enough
abbrev pub write_answer : ℕ → List ℕ → Result ℕ TextRefusal
write_answer word buffer = cond (nat_lt (length buffer) 24) (Err ShortBuffer) (Ok (length (text_of word)))

-- the text stands at the start of the buffer, whose rest is as it was; a buffer that is refused is as it was
abbrev pub written : ℕ → List ℕ → List ℕ
written word buffer = cond (nat_lt (length buffer) 24) buffer (text_of word ++ drop (length (text_of word)) buffer)

-- a text is read as a word exactly if it is the text of that word and of no other, and refused exactly if no word has it
abbrev pub ReadsAs : List ℕ → Result ℕ TextRefusal → Type 0
ReadsAs text (Ok word) = (word < 65536) × (text_of word ≡ text) × ((other : ℕ) → other < 65536 → text_of other ≡ text → other ≡ word)
ReadsAs text (Err refusal) = (refusal ≡ NoWord) × ((word : ℕ) → word < 65536 → text_of word ≢ text)

-- the text of a word is read as that word
abbrev pub ReadsBack : List ℕ → Result ℕ TextRefusal → Type 0
ReadsBack text r = (word : ℕ) → word < 65536 → text_of word ≡ text → r ≡ Ok word
