-- What lies in a machine's memory before its supervisor starts.
use Rattle.std.specs.Prelude.{ℕ, ◌+◌, ◌-◌, ◌*◌, ◌/◌, ◌%◌, if◌then◌else◌, List, map, ◌==◌, nat_lt, slice_index}
use Rattle.std.specs.List.{range_with_len}
use Rattle.pairing.specs.declared.image.Image.{Image}

-- A byte of words that lie low byte first, and 0 past their end.
abbrev pub word_byte : List ℕ → ℕ → ℕ
word_byte words k = if k % 2 == 0 then slice_index words (k / 2) % 256 else slice_index words (k / 2) / 256

-- The frames in which the supervisor, its secrets and the user begin, and the first behind the user.
abbrev pub supervisor_frame : ℕ
supervisor_frame = 32

abbrev pub secrets_frame : ℕ
secrets_frame = 33

abbrev pub user_frame : ℕ
user_frame = 40

abbrev pub free_frame : ℕ
free_frame = 42

-- The byte at address k, by the frame that holds it.
abbrev pub image_byte : Image → ℕ → ℕ
image_byte image k =
    if nat_lt (k / 1024) supervisor_frame then 0
    else if nat_lt (k / 1024) secrets_frame then word_byte image.supervisor.now (k - supervisor_frame * 1024)
    else if nat_lt (k / 1024) user_frame then word_byte image.secrets.now (k - secrets_frame * 1024)
    else if nat_lt (k / 1024) free_frame then slice_index image.user.now (k - user_frame * 1024)
    else 0

-- The n bytes from an address on.
abbrev pub image_bytes : Image → ℕ → ℕ → List ℕ
image_bytes image first n = map (λ k. image_byte image (first + k)) (range_with_len 0 n)
