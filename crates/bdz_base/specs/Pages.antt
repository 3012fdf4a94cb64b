-- Where a word of the packed table lies. Assumes nothing.
use Rattle.std.specs.Prelude.{ℕ, ◌+◌, ◌-◌, ◌*◌, ◌/◌, ◌%◌}

-- the byte in which the word at v starts, and the bit of it
abbrev pub start_byte : ℕ → ℕ → ℕ
start_byte w v = v * w / 8

abbrev pub start_bit : ℕ → ℕ → ℕ
start_bit w v = v * w % 8

-- "Pages are 4,096 bytes of the packed table", which is 32,768 bits: the pages of the word's first bit and of its last
abbrev pub first_page : ℕ → ℕ → ℕ
first_page w v = v * w / 32768

abbrev pub last_page : ℕ → ℕ → ℕ
last_page w v = (v * w + (w - 1)) / 32768
