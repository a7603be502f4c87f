-- Classes given as 256 bits in four words.
use Rattle.std.specs.Prelude.{◌≡◌, ℕ, ◌/◌, ◌%◌, ◌^◌, ◌<◌, Bool, List, ◌==◌, slice_index}

-- bit b of the words
abbrev pub member : List ℕ → ℕ → Bool
member words b = slice_index words (b / 64) / 2 ^ (b % 64) % 2 == 1

-- the words are the bits of that test
abbrev pub Bits : List ℕ → (ℕ → Bool) → Type 0
Bits words p = (b : ℕ) → b < 256 → member words b ≡ p b
