-- What stands behind the digits of a chunk line. Definitions for the contracts of the helpers.
use Rattle.std.specs.Prelude.{◌≡◌, ℕ, ◌+◌, ◌<◌, ◌≤◌, true, false, List, ◌++◌, length, take, drop, slice_index}
use Rattle.octets.specs.Bytes.{hex?}
use Rattle.framing.specs.Grammar as G
use Rattle.framing.specs.Grammar.{crlf}
use Rattle.chunked.specs.declared.Tail.{Tail}

-- the n bytes at i are extensions of the grammar and CR LF, few enough for a line with two digits before them
pub record TailAt (xs : List ℕ) (i n : ℕ) : Type 0 where
  pub inside : i + n ≤ length xs
  pub text : List ℕ
  pub split : take n (drop i xs) ≡ text ++ crlf
  pub extensions : G.Extensions text
  pub few : n ≤ 64

-- where a tail was read, it is one
abbrev pub TailKnown : List ℕ → Tail → Type 0
TailKnown xs tail = 0 < tail.length → TailAt xs tail.at tail.length

-- the digits from i on end at j
pub record DigitsTo (xs : List ℕ) (i j : ℕ) : Type 0 where
  pub starts : i ≤ j
  pub within : j ≤ length xs
  pub each : (k : ℕ) → i ≤ k → k < j → hex? (slice_index xs k) ≡ true
  pub stop : j < length xs → hex? (slice_index xs j) ≡ false
