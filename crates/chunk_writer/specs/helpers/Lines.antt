-- The line of full chunks, which is made once. Definitions for the contracts of the helpers.
use Rattle.std.specs.Prelude.{◌≡◌, List, ◌++◌, ℕ, ◌+◌, ◌≤◌, length, take}
use Rattle.grammar.specs.Text.{bytes}
use Rattle.numerals.specs.Numeral.{numeral}

-- a block with the line of a chunk of n bytes at its front, where that fits
pub record LineOf (n : ℕ) (block : List ℕ) : Type 0 where
  pub size : length block ≡ 16
  pub front : length (numeral 16 n) + 2 ≤ 16 → take (length (numeral 16 n) + 2) block ≡ numeral 16 n ++ bytes "\r\n"
