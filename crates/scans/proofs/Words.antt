-- How many bytes of a word can agree: as many as it has, and as many as the text has.
use Rattle.std.proofs.Common.{◌≡◌, ℕ, ◌≤◌, List, length, arith}
use Rattle.grammar.proofs.Matching.{matching-short}
use Rattle.scans.specs.helpers.Words.{same_letter, agreeing}

-- all of the word stands there
pub word-whole : (w s : List ℕ) → length w ≤ agreeing w s → agreeing w s ≡ length w
word-whole w s h = omega (arith, (matching-short same_letter w s).0)

pub word-inside : (w s : List ℕ) → agreeing w s ≡ length w → length w ≤ length s
word-inside w s h = omega (arith, (matching-short same_letter w s).1)
