-- How many bytes of a word stand at the front of a text, letter case ignored, a byte at a time.
use Rattle.std.proofs.Common.{◌≡◌, ℕ, suc, ◌+◌, ◌<◌, ◌≤◌, List, length, get_or, drop, eq-eqb, ne_eqb}
use Rattle.grammar.specs.Grammar.{lower}
use Rattle.grammar.proofs.Matching.{matching-word-out, matching-text-out, matching-differs, matching-next}
use Rattle.scans.specs.helpers.Words.{same_letter, agreeing}

module _ (w s : List ℕ) (i j : ℕ) where
  pub agreeing-word-out : length w ≤ i → agreeing (drop i w) (drop j s) ≡ 0
  agreeing-word-out h = matching-word-out same_letter w s i j h

  pub agreeing-text-out : length s ≤ j → agreeing (drop i w) (drop j s) ≡ 0
  agreeing-text-out h = matching-text-out same_letter w s i j h

  module _ (h : i < length w) (k : j < length s) where
    pub agreeing-differs : (lower (get_or s j 0) ≡ lower (get_or w i 0) → ⊥) → agreeing (drop i w) (drop j s) ≡ 0
    agreeing-differs n = matching-differs same_letter w s i j h k (ne_eqb (lower (get_or s j 0)) (lower (get_or w i 0)) n)

    pub agreeing-next : lower (get_or s j 0) ≡ lower (get_or w i 0)
        → agreeing (drop i w) (drop j s) ≡ suc (agreeing (drop (i + 1) w) (drop (j + 1) s))
    agreeing-next e = matching-next same_letter w s i j h k (eq-eqb (lower (get_or s j 0)) (lower (get_or w i 0)) e)
