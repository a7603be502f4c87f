-- How many bytes at the front of a text agree with those of a word: the laws, for any test of two bytes.
use Prim.Native.Nat.{ℕ, suc, ◌+◌, ◌≤◌, ◌<◌}
use native.Mathlib.Omega.{arith}
use native.Mathlib.Numerals.{add-one}
use mathlib.Core.Path.{◌≡◌, refl, sym, ap, ◌∙◌}
use mathlib.Core.Bool.{Bool, true, false, cond}
use mathlib.Core.List.{List, [], ◌∷◌}
use lib.ListN.{length, drop, get_or, drop_of_length-le}
use lib.Seq.{drop-cons}
use Rattle.grammar.specs.helpers.Words.{matching}

module _ (p : ℕ → ℕ → Bool) where
  pub matching-none : (w : List ℕ) → matching p w [] ≡ 0
  matching-none [] = refl
  matching-none (a ∷ w) = refl

  pub matching-short : (w t : List ℕ) → (matching p w t ≤ length w) × (matching p w t ≤ length t)
  matching-short [] t = (omega arith, omega arith)
  matching-short (a ∷ w) [] = (omega arith, omega arith)
  matching-short (a ∷ w) (b ∷ t) = go (p a b) (matching-short w t)
    where
      go : (x : Bool) → (matching p w t ≤ length w) × (matching p w t ≤ length t)
          → (cond x (suc (matching p w t)) 0 ≤ suc (length w)) × (cond x (suc (matching p w t)) 0 ≤ suc (length t))
      go true h = (omega arith, omega arith)
      go false h = (omega arith, omega arith)

  -- from the place i of the word and the place j of the text on
  module _ (w t : List ℕ) (i j : ℕ) where
    pub matching-word-out : length w ≤ i → matching p (drop i w) (drop j t) ≡ 0
    matching-word-out h = rw (drop_of_length-le w h)

    pub matching-text-out : length t ≤ j → matching p (drop i w) (drop j t) ≡ 0
    matching-text-out h = rw (drop_of_length-le t h) (matching-none (drop i w))

    module _ (h : i < length w) (k : j < length t) where
      pub matching-differs : p (get_or w i 0) (get_or t j 0) ≡ false → matching p (drop i w) (drop j t) ≡ 0
      matching-differs e = rw (drop-cons w i 0 h, drop-cons t j 0 k, e)

      pub matching-next : p (get_or w i 0) (get_or t j 0) ≡ true
          → matching p (drop i w) (drop j t) ≡ suc (matching p (drop (i + 1) w) (drop (j + 1) t))
      matching-next e =
          rw (drop-cons w i 0 h, drop-cons t j 0 k, e)
          (ap (λ (n : ℕ). suc (matching p (drop n w) (drop (suc j) t))) (sym (add-one i))
          ∙ ap (λ (n : ℕ). suc (matching p (drop (i + 1) w) (drop n t))) (sym (add-one j)))
