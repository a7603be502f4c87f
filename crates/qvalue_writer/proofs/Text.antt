-- The text that the writer gives: its length, and that it is the front of the form with three digits.
use Prim.Native.Nat.{ℕ, ◌+◌, ◌/◌, ◌%◌, ◌≤◌}
use native.Mathlib.Omega.{arith}
use borrow.Author.Tests.{eq-eqb, ne_eqb}
use mathlib.Core.Path.{◌≡◌, refl, ap, ◌∙◌}
use mathlib.Core.Bool.{Bool, true, false, cond}
use mathlib.Core.List.{List, [], ◌∷◌, ◌++◌}
use lib.Dec.{eqb}
use lib.ListN.{length, take, drop}
use Rattle.text.specs.Placing.{placed}
use Rattle.text.proofs.Placing.{placed-front}
use Rattle.qvalue_writer.specs.Writing.{full_text, text_length, qvalue_text}

pub length-is : (q : ℕ) → length (qvalue_text q) ≡ text_length q
unfolding text_length qvalue_text
length-is q = go (eqb (q % 1000) 0) (eqb (q % 100) 0) (eqb (q % 10) 0)
  where
    go : (x y z : Bool) → length (take (cond x 1 (cond y 3 (cond z 4 5))) (full_text q)) ≡ cond x 1 (cond y 3 (cond z 4 5))
    go true y z = refl
    go false true z = refl
    go false false true = refl
    go false false false = refl

pub front-is : (q n : ℕ) → n ≡ length (qvalue_text q) → take n (full_text q) ≡ qvalue_text q
unfolding qvalue_text
front-is q n e = ap (λ (k : ℕ). take k (full_text q)) (e ∙ length-is q)

pub at-most_five : (q : ℕ) → length (qvalue_text q) ≤ 5
unfolding text_length
at-most_five q = rw (length-is q) (go (eqb (q % 1000) 0) (eqb (q % 100) 0) (eqb (q % 10) 0))
  where
    go : (x y z : Bool) → cond x 1 (cond y 3 (cond z 4 5)) ≤ 5
    go true y z = omega arith
    go false true z = omega arith
    go false false true = omega arith
    go false false false = omega arith

-- no text is longer than its digits ask for
pub at-most_three : (q : ℕ) → q % 100 ≡ 0 → length (qvalue_text q) ≤ 3
unfolding text_length
at-most_three q h = rw (length-is q, eq-eqb (q % 100) 0 h) (go (eqb (q % 1000) 0))
  where
    go : (x : Bool) → cond x 1 3 ≤ 3
    go true = omega arith
    go false = omega arith

pub at-most-four : (q : ℕ) → q % 10 ≡ 0 → length (qvalue_text q) ≤ 4
unfolding text_length
at-most-four q h = rw (length-is q, eq-eqb (q % 10) 0 h) (go (eqb (q % 1000) 0) (eqb (q % 100) 0))
  where
    go : (x y : Bool) → cond x 1 (cond y 3 4) ≤ 4
    go true y = omega arith
    go false true = omega arith
    go false false = omega arith

-- what the writer puts, its digits one by one
pub front-put : (q n : ℕ) (old new : List ℕ) (a b c d : ℕ) → n ≡ length (qvalue_text q) → n ≤ length old
    → a ≡ 48 + q / 1000 % 10 → b ≡ 48 + q / 100 % 10 → c ≡ 48 + q / 10 % 10 → d ≡ 48 + q % 10
    → new ≡ placed old 0 (take n (a ∷ 46 ∷ b ∷ c ∷ d ∷ [])) → new ≡ qvalue_text q ++ drop (length (qvalue_text q)) old
front-put q n old new a b c d e h x y z w p =
    p ∙ ap (placed old 0) (rw (x, y, z, w) (front-is q n e)) ∙ placed-front old (qvalue_text q) (omega arith)

module _ (q : ℕ) where
  pub no_digit : q % 1000 ≡ 0 → length (qvalue_text q) ≡ 1
  unfolding text_length
  no_digit x = length-is q ∙ rw (eq-eqb (q % 1000) 0 x)

  module _ (x : q % 1000 ≡ 0 → ⊥) where
    pub one_digit : q % 100 ≡ 0 → length (qvalue_text q) ≡ 3
    unfolding text_length
    one_digit y = length-is q ∙ rw (ne_eqb (q % 1000) 0 x, eq-eqb (q % 100) 0 y)

    module _ (y : q % 100 ≡ 0 → ⊥) where
      pub two_digits : q % 10 ≡ 0 → length (qvalue_text q) ≡ 4
      unfolding text_length
      two_digits z = length-is q ∙ rw (ne_eqb (q % 1000) 0 x, ne_eqb (q % 100) 0 y, eq-eqb (q % 10) 0 z)

      pub three_digits : (q % 10 ≡ 0 → ⊥) → length (qvalue_text q) ≡ 5
      unfolding text_length
      three_digits z = length-is q ∙ rw (ne_eqb (q % 1000) 0 x, ne_eqb (q % 100) 0 y, ne_eqb (q % 10) 0 z)
