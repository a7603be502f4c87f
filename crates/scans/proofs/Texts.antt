-- The text of quoted strings by comparisons: one of `#` to `~` is text unless it is the backslash, any other byte by two or three more.
use Rattle.std.proofs.Common.{◌≡◌, ℕ, ◌<◌, ◌≤◌, Bool, true, false, cond, not, eqb, leb, List, length, get_or, sym, refl, ap, arith, ne_eqb, le-leb}
use borrow.Author.Tests.{lt-leb}
use Rattle.octets.specs.Bytes.{text?, within}
use Rattle.octets.proofs.Spans.{by_range}
use Rattle.scans.specs.helpers.Runs.{run_end}
use Rattle.scans.proofs.Runs.{run-end-stop}

-- ## One of `#` to `~`

visible : ℕ → Bool
visible b = cond (within 35 126 b) (cond (eqb b 92) true (text? b)) true

chosen : (t u x : Bool) → cond t (cond u true x) true ≡ true → t ≡ true → u ≡ false → x ≡ true
chosen t u x e h k = rw (h, k) at e

pub visible_text : (b : ℕ) → b < 256 → within 35 126 b ≡ true → (b ≡ 92 → ⊥) → text? b ≡ true
unfolding text? visible
visible_text b s h k =
    chosen (within 35 126 b) (eqb b 92) (text? b) (by_range visible (λ (n : ℕ). true) 0 256 refl b (omega arith) (omega arith)) h (ne_eqb b 92 k)

backslash_not : (b : ℕ) → b ≡ 92 → text? b ≡ false
unfolding text?
backslash_not b e = ap text? e

-- text ends at a backslash
pub backslash_ends : (s : List ℕ) (i : ℕ) → i < length s → get_or s i 0 ≡ 92 → run_end text? s i ≡ i
backslash_ends s i h e = run-end-stop text? s i h (backslash_not (get_or s i 0) e)

-- ## Any other byte

other : ℕ → Bool
other b = cond (leb 32 b) (cond (eqb b 34) false (not (eqb b 127))) (eqb b 9)

left-of : (ℕ → Bool) → ℕ → Bool
left-of p b = cond (within 35 126 b) true (p b)

chosen_not : (t x y : Bool) → cond t true x ≡ cond t true y → t ≡ false → x ≡ y
chosen_not t x y e h = rw h at e

other-is : (b : ℕ) → b < 256 → within 35 126 b ≡ false → other b ≡ text? b
unfolding text? other left-of
other-is b s h = chosen_not (within 35 126 b) (other b) (text? b) (by_range (left-of other) (left-of text?) 0 256 refl b (omega arith) (omega arith)) h

module _ (b : ℕ) (s : b < 256) (h : within 35 126 b ≡ false) where
  pub control_text : b < 32 → eqb b 9 ≡ text? b
  unfolding other
  control_text k = let e = other-is b s h in rw (lt-leb 32 b k) at e

  pub quote-not : b ≡ 34 → false ≡ text? b
  unfolding text?
  quote-not k = ap text? (sym k)

  pub high_text : 32 ≤ b → (b ≡ 34 → ⊥) → not (eqb b 127) ≡ text? b
  unfolding other
  high_text k n = let e = other-is b s h in rw (le-leb 32 b k, ne_eqb b 34 n) at e
