-- A byte of a chunk line, as the code tells it: a digit where one may go on, or another byte.
use mathlib.Core.Path.{◌≡◌, refl, sym, ◌∙◌, ap, ap₂}
use mathlib.Core.Bool.{Bool, true, false, cond}
use mathlib.Core.Option.{Option, none, some}
use Prim.Native.Nat.{ℕ, suc, ◌+◌, ◌*◌, ◌≤◌}
use lib.Dec.{eqb}
use Rattle.octets.specs.Bytes.{hex?, hex_value}
use Rattle.octets.proofs.Bytes.{is_hex}
use Rattle.framing.specs.declared.LinePos.{LinePos}
use Rattle.framing.specs.declared.LinePos.TheVariants.{First, Size, Ext}
use Rattle.framing.specs.declared.State.TheVariants.{Line}
use Rattle.framing.specs.helpers.Extensions.{ext_step, ext_ends}
use Rattle.framing.specs.helpers.Machine.{next_line_pos, line_ends, size_of, leave_line, step}
use Rattle.framing.proofs.Cases.{false-true}
use Rattle.framing.proofs.Turns as Turns
use Rattle.transition.specs.helpers.Lines.{digits, ext_pos_of, behind_digits}

module _ (b : ℕ) where
  digit_next : (p : LinePos) → digits p ≡ true → hex? b ≡ true → next_line_pos p b ≡ Size (size_of p * 16 + hex_value b)
  digit_next First i h = Turns.first_digit b h
  digit_next (Size v) i h = Turns.more_digit b v h
  digit_next (Ext v x) i h = false-true i

  other-next : (p : LinePos) → (digits p ≡ true → hex? b ≡ false) → next_line_pos p b ≡ Ext (size_of p) (ext_step (ext_pos_of p) b)
  unfolding next_line_pos
  other-next First h = ap (λ (z : Bool). cond z (Size (0 * 16 + hex_value b)) (Ext 0 (ext_step (ext_pos_of First) b))) (h refl)
  other-next (Size v) h = Turns.size-other b v (h refl)
  other-next (Ext v x) h = refl

  other-ends : (p : LinePos) → line_ends p ≡ cond (ext_ends (ext_pos_of p)) (some (size_of p)) none
  unfolding line_ends
  other-ends First = refl
  other-ends (Size v) = refl
  other-ends (Ext v x) = refl

  module _ (p : LinePos) (k t : ℕ) where
    pub digit_step : (d : ℕ) → d ≡ cond (hex? b) (hex_value b) 16 → d ≤ 15 → digits p ≡ true
        → Line (Size (size_of p * 16 + d)) (suc k) t ≡ step (Line p k t) b
    digit_step d e low i =
        let w : (hex? b ≡ true) × (d ≡ hex_value b) = is_hex b d e low in
        sym
        (Turns.line_step b p k t (Turns.digit_no_cr b w.0)
        ∙ ap (λ (q : LinePos). Line q (suc k) t) (digit_next p i w.0 ∙ ap (λ (n : ℕ). Size (size_of p * 16 + n)) (sym w.1)))

    pub other_step : (digits p ≡ true → hex? b ≡ false) → behind_digits (size_of p) (ext_pos_of p) k t b ≡ step (Line p k t) b
    unfolding step
    other_step h =
        sym
        (ap₂ (λ (o : Option ℕ) (q : LinePos). cond (eqb b 13) (leave_line o t) (Line q (suc k) t)) (other-ends p) (other-next p h))
