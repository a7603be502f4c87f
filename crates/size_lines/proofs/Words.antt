-- Short chunk lines, by their first four bytes.
use mathlib.Core.Path.{◌≡◌, refl, ◌∙◌, ap}
use mathlib.Core.Bool.{cond}
use Rattle.std.specs.Prelude.{Some}
use mathlib.Core.List.{List, [], ◌∷◌}
use Prim.Native.Nat.{ℕ, zero, suc, ◌+◌, ◌-◌, ◌*◌, ◌/◌, ◌%◌, ◌<◌, ◌≤◌}
use native.Mathlib.Omega.{arith}
use lib.ListN.{length, get_or}
use Rattle.octets.specs.Bytes.{hex?, hex_value}
use Rattle.chunked.specs.helpers.Passes.{LineAt, CrlfAt, HasSecond}
use Rattle.chunked.proofs.Short.{short-line}
use Rattle.size_lines.specs.helpers.Words.{word, LineOf}

-- the value of a byte, as a hex digit
abbrev valued : ℕ → ℕ
valued b = cond (hex? b) (hex_value b) 16

lowest : (n b m : ℕ) → n ≡ b + m * 256 → b < 256 → n % 256 ≡ b
lowest n b m e l = omega arith

-- by its first two bytes, the values of its digits, one or two, and the two bytes behind them
pub word_line : (w : ℕ) {x y d e n c r : ℕ} → x ≡ w % 256 → y ≡ w / 256 % 256 → d ≡ valued x → e ≡ valued y → HasSecond y n → d ≤ 15
    → e / 16 + n ≡ 1 → (n ≡ 0 → c ≡ w / 256 % 65536) × (n ≡ 1 → c ≡ w / 65536) → c ≡ 2573
    → (n ≡ 0 → r ≡ d) → (n ≡ 1 → r ≡ d * 16 + e) → 0 < r → LineOf w (Some (record { size = r; length = 3 + n }))
word_line w {x} {y} {d} {e} {n} {c} {r} x-is y-is f g s few digits ends is one two pos = λ xs o l same. (pos, line xs o l same)
  where
    crlf-at : (xs : List ℕ) → ((k : ℕ) → get_or xs k 0 < 256) → 4 ≤ length xs → w ≡ word xs → (k : ℕ) → k ≤ 1
        → (k ≡ 0 → c ≡ w / 256 % 65536) × (k ≡ 1 → c ≡ w / 65536) → CrlfAt xs (0 + (3 + k) - 2)
    crlf-at xs o l same zero h t = record {
      inside = omega arith;
      cr = omega (arith, t.0 refl, is, same, o 0, o 1, o 2, o 3);
      lf = omega (arith, t.0 refl, is, same, o 0, o 1, o 2, o 3);
    }
    crlf-at xs o l same (suc zero) h t = record {
      inside = omega arith;
      cr = omega (arith, t.1 refl, is, same, o 0, o 1, o 2, o 3);
      lf = omega (arith, t.1 refl, is, same, o 0, o 1, o 2, o 3);
    }
    crlf-at xs o l same (suc (suc k)) h t = absurd (omega arith)

    line : (xs : List ℕ) → ((k : ℕ) → get_or xs k 0 < 256) → 4 ≤ length xs → w ≡ word xs
        → LineAt xs 0 (3 + n) r (13 ∷ 10 ∷ [])
    line xs o l same =
        let b : x ≡ get_or xs 0 0 = omega (arith, x-is, same, o 0, o 1, o 2, o 3) in
        let m : ℕ = get_or xs 2 0 + get_or xs 3 0 * 256 in
        let q : w / 256 ≡ get_or xs 1 0 + m * 256 = omega (arith, same, o 0, o 1) in
        let b' : y ≡ get_or xs 1 0 = y-is ∙ lowest (w / 256) (get_or xs 1 0) m q (o 1) in
        short-line xs {i = 0} few (f ∙ ap valued b) (g ∙ ap valued b') digits s.0 (crlf-at xs o l same n s.0 ends) one two
