-- What is said of several lines, and of what is held at the end of input.
use mathlib.Core.Path.{◌≡◌, refl, sym, ◌∙◌, ap, ap₂}
use mathlib.Core.List.{List, [], ◌∷◌, ◌++◌, append_assoc, append-nil}
use Prim.Native.Nat.{ℕ, ◌+◌, ◌*◌, ◌≤◌}
use native.Mathlib.Omega.{arith}
use lib.Dec.{eqb}
use lib.ListN.{length, take, drop, length-append}
use lib.Seq.{take_at, length-take-le}
use Rattle.numerals.proofs.Digits.{split}
use Rattle.text.specs.Placing.{placed}
use Rattle.text.proofs.Placing.{placed-fits, placed-length}
use Rattle.lines.specs.Reading.{lines_from}
use Rattle.lines.proofs.Ends.{lines_none, lines-lf, lines-on}
use Rattle.report.specs.Saying.{said, all_said}
use Rattle.report.specs.Calls.{last_said, Foremost}
use Rattle.report.proofs.Says.{said-short}

-- ## All that is said
pub all_cons : (l : List ℕ) (ls : List (List ℕ)) → all_said (l ∷ ls) ≡ said l ++ all_said ls
unfolding all_said
all_cons l ls = refl

pub all_none : all_said [] ≡ []
unfolding all_said
all_none = refl

pub all_append : (ls ms : List (List ℕ)) → all_said (ls ++ ms) ≡ all_said ls ++ all_said ms
all_append [] ms = ap (λ (z : List ℕ). z ++ all_said ms) (sym all_none)
all_append (l ∷ ls) ms =
    all_cons l (ls ++ ms) ∙ ap (λ (z : List ℕ). said l ++ z) (all_append ls ms) ∙ sym (append_assoc (said l) (all_said ls) (all_said ms))
    ∙ ap (λ (z : List ℕ). z ++ all_said ms) (sym (all_cons l ls))

pub all_one : (l : List ℕ) → all_said (l ∷ []) ≡ said l
all_one l = all_cons l [] ∙ ap (λ (z : List ℕ). said l ++ z) all_none ∙ append-nil (said l)

pub all_short : (ls : List (List ℕ)) → length (all_said ls) ≤ 16 * length ls
all_short [] = omega (arith, ap length all_none)
all_short (l ∷ ls) = omega (arith, ap length (all_cons l ls), length-append (said l) (all_said ls), said-short l, all_short ls)

-- ## Text of a piece
lines-few : (begun xs : List ℕ) → length (lines_from begun xs) ≤ length xs
lines-few begun [] = omega (arith, ap length (lines_none begun))
lines-few begun (b ∷ xs) = split (eqb b 10)
    (λ e. omega (arith, ap length (lines-lf begun b xs e), lines-few [] xs))
    (λ e. omega (arith, ap length (lines-on begun b xs e), lines-few (begun ++ (b ∷ [])) xs))

pub text-short : (begun xs : List ℕ) → length (all_said (lines_from begun xs)) ≤ 16 * length xs
text-short begun xs = omega (arith, all_short (lines_from begun xs), lines-few begun xs)

-- ## At the end of input
last_none : (held : List ℕ) → length held ≡ 0 → last_said held ≡ []
last_none [] e = all_none
last_none (b ∷ held) e = absurd (omega arith)

last_some : (held : List ℕ) → (length held ≡ 0 → ⊥) → last_said held ≡ said held
last_some [] f = absurd (f refl)
last_some (b ∷ held) f = all_one (b ∷ held)

-- ## What stands in front
pub foremost_put : {n : ℕ} {new : List ℕ} (old xs : List ℕ) → length xs ≤ length old → n ≡ length xs → new ≡ placed old 0 xs
    → Foremost n new xs
foremost_put {n} {new} old xs h e w =
    let k : n ≤ length new = omega (arith, ap length w, placed-length old 0 xs) in
    record {
      within = k;
      counts = sym (length-take-le n new k);
      is = ap₂ take e (w ∙ placed-fits old 0 xs (omega arith)) ∙ take_at xs (drop (0 + length xs) old) (length xs) refl;
    }

-- what `put_last` has to show
module _ (held out : List ℕ) where
  pub last-nothing : length held ≡ 0 → Foremost 0 out (last_said held) × (out ≡ placed out 0 (last_said held))
  last-nothing e =
      let none = last_none held e in
      let put = sym (ap (placed out 0) none ∙ placed-fits out 0 [] (omega arith)) in
      (foremost_put out (last_said held) (omega (arith, ap length none)) (sym (ap length none)) put, put)

  pub last-answered : {used : ℕ} {new : List ℕ} → (length held ≡ 0 → ⊥) → 16 ≤ length out → used ≡ 0 + length (said held)
      → new ≡ placed out 0 (said held) → Foremost used new (last_said held) × (new ≡ placed out 0 (last_said held))
  last-answered {used} f fits e w =
      let some = sym (last_some held f) in
      let put = w ∙ ap (placed out 0) some in
      let count : used ≡ length (last_said held) = omega (arith, ap length some) in
      (foremost_put out (last_said held) (omega (arith, said-short held, ap length some)) count put, put)
