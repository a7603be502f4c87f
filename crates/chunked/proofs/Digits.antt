-- The value of a hex digit by its lower four bits and its upper two; and a size by one digit or two.
use Rattle.std.proofs.Common.{◌≡◌, ℕ, zero, suc, ◌+◌, ◌-◌, ◌*◌, ◌/◌, ◌%◌, ◌^◌, ◌<◌, ◌≤◌, Bool, true, false, cond, eqb, leb, sym, refl}
use Rattle.std.proofs.Common.{subst, arith, eqb-true, leb-true}
use Rattle.octets.specs.Bytes.{hex?, hex_value}
use Rattle.octets.proofs.Spans.{by_range}

agrees? : ℕ → Bool
agrees? b = cond (hex? b) (eqb (b % 16 + b / 64 * 9) (hex_value b)) true

pub by_halves : (b : ℕ) → b < 256 → hex? b ≡ true → b % 16 + b / 64 * 9 ≡ hex_value b
unfolding hex? agrees?
by_halves b s h = go (hex? b) h (by_range agrees? (λ (n : ℕ). true) 0 256 refl b (omega arith) (omega arith))
  where
    go : (t : Bool) → t ≡ true → cond t (eqb (b % 16 + b / 64 * 9) (hex_value b)) true ≡ true → b % 16 + b / 64 * 9 ≡ hex_value b
    go true e g = eqb-true (b % 16 + b / 64 * 9) (hex_value b) g
    go false e g = let z : ◌≡◌ {A = ℕ} 0 1 = cc in absurd (omega arith)

leads? : ℕ → Bool
leads? x = cond (eqb (35465847073801214 / 2 ^ x % 2) 1) (cond (hex? (x + 48)) (leb 1 (hex_value (x + 48))) false) true

-- the bits are those of the digits but 0
pub leading : (b x : ℕ) → x < 64 → b < 256 → (x + 48) % 256 ≡ b → eqb (35465847073801214 / 2 ^ x % 2) 1 ≡ true
    → (hex? b ≡ true) × (0 < hex_value b)
unfolding hex? leads?
leading b x l s e t =
    let z : x + 48 ≡ b = omega arith in
    subst (λ (d : ℕ). (hex? d ≡ true) × (0 < hex_value d)) z
    (go (eqb (35465847073801214 / 2 ^ x % 2) 1) (hex? (x + 48)) t (by_range leads? (λ (n : ℕ). true) 0 64 refl x (omega arith) (omega arith)))
  where
    go : (u h : Bool) → u ≡ true → cond u (cond h (leb 1 (hex_value (x + 48))) false) true ≡ true → (h ≡ true) × (0 < hex_value (x + 48))
    go true true f g = (refl, omega (arith, leb-true 1 (hex_value (x + 48)) g))
    go true false f g = let z : ◌≡◌ {A = ℕ} 0 1 = cc in absurd (omega arith)
    go false h f g = let z : ◌≡◌ {A = ℕ} 0 1 = cc in absurd (omega arith)

most? : ℕ → Bool
most? b = leb (cond (hex? b) (hex_value b) 16) 16

pub at_most : (b e : ℕ) → b < 256 → e ≡ cond (hex? b) (hex_value b) 16 → e ≤ 16
unfolding hex? most?
at_most b e s f =
    subst (λ (n : ℕ). n ≤ 16) (sym f)
    (leb-true (cond (hex? b) (hex_value b) 16) 16 (by_range most? (λ (n : ℕ). true) 0 256 refl b (omega arith) (omega arith)))

pub no_larger : (e n : ℕ) → n ≤ 1 → e * n ≤ e
no_larger e zero h = omega arith
no_larger e (suc zero) h = omega arith
no_larger e (suc (suc n)) h = absurd (omega arith)

-- a, or a and b as digits, by a shift
abbrev pub shifted : ℕ → ℕ → ℕ → ℕ
shifted a b t = (a * 2 ^ (4 * t)) % 18446744073709551616 + b * t

pub record Joined (a b t : ℕ) : Type 0 where
  pub part : b * t < 64
  pub small : shifted a b t < 2048
  pub one : t ≡ 0 → shifted a b t ≡ a
  pub two : t ≡ 1 → shifted a b t ≡ a * 16 + b

pub joined : (a b t : ℕ) → a < 64 → b < 64 → t ≤ 1 → Joined a b t
joined a b zero h k l = record { part = omega arith; small = omega arith; one = λ e. omega arith; two = λ e. absurd (omega arith) }
joined a b (suc zero) h k l = record { part = omega arith; small = omega arith; one = λ e. absurd (omega arith); two = λ e. omega arith }
joined a b (suc (suc t)) h k l = absurd (omega arith)

-- a and b as digits, or a, by a shift that drops b
pub dropped : (a b t : ℕ) → t ≤ 1 → (t ≡ 0 → b < 16)
    → (t ≡ 0 → (a * 16 + b) / 2 ^ (4 - 4 * t) ≡ a) × (t ≡ 1 → (a * 16 + b) / 2 ^ (4 - 4 * t) ≡ a * 16 + b)
dropped a b zero h s = (λ e. omega (arith, s refl), λ e. absurd (omega arith))
dropped a b (suc zero) h s = (λ e. absurd (omega arith), λ e. omega arith)
dropped a b (suc (suc t)) h s = absurd (omega arith)
