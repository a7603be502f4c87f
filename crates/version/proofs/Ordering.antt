-- The order of versions, over the four numbers of two versions a.b and c.d.
use Prim.Native.Nat.{ℕ, ◌<◌}
use native.Mathlib.Omega.{arith}
use borrow.Author.Tests.{lt-ltb, le-ltb, ltb-true, ltb-false}
use mathlib.Core.Path.{◌≡◌, refl, sym}
use mathlib.Core.Logic.{◌⊎◌, inl, inr, ◌↔◌}
use mathlib.Core.Bool.{Bool, true, false, cond}
use lib.Dec.{ltb}
use Rattle.std.specs.declared.cmp.Ordering.{Ordering}
use Rattle.std.specs.declared.cmp.Ordering.TheVariants.{Less, Equal, Greater}

abbrev pub order : ℕ → ℕ → ℕ → ℕ → Ordering
order a b c d = cond (ltb a c) Less (cond (ltb c a) Greater (cond (ltb b d) Less (cond (ltb d b) Greater Equal)))

abbrev pub Precedes : ℕ → ℕ → ℕ → ℕ → Type 0
Precedes a b c d = (a < c) ⊎ ((a ≡ c) × (b < d))

module _ (a b c d : ℕ) where
  pub major_less : a < c → order a b c d ≡ Less
  major_less h = rw (lt-ltb a c h)

  pub major_greater : c < a → order a b c d ≡ Greater
  major_greater h = rw (le-ltb a c (omega arith), lt-ltb c a h)

  pub minor_less : a ≡ c → b < d → order a b c d ≡ Less
  minor_less e h = rw (le-ltb a c (omega arith), le-ltb c a (omega arith), lt-ltb b d h)

  pub minor_greater : a ≡ c → d < b → order a b c d ≡ Greater
  minor_greater e h = rw (le-ltb a c (omega arith), le-ltb c a (omega arith), le-ltb b d (omega arith), lt-ltb d b h)

  pub both_equal : a ≡ c → b ≡ d → order a b c d ≡ Equal
  both_equal e f = rw (le-ltb a c (omega arith), le-ltb c a (omega arith), le-ltb b d (omega arith), le-ltb d b (omega arith))

-- what an order tells of the numbers
data Decided (a b c d : ℕ) : Ordering → Type 0 where
  first : Precedes a b c d → Decided a b c d Less
  second : Precedes c d a b → Decided a b c d Greater
  neither : a ≡ c → b ≡ d → Decided a b c d Equal

trichotomy : (x y : ℕ) → (x < y) ⊎ ((y < x) ⊎ (x ≡ y))
trichotomy x y = go (ltb x y) (ltb y x) refl refl
  where
    go : (s t : Bool) → ltb x y ≡ s → ltb y x ≡ t → (x < y) ⊎ ((y < x) ⊎ (x ≡ y))
    go true t p q = inl (ltb-true x y p)
    go false true p q = inr (inl (ltb-true y x q))
    go false false p q = inr (inr (omega (arith, ltb-false x y p, ltb-false y x q)))

decided : (a b c d : ℕ) → Decided a b c d (order a b c d)
decided a b c d = go (trichotomy a c) (trichotomy b d)
  where
    go : (a < c) ⊎ ((c < a) ⊎ (a ≡ c)) → (b < d) ⊎ ((d < b) ⊎ (b ≡ d)) → Decided a b c d (order a b c d)
    go (inl h) m = rw (major_less a b c d h) (first (inl h))
    go (inr (inl h)) m = rw (major_greater a b c d h) (second (inl h))
    go (inr (inr e)) (inl h) = rw (minor_less a b c d e h) (first (inr (e, h)))
    go (inr (inr e)) (inr (inl h)) = rw (minor_greater a b c d e h) (second (inr (sym e, h)))
    go (inr (inr e)) (inr (inr f)) = rw (both_equal a b c d e f) (neither e f)

module _ (a b c d : ℕ) where
  pub less_is : (order a b c d ≡ Less) ↔ Precedes a b c d
  less_is = (to (decided a b c d), of)
    where
      to : {o : Ordering} → Decided a b c d o → o ≡ Less → Precedes a b c d
      to (first p) e = p
      to (second p) e = let z : ◌≡◌ {A = ℕ} 0 1 = cc in absurd (omega arith)
      to (neither p q) e = let z : ◌≡◌ {A = ℕ} 0 1 = cc in absurd (omega arith)

      of : Precedes a b c d → order a b c d ≡ Less
      of (inl h) = major_less a b c d h
      of (inr (e, h)) = minor_less a b c d e h

  pub greater_is : (order a b c d ≡ Greater) ↔ Precedes c d a b
  greater_is = (to (decided a b c d), of)
    where
      to : {o : Ordering} → Decided a b c d o → o ≡ Greater → Precedes c d a b
      to (first p) e = let z : ◌≡◌ {A = ℕ} 0 1 = cc in absurd (omega arith)
      to (second p) e = p
      to (neither p q) e = let z : ◌≡◌ {A = ℕ} 0 1 = cc in absurd (omega arith)

      of : Precedes c d a b → order a b c d ≡ Greater
      of (inl h) = major_greater a b c d h
      of (inr (e, h)) = minor_greater a b c d (sym e) h

  pub equal_is : (order a b c d ≡ Equal) ↔ ((a ≡ c) × (b ≡ d))
  equal_is = (to (decided a b c d), λ h. both_equal a b c d h.0 h.1)
    where
      to : {o : Ordering} → Decided a b c d o → o ≡ Equal → (a ≡ c) × (b ≡ d)
      to (first p) e = let z : ◌≡◌ {A = ℕ} 0 1 = cc in absurd (omega arith)
      to (second p) e = let z : ◌≡◌ {A = ℕ} 0 1 = cc in absurd (omega arith)
      to (neither p q) e = (p, q)
