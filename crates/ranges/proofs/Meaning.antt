-- The ranges that elements are resolved to hold the bytes that the elements ask for, capped or not.
use Prim.Native.Nat.{ℕ, ◌+◌, ◌-◌, ◌≤◌, ◌<◌}
use native.Mathlib.Omega.{arith}
use borrow.Author.Tests.{ltb-true, ltb-false}
use mathlib.Core.Path.{◌≡◌, refl, ap}
use mathlib.Core.Logic.{◌⊎◌, inl, inr, ◌↔◌, ⊎_elim}
use mathlib.Core.Bool.{Bool, true, false, cond}
use mathlib.Core.List.{List, [], ◌∷◌, ◌++◌}
use lib.Dec.{ltb}
use Rattle.grammar.specs.Grammar.{Part}
use Rattle.octets.specs.Numbers.{number, Capped, length_limit}
use Rattle.scans.proofs.Caps.{capped-within, capped-beyond}
use Rattle.ranges.specs.declared.Element.{Element}
use Rattle.ranges.specs.declared.Range.{Range}
use Rattle.ranges.specs.declared.Element.TheVariants.{Closed, Open, Suffix}
use Rattle.ranges.specs.Meaning.{Selects, Covers, Some, Each, begin, end, resolved, InEntity, Served, done, left_out, served}
use Rattle.ranges.specs.Grammar.{Name, capped, sign?, positions, element_of, elements}

-- ## One element

end_in : (n : ℕ) (x : Element) → end n x ≤ n
end_in n (Closed f l) = omega arith
end_in n (Open f) = omega arith
end_in n (Suffix m) = omega arith

spans : (n p : ℕ) (x : Element) → ((begin n x ≤ p) × (p < end n x)) ↔ Selects n x p
spans n p (Closed f l) = (λ z. (omega (arith, z.1), z.0, omega (arith, z.1)), λ z. (z.1, omega (arith, z.0, z.2)))
spans n p (Open f) = (λ z. (z.1, z.0), λ z. (z.1, z.0))
spans n p (Suffix m) = (λ z. (z.1, omega (arith, z.0)), λ z. (omega (arith, z.1), z.0))

-- ## Capped or not

-- in an entity that is not too long no position and no suffix tells a number from its cap
module _ (n p : ℕ) (small : n ≤ length_limit) (inside : p < n) (t : List ℕ) where
  cases : (capped t ≡ number t) ⊎ ((capped t ≡ length_limit) × (length_limit < number t))
  cases = go (ltb length_limit (number t)) refl
    where
      go : (x : Bool) → ltb length_limit (number t) ≡ x → (capped t ≡ number t) ⊎ ((capped t ≡ length_limit) × (length_limit < number t))
      go true f =
          let h = ltb-true length_limit (number t) f in
          inr (ap (λ (c : Capped). c.value) (capped-beyond length_limit length_limit (number t) h), h)
      go false f = inl (ap (λ (c : Capped). c.value) (capped-within length_limit length_limit (number t) (ltb-false length_limit (number t) f)))

  first_alike : (capped t ≤ p) ↔ (number t ≤ p)
  first_alike = ⊎_elim (λ e. (λ h. omega arith, λ h. omega arith))
      (λ e. (λ h. absurd (omega (arith, e.0, e.1)), λ h. absurd (omega (arith, e.0, e.1)))) cases

  last-alike : (p ≤ capped t) ↔ (p ≤ number t)
  last-alike = ⊎_elim (λ e. (λ h. omega arith, λ h. omega arith))
      (λ e. (λ h. omega (arith, e.0, e.1), λ h. omega (arith, e.0, e.1))) cases

  suffix-alike : (n ≤ p + capped t) ↔ (n ≤ p + number t)
  suffix-alike = ⊎_elim (λ e. (λ h. omega arith, λ h. omega arith))
      (λ e. (λ h. omega (arith, e.0, e.1), λ h. omega (arith, e.0, e.1))) cases

module _ (n p : ℕ) (small : n ≤ length_limit) where
  positions-alike : (f l : List ℕ) → Selects n (positions capped f l) p ↔ Selects n (positions number f l) p
  positions-alike f [] = (
    λ z. (z.0, (first_alike n p small z.0 f).0 z.1),
    λ z. (z.0, (first_alike n p small z.0 f).1 z.1),
  )
  positions-alike f (b ∷ l) = (
    λ z. (z.0, (first_alike n p small z.0 f).0 z.1, (last-alike n p small z.0 (b ∷ l)).0 z.2),
    λ z. (z.0, (first_alike n p small z.0 f).1 z.1, (last-alike n p small z.0 (b ∷ l)).1 z.2),
  )

  element-alike : (a b : Part Name) → Selects n (element_of capped a b) p ↔ Selects n (element_of number a b) p
  element-alike a b = go (sign? a.label)
    where
      go : (x : Bool)
          → Selects n (cond x (Suffix (capped b.text)) (positions capped a.text b.text)) p
          ↔ Selects n (cond x (Suffix (number b.text)) (positions number a.text b.text)) p
      go true = (
        λ z. (z.0, (suffix-alike n p small z.0 b.text).0 z.1),
        λ z. (z.0, (suffix-alike n p small z.0 b.text).1 z.1),
      )
      go false = positions-alike a.text b.text

-- ## All of them

-- each element by itself, in their order
pub serves : (n : ℕ) → n ≤ length_limit → (ps : List (Part Name)) → Served n (elements number ps) (resolved n (elements capped ps))
serves n small [] = done
serves n small (a ∷ []) = done
serves n small (a ∷ b ∷ ps) = go (ltb (begin n x) (end n x)) refl (serves n small ps)
  where
    x : Element
    x = element_of capped a b

    same : (p : ℕ) → ((begin n x ≤ p) × (p < end n x)) ↔ Selects n (element_of number a b) p
    same p = (
      λ h. (element-alike n p small a b).0 ((spans n p x).0 h),
      λ h. (spans n p x).1 ((element-alike n p small a b).1 h),
    )

    go : (y : Bool) → ltb (begin n x) (end n x) ≡ y → Served n (elements number ps) (resolved n (elements capped ps))
        → Served n (element_of number a b ∷ elements number ps)
        (cond y (record { first = begin n x; last = end n x - 1 } ∷ []) [] ++ resolved n (elements capped ps))
    go true f w =
        let h = ltb-true (begin n x) (end n x) f in
        served {r = record { first = begin n x; last = end n x - 1 }} (omega arith, omega (arith, end_in n x)) (λ p. (
          λ c. (same p).0 (c.0, omega (arith, c.1)),
          λ z. let s = (same p).1 z in (s.0, omega (arith, s.1)),
        )) w
    go false f w = left_out (λ p z. none p ((same p).1 z)) w
      where
        none : (p : ℕ) → (begin n x ≤ p) × (p < end n x) → ⊥
        none p s = omega (arith, s.0, s.1, ltb-false (begin n x) (end n x) f)

-- ranges that serve elements hold their bytes, and no others
pub covered : {n : ℕ} {xs : List Element} {rs : List Range} → Served n xs rs → (p : ℕ)
    → Some (λ r. Covers r p) rs ↔ Some (λ x. Selects n x p) xs
covered done p = (λ h. h, λ h. h)
covered (left_out none w) p = (λ h. inr ((covered w p).0 h), λ h. ⊎_elim (λ z. absurd (none p z)) (λ z. (covered w p).1 z) h)
covered (served i same w) p = (
  λ h. ⊎_elim (λ z. inl ((same p).0 z)) (λ z. inr ((covered w p).0 z)) h,
  λ h. ⊎_elim (λ z. inl ((same p).1 z)) (λ z. inr ((covered w p).1 z)) h,
)

pub each_in : {n : ℕ} {xs : List Element} {rs : List Range} → Served n xs rs → Each (InEntity n) rs
each_in done = tt
each_in (left_out none w) = each_in w
each_in (served i same w) = (i, each_in w)
