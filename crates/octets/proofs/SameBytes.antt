-- Two parts byte for byte, and what that says: they are one list.
use Rattle.std.proofs.Common.{◌≡◌, ℕ, Bool, true, false, ◌&&◌, eqb, ◌↔◌, List, [], ◌∷◌, sym, refl, ap, ◌∙◌, ap₂, true≢false, eqb-true}
use Rattle.octets.specs.Same.{same?}
use Rattle.octets.proofs.SameBy.{by_self, by_swap}

pub same_self : (a : List ℕ) → same? a a ≡ true
same_self = by_self (λ b. b)

pub same_swap : (a b : List ℕ) → same? a b ≡ same? b a
same_swap = by_swap (λ b. b)

pub same_list : (a b : List ℕ) → same? a b ≡ true → a ≡ b
same_list [] [] e = refl
same_list [] (y ∷ b) e = absurd (true≢false (sym e))
same_list (x ∷ a) [] e = absurd (true≢false (sym e))
same_list (x ∷ a) (y ∷ b) e = go (eqb x y) refl e (same_list a b)
  where
    go : (t : Bool) → eqb x y ≡ t → (t && same? a b) ≡ true → (same? a b ≡ true → a ≡ b) → x ∷ a ≡ y ∷ b
    go true f h k = ap₂ (λ (z : ℕ) (l : List ℕ). z ∷ l) (eqb-true x y f) (k h)
    go false f h k = absurd (true≢false (sym h))

-- the same just where they are one list
pub same-is : (a b : List ℕ) → (same? a b ≡ true) ↔ (a ≡ b)
same-is a b = (same_list a b, λ e. ap (same? a) (sym e) ∙ same_self a)
