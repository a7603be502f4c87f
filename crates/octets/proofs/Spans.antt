-- Two functions of a byte agree on a range of bytes, where antt computes both at each of them.
use Rattle.std.proofs.Common.{◌≡◌, ℕ, zero, suc, ◌+◌, ◌<◌, ◌≤◌, List, [], ◌∷◌, subst, arith}
use mathlib.Core.List.{head-eq_of_cons-eq, tail-eq_of_cons-eq}
use native.Mathlib.Decide.{ℕ_discrete}

module _ {A : Type 0} where
  -- what f gives at each of the n numbers from lo
  abbrev pub values : (ℕ → A) → ℕ → ℕ → List A
  values f lo zero = []
  values f lo (suc n) = f lo ∷ values f (suc lo) n

  pub by_range : (f g : ℕ → A) (lo n : ℕ) → values f lo n ≡ values g lo n → (b : ℕ) → lo ≤ b → b < lo + n → f b ≡ g b
  by_range f g lo zero e b h k = absurd (omega arith)
  by_range f g lo (suc n) e b h k = go (ℕ_discrete lo b) (λ x y. by_range f g (suc lo) n (tail-eq_of_cons-eq e) b x y)
    where
      go : Dec (lo ≡ b) → (suc lo ≤ b → b < suc lo + n → f b ≡ g b) → f b ≡ g b
      go (yes z) r = subst (λ (m : ℕ). f m ≡ g m) z (head-eq_of_cons-eq e)
      go (no z) r = r (omega arith) (omega arith)
