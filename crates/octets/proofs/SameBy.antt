-- Parts that are the same, each byte seen through f: the laws, and a step at a time.
use Rattle.std.proofs.Common.{◌≡◌, ℕ, zero, suc, ◌+◌, ◌<◌, ◌≤◌, Bool, true, false, ◌&&◌, eqb, List, [], ◌∷◌, length, get_or, drop, sym, refl, ap, ◌∙◌, ap₂, true≢false, add-one, arith, drop_of_length-le, drop-cons, eq-eqb, ne_eqb, eqb-true}
use borrow.Author.Tests.{eqb-false}
use Rattle.octets.specs.Same.{same_by}

eqb_swap : (m n : ℕ) → eqb m n ≡ eqb n m
eqb_swap m n = go (eqb m n) refl
  where
    go : (t : Bool) → eqb m n ≡ t → t ≡ eqb n m
    go true e = sym (eq-eqb n m (sym (eqb-true m n e)))
    go false e = sym (ne_eqb n m (λ f. eqb-false m n e (sym f)))

both : (x y : Bool) → (x && y) ≡ true → (x ≡ true) × (y ≡ true)
both true y e = (refl, e)
both false y e = absurd (true≢false (sym e))

pub neither : (x : Bool) {y : Bool} → y ≡ false → (x && y) ≡ false
neither true e = e
neither false e = refl

module _ (f : ℕ → ℕ) where
  pub by_self : (a : List ℕ) → same_by f a a ≡ true
  by_self [] = refl
  by_self (x ∷ a) = rw (eq-eqb (f x) (f x) refl) (by_self a)

  pub by_swap : (a b : List ℕ) → same_by f a b ≡ same_by f b a
  by_swap [] [] = refl
  by_swap [] (y ∷ b) = refl
  by_swap (x ∷ a) [] = refl
  by_swap (x ∷ a) (y ∷ b) = ap₂ (λ (s t : Bool). s && t) (eqb_swap (f x) (f y)) (by_swap a b)

  pub by_chain : (a b c : List ℕ) → same_by f a b ≡ true → same_by f b c ≡ true → same_by f a c ≡ true
  by_chain [] [] c d e = e
  by_chain [] (y ∷ b) c d e = absurd (true≢false (sym d))
  by_chain (x ∷ a) [] c d e = absurd (true≢false (sym d))
  by_chain (x ∷ a) (y ∷ b) [] d e = absurd (true≢false (sym e))
  by_chain (x ∷ a) (y ∷ b) (z ∷ c) d e =
      let p = both (eqb (f x) (f y)) (same_by f a b) d in
      let q = both (eqb (f y) (f z)) (same_by f b c) e in
      rw (eq-eqb (f x) (f z) (eqb-true (f x) (f y) p.0 ∙ eqb-true (f y) (f z) q.0)) (by_chain a b c p.1 q.1)

  -- parts of different lengths are not the same
  pub by_length : (a b : List ℕ) → (length a ≡ length b → ⊥) → false ≡ same_by f a b
  by_length [] [] h = absurd (h refl)
  by_length [] (y ∷ b) h = refl
  by_length (x ∷ a) [] h = refl
  by_length (x ∷ a) (y ∷ b) h = go (eqb (f x) (f y)) (by_length a b (λ e. h (ap suc e)))
    where
      go : (t : Bool) → false ≡ same_by f a b → false ≡ (t && same_by f a b)
      go true e = e
      go false e = refl

  -- nor are those that differ at a place
  pub by_apart : (a b : List ℕ) (i : ℕ) → i < length a → i < length b → (f (get_or a i 0) ≡ f (get_or b i 0) → ⊥) → same_by f a b ≡ false
  by_apart [] b i h k n = absurd (omega arith)
  by_apart (x ∷ a) [] i h k n = absurd (omega arith)
  by_apart (x ∷ a) (y ∷ b) zero h k n = rw (ne_eqb (f x) (f y) n)
  by_apart (x ∷ a) (y ∷ b) (suc i) h k n = neither (eqb (f x) (f y)) (by_apart a b i (omega arith) (omega arith) n)

  module _ (a b : List ℕ) (i : ℕ) where
    pub by_end : length a ≤ i → length b ≤ i → same_by f (drop i a) (drop i b) ≡ true
    by_end h k = rw (drop_of_length-le a h, drop_of_length-le b k)

    module _ (h : i < length a) (k : i < length b) where
      pub by_differs : (f (get_or a i 0) ≡ f (get_or b i 0) → ⊥) → same_by f (drop i a) (drop i b) ≡ false
      by_differs n = rw (drop-cons a i 0 h, drop-cons b i 0 k, ne_eqb (f (get_or a i 0)) (f (get_or b i 0)) n)

      pub by_next : f (get_or a i 0) ≡ f (get_or b i 0) → same_by f (drop (i + 1) a) (drop (i + 1) b) ≡ same_by f (drop i a) (drop i b)
      by_next e =
          ap (λ (j : ℕ). same_by f (drop j a) (drop j b)) (add-one i)
          ∙ rw (drop-cons a i 0 h, drop-cons b i 0 k, eq-eqb (f (get_or a i 0)) (f (get_or b i 0)) e)
