-- Tables as they are filled, entry by entry, and as they are converted.
use Rattle.std.proofs.Common.{◌≡◌, ℕ, zero, suc, ◌+◌, ◌<◌, ◌≤◌, List, [], ◌∷◌, ◌++◌, map, length, get_or, take, set, sym, refl, ap, ◌∙◌, ap₂, add-one, arith}
use Rattle.octets.specs.Tables.{padded}

-- ## Filled

module _ {A : Type 0} (unused : A) where
  pub padded-length : (n : ℕ) (xs : List A) → length (padded unused n xs) ≡ n
  padded-length zero xs = refl
  padded-length (suc n) [] = ap suc (padded-length n [])
  padded-length (suc n) (x ∷ xs) = ap suc (padded-length n xs)

  -- the used entries are the first
  pub padded-take : (n : ℕ) (xs : List A) → length xs ≤ n → take (length xs) (padded unused n xs) ≡ xs
  padded-take n [] h = refl
  padded-take zero (x ∷ xs) h = absurd (omega arith)
  padded-take (suc n) (x ∷ xs) h = ap (λ (ys : List A). x ∷ ys) (padded-take n xs (omega arith))

  -- one more
  pub padded-set : (n : ℕ) (xs : List A) (x : A) → length xs < n
      → set (padded unused n xs) (length xs) x ≡ padded unused n (xs ++ x ∷ [])
  padded-set zero xs x h = absurd (omega arith)
  padded-set (suc n) [] x h = refl
  padded-set (suc n) (y ∷ xs) x h = ap (λ (ys : List A). y ∷ ys) (padded-set n xs x (omega arith))

-- ## Converted

module _ {A B : Type 0} (f : A → B) where
  -- the first i entries of ys are those of xs, converted; the others are still to come
  unfoldable pub converted : ℕ → List A → List B → List B
  converted zero xs ys = ys
  converted (suc i) [] ys = ys
  converted (suc i) (x ∷ xs) [] = []
  converted (suc i) (x ∷ xs) (y ∷ ys) = f x ∷ converted i xs ys

  convert_next : (i : ℕ) (xs : List A) (ys : List B) (d : A) → i < length xs → length xs ≡ length ys
      → set (converted i xs ys) i (f (get_or xs i d)) ≡ converted (suc i) xs ys
  unfolding converted
  convert_next i [] ys d h k = absurd (omega arith)
  convert_next i (x ∷ xs) [] d h k = absurd (omega arith)
  convert_next zero (x ∷ xs) (y ∷ ys) d h k = refl
  convert_next (suc i) (x ∷ xs) (y ∷ ys) d h k = ap (λ (zs : List B). f x ∷ zs) (convert_next i xs ys d (omega arith) (omega arith))

  pub one-converted : (i : ℕ) (xs : List A) (ys entries : List B) (d : A) (y : B) → i < length xs → length xs ≡ length ys
      → entries ≡ converted i xs ys → y ≡ f (get_or xs i d) → set entries i y ≡ converted (i + 1) xs ys
  one-converted i xs ys entries d y h k e g =
      ap₂ (λ (zs : List B) (z : B). set zs i z) e g ∙ convert_next i xs ys d h k ∙ ap (λ (n : ℕ). converted n xs ys) (sym (add-one i))

  pub all-converted : (i : ℕ) (xs : List A) (ys : List B) → i ≡ length xs → length xs ≡ length ys → converted i xs ys ≡ map f xs
  unfolding converted
  all-converted zero [] [] h k = refl
  all-converted i [] (y ∷ ys) h k = absurd (omega arith)
  all-converted i (x ∷ xs) [] h k = absurd (omega arith)
  all-converted (suc i) [] [] h k = absurd (omega arith)
  all-converted zero (x ∷ xs) (y ∷ ys) h k = absurd (omega arith)
  all-converted (suc i) (x ∷ xs) (y ∷ ys) h k = ap (λ (zs : List B). f x ∷ zs) (all-converted i xs ys (omega arith) (omega arith))
