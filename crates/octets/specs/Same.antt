-- Two parts, byte by byte.
use Rattle.std.specs.Prelude.{ℕ, Bool, true, false, ◌&&◌, List, [], ◌∷◌, ◌==◌}

-- as many bytes in one as in the other, and f gives the same of each two
abbrev pub same_by : (ℕ → ℕ) → List ℕ → List ℕ → Bool
same_by f [] [] = true
same_by f [] (b ∷ t) = false
same_by f (a ∷ s) [] = false
same_by f (a ∷ s) (b ∷ t) = f a == f b && same_by f s t

-- the same bytes
abbrev pub same? : List ℕ → List ℕ → Bool
same? s t = same_by (λ b. b) s t
