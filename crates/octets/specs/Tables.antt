-- Tables of a fixed number of entries: "Unused entries of a returned table are zero."
use Rattle.std.specs.Prelude.{ℕ, zero, suc, List, [], ◌∷◌}

-- so many entries: the used ones, then unused ones
abbrev pub padded : {A : Type 0} → (unused : A) → ℕ → List A → List A
padded unused zero xs = []
padded unused (suc n) [] = unused ∷ padded unused n []
padded unused (suc n) (x ∷ xs) = x ∷ padded unused n xs
