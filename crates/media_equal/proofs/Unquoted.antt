-- Values without their quotes: a byte that begins no pair stands for itself.
use Rattle.std.proofs.Common.{◌≡◌, ℕ, List, [], ◌∷◌, refl, ne_eqb}
use Rattle.media_equal.specs.Meaning.{unescaped}

pub no_pair : (b : ℕ) (t : List ℕ) → (b ≡ 92 → ⊥) → unescaped (b ∷ t) ≡ b ∷ unescaped t
no_pair b [] n = refl
no_pair b (c ∷ t) n = rw (ne_eqb b 92 n)
