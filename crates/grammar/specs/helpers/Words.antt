-- Words and how much of one a text begins with. Definitions alone.
use Rattle.std.specs.Prelude.{ℕ, zero, suc, Bool, true, false, cond, ◌&&◌, List, [], ◌∷◌, eqb}

-- the text begins with the word
abbrev pub begins : (word text : List ℕ) → Bool
begins [] t = true
begins (a ∷ w) [] = false
begins (a ∷ w) (b ∷ t) = eqb b a && begins w t

-- how many bytes at the front of the text agree with those of the word, by a test of a byte of the word and one of the text
abbrev pub matching : (ℕ → ℕ → Bool) → (word text : List ℕ) → ℕ
matching p [] t = 0
matching p (a ∷ w) [] = 0
matching p (a ∷ w) (b ∷ t) = cond (p a b) (suc (matching p w t)) 0

abbrev pub same_byte : ℕ → ℕ → Bool
same_byte a b = eqb b a

-- how many bytes at the front of the text are those of the word
abbrev pub common : (word text : List ℕ) → ℕ
common w t = matching same_byte w t

abbrev pub larger : ℕ → ℕ → ℕ
larger zero n = n
larger (suc m) zero = suc m
larger (suc m) (suc n) = suc (larger m n)
