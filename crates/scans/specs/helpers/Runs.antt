-- Runs of bytes of one class.
use Rattle.std.specs.Prelude.{ℕ, ◌+◌, Bool, cond, List, [], ◌∷◌, length, drop}

-- the longest beginning of s whose bytes all pass the test
abbrev pub run : (ℕ → Bool) → List ℕ → List ℕ
run p [] = []
run p (b ∷ s) = cond (p b) (b ∷ run p s) []

-- the place behind the run that stands at i in s
abbrev pub run_end : (ℕ → Bool) → List ℕ → ℕ → ℕ
run_end p s i = i + length (run p (drop i s))
