-- A run of bytes, by blocks.
use Rattle.std.specs.Prelude.{◌≡◌, List, ◌++◌, ℕ, ◌≤◌, length, take, drop}

-- the list l with the block of n bytes at k of src in its place
abbrev pub block_at : ℕ → List ℕ → List ℕ → ℕ → List ℕ
block_at n src l k = take k l ++ (take n (drop k src) ++ drop n (drop k l))

-- the first k bytes are copied
pub record Front (old src new : List ℕ) (k : ℕ) : Type 0 where
  pub is : new ≡ take k src ++ drop k old
  pub within : k ≤ length src
