-- The place of refusal 1: "the length of the longest beginning that some continuation, limits aside, makes well-formed".
use Rattle.std.specs.Prelude.{ℕ, ◌≤◌, List, ◌++◌, T, length, take}
use Rattle.grammar.specs.Grammar.{Part, Grammar, Parses, bytes?}

module _ {L : Type 0} where
  -- the text s is well-formed
  abbrev pub Matches : Grammar L → List ℕ → Type 0
  Matches g s = (ps : List (Part L)) × Parses g 0 s ps

  -- some continuation, of bytes, makes the beginning p well-formed
  abbrev pub Live : Grammar L → List ℕ → Type 0
  Live g p = (t : List ℕ) × T (bytes? t) × Matches g (p ++ t)

  -- n is the length of the longest live beginning of s
  pub record Longest (g : Grammar L) (s : List ℕ) (n : ℕ) : Type 0 where
    pub within : n ≤ length s
    pub lives : Live g (take n s)
    pub longest : (m : ℕ) → m ≤ length s → Live g (take m s) → m ≤ n
