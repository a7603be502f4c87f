-- The parts of a well-formed tag, and its value; the theorems say that it has them.
use Rattle.std.specs.Prelude.{ℕ, ◌≡◌, ◌⊎◌, true, false, List, [], ◌∷◌, ◌++◌, length}
use Rattle.grammar.specs.Grammar.{Part}
use Rattle.grammar.specs.Text.{bytes}
use Rattle.octets.specs.Case.{alike}
use Rattle.etag.specs.Grammar.{Name, weak, opaque, mark, value}
use Rattle.etag.specs.Reading.{opaque_bytes}

-- quotes around the opaque bytes
abbrev pub between_quotes : List ℕ → List ℕ
between_quotes inside = bytes "\"" ++ (inside ++ bytes "\"")

-- without a mark
pub record StrongTag (s : List ℕ) (ps : List (Part Name)) : Type 0 where
  pub inside : List ℕ
  pub text : s ≡ between_quotes inside
  pub parts : ps ≡ record { label = opaque; start = 1; text = inside } ∷ []
  pub tag : value ps ≡ record { weak = false; start = 1; length = length inside }
  pub sent : opaque_bytes s (value ps) ≡ inside

-- with a mark
pub record WeakTag (s : List ℕ) (ps : List (Part Name)) : Type 0 where
  pub before : List ℕ
  pub inside : List ℕ
  pub marked : alike before mark ≡ true
  pub text : s ≡ before ++ between_quotes inside
  pub parts : ps ≡ record { label = weak; start = 0; text = before } ∷ record { label = opaque; start = 3; text = inside } ∷ []
  pub tag : value ps ≡ record { weak = true; start = 3; length = length inside }
  pub sent : opaque_bytes s (value ps) ≡ inside

abbrev pub TagParts : List ℕ → List (Part Name) → Type 0
TagParts s ps = StrongTag s ps ⊎ WeakTag s ps
