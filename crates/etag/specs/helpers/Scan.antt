-- For the contracts of the reader's helpers.
use Rattle.std.specs.Prelude.{ℕ, ◌≤◌, ◌≡◌, Bool, List, [], ◌∷◌, ◌++◌, length}
use Rattle.grammar.specs.Grammar.{Part, Grammar, byte, ◌⨾◌, part}
use Rattle.grammar.specs.helpers.Checks.{ahead}
use Rattle.grammar.specs.helpers.Judge.{header}
use Rattle.grammar.specs.helpers.Scans.{from}
use Rattle.octets.specs.Quoted.{QUOTE, quoted_text}
use Rattle.etag.specs.Grammar.{Name, opaque, opaque_tag, value, rules}

module _ (s : List ℕ) (weak : Bool) where
  -- the mark, if there is one, stands before the place, and the answer is what is found from there on, where g is left
  pub record Reached (g : Grammar Name) (place : ℕ) : Type 0 where
    pub marks : List (Part Name)
    pub means : (p : Part Name) → value (marks ++ p ∷ []) ≡ record { weak = weak; start = p.start; length = length p.text }
    pub reads : header rules s ≡ from rules s (ahead marks g) place

  abbrev pub AfterMark : ℕ → Type 0
  AfterMark place = Reached opaque_tag place

  -- a quote stands before the place
  abbrev pub AfterQuote : ℕ → Type 0
  AfterQuote place = Reached (part opaque quoted_text ⨾ byte QUOTE) place × (place ≤ length s)
