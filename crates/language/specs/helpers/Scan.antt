-- For the contracts of the reader's helpers, and its loop.
use Rattle.std.specs.Prelude.{ℕ, ◌+◌, ◌-◌, ◌≤◌, ◌<◌, ◌≡◌, cond, List, ltb, length}
use Rattle.grammar.specs.Grammar.{Part}
use Rattle.grammar.specs.helpers.Checks.{ahead}
use Rattle.grammar.specs.helpers.Judge.{header}
use Rattle.grammar.specs.helpers.Scans.{from}
use Rattle.octets.specs.Bytes.{letter?}
use Rattle.scans.specs.helpers.Runs.{run_end}
use Rattle.language.specs.Grammar.{Name, subtags, length_of_primary, rules}

-- the place behind the letters at i, eight of them at most
unfoldable pub part_end : List ℕ → ℕ → ℕ
part_end s i = cond (ltb 8 (run_end letter? s i - i)) (i + 8) (run_end letter? s i)

-- so many parts stand before the place, the first of that length, and the answer is what is found from there on
pub record Behind (s : List ℕ) (parts first place : ℕ) : Type 0 where
  pub tags : List (Part Name)
  pub within : place ≤ length s
  pub some : 0 < parts
  pub few : parts ≤ place
  pub count : length tags ≡ parts
  pub long : length_of_primary tags ≡ first
  pub reads : header rules s ≡ from rules s (ahead tags subtags) place
