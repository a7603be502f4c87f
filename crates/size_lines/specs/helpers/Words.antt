-- Short chunk lines, by their first four bytes. Definitions for the contracts.
use Rattle.std.specs.Prelude.{◌≡◌, List, Option, Some, None, ℕ, ◌+◌, ◌*◌, ◌<◌, ◌≤◌, length, get_or}
use Rattle.framing.specs.Grammar.{crlf}
use Rattle.chunked.specs.helpers.Passes.{LineAt}
use Rattle.size_lines.specs.declared.Short.{Short}
use Rattle.size_lines.specs.declared.SizeLine.{SizeLine}

-- the first four bytes as one number
abbrev pub word : List ℕ → ℕ
word xs = get_or xs 0 0 + get_or xs 1 0 * 256 + (get_or xs 2 0 + get_or xs 3 0 * 256) * 65536

-- all bytes that begin with the four begin with that line, if one was read
abbrev pub LineOf : ℕ → Option SizeLine → Type 0
LineOf w (Some l) = (xs : List ℕ) → ((k : ℕ) → get_or xs k 0 < 256) → 4 ≤ length xs → w ≡ word xs
    → (0 < l.size) × LineAt xs 0 l.length l.size crlf
LineOf w None = Unit {0}

abbrev pub ShortOf : Short → Type 0
ShortOf s = LineOf s.word s.line
