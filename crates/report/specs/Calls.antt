-- The program's calls, one for each piece of its input and one at its end, as the contracts of `put_piece` and `put_last` have them.
use Rattle.std.specs.Prelude.{List, [], ◌∷◌, ◌++◌, ◌≡◌, ℕ, ◌≤◌, length, take}
use Rattle.lines.specs.Reading.{lines_from, rest_from, last_line}
use Rattle.report.specs.Saying.{all_said}

-- of a line only this many bytes are kept: with one digit more than the limit it is bad, whatever follows
abbrev pub LINE_LENGTH : ℕ
LINE_LENGTH = 32769

-- what is said of the lines that end in a piece, where `held` bytes of the first stand at the front of the line buffer
abbrev pub piece_said : List ℕ → ℕ → List ℕ → List ℕ
piece_said line held piece = all_said (lines_from (take held line) piece)

-- what is held then of the line begun behind them
abbrev pub piece_held : List ℕ → ℕ → List ℕ → List ℕ
piece_held line held piece = take LINE_LENGTH (rest_from (take held line) piece)

-- what is said at the end of input of the bytes held: if there are any, they are a line
abbrev pub last_said : List ℕ → List ℕ
last_said held = all_said (last_line held)

-- the first n of the lent bytes, all of them there, are xs; `counts` follows from `within`, and callers use it
pub record Foremost (n : ℕ) (lent xs : List ℕ) : Type 0 where
  pub within : n ≤ length lent
  pub counts : n ≡ length (take n lent)
  pub is : take n lent ≡ xs

-- Calls line held pieces text: with `held` bytes at the front of the line buffer, `put_piece` is called on each of these pieces in turn,
-- then `put_last` on what is held; the text is what the calls put in front of the output, each behind those before it
pub data Calls : List ℕ → ℕ → List (List ℕ) → List ℕ → Type 0 where
  last : {line out : List ℕ} {held used : ℕ} → Foremost used out (last_said (take held line)) → Calls line held [] (take used out)
  next : {line piece line' out text : List ℕ} {held held' used : ℕ} {pieces : List (List ℕ)}
      → Foremost used out (piece_said line held piece) → Foremost held' line' (piece_held line held piece) → Calls line' held' pieces text
      → Calls line held (piece ∷ pieces) (take used out ++ text)
