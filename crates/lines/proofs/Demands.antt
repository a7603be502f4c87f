-- Lines and their bytes, over the grammar. The words quoted are those of document 01.
use mathlib.Core.Path.{◌≡◌, refl, sym, ◌∙◌, ap, subst}
use mathlib.Core.List.{List, [], ◌∷◌, ◌++◌}
use mathlib.Core.Logic.{◌↔◌}
use mathlib.Core.Option.{none, some}
use Prim.Native.Nat.{ℕ, ◌+◌, ◌*◌, ◌<◌, ◌≤◌}
use native.Mathlib.Omega.{arith}
use lib.ListN.{length, take, drop}
use Rattle.lines.specs.Grammar as G
use Rattle.lines.specs.Grammar.{Lines, Spells, DIGIT_LIMIT}
use Rattle.lines.specs.Reading.{line_end, line_with, lines_from, rest_from, lines_of, bytes_of, spelled}
use Rattle.lines.proofs.Ends as Ends
use Rattle.lines.proofs.Gathers.{clip_append}
use Rattle.lines.proofs.Splitting.{lines-is, lines_are}
use Rattle.lines.proofs.Spelling.{none-some, spells_is, is_spelled, good-spelled, spelled-good, none-spelled}

-- ## Lines
-- an input has these lines, and no others
pub lines : (xs : List ℕ) (ls : List (List ℕ)) → (lines_of xs ≡ ls) ↔ Lines xs ls
lines xs ls = (λ e. subst (Lines xs) e (lines_are xs), λ n. lines-is n)

-- however an input is cut into pieces, each goes on where the one before it stopped
pub lines_in_pieces : (begun p q : List ℕ) → lines_from begun (p ++ q) ≡ lines_from begun p ++ lines_from (rest_from begun p) q
lines_in_pieces = Ends.lines_append

pub rest_in_pieces : (begun p q : List ℕ) → rest_from begun (p ++ q) ≡ rest_from (rest_from begun p) q
rest_in_pieces = Ends.rest_append

-- a buffer that holds the first bytes of the line begun holds the first bytes of that line with the piece's part of it
pub held_after : (line begun : List ℕ) (held : ℕ) (piece : List ℕ) → take held line ≡ take (length line) begun
    → line_with line held piece ≡ take (length line) (begun ++ take (line_end piece) piece)
unfolding line_with
held_after line begun held piece h = ap (λ (z : List ℕ). take (length line) (z ++ take (line_end piece) piece)) h
    ∙ clip_append (length line) begun (take (line_end piece) piece)

-- a piece with an LF ends that line, and the next is begun; any other goes on with it
pub line-ended : (begun piece : List ℕ) → line_end piece < length piece
    → (lines_from begun piece ≡ (begun ++ take (line_end piece) piece) ∷ lines_from [] (drop (line_end piece + 1) piece))
    × (rest_from begun piece ≡ rest_from [] (drop (line_end piece + 1) piece))
line-ended = Ends.first-line

pub line-goes-on : (begun piece : List ℕ) → length piece ≤ line_end piece
    → (lines_from begun piece ≡ []) × (rest_from begun piece ≡ begun ++ piece)
line-goes-on = Ends.no_line

-- ## Bytes
-- which bytes digits spell
pub spells : (xs ys : List ℕ) → (bytes_of xs ≡ some ys) ↔ Spells xs ys
spells xs ys = (is_spelled xs ys, λ s. spells_is s)

-- a line is good, with these bytes, exactly when it spells them, has "at most 32,768 digits", and the bytes have room
pub good : (xs ys : List ℕ) (room : ℕ) → (spelled xs room ≡ some ys) ↔ (Spells xs ys × (length xs ≤ DIGIT_LIMIT) × (length ys ≤ room))
good xs ys room = (spelled-good xs ys room, λ w. good-spelled xs ys room w.0 w.1 w.2)

-- "an odd count, another character or too many digits": no bytes are spelled within the limit and the room
pub bad : (xs : List ℕ) (room : ℕ)
    → (spelled xs room ≡ none) ↔ ((ys : List ℕ) → Spells xs ys → length xs ≤ DIGIT_LIMIT → length ys ≤ room → ⊥)
bad xs room = (λ e ys s h k. none-some (sym e ∙ (good xs ys room).1 (s, h, k)), none-spelled xs room)

-- each byte has two digits, so that 16,384 bytes of room hold every good line
pub two_digits : {xs ys : List ℕ} → Spells xs ys → length xs ≡ 2 * length ys
two_digits G.none = refl
two_digits (G.pair e f s) = omega (arith, two_digits s)
