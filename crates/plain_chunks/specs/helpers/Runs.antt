-- Chunks that the code passes over at once. Definitions for the contracts.
use Rattle.std.specs.Prelude.{◌≡◌, cond, List, Option, Some, None, ℕ, ◌+◌, ◌-◌, ◌≤◌, eqb, length, take}
use Rattle.text.specs.Placing.{placed}
use Rattle.framing.specs.declared.LinePos.TheVariants.{First}
use Rattle.framing.specs.declared.State.{State}
use Rattle.framing.specs.declared.State.TheVariants.{Line, Data}
use Rattle.framing.specs.Reading.{judge}
use Rattle.framing.specs.helpers.Machine.{step, emit}
use Rattle.framing.specs.helpers.Scan.{run, out, Quiet}
use Rattle.chunked.specs.helpers.Passes.{CrlfAt}
use Rattle.size_lines.specs.declared.Short.{Short}
use Rattle.size_lines.specs.declared.SizeLine.{SizeLine}
use Rattle.size_lines.specs.helpers.Lines.{PlainSize}
use Rattle.size_lines.specs.helpers.Words.{word}
use Rattle.plain_chunks.specs.declared.Run.{Run}
use Rattle.plain_chunks.specs.declared.Chunk.{Chunk}

-- where it stands behind the bytes
abbrev pub stands : Run → State
stands r = cond (eqb r.size 0) (Line First 0 r.total) (Data (r.size - 1) r.total)

-- over the first bytes the machine goes from the line behind t bytes of data to r, with no verdict on the way; what it gives is put there
pub record Passed (t : ℕ) (bytes old : List ℕ) (r : Run) (new : List ℕ) : Type 0 where
  pub inside : r.taken ≤ length bytes
  pub ends : run step (Line First 0 t) (take r.taken bytes) ≡ stands r
  pub quiet : Quiet step (judge (length old)) (Line First 0 t) (take r.taken bytes) (length (take r.taken bytes))
  pub wrote : new ≡ placed old t (out step emit (Line First 0 t) (take r.taken bytes))

-- where a line was read, the bytes begin with its four
abbrev pub FrontIf : List ℕ → ℕ → Option SizeLine → Type 0
FrontIf xs w (Some l) = (4 ≤ length xs) × (w ≡ word xs)
FrontIf xs w None = Unit {0}

abbrev pub FrontOf : List ℕ → Short → Type 0
FrontOf xs s = FrontIf xs s.word s.line

-- a chunk whose line is digits alone
abbrev pub PlainChunk : List ℕ → ℕ → Chunk → Type 0
PlainChunk bytes left (Chunk.Whole l) = PlainSize bytes left l.size l.length × CrlfAt bytes (l.length + l.size)
PlainChunk bytes left (Chunk.Begun l) = PlainSize bytes left l.size l.length
PlainChunk bytes left Chunk.Other = Unit {0}
