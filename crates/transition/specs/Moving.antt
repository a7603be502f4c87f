-- What the next byte of a body comes to, from any position in any room.
use Rattle.std.specs.Prelude.{Bool, false, ◌&&◌, cond, ℕ, ◌+◌, leb, ltb, Option, None, Some}
use Rattle.std.proofs.Math.Option.{Option as Maybe, none, some}
use Rattle.grammar.specs.Reading as G
use Rattle.grammar.specs.Reading.{value, refused}
use Rattle.framing.specs.declared.State.{State}
use Rattle.framing.specs.declared.State.TheVariants.{Line, LineFeed, Data, DataCr, DataLf, Trail, EndLf, Done, Dead}
use Rattle.framing.specs.Grammar.{LINE_LIMIT, TRAILER_LIMIT}
use Rattle.framing.specs.Reading.{judge}
use Rattle.framing.specs.helpers.Machine.{End, size_of, step}
use Rattle.framing.specs.helpers.Scan.{Verdict, ended, refusal}

-- a body can stand there in that room, by the numbers: data within the room, lines and trailers within their limits
unfoldable pub possible : ℕ → State → Bool
possible room (Line p k t) = leb k LINE_LIMIT && leb (t + size_of p) room
possible room (LineFeed v t) = leb (t + v) room
possible room (Data m t) = ltb m t && leb t room
possible room (DataCr t) = leb t room
possible room (DataLf t) = leb t room
possible room (Trail p k t) = leb k TRAILER_LIMIT && leb t room
possible room (EndLf t n) = leb n TRAILER_LIMIT && leb t room
possible room (Done t n) = leb n TRAILER_LIMIT && leb t room
possible room Dead = false

-- the state that a byte led to, unless it is refused; the place counts from that byte
abbrev pub by_verdict : Maybe (Verdict End) → State → G.Verdict State
by_verdict none s = value s
by_verdict (some (ended e)) s = value s
by_verdict (some (refusal n)) s = refused n 0

abbrev pub told : ℕ → State → G.Verdict State
told room s = by_verdict (judge room s) s

-- none where no body can stand
unfoldable pub transition : ℕ → State → ℕ → Option (G.Verdict State)
transition room s b = cond (possible room s) (Some (told room (step s b))) None
