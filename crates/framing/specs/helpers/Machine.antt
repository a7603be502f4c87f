-- A machine that reads a chunked body a byte at a time. Definitions alone.
use Rattle.std.specs.Prelude.{Bool, true, false, ◌&&◌, cond, List, [], ◌∷◌, ℕ, zero, suc, ◌+◌, ◌-◌, ◌*◌, ltb, eqb}
use Rattle.std.proofs.Math.Option.{Option, none, some}
use Prim.Native.Char.{code}
use Rattle.grammar.specs.Refusals.{LINE_TOO_LONG, TRAILER_TOO_LONG, BODY_TOO_LARGE, FORBIDDEN_FIELD}
use Rattle.octets.specs.Bytes.{octet?, hex?, hex_value}
use Rattle.framing.specs.Grammar.{LINE_LIMIT, TRAILER_LIMIT}
use Rattle.framing.specs.helpers.Scan.{Machine}
-- the two parts of a body that have a machine of their own; all else takes them by these names
pub use Rattle.framing.specs.helpers.Extensions.{extensions}
pub use Rattle.framing.specs.helpers.Trailer.{TrailerAt, trailer, at_forbidden}
use Rattle.framing.specs.declared.ExtPos.TheVariants as ExtPos
use Rattle.framing.specs.declared.LinePos.{LinePos}
use Rattle.framing.specs.declared.LinePos.TheVariants.{First, Size, Ext}
use Rattle.framing.specs.declared.Whole.{Whole}
use Rattle.framing.specs.declared.State.{State}
use Rattle.framing.specs.declared.State.TheVariants.{Line, LineFeed, Data, DataCr, DataLf, Trail, EndLf, Done, Dead}

-- ## A chunk line, its CR left out
unfoldable pub next_line_pos : LinePos → ℕ → LinePos
next_line_pos First b = cond (hex? b) (Size (0 * 16 + hex_value b)) (Ext 0 ExtPos.Dead)
next_line_pos (Size v) b = cond (hex? b) (Size (v * 16 + hex_value b)) (Ext v (extensions.next extensions.begin b))
next_line_pos (Ext v e) b = Ext v (extensions.next e b)

unfoldable pub line_live : LinePos → Bool
line_live First = true
line_live (Size v) = true
line_live (Ext v e) = extensions.alive e

-- the size that a line has read so far
abbrev pub size_of : LinePos → ℕ
size_of First = 0
size_of (Size v) = v
size_of (Ext v e) = v

-- the size that a line gives which ends here
unfoldable pub line_ends : LinePos → Option ℕ
line_ends First = none
line_ends (Size v) = some v
line_ends (Ext v e) = cond (extensions.ends e) (some v) none

-- ## The body
-- what each case of State holds is said in src/lib.rt

unfoldable pub leave_line : Option ℕ → ℕ → State
leave_line none t = Dead
leave_line (some v) t = LineFeed v t

unfoldable pub enter_chunk : ℕ → ℕ → State
enter_chunk zero t = Trail trailer.begin 0 t
enter_chunk (suc m) t = Data m (t + suc m)

unfoldable pub step : State → ℕ → State
step (Line p k t) b = cond (eqb b (code "\r")) (leave_line (line_ends p) t) (Line (next_line_pos p b) (suc k) t)
step (LineFeed v t) b = cond (eqb b (code "\n")) (enter_chunk v t) Dead
step (Data zero t) b = cond (octet? b) (DataCr t) Dead
step (Data (suc m) t) b = cond (octet? b) (Data m t) Dead
step (DataCr t) b = cond (eqb b (code "\r")) (DataLf t) Dead
step (DataLf t) b = cond (eqb b (code "\n")) (Line First 0 t) Dead
step (Trail p k t) b = cond (trailer.ends p && eqb b (code "\r")) (EndLf t k) (Trail (trailer.next p b) (suc k) t)
step (EndLf t n) b = cond (eqb b (code "\n")) (Done t n) Dead
step (Done t n) b = Dead
step Dead b = Dead

-- the data that a byte is
unfoldable pub emit : State → ℕ → List ℕ
emit (Line p k t) b = []
emit (LineFeed v t) b = []
emit (Data m t) b = b ∷ []
emit (DataCr t) b = []
emit (DataLf t) b = []
emit (Trail p k t) b = []
emit (EndLf t n) b = []
emit (Done t n) b = []
emit Dead b = []

unfoldable pub live : State → Bool
live (Line p k t) = line_live p
live (LineFeed v t) = true
live (Data m t) = true
live (DataCr t) = true
live (DataLf t) = true
live (Trail p k t) = trailer.alive p
live (EndLf t n) = true
live (Done t n) = true
live Dead = false

-- what the end of a body knows of it: the length of its data, and that of its trailer
pub record End : Type 0 where
  pub length : ℕ
  pub trailer : ℕ

unfoldable pub done : State → Option End
done (Line p k t) = none
done (LineFeed v t) = none
done (Data m t) = none
done (DataCr t) = none
done (DataLf t) = none
done (Trail p k t) = none
done (EndLf t n) = none
done (Done t n) = some (record { length = t; trailer = n })
done Dead = none

abbrev pub tell : ℕ → End → Whole
tell n e = record {
  taken = n;
  length = e.length;
  trailer_start = n - (e.trailer + 2);
  trailer_length = e.trailer;
}

-- ## Limits: whether the byte that led to a state broke one

abbrev pub long_line : State → Bool
long_line (Line p k t) = eqb k (suc LINE_LIMIT)
long_line (LineFeed v t) = false
long_line (Data m t) = false
long_line (DataCr t) = false
long_line (DataLf t) = false
long_line (Trail p k t) = false
long_line (EndLf t n) = false
long_line (Done t n) = false
long_line Dead = false

-- a test of where the trailer stands and of its bytes so far
abbrev pub in_trailer : (TrailerAt → ℕ → Bool) → State → Bool
in_trailer test (Line p k t) = false
in_trailer test (LineFeed v t) = false
in_trailer test (Data m t) = false
in_trailer test (DataCr t) = false
in_trailer test (DataLf t) = false
in_trailer test (Trail p k t) = test p k
in_trailer test (EndLf t n) = false
in_trailer test (Done t n) = false
in_trailer test Dead = false

abbrev pub past_trailer : TrailerAt → ℕ → Bool
past_trailer p k = eqb k (suc TRAILER_LIMIT)

abbrev pub long_trailer : State → Bool
long_trailer = in_trailer past_trailer

abbrev pub forbidden_field : State → Bool
forbidden_field = in_trailer (λ p k. at_forbidden p)

-- finished chunks and the size read so far pass the room
unfoldable pub past_room : ℕ → LinePos → ℕ → Bool
past_room room First t = false
past_room room (Size v) t = ltb room (t + v)
past_room room (Ext v e) t = false

abbrev pub no_room : ℕ → State → Bool
no_room room (Line p k t) = past_room room p t
no_room room (LineFeed v t) = false
no_room room (Data m t) = false
no_room room (DataCr t) = false
no_room room (DataLf t) = false
no_room room (Trail p k t) = false
no_room room (EndLf t n) = false
no_room room (Done t n) = false
no_room room Dead = false

-- the limits that no room changes, each with its test
abbrev pub tests : List (ℕ × (State → Bool))
tests =
    (LINE_TOO_LONG, long_line)
    ∷ (TRAILER_TOO_LONG, long_trailer)
    ∷ (FORBIDDEN_FIELD, forbidden_field)
    ∷ []

-- the test of that number
abbrev pub test_of : List (ℕ × (State → Bool)) → ℕ → State → Bool
test_of [] n s = false
test_of (t ∷ ts) n s = cond (eqb n t.0) (t.1 s) (test_of ts n s)

abbrev pub too_long : ℕ → State → Bool
too_long n s = test_of tests n s

-- by number, in a room
abbrev pub broke : ℕ → ℕ → State → Bool
broke room n s = cond (eqb n BODY_TOO_LARGE) (no_room room s) (too_long n s)

abbrev pub start : State
start = Line First 0 0

abbrev pub machine : Machine End State
machine = record { start = start; step = step; emit = emit; live = live; done = done; broke = broke }
