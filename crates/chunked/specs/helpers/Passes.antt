-- Where a pass over the input stands, and what its parts find. Definitions for the contracts of the helpers.
use Rattle.std.specs.Prelude.{◌≡◌, ℕ, ◌+◌, ◌-◌, ◌*◌, ◌<◌, ◌≤◌, false, List, ◌++◌, length, take, drop, ◌≢◌, slice_index, slice_index_or}
use Rattle.std.specs.Prelude.{slice_range, Result, Ok, Err}
use Prim.Native.Char.{code}
use Rattle.octets.specs.Bytes.{hex?}
use Rattle.octets.specs.Reading.{number_of, place_of}
use Rattle.framing.specs.Answer.{Answer, whole, more, refused}
use Rattle.framing.specs.Grammar as G
use Rattle.framing.specs.Grammar.{crlf, LINE_LIMIT}
use Rattle.framing.specs.declared.LinePos.TheVariants.{First, Size}
use Rattle.framing.specs.declared.Whole.{Whole}
use Rattle.framing.specs.declared.State.{State}
use Rattle.framing.specs.declared.State.TheVariants.{Line, Data}
use Rattle.framing.specs.helpers.Machine.{next_line_pos, step, emit, start}
use Rattle.framing.specs.helpers.Scan.{run, out, Quiet}
use Rattle.framing.specs.Reading.{judge, decode}
use Rattle.positions.specs.helpers.Ends.{cr_byte}
use Rattle.chunked.specs.declared.Answer.{Answer as Reading}
use Rattle.chunked.specs.declared.Ending.{Ending}
use Rattle.chunked.specs.declared.ChunkLine.{ChunkLine}
use Rattle.chunked.specs.declared.Run.{Run}

-- a pass stands at i: the bytes before led to the state s, with no verdict on the way
pub record At (room : ℕ) (xs : List ℕ) (s : State) (i : ℕ) : Type 0 where
  pub within : i ≤ length xs
  pub quiet : Quiet step (judge room) start xs i
  pub reached : run step start (take i xs) ≡ s

-- the data of the first i bytes
abbrev pub data_to : List ℕ → ℕ → List ℕ
data_to xs i = out step emit start (take i xs)

-- the second pass, which is to write len bytes of data, stands at i, before a chunk line, and has written o
pub record Copied (xs old new : List ℕ) (len i o : ℕ) : Type 0 where
  pub at : At (length old) xs (Line First 0 o) i
  pub wrote : take o new ≡ data_to xs i
  pub behind : drop len new ≡ drop len old
  pub lent : length new ≡ length old

-- the v bytes of data at j were put behind the first o bytes, and what stands behind len bytes was kept
pub record Laid (xs old new : List ℕ) (j o v len : ℕ) : Type 0 where
  pub front : take (o + v) new ≡ take o old ++ take v (drop j xs)
  pub behind : drop len new ≡ drop len old
  pub lent : length new ≡ length old

-- what is answered where reading ends so, behind t bytes of data
abbrev pub ending_answer : ℕ → Ending → Answer Whole
ending_answer t (Ending.Whole n k) = whole (record { taken = n; length = t; trailer_start = n - 2 - k; trailer_length = k })
ending_answer t Ending.More = more
ending_answer t (Ending.Refused r) = refused (number_of r) (place_of r)

-- the trailer and CR LF are among the bytes
abbrev pub Closing : Ending → Type 0
Closing (Ending.Whole n k) = k + 2 ≤ n
Closing Ending.More = Unit {0}
Closing (Ending.Refused r) = Unit {0}

-- reading ends so, and no data follows the t bytes so far
pub record Last (room : ℕ) (xs : List ℕ) (t : ℕ) (e : Ending) : Type 0 where
  pub is : ending_answer t e ≡ decode room xs
  pub closing : Closing e

-- the answer is whole, with so many bytes of data
abbrev pub WholeOf : ℕ → List ℕ → ℕ → Type 0
WholeOf room xs len = (w : Whole) × (decode room xs ≡ whole w) × (w.length ≡ len)

-- ## Chunk lines

-- the w bytes at i are a chunk line of the grammar, within its limit, that gives v, then z
pub record LineAt (xs : List ℕ) (i w v : ℕ) (z : List ℕ) : Type 0 where
  pub inside : i + w ≤ length xs
  pub text : List ℕ
  pub split : take w (drop i xs) ≡ text ++ z
  pub line : G.Line text v
  pub short : length text ≤ LINE_LIMIT

-- the digits of the line at i, which has t bytes of data before it, have the value v and end at j, before another byte
abbrev pub SizeRead : ℕ → List ℕ → ℕ → ℕ → ℕ → ℕ → Type 0
SizeRead room xs i t v j =
    (i ≤ j) × (j < length xs) × At room xs (Line (Size v) (j - i) t) j × (hex? (slice_index xs j) ≡ false)
    × (run next_line_pos First (slice_range xs i j) ≡ Size v)

-- the line at i, which has t bytes of data before it, was read: it gives a size above zero, and data is behind it
abbrev pub LineRead : ℕ → List ℕ → ℕ → ℕ → Result ChunkLine Ending → Type 0
LineRead room xs i t (Ok line) =
    (line.at ≡ i) × (0 < line.size) × At room xs (Data (line.size - 1) (t + line.size)) (i + line.length)
    × LineAt xs i line.length line.size crlf
LineRead room xs i t (Err e) = Last room xs t e

-- the n bytes at i are those at j
abbrev pub SameAt : List ℕ → ℕ → ℕ → ℕ → Type 0
SameAt xs i j n = take n (drop i xs) ≡ take n (drop j xs)

-- the four bytes at i as a number, the first the lowest
abbrev pub word_at : List ℕ → ℕ → ℕ
word_at xs i = slice_index xs i + slice_index xs (i + 1) * 256 + (slice_index xs (i + 2) + slice_index xs (i + 3) * 256) * 65536

-- where a line was read: it is such a line, and behind it stand as many bytes as it gives, and two more
pub record Known (xs : List ℕ) (last : ChunkLine) : Type 0 where
  pub inside : 0 < last.length → last.at + last.length + last.size + 2 ≤ length xs
  pub line : 0 < last.length → (0 < last.size) × LineAt xs last.at last.length last.size crlf

-- CR LF stand at i
pub record CrlfAt (xs : List ℕ) (i : ℕ) : Type 0 where
  pub inside : i + 2 ≤ length xs
  pub cr : slice_index_or xs i 0 ≡ cr_byte
  pub lf : slice_index_or xs (i + 1) 0 ≡ code "\n"

-- the line of a last chunk without extensions stands at i
abbrev pub LastAt : List ℕ → ℕ → Type 0
LastAt xs i = (slice_index xs i ≡ code "0") × CrlfAt xs (i + 1)

-- a chunk stands at i: a line of w bytes that gives v, above zero, v bytes, CR LF
pub record ChunkAt (xs : List ℕ) (i w v : ℕ) : Type 0 where
  pub some : 0 < v
  pub line : LineAt xs i w v crlf
  pub end : CrlfAt xs (i + (w + v))

-- the chunk at i, which has t bytes of data before it, fits into the room
abbrev pub ChunkRead : ℕ → List ℕ → ℕ → ℕ → Result ChunkLine Ending → Type 0
ChunkRead room xs i t (Ok line) = (line.at ≡ i) × (t + line.size ≤ room) × ChunkAt xs i line.length line.size
ChunkRead room xs i t (Err e) = Last room xs t e

-- ## Chunks

-- a chunk stands at i
abbrev pub SomeChunk : List ℕ → ℕ → Type 0
SomeChunk xs i = (w : ℕ) × (v : ℕ) × ChunkAt xs i w v

-- whether b, which stands behind the first digit, may be a second one
abbrev pub HasSecond : ℕ → ℕ → Type 0
HasSecond b n = (n ≤ 1) × (n ≡ 0 → b ≡ cr_byte) × (n ≡ 1 → b ≢ cr_byte)

-- where a line was read, it is that of the chunk at i
abbrev pub Short : List ℕ → ℕ → ChunkLine → Type 0
Short xs i line = Known xs line × (0 < line.length → ChunkAt xs i line.length line.size)

-- chunks at i have that size
abbrev pub SizeAt : List ℕ → ℕ → ℕ → Type 0
SizeAt xs i n = (w v : ℕ) → ChunkAt xs i w v → v ≡ n

-- the first CR from i on is at j; or there is none, and j is the length
pub record FirstCr (xs : List ℕ) (i j : ℕ) : Type 0 where
  pub starts : i ≤ j
  pub within : j ≤ length xs
  pub none : (k : ℕ) → i ≤ k → k < j → slice_index xs k ≢ cr_byte
  pub here : j < length xs → slice_index xs j ≡ cr_byte

-- where a line was read, it is that of the chunk at i, and its data fits into what is left of the room
abbrev pub Plain : List ℕ → ℕ → ℕ → ChunkLine → Type 0
Plain xs i left line = Known xs line × (0 < line.length → (line.size ≤ left) × ChunkAt xs i line.length line.size)

-- chunks stand from i to j, with n bytes of data
pub data ChunksTo (xs : List ℕ) : ℕ → ℕ → ℕ → Type 0 where
  no_chunk : {i : ℕ} → ChunksTo xs i i 0
  chunk_then : {i j w v n : ℕ} → ChunkAt xs i w v → ChunksTo xs (i + w + v + 2) j n → ChunksTo xs i j (v + n)

-- the first pass has come so far: before a chunk line, behind chunks with that data
pub record Reached (room : ℕ) (xs : List ℕ) (run : Run) : Type 0 where
  pub at : At room xs (Line First 0 run.total) run.at
  pub known : Known xs run.last
  pub chunks : ChunksTo xs 0 run.at run.total

abbrev pub Chunks : List ℕ → ℕ → ℕ → Type 0
Chunks xs i n = (j : ℕ) × ChunksTo xs i j n

-- the data of a whole body fits into the room, and stands in chunks from the front
abbrev pub InChunks : ℕ → List ℕ → Reading → Type 0
InChunks room xs (Reading.Whole w) = (w.length ≤ room) × Chunks xs 0 w.length
InChunks room xs Reading.More = Unit {0}
InChunks room xs (Reading.Refused r) = Unit {0}
