-- The cases of requests (i) and (xii), computed by the definitions.
use mathlib.Core.Path.{◌≡◌, refl}
use mathlib.Core.List.{[]}
use Rattle.grammar.specs.Grammar.{lower}
use Rattle.grammar.specs.Text.{bytes}
use Rattle.octets.specs.Bytes.{hex?, token?, content?}
use Prim.Native.Nat.{ℕ}
use Rattle.framing.specs.Answer.{Answer, whole, more, refused}
use Rattle.framing.specs.declared.Whole.{Whole}
use Rattle.framing.specs.helpers.Names.{texts, going_on}
use Rattle.framing.specs.helpers.Machine.{next_line_pos, line_live, line_ends, leave_line, enter_chunk, step, emit, live, done, past_room}
use Rattle.pieces.specs.Reading.{next, answer_of, advance, steps, decode, decoded}

-- whole, with bytes taken, body length, and the trailer's start and length
abbrev told : ℕ → ℕ → ℕ → ℕ → Answer Whole
told n k i l = whole (record { taken = n; length = k; trailer_start = i; trailer_length = l })

-- the whole body; the first 7 bytes; a byte that is no CR; a size above the room; trailers; forbidden fields
cases : (decode 5 (bytes "5\r\nhello\r\n0\r\n\r\n") ≡ told 15 5 13 0)
    × (decoded 5 (bytes "5\r\nhello\r\n0\r\n\r\n") ≡ bytes "hello")
    × (decode 5 (bytes "5\r\nhell") ≡ more)
    × (decoded 5 (bytes "5\r\nhell") ≡ bytes "hell")
    × (decode 5 (bytes "5\r\nhelloX") ≡ refused 1 8)
    × (decoded 5 (bytes "5\r\nhelloX") ≡ bytes "hello")
    × (decode 4 (bytes "5") ≡ refused 7 0)
    × (decode 4 [] ≡ more)
    × (decode 0 (bytes "0\r\n\r\n") ≡ told 5 0 3 0)
    × (decode 0 (bytes "0\r\nA:b\r\n\r\n") ≡ told 10 0 3 5)
    × (decode 5 (bytes "5\r\nhello\r\n0\r\nETag: \"x\"\r\n\r\n") ≡ told 26 5 13 11)
    × (decode 0 (bytes "0\r\ntrailer:") ≡ refused 15 10)
    × (decode 0 (bytes "0\r\nTrailer") ≡ more)
    × (decode 0 (bytes "0\r\nTRANSFER-encoding: x") ≡ refused 15 20)
    × (decode 0 (bytes "0\r\nContent-Length2: 1\r\n\r\n") ≡ told 25 0 3 20)
    × (decode 5 (bytes "5\r\nhello\r\n0\r\nContent-length:") ≡ refused 15 27)
    × (decoded 5 (bytes "5\r\nhello\r\n0\r\nContent-length:") ≡ bytes "hello")
unfolding next answer_of advance steps next_line_pos line_live line_ends leave_line enter_chunk step emit live done past_room hex? token? content? going_on texts lower
cases = (refl, refl, refl, refl, refl, refl, refl, refl, refl, refl, refl, refl, refl, refl, refl, refl, refl)
