-- The cases of request (xii), computed by the definitions.
use mathlib.Core.Path.{◌≡◌, refl}
use Rattle.grammar.specs.Grammar.{lower}
use Rattle.grammar.specs.Text.{bytes}
use Rattle.octets.specs.Bytes.{hex?, token?, content?}
use Rattle.framing.specs.Answer.{whole, more, refused, Answer}
use Rattle.framing.specs.declared.Whole.{Whole}
use Rattle.framing.specs.Reading.{judge, decode}
use Rattle.framing.specs.helpers.Names.{texts, going_on}
use Rattle.framing.specs.helpers.Machine.{next_line_pos, line_live, line_ends, leave_line, enter_chunk, step, emit, live, done, past_room}
use Rattle.framing.specs.helpers.Scan.{answer}
use Prim.Native.Nat.{ℕ}

-- whole, with bytes taken, body length, and the trailer's start and length
abbrev told : ℕ → ℕ → ℕ → ℕ → Answer Whole
told n k i l = whole (record { taken = n; length = k; trailer_start = i; trailer_length = l })

cases : (decode 0 (bytes "0\r\n\r\n") ≡ told 5 0 3 0)
    × (decode 0 (bytes "0\r\nA:b\r\n\r\n") ≡ told 10 0 3 5)
    × (decode 5 (bytes "5\r\nhello\r\n0\r\nETag: \"x\"\r\n\r\n") ≡ told 26 5 13 11)
    × (decode 0 (bytes "0\r\ntrailer:") ≡ refused 15 10)
    × (decode 0 (bytes "0\r\nTrailer") ≡ more)
    × (decode 0 (bytes "0\r\nTRANSFER-encoding: x") ≡ refused 15 20)
    × (decode 0 (bytes "0\r\nContent-Length2: 1\r\n\r\n") ≡ told 25 0 3 20)
    × (decode 0 (bytes "0\r\nTrailers:\r\n\r\n") ≡ told 16 0 3 11)
    × (decode 0 (bytes "0\r\nContent-Lengt:\r\n\r\n") ≡ told 21 0 3 16)
    × (decode 0 (bytes "0\r\nX-Trailer:\r\n\r\n") ≡ told 17 0 3 12)
unfolding decode answer judge next_line_pos line_live line_ends leave_line enter_chunk step emit live done past_room hex? token? content? going_on texts lower
cases = (refl, refl, refl, refl, refl, refl, refl, refl, refl, refl)
