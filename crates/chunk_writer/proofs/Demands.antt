-- What the writer's frame is, over the grammar of chunked bodies, and that it reads back. The words quoted are those of document 01.
use mathlib.Core.Path.{◌≡◌, refl, sym, ◌∙◌, ap, subst}
use mathlib.Core.List.{List, [], ◌++◌}
use Prim.Native.Nat.{ℕ, ◌-◌, ◌<◌, ◌≤◌}
use Prim.Native.Char.{code}
use native.Mathlib.Omega.{arith}
use lib.ListN.{length, get_or, take, drop}
use lib.Seq.{take-length}
use Rattle.octets.specs.Bytes.{octet?}
use Rattle.numerals.specs.Numeral.{glyph, digits, width_in, width, numeral}
use Rattle.numerals.proofs.Demands as Numerals
use Rattle.framing.specs.declared.Whole.{Whole}
use Rattle.framing.specs.Grammar.{Many, Size, Body, limits, chunked}
use Rattle.framing.specs.helpers.Machine.{tell}
use Rattle.framing.specs.Answer.{whole}
use Rattle.framing.specs.Demand.{BeginsWhole}
use Rattle.framing.specs.Reading.{decode, decoded}
use Rattle.framing.proofs.Demands as Framing
use Rattle.grammar.specs.Text.{bytes, joined}
use Rattle.chunk_writer.specs.Writing.{BODY_LIMIT, chunk, end, framed, chunks_in, chunks_of, frame}
use Rattle.chunk_writer.proofs.Cuts as Cuts
use Rattle.chunk_writer.proofs.Bodies.{size_is, framed-body, pieces_of, joined-cut}
use Rattle.chunk_writer.proofs.ReadsBack.{reads-framed}

-- ## Sizes
-- "sizes in capitals without leading zeros": digits of the grammar with that value
pub size : (n : ℕ) → Size (numeral 16 n) n
size = size_is

-- the first of them is `0` only where the size is 0
pub no_leading-zero : (n : ℕ) → get_or (numeral 16 n) 0 0 ≡ code "0" → n ≡ 0
no_leading-zero n = Numerals.first_digit 16 n (omega arith) (omega arith)

-- ## Cuts
-- "cuts off full chunks, then what remains": where n bytes or more are left, the first n of them are a chunk; fewer are one chunk,
-- or none
pub cuts : (n : ℕ) (xs : List ℕ) → 0 < n → 0 < length xs → frame xs n ≡ chunk (take n xs) ++ frame (drop n xs) n
cuts = Cuts.frame-some

pub ends : (n : ℕ) → frame [] n ≡ end
ends = Cuts.frame-none

-- ## Frames
-- the frame of a body of bytes is a chunked body, and its joined data is that body
pub frames : (body : List ℕ) (n : ℕ) → Many octet? body → 0 < n → Body (frame body n) body
unfolding frame
frames body n m p = subst (Body (framed (chunks_of n body))) (joined-cut n body p) (framed-body (chunks_of n body) (pieces_of n body p m))

abbrev told_of : List ℕ → ℕ → Whole
told_of body n = record {
  taken = length (frame body n);
  length = length body;
  trailer_start = length (frame body n) - 2;
  trailer_length = 0;
}

-- it reads back, in every room that holds the body, at every chunk length that the writer accepts: whole, all of it taken, the
-- body's length, and no trailer before the closing CRLF
pub reads-back : (r : ℕ) (body : List ℕ) (n : ℕ) → Many octet? body → 0 < n → length body ≤ BODY_LIMIT → length body ≤ r
    → decode r (frame body n) ≡ whole (told_of body n)
unfolding frame
reads-back r body n m p small l =
    let j : joined (chunks_of n body) ≡ body = joined-cut n body p in
    let k : length (joined (chunks_of n body)) ≡ length body = ap length j in
    reads-framed r (chunks_of n body) (pieces_of n body p m) (omega arith) (omega arith)
    ∙ ap (λ (m : ℕ). whole (tell (length (framed (chunks_of n body))) (record { length = m; trailer = 0 }))) k

-- and what is written then is the body
pub writes-back : (r : ℕ) (body : List ℕ) (n : ℕ) → Many octet? body → 0 < n → length body ≤ BODY_LIMIT → length body ≤ r
    → decoded r (frame body n) ≡ body
writes-back r body n m p small l =
    let told : Whole = told_of body n in
    let w : (d : List ℕ) × BeginsWhole (chunked limits) r (frame body n) told d
    = (Framing.whole r (frame body n) told).0 (reads-back r body n m p small l) in
    let all : take w.1.count (frame body n) ≡ frame body n
    = ap (λ (k : ℕ). take k (frame body n)) (sym (Framing.taken r (frame body n) w.1)) ∙ take-length (frame body n) in
    (Framing.demands).writes r (frame body n) told w.0 w.1
    ∙ Framing.one-reading (frame body n) w.0 body (subst (λ (z : List ℕ). Body z w.0) all w.1.body) (frames body n m p)

-- "`hello` at length 2 makes 25 bytes"
pub hello : (frame (bytes "hello") 2 ≡ bytes "2\r\nhe\r\n2\r\nll\r\n1\r\no\r\n0\r\n\r\n") × (length (frame (bytes "hello") 2) ≡ 25)
unfolding frame chunks_of chunks_in framed chunk numeral digits width width_in glyph
hello = (refl, refl)
