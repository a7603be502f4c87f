-- Demands 2 and 3 for chunked bodies, over the grammar, in every room. The words quoted are those of documents 01 and 02.
use mathlib.Core.Path.{◌≡◌, refl, ◌∙◌, ap}
use mathlib.Core.List.{List, ◌∷◌, ◌++◌}
use mathlib.Core.Logic.{◌↔◌}
use Prim.Native.Nat.{ℕ, ◌+◌, ◌<◌, ◌≤◌}
use native.Mathlib.Omega.{arith}
use lib.ListN.{length, take, drop}
use lib.Seq.{length-take-le}
use Rattle.grammar.specs.Refusals.{MALFORMED, LINE_TOO_LONG, TRAILER_TOO_LONG, BODY_TOO_LARGE, FORBIDDEN_FIELD}
use Rattle.framing.specs.declared.Whole.{Whole}
use Rattle.framing.specs.Grammar as G
use Rattle.framing.specs.Grammar.{crlf, Body, HasTrailer, Broken, limits, chunked}
use Rattle.framing.specs.Answer.{Answer}
use Rattle.framing.specs.Demand.{rank, Among, Live, BeginsWhole, Unfinished, Malformed, Over, Decodes, Nothing}
use Rattle.framing.specs.helpers.Machine.{machine, tell}
use Rattle.framing.specs.helpers.Scan.{nothing, decode_by, decoded_by}
use Rattle.framing.specs.Reading.{judge, found, decode, decoded, decode_output}
use Rattle.framing.proofs.Machines as Machines
use Rattle.framing.proofs.Judging.{laws}
use Rattle.framing.proofs.Trailers as Trailers
use Rattle.framing.proofs.Rooms.{same, lifts}

-- all that is asked, of the machine under every list of limits without 1, whatever is written of bytes that are not a whole body
pub under : (ls : List ℕ) → (Among ls MALFORMED → ⊥) → (Early : List ℕ → List ℕ → Type 0) (early : List ℕ → List ℕ)
    → ((p : List ℕ) → Live Body p → Early p (early p))
    → Decodes (chunked ls) Early (decode_by machine tell ls) (λ r s. decoded_by machine tell ls r early s)
under ls other = Machines.decodes (chunked ls) machine tell (λ r. laws ls r other) same lifts

pub malformed_no_limit : Among limits MALFORMED → ⊥
malformed_no_limit a = omega arith

-- "at one byte: 1, 5, 6, 7", then 15; the byte that gets 1 leaves no continuation, so that it breaks no limit (`broken-live`)
pub in_order : (rank limits LINE_TOO_LONG < rank limits TRAILER_TOO_LONG) × (rank limits TRAILER_TOO_LONG < rank limits BODY_TOO_LARGE)
    × (rank limits BODY_TOO_LARGE < rank limits FORBIDDEN_FIELD)
in_order = (omega arith, omega arith, omega arith)

-- each limit that the grammar states is one of them
pub all-limits : (r n : ℕ) (p : List ℕ) → Broken r n p → Among limits n
all-limits r n p (G.long_line i e) = omega arith
all-limits r n p (G.long_trailer i e) = omega arith
all-limits r n p (G.no_room i fits passes) = omega arith
all-limits r n p (G.forbidden_field i e) = omega arith

-- all that is asked of document 01's reader, at once
pub demands : Decodes (chunked limits) Nothing decode decoded
unfolding judge found decode decoded
demands = under limits malformed_no_limit Nothing nothing (λ p l. refl)

module _ (r : ℕ) (s : List ℕ) where
  -- "whole, with bytes taken and body length": "bytes taken is the length of the beginning that is the body, body length that of its
  -- joined chunk data"; and no limit is broken on the way
  pub whole : (w : Whole) → (decode r s ≡ Answer.whole w) ↔ ((d : List ℕ) × BeginsWhole (chunked limits) r s w d)
  whole = demands.whole r s

  -- the bytes taken are those of the beginning that is the body
  pub taken : {w : Whole} {d : List ℕ} (b : BeginsWhole (chunked limits) r s w d) → w.taken ≡ b.count
  taken b = b.tells.taken ∙ length-take-le b.count s b.inside

  -- "The record of a whole body gains the trailer's start and length": the bytes there are the trailer of the body that was read, all
  -- its lines
  pub trailer-bytes : {w : Whole} {d : List ℕ} → BeginsWhole (chunked limits) r s w d
      → HasTrailer (take w.taken s) w.trailer_start (take w.trailer_length (drop w.trailer_start s))
  trailer-bytes b = Trailers.told-trailer s b.count b.inside b.tells

  -- and the two behind it, the last that are taken, the closing CRLF: "Without one, the start is the closing CRLF and the length 0"
  pub trailer-closes : {w : Whole} {d : List ℕ} → BeginsWhole (chunked limits) r s w d
      → (take 2 (drop (w.trailer_start + w.trailer_length) s) ≡ crlf) × (w.trailer_start + w.trailer_length + 2 ≡ w.taken)
  trailer-closes b = Trailers.told-close s b.count b.inside b.tells

  -- "more": no limit is broken, no beginning is a body, and some continuation makes one
  pub more : (decode r s ≡ Answer.more) ↔ Unfinished (chunked limits) r s
  more = demands.more r s

  -- "The place of 1 is the length of the longest beginning that some continuation, limits aside, makes well-formed"
  pub malformed : (p : ℕ) → (decode r s ≡ Answer.refused MALFORMED p) ↔ Malformed (chunked limits) r s p
  malformed = demands.malformed r s

  -- rows 5, 6, 7 and 15: "In a chunked body the lowest place, and at one byte: 1, 5, 6, 7"; "A limit (row 5, 6 or 7) is broken by a
  -- byte that leaves a continuation and is the place its row names"
  pub limit : (n p : ℕ) → (n ≡ MALFORMED → ⊥) → (decode r s ≡ Answer.refused n p) ↔ Over (chunked limits) r s n p
  limit = demands.limit r s

  -- an answer that is not "more" is that of every longer input, written bytes included
  pub stands : (t : List ℕ) → (decode r s ≡ Answer.more → ⊥) → (decode r (s ++ t) ≡ decode r s) × (decoded r (s ++ t) ≡ decoded r s)
  stands = demands.stands r s

  -- an answer that is not refusal 7 is that of every larger room, written bytes included
  pub roomier : (q : ℕ) → r ≤ q → ((p : ℕ) → decode r s ≡ Answer.refused BODY_TOO_LARGE p → ⊥)
      → (decode q s ≡ decode r s) × (decoded q s ≡ decoded r s)
  roomier q = demands.roomier r q s

-- "Whole writes the body at the front of the output and keeps the rest"; "No refusal writes into a lent buffer", nor does "more"
pub written : (s old : List ℕ)
    → ((w : Whole) (d : List ℕ) → BeginsWhole (chunked limits) (length old) s w d → decode_output s old ≡ d ++ drop (length d) old)
    × (((w : Whole) → decode (length old) s ≡ Answer.whole w → ⊥) → decode_output s old ≡ old)
unfolding decode_output
written s old = (
  λ w d b. ap (λ (z : List ℕ). z ++ drop (length z) old) (demands.writes (length old) s w d b),
  λ f. keeps (decode (length old) s) refl f,
)
  where
    keeps : (a : Answer Whole) → decode (length old) s ≡ a → ((w : Whole) → a ≡ Answer.whole w → ⊥) → decode_output s old ≡ old
    keeps (Answer.whole w) e f = absurd (f w refl)
    keeps Answer.more e f = ap (λ (z : List ℕ). z ++ drop (length z) old) (demands.keeps_more (length old) s e)
    keeps (Answer.refused n p) e f = ap (λ (z : List ℕ). z ++ drop (length z) old) (demands.keeps_refused (length old) s n p e)

-- ## Bodies
-- no body goes on from a body, and one has one reading: the beginning that is a body is determined, and so is its data
pub prefix_free : (p : List ℕ) (b : ℕ) (q d e : List ℕ) → Body p d → Body (p ++ (b ∷ q)) e → ⊥
prefix_free = Machines.prefix_free (chunked limits) machine tell 0 (laws limits 0 malformed_no_limit)

pub one-reading : (p d e : List ℕ) → Body p d → Body p e → d ≡ e
one-reading = Machines.one-reading (chunked limits) machine tell 0 (laws limits 0 malformed_no_limit)

pub one-trailer : {p t u : List ℕ} {n m : ℕ} → HasTrailer p n t → HasTrailer p m u → (n ≡ m) × (t ≡ u)
one-trailer = Trailers.one-trailer

-- "A byte leaves a continuation when the bytes up to and with it have one": the byte that breaks a limit does
pub broken-live : (r n : ℕ) (p : List ℕ) → Broken r n p → Live Body p
broken-live r n p b =
    let l = laws limits r malformed_no_limit in
    Machines.live_to (chunked limits) machine tell r l p (l.over_from p n (all-limits r n p b) b).0
