-- Request (i), for every sequence of calls from the start, over the grammar: `after (begun room) cs` is the state behind the calls cs,
-- `offers room cs` the bytes that they offered, `output (begun room) cs old` the output. The words quoted are those of the request.
use mathlib.Core.Path.{◌≡◌, sym, ◌∙◌, ap, subst}
use mathlib.Core.Bool.{true, false, not, ◌&&◌}
use mathlib.Core.List.{List, [], ◌∷◌, ◌++◌}
use mathlib.Core.Logic.{◌⊎◌}
use Prim.Native.Nat.{ℕ, suc, ◌+◌, ◌-◌, ◌/◌, ◌<◌, ◌≤◌, min}
use native.Mathlib.Omega.{arith}
use lib.Dec.{eqb}
use lib.ListN.{length, take, drop}
use Rattle.grammar.specs.Refusals.{OUT_OF_RANGE, LINE_TOO_LONG, TRAILER_TOO_LONG, BODY_TOO_LARGE}
use Rattle.grammar.specs.Refusals.{FORBIDDEN_FIELD, FRAMED_TOO_LONG}
use Rattle.framing.specs.declared.Whole.{Whole}
use Rattle.framing.specs.Answer.{whole, refused}
use Rattle.framing.specs.Demand.{rank, Decodes}
use Rattle.framing.specs.Grammar.{crlf, HasTrailer, SoFar}
use Rattle.framing.specs.Reading as Framing
use Rattle.framing.proofs.SoFar as SoFar
use Rattle.framing.proofs.Trailers as Trailers
use Rattle.pieces.specs.Grammar.{in_pieces}
use Rattle.pieces.specs.declared.Pieces.{Pieces}
use Rattle.pieces.specs.Reading.{begun, over?, answer_of, filled, decode, decoded, valid}
use Rattle.pieces.specs.Reading.{state_after, taken_by, answered, output_after}
use Rattle.pieces.specs.Calls.{Call, after, output, taken_in, offers, met, waiting}
use Rattle.pieces.proofs.Decoding as Decoding
use Rattle.pieces.proofs.Sequences as Sequences
use Rattle.pieces.proofs.Steps.{filled_on, begun-sound}

-- ## 1. Demands 2 and 3
-- all that is asked of a reader, whatever bytes come: 14 is "one more limit in demands 2 and 3", and what is written before "whole" is the
-- data so far
pub demands : Decodes in_pieces SoFar decode decoded
demands = Decoding.demands

-- 14 is "last in the order at one byte", 15 "just before" it
pub order : (rank in_pieces.limits LINE_TOO_LONG < rank in_pieces.limits TRAILER_TOO_LONG)
    × (rank in_pieces.limits TRAILER_TOO_LONG < rank in_pieces.limits BODY_TOO_LARGE)
    × (rank in_pieces.limits BODY_TOO_LARGE < rank in_pieces.limits FORBIDDEN_FIELD)
    × (rank in_pieces.limits FORBIDDEN_FIELD < rank in_pieces.limits FRAMED_TOO_LONG)
order = Decoding.order

-- the data so far is determined
pub one_so_far : {p d e : List ℕ} → SoFar p d → SoFar p e → d ≡ e
one_so_far = SoFar.one_so_far

module _ (room : ℕ) (cs : List Call) where
  -- the answer behind any calls is that to the bytes that they offered: "what lies beyond the quota doesn't count", nor does a call that
  -- is refusal 9. Shuts out a reader that looks beyond the quota, and one that answers 9 once and then for ever
  pub answer_so_far : answer_of (after (begun room) cs) ≡ decode room (offers room cs)
  answer_so_far = ap answer_of (Sequences.reached room cs)

  -- and that is what the next valid call says, its own bytes included
  pub answer-next : (piece : List ℕ) (quota len : ℕ) → 0 < quota → len ≡ room
      → answered (after (begun room) cs) piece quota len ≡ decode room (offers room cs ++ take quota piece)
  answer-next = Sequences.answer-is room cs

  -- "its input is all bytes taken so far and the refused byte, if it met one"
  pub input : (decode room (take (met (after (begun room) cs)) (offers room cs)) ≡ decode room (offers room cs))
      × (decoded room (take (met (after (begun room) cs)) (offers room cs)) ≡ decoded room (offers room cs))
  input =
      subst (λ (s : Pieces). (decode room (take (met s) (offers room cs)) ≡ decode room (offers room cs))
      × (decoded room (take (met s) (offers room cs)) ≡ decoded room (offers room cs)))
      (sym (Sequences.reached room cs)) (Decoding.input-is room (offers room cs))

  -- "a refused byte, which is not taken"; "Places count from the body's first byte". Shuts out a reader that takes the refused byte, and
  -- one that counts places from the piece
  pub place : (n p : ℕ) → answer_of (after (begun room) cs) ≡ refused n p
      → (p ≡ (after (begun room) cs).taken) × (p < length (offers room cs))
  place n p e =
      subst (λ (s : Pieces). (p ≡ s.taken) × (p < length (offers room cs))) (sym (Sequences.reached room cs))
      (Decoding.one_place room (offers room cs) n p (sym answer_so_far ∙ e))

  pub count : (w : Whole) → answer_of (after (begun room) cs) ≡ whole w → w.taken ≡ (after (begun room) cs).taken
  count w e =
      subst (λ (s : Pieces). w.taken ≡ s.taken) (sym (Sequences.reached room cs))
      (Decoding.one-count room (offers room cs) w (sym answer_so_far ∙ e))

  -- where the trailer of a whole body is said to stand, there stands the trailer of the bytes taken, among those offered; behind it, as
  -- the last two, the closing CRLF
  pub trailer : (w : Whole) → answer_of (after (begun room) cs) ≡ whole w
      → HasTrailer (take w.taken (offers room cs)) w.trailer_start
      (take w.trailer_length (drop w.trailer_start (offers room cs)))
      × (take 2 (drop (w.trailer_start + w.trailer_length) (offers room cs)) ≡ crlf)
      × (w.trailer_start + w.trailer_length + 2 ≡ w.taken)
  trailer w e =
      let b = ((demands.whole room (offers room cs) w).0 (sym answer_so_far ∙ e)).1 in
      let c = Trailers.told-close (offers room cs) b.count b.inside b.tells in
      (Trailers.told-trailer (offers room cs) b.count b.inside b.tells, c.0, c.1)

  -- "after "more" or a refusal in the body the output holds the data so far at its front .., the rest as lent": behind any calls, and where
  -- the body is whole too. Shuts out a reader that writes data of a refused call twice
  pub written : (old : List ℕ) → length old ≡ room
      → output (begun room) cs old ≡ decoded room (offers room cs) ++ drop (length (decoded room (offers room cs))) old
  written = Sequences.output-is room cs

  -- how many bytes of data that is: what `Pieces::written` tells
  pub data_length : filled (after (begun room) cs).position ≡ length (decoded room (offers room cs))
  unfolding filled
  data_length =
      ap (λ (s : Pieces). filled s.position) (Sequences.reached room cs)
      ∙ filled_on (begun room) (offers room cs) (begun-sound room)
      ∙ omega arith

  -- ## 2. Any cutting
  -- "any cutting gives the one-call answer, place and body". Shuts out a reader that forgets a CR at the end of a piece
  pub any_cutting : (es : List Call) (old : List ℕ) → length old ≡ room → offers room cs ≡ offers room es
      → (after (begun room) cs ≡ after (begun room) es) × (output (begun room) cs old ≡ output (begun room) es old)
  any_cutting es old = Sequences.any_cutting room cs es old

  -- that of one call, which gets all of the bytes
  pub one_call : (old : List ℕ) → length old ≡ room
      → (after (begun room) cs
      ≡ after (begun room) (record { piece = offers room cs; quota = suc (length (offers room cs)); len = room } ∷ []))
      × (output (begun room) cs old
      ≡ output (begun room) (record { piece = offers room cs; quota = suc (length (offers room cs)); len = room } ∷ []) old)
  one_call = Sequences.one_call room cs

  -- "Up to there", the limit of 14: that of document 01's reader
  pub as_chunked : ((p : ℕ) → answer_of (after (begun room) cs) ≡ refused FRAMED_TOO_LONG p → ⊥)
      → answer_of (after (begun room) cs) ≡ Framing.decode room (offers room cs)
  as_chunked within = answer_so_far ∙ Decoding.as_decode room (offers room cs) (λ p e. within p (answer_so_far ∙ e))

  -- and its output, where the body is whole
  pub same-output : (old : List ℕ) → length old ≡ room → (w : Whole) → answer_of (after (begun room) cs) ≡ whole w
      → output (begun room) cs old ≡ Framing.decode_output (offers room cs) old
  unfolding Framing.decode_output
  same-output old l w e =
      written old l
      ∙ ap (λ (d : List ℕ). d ++ drop (length d) old)
      (Decoding.same_data room (offers room cs) w (sym answer_so_far ∙ e) ∙ ap (λ (n : ℕ). Framing.decoded n (offers room cs)) (sym l))

  -- ## 3. What calls take
  pub takes_in : taken_in (begun room) cs ≡ (after (begun room) cs).taken
  takes_in = Sequences.takes_in room cs

  -- ## 4. Progress
  -- "With quota q at least 1 and all n bytes waiting, n divided by q, rounded up, calls must take all n or answer whole or refused"
  pub progress : (xs : List ℕ) (quota : ℕ) → 0 < quota
      → (over? (waiting quota ((length xs + quota - 1) / quota) (after (begun room) cs) xs) ≡ true)
      ⊎ ((waiting quota ((length xs + quota - 1) / quota) (after (begun room) cs) xs).taken ≡ (after (begun room) cs).taken + length xs)
  progress = Sequences.progress room cs

  -- ## 5. Valid calls
  -- "another output length or a quota of 0 is refusal 9": no other call on a state that was reached from the start
  pub valid-reached : (quota len : ℕ) → valid (after (begun room) cs) quota len ≡ (not (eqb quota 0) && eqb len room)
  valid-reached = Sequences.valid-reached room cs

module _ (s : Pieces) (piece : List ℕ) (quota : ℕ) where
  -- "It takes the smaller of quota and piece length, fewer only where the body ends or at a refused byte": on any state. Shuts out a reader
  -- that stops at a chunk's end
  pub takes : (len : ℕ) → valid s quota len ≡ true
      → (taken_by s piece quota len ≤ quota) × (taken_by s piece quota len ≤ length piece)
      × (over? (state_after s piece quota len) ≡ false → taken_by s piece quota len ≡ min quota (length piece))
  takes = Sequences.takes s piece quota

  -- "refusal 9, which changes nothing"
  pub invalid : (old : List ℕ) → valid s quota (length old) ≡ false
      → (state_after s piece quota (length old) ≡ s) × (taken_by s piece quota (length old) ≡ 0)
      × (answered s piece quota (length old) ≡ refused OUT_OF_RANGE 0) × (output_after s piece quota old ≡ old)
  invalid = Sequences.invalid s piece quota

  -- "and is no answer about the body": no valid call answers so
  pub never_nine : (len p : ℕ) → valid s quota len ≡ true → answered s piece quota len ≡ refused OUT_OF_RANGE p → ⊥
  never_nine = Sequences.never_nine s piece quota

  -- "Once whole or refused in the body, later valid calls take nothing and repeat the answer"
  pub repeats : (old : List ℕ) → valid s quota (length old) ≡ true → over? s ≡ true
      → (state_after s piece quota (length old) ≡ s) × (taken_by s piece quota (length old) ≡ 0)
      × (answered s piece quota (length old) ≡ answer_of s) × (output_after s piece quota old ≡ old)
  repeats = Sequences.repeats s piece quota
