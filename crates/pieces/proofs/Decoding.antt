-- Demands 2 and 3 for bodies that are read in pieces, over the grammar, in every room: of `decode` and `decoded`, which are the answer and
-- the data after all the bytes s, however they were cut. The words quoted are request (i)'s.
use mathlib.Core.Path.{◌≡◌, refl, sym, ◌∙◌, ap, subst}
use mathlib.Core.List.{List}
use Prim.Native.Nat.{ℕ, ◌+◌, ◌<◌, ◌≤◌}
use native.Mathlib.Omega.{arith}
use lib.ListN.{length, take}
use Rattle.grammar.specs.Refusals.{LINE_TOO_LONG, TRAILER_TOO_LONG, BODY_TOO_LARGE, FORBIDDEN_FIELD, FRAMED_TOO_LONG}
use Rattle.framing.specs.declared.Whole.{Whole}
use Rattle.framing.specs.Answer.{whole, refused}
use Rattle.framing.specs.Demand.{rank, Decodes}
use Rattle.framing.specs.Grammar.{limits, chunked, SoFar}
use Rattle.framing.specs.Reading as Framing
use Rattle.framing.specs.helpers.Machine.{End, machine, step, emit, tell, start}
use Rattle.framing.specs.helpers.Scan.{Verdict, refusal, Found, going, stop, out, nothing, answer, written}
use Rattle.framing.specs.helpers.Scan.{find_by, decode_by, decoded_by}
use Rattle.framing.proofs.Machines.{whole_of, refused-of, decodes_along}
use Rattle.framing.proofs.Counting.{counted_decodes, plain-decode, plain-decoded}
use Rattle.framing.proofs.Judging.{laws}
use Rattle.framing.proofs.Rooms.{same, lifts}
use Rattle.framing.proofs.SoFar.{so_far}
use Rattle.framing.proofs.Demands.{malformed_no_limit}
use Rattle.pieces.specs.Grammar.{FRAMED_LIMIT, in_pieces}
use Rattle.pieces.specs.Reading.{counting, begun, advance, decode, decoded}
use Rattle.pieces.specs.Calls.{met}
use Rattle.pieces.proofs.Scans.{accepted, heard, unlisted, not-malformed, found, found-reads, found_inside, found_data}
use Rattle.pieces.proofs.Scans.{not-refused, found-input, written-input}

-- ## The reader is the machine that counts its bytes
pub decodes_by : (r : ℕ) (s : List ℕ) → decode r s ≡ decode_by counting tell in_pieces.limits r s
decodes_by r s = (found-reads r s).answers

pub decoded_by-machine : (r : ℕ) (s : List ℕ) → decoded r s ≡ decoded_by counting tell in_pieces.limits r (out step emit start) s
decoded_by-machine r s = found_data r s (found r s) (found-reads r s)

-- ## Demands 2 and 3
-- all that is asked, at once: refusal 14 is "one more limit in demands 2 and 3"; "after "more" or a refusal in the body the output
-- holds the data so far at its front (these are demand 3's written bytes then)"
pub demands : Decodes in_pieces SoFar decode decoded
demands =
    decodes_along decodes_by decoded_by-machine
    (counted_decodes FRAMED_TOO_LONG FRAMED_LIMIT machine tell (chunked limits) (λ r. laws limits r malformed_no_limit) same lifts
    unlisted not-malformed SoFar (out step emit start) so_far)

-- 14 comes last, 15 just before it
pub order : (rank in_pieces.limits LINE_TOO_LONG < rank in_pieces.limits TRAILER_TOO_LONG)
    × (rank in_pieces.limits TRAILER_TOO_LONG < rank in_pieces.limits BODY_TOO_LARGE)
    × (rank in_pieces.limits BODY_TOO_LARGE < rank in_pieces.limits FORBIDDEN_FIELD)
    × (rank in_pieces.limits FORBIDDEN_FIELD < rank in_pieces.limits FRAMED_TOO_LONG)
order = (omega arith, omega arith, omega arith, omega arith)

module _ (r : ℕ) (s : List ℕ) where
  -- ## The reader of document 01
  -- "Up to there, any cutting gives the one-call answer, place and body"
  pub as_decode : ((p : ℕ) → decode r s ≡ refused FRAMED_TOO_LONG p → ⊥) → decode r s ≡ Framing.decode r s
  unfolding Framing.decode
  as_decode within =
      decodes_by r s
      ∙ plain-decode FRAMED_TOO_LONG FRAMED_LIMIT machine tell limits unlisted r s (λ p e. within p (decodes_by r s ∙ e))

  pub same_data : (w : Whole) → decode r s ≡ whole w → decoded r s ≡ Framing.decoded r s
  unfolding Framing.decode Framing.decoded written
  same_data w e =
      let within : (p : ℕ) → decode r s ≡ refused FRAMED_TOO_LONG p → ⊥ = λ p f. not-refused (sym e ∙ f) in
      let o = whole_of tell (find_by machine tell limits r s) w (sym (as_decode within) ∙ e) in
      decoded_by-machine r s
      ∙ plain-decoded FRAMED_TOO_LONG FRAMED_LIMIT machine tell limits unlisted r s (λ p f. within p (decodes_by r s ∙ f))
      (out step emit start)
      ∙ ap (λ (f : Found (Verdict End)). written (out step emit start) (out step emit start) f s) o.2
      ∙ sym (ap (λ (f : Found (Verdict End)). written nothing (out step emit start) f s) o.2)

  -- ## Its input
  -- "its input is all bytes taken so far and the refused byte, if it met one"
  pub input-is : (decode r (take (met (advance (begun r) s)) s) ≡ decode r s)
      × (decoded r (take (met (advance (begun r) s)) s) ≡ decoded r s)
  input-is =
      let input : List ℕ = take (met (advance (begun r) s)) s in (
        decodes_by r input ∙ ap (answer tell) (found-input r s) ∙ sym (decodes_by r s),
        decoded_by-machine r input ∙ ap (λ (f : Found (Verdict End)). written (out step emit start) data_of f input) (found-input r s)
            ∙ written-input r s (out step emit start) data_of ∙ sym (decoded_by-machine r s),
      )
    where
      data_of : List ℕ → List ℕ
      data_of = out counting.step counting.emit counting.start

  -- the bytes met are among those given
  pub met-inside : met (advance (begun r) s) ≤ length s
  met-inside = subst (λ (n : ℕ). n ≤ length s) (sym (found-reads r s).met_is) (go (found r s) refl)
    where
      go : (f : Found (Verdict End)) → found r s ≡ f → heard (0 + length s) f ≤ length s
      go going e = omega arith
      go (stop j v) e = found_inside r s j v e

  -- "a refused byte, which is not taken"; "Places count from the body's first byte"
  pub one_place : (n p : ℕ) → decode r s ≡ refused n p → (p ≡ (advance (begun r) s).taken) × (p < length s)
  one_place n p e =
      let z : found r s ≡ stop p (refusal n) = refused-of tell (found r s) n p (sym (decodes_by r s) ∙ e) in
      (sym ((found-reads r s).taken ∙ ap (accepted (0 + length s)) z), found_inside r s p (refusal n) z)

  -- "says how many bytes it took": those of the body, where it is whole
  pub one-count : (w : Whole) → decode r s ≡ whole w → w.taken ≡ (advance (begun r) s).taken
  one-count w e =
      let o = whole_of tell (found r s) w (sym (decodes_by r s) ∙ e) in
      ap (λ (x : Whole). x.taken) o.3 ∙ sym ((found-reads r s).taken ∙ ap (accepted (0 + length s)) o.2)
