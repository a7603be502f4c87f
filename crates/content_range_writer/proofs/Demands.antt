-- The theorems of the writer of `Content-Range` values: what a customer reads. The words quoted are those of request (iv) of document 02,
-- and those of document 01 on writers. The place of a refusal is 0.
use Prim.Native.Nat.{ℕ, ◌≤◌, ◌<◌}
use mathlib.Core.Path.{◌≡◌, sym, ap, ◌∙◌}
use mathlib.Core.Bool.{Bool, true≢false}
use mathlib.Core.Logic.{◌↔◌}
use mathlib.Core.List.{List}
use lib.ListN.{length, take, drop}
use Rattle.grammar.specs.Refusals.{OUTPUT_TOO_SHORT, OUT_OF_RANGE}
use Rattle.grammar.specs.Reading.{Verdict, value, refused}
use Rattle.octets.specs.Writing.{output}
use Rattle.octets.proofs.Answers.{tells_nine, tells_eight, tells-length, is_eight, rest-kept}
use Rattle.octets.proofs.Writing.{stands_in_front}
use Rattle.content_range_writer.specs.Writing.{content_range_text, InRange, out_of_range, content_range_writing, content_range_output}
use Rattle.content_range_writer.proofs.Writer.{at-most_65, within, in_range, outside}

module _ (first last entity_length : ℕ) where
  abbrev text : List ℕ
  text = content_range_text first last entity_length

  abbrev test : Bool
  test = out_of_range first last entity_length

  -- "refusal 9 unless first is at most last, last is below the length and the length at most 2^63-1"
  pub nine_exactly : (room : ℕ)
      → (content_range_writing first last entity_length room ≡ refused OUT_OF_RANGE 0) ↔ (InRange first last entity_length → ⊥)
  nine_exactly room = (
    λ e r. true≢false (sym (tells_nine test text room e) ∙ within first last entity_length r),
    λ never. rw (outside first last entity_length never),
  )

  -- "then 8 for a short output"
  pub eight_exactly : (room : ℕ)
      → (content_range_writing first last entity_length room ≡ refused OUTPUT_TOO_SHORT 0)
      ↔ (InRange first last entity_length × (room < length text))
  eight_exactly room = (
    λ e. let t = tells_eight test text room e in
        (in_range first last entity_length t.0, t.1),
    λ h. is_eight test text room (within first last entity_length h.0) h.1,
  )

  -- "they write at the front of the output, keep the rest and give the length"
  pub writes_exactly : (old : List ℕ)
      → ((content_range_writing first last entity_length (length old) ≡ value (length text))
      × (take (length text) (content_range_output first last entity_length old) ≡ text)
      × (drop (length text) (content_range_output first last entity_length old) ≡ drop (length text) old))
      ↔ (InRange first last entity_length × (length text ≤ length old))
  writes_exactly old = (
    λ w. let t = tells-length test text (length old) w.0 in
        (in_range first last entity_length t.0, t.1),
    λ h. let o = within first last entity_length h.0 in
        let s = stands_in_front test text old o h.1 in
        (s.0, s.1, rest-kept test text old o h.1),
  )

  -- "No refusal writes into a lent buffer"
  pub keeps : (old : List ℕ) (number place : ℕ) → content_range_writing first last entity_length (length old) ≡ refused number place
      → content_range_output first last entity_length old ≡ old
  keeps old number place e = ap (λ (v : Verdict ℕ). output v text old) e

  -- the unit and its blank, three numbers of at most 19 digits, a dash and a slash
  pub longest : InRange first last entity_length → length text ≤ 65
  longest = at-most_65 first last entity_length
