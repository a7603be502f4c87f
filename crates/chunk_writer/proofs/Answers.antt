-- The answer and the lent bytes in each case.
use mathlib.Core.Path.{◌≡◌, sym, ◌∙◌, ap}
use mathlib.Core.List.{List}
use Prim.Native.Nat.{ℕ, ◌<◌, ◌≤◌}
use lib.ListN.{length}
use borrow.Author.Tests.{eq-eqb, ne_eqb, lt-ltb, le-ltb}
use Rattle.grammar.specs.Reading.{Verdict, value, refused}
use Rattle.std.specs.Prelude.{Result, Ok, Err}
use Rattle.octets.specs.declared.Refusal.{Refusal}
use Rattle.octets.specs.declared.Refusal.TheVariants.{OutOfRange, BodyTooLarge, OutputTooShort}
use Rattle.octets.specs.Reading.{verdict, number_of, place_of}
use Rattle.octets.specs.Writing.{output}
use Rattle.text.specs.Placing.{placed}
use Rattle.chunk_writer.specs.Writing.{BODY_LIMIT, frame, frame_writing, frame_output}
use Rattle.chunk_writer.proofs.Puts.{placed-front}

module _ (body : List ℕ) (n : ℕ) (old : List ℕ) where
  -- what the promises ask of an answer and of the output
  abbrev pub Answered : Result ℕ Refusal → List ℕ → Type 0
  Answered r new = (verdict r ≡ frame_writing body n (length old)) × (new ≡ frame_output body n old)

  -- ## Refusals, which keep the lent bytes
  refuses : (why : Refusal) → frame_writing body n (length old) ≡ refused (number_of why) (place_of why) → Answered (Err why) old
  unfolding frame_output
  refuses why a = (sym a, sym (ap (λ (v : Verdict ℕ). output v (frame body n) old) a))

  pub refuses-length : n ≡ 0 → Answered (Err OutOfRange) old
  refuses-length h = refuses OutOfRange (unfold frame_writing in rw (eq-eqb n 0 h))

  module _ (some : n ≡ 0 → ⊥) where
    pub refuses_large : BODY_LIMIT < length body → Answered (Err (BodyTooLarge 0)) old
    refuses_large h = refuses (BodyTooLarge 0) (unfold frame_writing in rw (ne_eqb n 0 some, lt-ltb BODY_LIMIT (length body) h))

    module _ (small : length body ≤ BODY_LIMIT) where
      pub refuses-short : length old < length (frame body n) → Answered (Err OutputTooShort) old
      refuses-short h =
          refuses OutputTooShort
          (unfold frame_writing in
          rw (ne_eqb n 0 some, le-ltb BODY_LIMIT (length body) small, lt-ltb (length old) (length (frame body n)) h))

      -- ## A frame that fits
      fitting : length (frame body n) ≤ length old → frame_writing body n (length old) ≡ value (length (frame body n))
      unfolding frame_writing
      fitting h = rw (ne_eqb n 0 some, le-ltb BODY_LIMIT (length body) small, le-ltb (length old) (length (frame body n)) h)

      pub writes : {new : List ℕ} {k : ℕ} → k ≡ length (frame body n) → length (frame body n) ≤ length old
          → new ≡ placed old 0 (frame body n)
          → Answered (Ok k) new
      unfolding frame_output
      writes e h w =
          let f : frame_writing body n (length old) ≡ value (length (frame body n)) = fitting h in
          (ap value e ∙ sym f, w ∙ placed-front old (frame body n) h ∙ sym (ap (λ (v : Verdict ℕ). output v (frame body n) old) f))
