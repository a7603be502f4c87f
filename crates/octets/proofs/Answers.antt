-- What a writer's answer tells about its argument and its room, for any text and any test of the argument.
use Rattle.std.proofs.Common.{◌≡◌, ℕ, ◌<◌, ◌≤◌, Bool, true, false, cond, ltb, List, length, drop, refl, ap, ◌∙◌, arith, ltb-false, ltb-true, le-ltb, lt-ltb}
use lib.Seq.{drop-append_seam}
use Rattle.grammar.specs.Refusals.{OUT_OF_RANGE, OUTPUT_TOO_SHORT}
use Rattle.grammar.specs.Reading.{Verdict, value, refused}
use Rattle.octets.specs.Writing.{output, writing}

-- the refusal's number, or 0
abbrev number : Verdict ℕ → ℕ
number (value n) = 0
number (refused n p) = n

abbrev way : (outside short : Bool) → ℕ → Verdict ℕ
way outside short n = cond outside (refused OUT_OF_RANGE 0) (cond short (refused OUTPUT_TOO_SHORT 0) (value n))

way_nine : (outside short : Bool) (n : ℕ) → number (way outside short n) ≡ OUT_OF_RANGE → outside ≡ true
way_nine true short n e = refl
way_nine false true n e = absurd (omega arith)
way_nine false false n e = absurd (omega arith)

way_eight : (outside short : Bool) (n : ℕ) → number (way outside short n) ≡ OUTPUT_TOO_SHORT → (outside ≡ false) × (short ≡ true)
way_eight true short n e = absurd (omega arith)
way_eight false true n e = (refl, refl)
way_eight false false n e = absurd (omega arith)

way-length : (outside short : Bool) (n : ℕ) → number (way outside short n) ≡ 0 → (outside ≡ false) × (short ≡ false)
way-length true short n e = absurd (omega arith)
way-length false true n e = absurd (omega arith)
way-length false false n e = (refl, refl)

module _ (outside : Bool) (text : List ℕ) (room : ℕ) where
  pub tells_nine : writing outside text room ≡ refused OUT_OF_RANGE 0 → outside ≡ true
  tells_nine e = way_nine outside (ltb room (length text)) (length text) (ap number e)

  pub tells_eight : writing outside text room ≡ refused OUTPUT_TOO_SHORT 0 → (outside ≡ false) × (room < length text)
  tells_eight e =
      let w = way_eight outside (ltb room (length text)) (length text) (ap number e) in
      (w.0, ltb-true room (length text) w.1)

  pub tells-length : writing outside text room ≡ value (length text) → (outside ≡ false) × (length text ≤ room)
  tells-length e =
      let w = way-length outside (ltb room (length text)) (length text) (ap number e) in
      (w.0, ltb-false room (length text) w.1)

  pub is_eight : outside ≡ false → room < length text → writing outside text room ≡ refused OUTPUT_TOO_SHORT 0
  is_eight o h = rw (o, lt-ltb room (length text) h)

-- in room enough, what stands behind the text is as it was lent
pub rest-kept : (outside : Bool) (text old : List ℕ) → outside ≡ false → length text ≤ length old
    → drop (length text) (output (writing outside text (length old)) text old) ≡ drop (length text) old
rest-kept outside text old o h =
    let f : writing outside text (length old) ≡ value (length text) = rw (o, le-ltb (length old) (length text) h) in
    ap (λ (v : Verdict ℕ). drop (length text) (output v text old)) f ∙ drop-append_seam text (drop (length text) old)
