-- The three ways out of a writer, for any text and any test of its argument.
use Rattle.std.proofs.Common.{◌≡◌, ℕ, ◌<◌, ◌≤◌, Bool, true, false, List, ◌++◌, Result, Ok, Err, length, take, drop, sym, refl, ap, ◌∙◌, take_at, le-ltb, lt-ltb}
use Rattle.grammar.specs.Reading.{Verdict, value, refused}
use Rattle.octets.specs.declared.Refusal.{Refusal}
use Rattle.octets.specs.declared.Refusal.TheVariants.{OutOfRange, OutputTooShort}
use Rattle.octets.specs.Reading.{verdict}
use Rattle.octets.specs.Writing.{output, writing}

module _ (outside : Bool) (text old : List ℕ) where
  -- what the promises ask of an answer and of the output
  abbrev pub Answered : Result ℕ Refusal → List ℕ → Type 0
  Answered r new = (verdict r ≡ writing outside text (length old)) × (new ≡ output (writing outside text (length old)) text old)

  pub refuses-argument : outside ≡ true → Answered (Err OutOfRange) old
  refuses-argument o = let f : writing outside text (length old) ≡ refused 9 0 = rw o refl in (sym f, sym (ap (λ (w : Verdict ℕ). output w text old) f))

  pub refuses-short : outside ≡ false → length old < length text → Answered (Err OutputTooShort) old
  refuses-short o h =
      let f : writing outside text (length old) ≡ refused 8 0 = rw (o, lt-ltb (length old) (length text) h) refl in
      (sym f, sym (ap (λ (w : Verdict ℕ). output w text old) f))

  pub writes-all : (n : ℕ) (new : List ℕ) → n ≡ length text → outside ≡ false → length text ≤ length old
      → new ≡ text ++ drop (length text) old → Answered (Ok n) new
  writes-all n new e o h w =
      let f : writing outside text (length old) ≡ value (length text) = rw (o, le-ltb (length old) (length text) h) in
      (ap value e ∙ sym f, w ∙ sym (ap (λ (x : Verdict ℕ). output x text old) f))

  -- in room enough the answer is the text's length, and that many bytes of the output are the text, whatever stood there before
  pub stands_in_front : outside ≡ false → length text ≤ length old
      → (writing outside text (length old) ≡ value (length text))
      × (take (length text) (output (writing outside text (length old)) text old) ≡ text)
  stands_in_front o h =
      let f : writing outside text (length old) ≡ value (length text) = rw (o, le-ltb (length old) (length text) h) in
      (f, ap (λ (x : Verdict ℕ). take (length text) (output x text old)) f ∙ take_at text (drop (length text) old) (length text) refl)
