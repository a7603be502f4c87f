-- Quoted strings: where the text and pairs stop, a step at a time.
use Rattle.std.proofs.Common.{◌≡◌, ℕ, suc, ◌+◌, ◌<◌, ◌≤◌, Bool, true, false, cond, eqb, List, [], ◌∷◌, length, get_or, drop, sym, refl, ap, ◌∙◌, subst, add-one, arith, length-drop, drop_of_length-le, drop-cons, drop-drop, eq-eqb, ne_eqb}
use Rattle.octets.specs.Bytes.{text?, escaped?}
use Rattle.scans.specs.helpers.Runs.{run, run_end}
use Rattle.scans.specs.helpers.Quoted.{quoted_length, quoted_end}
use Rattle.scans.proofs.Runs.{run_is}

-- ## Bytes

pub quote_no_text : text? 34 ≡ false
unfolding text?
quote_no_text = refl

pub backslash_no_text : text? 92 ≡ false
unfolding text?
backslash_no_text = refl

pub quote_escaped : escaped? 34 ≡ true
unfolding escaped?
quote_escaped = refl

-- ## The place where text and pairs stop

quoted_short : (pair : Bool) (t : List ℕ) → quoted_length pair t ≤ length t
quoted_short true [] = omega arith
quoted_short false [] = omega arith
quoted_short true (b ∷ t) = go (escaped? b) (quoted_short false t)
  where
    go : (x : Bool) → quoted_length false t ≤ length t → cond x (suc (quoted_length false t)) 0 ≤ suc (length t)
    go true h = omega arith
    go false h = omega arith
quoted_short false (b ∷ t) = go (text? b) (eqb b 92) (quoted_short false t) (quoted_short true t)
  where
    go : (x y : Bool) → quoted_length false t ≤ length t → quoted_length true t ≤ length t
        → cond x (suc (quoted_length false t)) (cond y (suc (quoted_length true t)) 0) ≤ suc (length t)
    go true y h k = omega arith
    go false true h k = omega arith
    go false false h k = omega arith

pub quoted_within : (s : List ℕ) (i : ℕ) → i ≤ length s → quoted_end s i ≤ length s
quoted_within s i h = omega (arith, quoted_short false (drop i s), length-drop i s)

text-run : (t : List ℕ) → length (run text? t) + quoted_length false (drop (length (run text? t)) t) ≡ quoted_length false t
text-run [] = refl
text-run (b ∷ t) = go (text? b) refl (text-run t)
  where
    go : (x : Bool) → text? b ≡ x → length (run text? t) + quoted_length false (drop (length (run text? t)) t) ≡ quoted_length false t
        → length (cond x (b ∷ run text? t) []) + quoted_length false (drop (length (cond x (b ∷ run text? t) [])) (b ∷ t)) ≡ quoted_length false (b ∷ t)
    go true e h = rw e (omega arith)
    go false e h = omega arith

module _ (s : List ℕ) (i : ℕ) where
  -- behind a run of text
  quoted_run : quoted_end s (run_end text? s i) ≡ quoted_end s i
  quoted_run = omega (arith, text-run (drop i s), ap (quoted_length false) (drop-drop (length (run text? (drop i s))) i s))

  run-stops-text : run_end text? s i < length s → text? (get_or s (run_end text? s i) 0) ≡ false
  run-stops-text h = (run_is text? s i (omega arith)).stops h

  pub behind-text : (e : ℕ) → e ≡ run_end text? s i → (e < length s → text? (get_or s e 0) ≡ false) × (quoted_end s e ≡ quoted_end s i)
  behind-text e d =
      subst (λ (n : ℕ). (n < length s → text? (get_or s n 0) ≡ false) × (quoted_end s n ≡ quoted_end s i)) (sym d) (run-stops-text, quoted_run)

  pub at_end : (pair : Bool) → length s ≤ i → quoted_length pair (drop i s) ≡ 0
  at_end true h = rw (drop_of_length-le s h)
  at_end false h = rw (drop_of_length-le s h)

  pub quoted_out : length s ≤ i → quoted_end s i ≡ i
  quoted_out h = omega (arith, at_end false h)

  module _ (at : i < length s) where
    pub text-next : text? (get_or s i 0) ≡ true → quoted_length false (drop i s) ≡ suc (quoted_length false (drop (i + 1) s))
    text-next e = rw (drop-cons s i 0 at, e) (ap (λ (n : ℕ). suc (quoted_length false (drop n s))) (sym (add-one i)))

    pub pair-next : text? (get_or s i 0) ≡ false → eqb (get_or s i 0) 92 ≡ true
        → quoted_length false (drop i s) ≡ suc (quoted_length true (drop (i + 1) s))
    pair-next e f = rw (drop-cons s i 0 at, e, f) (ap (λ (n : ℕ). suc (quoted_length true (drop n s))) (sym (add-one i)))

    pub neither-next : text? (get_or s i 0) ≡ false → eqb (get_or s i 0) 92 ≡ false → quoted_length false (drop i s) ≡ 0
    neither-next e f = rw (drop-cons s i 0 at, e, f)

    pub escaped_next : escaped? (get_or s i 0) ≡ true → quoted_length true (drop i s) ≡ suc (quoted_length false (drop (i + 1) s))
    escaped_next e = rw (drop-cons s i 0 at, e) (ap (λ (n : ℕ). suc (quoted_length false (drop n s))) (sym (add-one i)))

    pub not_escaped : escaped? (get_or s i 0) ≡ false → quoted_length true (drop i s) ≡ 0
    not_escaped e = rw (drop-cons s i 0 at, e)

    pub quoted_stop : text? (get_or s i 0) ≡ false → (get_or s i 0 ≡ 92 → ⊥) → quoted_end s i ≡ i
    quoted_stop e f = omega (arith, neither-next e (ne_eqb (get_or s i 0) 92 f))

    pair-begins : get_or s i 0 ≡ 92 → quoted_length false (drop i s) ≡ suc (quoted_length true (drop (i + 1) s))
    pair-begins e = pair-next (ap text? e ∙ backslash_no_text) (eq-eqb (get_or s i 0) 92 e)

  pub pair-cut_off : i < length s → get_or s i 0 ≡ 92 → length s ≤ i + 1 → quoted_end s i ≡ i + 1
  pair-cut_off at e h = omega (arith, pair-begins at e, at_next)
    where
      at_next : quoted_length true (drop (i + 1) s) ≡ 0
      at_next = rw (drop_of_length-le s h)

-- a pair, or a backslash with another byte behind it
module _ (s : List ℕ) (i : ℕ) (e : get_or s i 0 ≡ 92) (at : i + 1 < length s) where
  pub pair_bad : escaped? (get_or s (i + 1) 0) ≡ false → quoted_end s i ≡ i + 1
  pair_bad f = omega (arith, pair-begins s i (omega arith) e, not_escaped s (i + 1) at f)

  pub pair-good : escaped? (get_or s (i + 1) 0) ≡ true → quoted_end s (i + 2) ≡ quoted_end s i
  pair-good f =
      let z : i + 2 ≡ (i + 1) + 1 = omega arith in
      omega (arith, pair-begins s i (omega arith) e, escaped_next s (i + 1) at f, ap (λ (n : ℕ). quoted_length false (drop n s)) z)
