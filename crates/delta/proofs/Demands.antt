-- The theorems of delta-seconds: what a customer reads.
use Prim.Native.Nat.{ℕ, ◌+◌, ◌≤◌, ◌<◌}
use Prim.Native.Char.{code}
use native.Mathlib.Omega.{arith}
use mathlib.Core.Path.{◌≡◌, refl, sym, ap, subst, ◌∙◌}
use mathlib.Core.Logic.{◌⊎◌, inl, inr, ◌↔◌}
use mathlib.Core.Bool.{true, false}
use mathlib.Core.List.{List, ◌++◌}
use lib.Dec.{T}
use lib.ListN.{length, replicate, length-append, length-replicate}
use Rattle.grammar.specs.Beginnings.{Matches}
use Rattle.grammar.specs.Reading.{value_limit, Sound, Verdict, value, refused, Answers, too_long, malformed, breaks, faulty, reads}
use Rattle.grammar.specs.helpers.Judge.{header}
use Rattle.grammar.proofs.Deterministic.{deterministic?}
use Rattle.grammar.proofs.Demands.{unlimited, answered_exactly}
use Rattle.octets.specs.Bytes.{digit?}
use Rattle.octets.specs.Numbers.{number, capped_number}
use Rattle.scans.proofs.Caps as Caps
use Rattle.delta.specs.declared.Seconds.{Seconds}
use Rattle.delta.specs.Grammar.{delta_seconds, largest, cap, as_seconds, seconds_of, rules}
use Rattle.delta.proofs.Zeros.{zeros, zeros_match, zeros-number}

one_way : T (deterministic? delta_seconds)
unfolding digit?
one_way = tt

-- "one or more digits": what `read` answers (its promise is `header rules s`): the seconds of a well-formed text, or the refusal of the row
-- that applies first (13, then 1 behind the longest beginning that some continuation makes well-formed), and nothing else.
pub reading : (s : List ℕ) (v : Verdict Seconds) → (header rules s ≡ v) ↔ Answers rules s v
reading = answered_exactly rules tt tt one_way

-- "Delta-seconds above 2,147,483,647 shall answer 2,147,483,648 (RFC 2616 14.6) and say that it was capped, as no other does".
module _ (s : List ℕ) (v : Seconds) (e : header rules s ≡ value v) where
  -- it is well-formed, and its number is told
  read_is : Matches delta_seconds s × (v ≡ seconds_of s)
  read_is = by_parts v ((reading s (value v)).0 e)
    where
      by_parts : (w : Seconds) → Answers rules s (value w) → Matches delta_seconds s × (w ≡ seconds_of s)
      by_parts w (reads {ps} l p sound f) = ((ps, p), ap rules.value p.1)

  pub within : number s ≤ 2147483647 → v ≡ record { value = number s; capped = false }
  within h = read_is.1 ∙ ap as_seconds (Caps.capped-within largest cap (number s) h)

  pub beyond : 2147483647 < number s → v ≡ record { value = 2147483648; capped = true }
  beyond h = read_is.1 ∙ ap as_seconds (Caps.capped-beyond largest cap (number s) h)

  pub capped_exactly : (v.capped ≡ true) ↔ (2147483647 < number s)
  capped_exactly =
      let c = Caps.capped_exactly largest cap (number s) in
      let m = ap (λ (w : Seconds). w.capped) read_is.1 in
      (λ t. c.0 (sym m ∙ t), λ h. m ∙ c.1 h)

-- "they never get refusal 2": each well-formed text that is not too long is read, however large its number is, and refusals are 13 and 1.
unbroken : (s : List ℕ) → Sound rules s (length s)
unbroken s = unlimited rules (λ k ps. refl) s (length s)

pub all_read : (s : List ℕ) → Matches delta_seconds s → length s ≤ value_limit → header rules s ≡ value (seconds_of s)
all_read s m l =
    (reading s (value (seconds_of s))).1
    (subst (λ (v : Seconds). Answers rules s (value v)) (ap rules.value m.1.1) (reads l m.1 (unbroken s) refl))

pub refusals : (s : List ℕ) (n place : ℕ) → header rules s ≡ refused n place → (n ≡ 13) ⊎ (n ≡ 1)
refusals s n place e = go (refused n place) refl ((reading s (refused n place)).0 e)
  where
    go : (v : Verdict Seconds) → v ≡ refused n place → Answers rules s v → (n ≡ 13) ⊎ (n ≡ 1)
    go v f (too_long l) = inl cc
    go v f (malformed l m o q) = inr cc
    go v f (breaks {l} {p} h b q) = absurd (unbroken s p l b.0 b)
    go v f (faulty l m q d) = let z : ◌≡◌ {A = ℕ} 0 1 = cc in absurd (omega arith)
    go v f (reads l m q d) = let z : ◌≡◌ {A = ℕ} 0 1 = cc in absurd (omega arith)

-- Leading zeros are ignored, as many as the longest value holds.
pub leading_zeros : (n : ℕ) (s : List ℕ) (v : Seconds) → header rules s ≡ value v → n + length s ≤ value_limit
    → header rules (replicate n (code "0") ++ s) ≡ value v
leading_zeros n s v e h =
    let w = read_is s v e in
    let l = length-append (replicate n (code "0")) s in
    all_read (zeros n s) (zeros_match n s w.0) (omega (arith, l, length-replicate n (code "0")))
    ∙ ap (λ (k : ℕ). value (as_seconds (capped_number largest cap k))) (zeros-number n s) ∙ ap value (sym w.1)
