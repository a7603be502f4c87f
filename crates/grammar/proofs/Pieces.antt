-- What a value that was read says of the text: its parts, and where they stand.
use Prim.Native.Nat.{ℕ, ◌+◌, ◌-◌, ◌≤◌}
use native.Mathlib.Omega.{arith}
use mathlib.Core.Path.{◌≡◌, refl, sym, ap, ◌∙◌}
use mathlib.Core.List.{List, ◌++◌}
use lib.Dec.{T}
use lib.ListN.{length, take, drop, length-append, length-drop}
use lib.Seq.{take_at, drop_at, length-take-le}
use Rattle.grammar.specs.Grammar.{Part, Parses}
use Rattle.grammar.specs.helpers.Derivative.{live}
use Rattle.grammar.specs.Reading.{Rules, Verdict, value, Answers, too_long, malformed, breaks, faulty, reads}
use Rattle.grammar.specs.helpers.Judge.{header}
use Rattle.grammar.specs.helpers.Checks.{fresh?}
use Rattle.grammar.specs.helpers.Scans.{slice}
use Rattle.grammar.specs.helpers.Slices.{Slice, Slices}
use Rattle.grammar.proofs.Deterministic.{deterministic?}
use Rattle.grammar.proofs.Longest.{past-length}
use Rattle.grammar.proofs.Slices.{slices}
use Rattle.grammar.proofs.Demands.{answered_exactly}

pub slice-length : (s : List ℕ) (i e : ℕ) → i ≤ e → e ≤ length s → length (slice s i e) ≡ e - i
slice-length s i e a b = length-take-le (e - i) (drop i s) (omega (arith, length-drop i s))

-- a part stands within the text, and is what stands there
module _ {L : Type 0} (s : List ℕ) (c : Part L) (w : Slice 0 s c) where
  at-start : c.start ≡ length w.0
  at-start = w.3 ∙ past-length 0 w.0 ∙ omega arith

  pub slice-within : c.start + length c.text ≤ length s
  slice-within =
      omega (arith, at-start, ap length w.2, length-append w.0 (c.text ++ w.1), length-append c.text w.1)

  pub slice_is : take (length c.text) (drop c.start s) ≡ c.text
  slice_is =
      ap (λ (t : List ℕ). take (length c.text) (drop c.start t)) w.2
      ∙ ap (take (length c.text)) (drop_at w.0 (c.text ++ w.1) c.start (sym at-start))
      ∙ take_at c.text w.1 (length c.text) refl

-- a text that reads has parts, and they mean the value
module _ {L A : Type 0} (r : Rules L A) where
  abbrev pub Parted : List ℕ → A → Type 0
  Parted s v = (ps : List (Part L)) × Parses r.grammar 0 s ps × (r.value ps ≡ v)

  parted : (s : List ℕ) (v : A) (x : Verdict A) → Answers r s x → x ≡ value v → Parted s v
  parted s v x (too_long h) e = let z : ◌≡◌ {A = ℕ} 0 1 = cc in absurd (omega arith)
  parted s v x (malformed h m l n) e = let z : ◌≡◌ {A = ℕ} 0 1 = cc in absurd (omega arith)
  parted s v x (breaks h b n) e = let z : ◌≡◌ {A = ℕ} 0 1 = cc in absurd (omega arith)
  parted s v x (faulty h p n f) e = let z : ◌≡◌ {A = ℕ} 0 1 = cc in absurd (omega arith)
  parted s v x (reads {ps = ps} h p n f) e = (ps, p, cc)

  module _ (some : T (live r.grammar)) (fresh : T (fresh? r.grammar)) (one_way : T (deterministic? r.grammar)) (s : List ℕ) (v : A) where
    pub value-parts : header r s ≡ value v → Parted s v
    value-parts e = parted s v (value v) ((answered_exactly r some fresh one_way s (value v)).0 e) refl

    pub value-slices : header r s ≡ value v → (ps : List (Part L)) × Slices 0 s ps × (r.value ps ≡ v)
    value-slices e =
        let p = value-parts e in
        (p.0, slices r.grammar 0 s p.0 fresh p.1, p.2)
