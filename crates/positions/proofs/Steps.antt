-- The machine's clauses at a known position, as equations.
use mathlib.Core.Path.{◌≡◌, ◌∙◌, ap}
use mathlib.Core.Bool.{Bool, cond}
use mathlib.Core.List.{List}
use Prim.Native.Nat.{ℕ, ◌<◌, ◌≤◌}
use native.Mathlib.Decide.{dec_lt}
use native.Mathlib.Omega.{arith}
use lib.ListN.{length}
use Rattle.framing.specs.Grammar.{forbidden}
use Rattle.framing.specs.helpers.Names.{texts, going_on}
use Rattle.framing.proofs.Names.{past_all}
use Rattle.framing.proofs.Ranks.{Each}

-- what `pick` promises, with a known test and a known other choice
pub pick : {A : Type 0} (a : A) {r q b : A} {t u : Bool} → t ≡ u → q ≡ b → r ≡ cond t a q → r ≡ cond u a b
pick {A} a {r} {q} {b} {t} {u} e f h = h ∙ ap (λ (z : Bool). cond z a q) e ∙ ap (λ (z : A). cond u a z) f

-- ## Names
within : (k : ℕ) → 18 ≤ k → Each (λ (f : List ℕ). length f ≤ k) (texts forbidden)
unfolding texts
within k h = (omega arith, (omega arith, (omega arith, tt)))

-- a forbidden name and its colon have at most 18 bytes
pub short : (m k b : ℕ) → (going_on (texts forbidden) m k b ≡ 0 → ⊥) → k < 18
short m k b h = go (dec_lt k 18)
  where
    go : Dec (k < 18) → k < 18
    go (yes e) = e
    go (no e) = absurd (h (past_all (texts forbidden) m k b (within k (omega arith))))
