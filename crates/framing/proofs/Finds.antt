-- What ties a limit of the machine to the grammar's.
use mathlib.Core.Path.{◌≡◌, ◌∙◌, ap}
use mathlib.Core.Bool.{Bool, true, false}
use mathlib.Core.List.{List}
use Prim.Native.Nat.{ℕ}
use Rattle.framing.specs.Grammar.{Broken}
use Rattle.framing.specs.declared.State.{State}
use Rattle.framing.specs.helpers.Machine.{step, live, start}
use Rattle.framing.specs.helpers.Scan.{run}
use Rattle.framing.proofs.Past.{Past}

-- behind these bytes the machine is alive, and the test for the limit holds
pub record Finds (test : State → Bool) (p : List ℕ) : Type 0 where
  pub state : State
  pub reached : run step start p ≡ state
  pub alive : live state ≡ true
  pub passed : test state ≡ true

pub finds : (test : State → Bool) (p : List ℕ) → Finds test p
    → (live (run step start p) ≡ true) × (test (run step start p) ≡ true)
finds test p f = (ap live f.reached ∙ f.alive, ap test f.reached ∙ f.passed)

-- where the test holds behind some bytes, the grammar says that the limit of that number is broken; it does not hold at the start
pub record Tied (room : ℕ) (t : ℕ × (State → Bool)) : Type 0 where
  pub opens : t.1 start ≡ false
  pub broken : (s : State) (p d : List ℕ) → t.1 s ≡ true → live s ≡ true → Past s p d → Broken room t.0 p
