-- `transition::step` meets its contract: each arm is the step from its position.
use mathlib.Core.Path.{◌≡◌, refl, sym, ◌∙◌, ap}
use mathlib.Core.Bool.{true}
use mathlib.Core.Logic.{◌⊎◌, inl, inr}
use Prim.Native.Nat.{ℕ, zero, suc, ◌-◌, ◌<◌}
use native.Mathlib.Omega.{arith}
use Rattle.grammar.specs.Reading.{value, refused}
use Rattle.grammar.specs.Refusals.{MALFORMED}
use Rattle.framing.specs.declared.State.{State}
use Rattle.framing.specs.declared.State.TheVariants.{Data, Done, Dead}
use Rattle.framing.specs.helpers.Machine.{step}
use Rattle.framing.proofs.Turns as Turns
use Rattle.transition.specs.Moving.{possible, told}
use Rattle.transition.proofs.Telling.{quiet-chunk, line-possible, feed_possible, trail_possible}
use Rattle.transition.proofs.step.Goals as goal

-- a body can stand at the position, which an arm has opened
stands : (room : ℕ) {p q : State} → possible room p ≡ true → p ≡ q → possible room q ≡ true
stands room h e = ap (possible room) (sym e) ∙ h

-- no byte goes on there
over : (room b : ℕ) {p : State} → ((t : ℕ) × (n : ℕ) × (p ≡ Done t n)) ⊎ (p ≡ Dead) → refused MALFORMED 0 ≡ told room (step p b)
unfolding step
over room b (inl w) = rw (w.2, Turns.no_more)
over room b (inr e) = rw (e, Turns.no_more)

-- there is more behind the next byte of data
more : (room b m t : ℕ) → b < 256 → (m ≡ 0 → ⊥) → value (Data (m - 1) t) ≡ told room (step (Data m t) b)
more room b zero t h n = absurd (n refl)
more room b (suc m) t h n =
    let e : suc m - 1 ≡ m = omega arith in rw (Turns.data_more b m t h, Turns.quiet_data, e)

pub line_step-requires : goal.line_step-requires
line_step-requires c = line-possible _ _ _ _ (stands c.args.room c.requires c.in-Line.is)

pub enter-requires : goal.enter-requires
enter-requires c = feed_possible _ _ _ (stands c.args.room c.requires c.in-LineFeed.is)

pub trail_step-requires : goal.trail_step-requires
trail_step-requires c = (trail_possible _ _ _ _ (stands c.args.room c.requires c.in-Trail.is)).0

pub returns-in-LineFeed : goal.returns-in-LineFeed
unfolding step
returns-in-LineFeed c =
    let e = c.enter.ensures in
    rw (c.in-LineFeed.is, ← e) (c.expect.ensures _ (rw (e, quiet-chunk)))

pub returns-in-Data-eq0-default : goal.returns-in-Data-eq0-default
returns-in-Data-eq0-default c =
    let b : c.args.byte < 256 = omega arith in
    let e : c.in-Data-eq0-default.left ≡ 0 = omega arith in
    rw (c.in-Data-eq0-default.is, e, Turns.data_last c.args.byte c.in-Data-eq0-default.total b, Turns.quiet_data_cr)

pub returns-in-Data : goal.returns-in-Data
returns-in-Data c =
    let x = c.in-Data in
    rw x.is (more c.args.room c.args.byte x.left x.total (omega arith) (rw x.is at x.left-test.1))

pub returns-in-DataCr : goal.returns-in-DataCr
unfolding step
returns-in-DataCr c = rw c.in-DataCr.is (c.expect-in-DataCr.ensures _ (rw Turns.quiet_data_lf))

pub returns-in-DataLf : goal.returns-in-DataLf
unfolding step
returns-in-DataLf c = rw c.in-DataLf.is (c.expect-in-DataLf.ensures _ (rw Turns.quiet-first))

pub returns-in-EndLf : goal.returns-in-EndLf
unfolding step
returns-in-EndLf c = rw c.in-EndLf.is (c.expect-in-EndLf.ensures _ (rw Turns.ended-done))

pub returns-in-Done : goal.returns-in-Done
returns-in-Done c = over c.args.room c.args.byte c.in-Done.is
