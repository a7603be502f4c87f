-- States that nothing is said against, and what follows of the numbers where a body can stand.
use mathlib.Core.Path.{◌≡◌, refl}
use mathlib.Core.Bool.{Bool, true, false, ◌&&◌}
use mathlib.Core.Option.{none}
use Prim.Native.Nat.{ℕ, zero, suc, ◌+◌, ◌≤◌}
use lib.Dec.{leb}
use borrow.Author.Tests.{leb-true}
use Rattle.framing.specs.declared.LinePos.{LinePos}
use Rattle.framing.specs.declared.State.TheVariants.{Line, LineFeed, Trail}
use Rattle.framing.specs.Grammar.{LINE_LIMIT, TRAILER_LIMIT}
use Rattle.framing.specs.Reading.{judge}
use Rattle.framing.specs.helpers.Machine.{size_of, TrailerAt, enter_chunk}
use Rattle.framing.proofs.Cases.{false-true}
use Rattle.framing.proofs.Turns as Turns
use Rattle.transition.specs.Moving.{possible}

-- ## Quiet states
module _ (room : ℕ) where
  pub quiet-chunk : (v t : ℕ) → judge room (enter_chunk v t) ≡ none
  unfolding enter_chunk
  quiet-chunk zero t = Turns.quiet-trailer room t
  quiet-chunk (suc m) t = Turns.quiet_data room m (t + suc m)

-- ## Where a body can stand
both : (m n j k : ℕ) → (leb m n && leb j k) ≡ true → (m ≤ n) × (j ≤ k)
both m n j k = go (leb m n) (leb-true m n)
  where
    go : (x : Bool) → (x ≡ true → m ≤ n) → (x && leb j k) ≡ true → (m ≤ n) × (j ≤ k)
    go true f h = (f refl, leb-true j k h)
    go false f h = false-true h

module _ (room : ℕ) where
  pub line-possible : (p : LinePos) (k t : ℕ) → possible room (Line p k t) ≡ true → (k ≤ LINE_LIMIT) × (t + size_of p ≤ room)
  unfolding possible
  line-possible p k t h = both k LINE_LIMIT (t + size_of p) room h

  pub feed_possible : (v t : ℕ) → possible room (LineFeed v t) ≡ true → t + v ≤ room
  unfolding possible
  feed_possible v t h = leb-true (t + v) room h

  pub trail_possible : (p : TrailerAt) (k t : ℕ) → possible room (Trail p k t) ≡ true → (k ≤ TRAILER_LIMIT) × (t ≤ room)
  unfolding possible
  trail_possible p k t h = both k TRAILER_LIMIT t room h
