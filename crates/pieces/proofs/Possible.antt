-- Positions that are possible in a room: a byte that is not refused leads to another, and what stands in front of it grows by its data.
use mathlib.Core.Path.{◌≡◌, refl}
use mathlib.Core.Bool.{Bool, true, false, ◌&&◌}
use mathlib.Core.Option.{Option, none, some}
use Prim.Native.Nat.{ℕ, zero, suc, ◌+◌, ◌-◌, ◌<◌, ◌≤◌}
use native.Mathlib.Omega.{arith}
use lib.Dec.{eqb, ltb, leb}
use lib.ListN.{length}
use borrow.Author.Tests.{leb-true, le-leb, ltb-true, lt-ltb}
use Rattle.octets.specs.Bytes.{octet?}
use Rattle.framing.specs.declared.State.{State}
use Rattle.framing.specs.declared.State.TheVariants.{Line, LineFeed, Data, DataCr, DataLf, Trail, EndLf, Done, Dead}
use Rattle.framing.specs.Grammar.{LINE_LIMIT, TRAILER_LIMIT}
use Rattle.framing.specs.helpers.Machine.{trailer, line_ends, leave_line, enter_chunk, size_of, step, emit, live, long_line, long_trailer, no_room}
use Rattle.framing.proofs.Cases.{false-true, to-cond}
use Rattle.framing.proofs.Rooms.{Fits, ShortLine, ShortTrailer, keep_fits, keep_line, keep_trailer}
use Rattle.transition.specs.Moving.{possible}
use Rattle.pieces.specs.Reading.{filled}

pub both : (x y : Bool) → (x && y) ≡ true → (x ≡ true) × (y ≡ true)
both true y e = (refl, e)
both false y e = false-true e

pub to_both : (x y : Bool) → x ≡ true → y ≡ true → (x && y) ≡ true
to_both true y e f = f
to_both false y e f = e

-- no position is dead, and in a chunk some of its data is missing
unfoldable pub Counts : State → Type 0
Counts (Line p k t) = Unit {0}
Counts (LineFeed v t) = Unit {0}
Counts (Data m t) = m < t
Counts (DataCr t) = Unit {0}
Counts (DataLf t) = Unit {0}
Counts (Trail p k t) = Unit {0}
Counts (EndLf t n) = Unit {0}
Counts (Done t n) = Unit {0}
Counts Dead = ⊥

-- what `possible` tests
pub record Stands (room : ℕ) (q : State) : Type 0 where
  pub fits : Fits room q
  pub line : ShortLine q
  pub trailer : ShortTrailer q
  pub counts : Counts q

module _ (room : ℕ) where
  pub possible-stands : (q : State) → possible room q ≡ true → Stands room q
  unfolding possible Fits ShortLine ShortTrailer Counts
  possible-stands (Line p k t) h =
      let w = both (leb k LINE_LIMIT) (leb (t + size_of p) room) h in
      record {
        fits = leb-true (t + size_of p) room w.1;
        line = leb-true k LINE_LIMIT w.0;
        trailer = tt;
        counts = tt;
      }
  possible-stands (LineFeed v t) h = record { fits = leb-true (t + v) room h; line = tt; trailer = tt; counts = tt }
  possible-stands (Data m t) h =
      let w = both (ltb m t) (leb t room) h in
      record { fits = leb-true t room w.1; line = tt; trailer = tt; counts = ltb-true m t w.0 }
  possible-stands (DataCr t) h = record { fits = leb-true t room h; line = tt; trailer = tt; counts = tt }
  possible-stands (DataLf t) h = record { fits = leb-true t room h; line = tt; trailer = tt; counts = tt }
  possible-stands (Trail p k t) h =
      let w = both (leb k TRAILER_LIMIT) (leb t room) h in
      record { fits = leb-true t room w.1; line = tt; trailer = leb-true k TRAILER_LIMIT w.0; counts = tt }
  possible-stands (EndLf t n) h =
      let w = both (leb n TRAILER_LIMIT) (leb t room) h in
      record { fits = leb-true t room w.1; line = tt; trailer = leb-true n TRAILER_LIMIT w.0; counts = tt }
  possible-stands (Done t n) h =
      let w = both (leb n TRAILER_LIMIT) (leb t room) h in
      record { fits = leb-true t room w.1; line = tt; trailer = leb-true n TRAILER_LIMIT w.0; counts = tt }
  possible-stands Dead h = false-true h

  pub stands-possible : (q : State) → Stands room q → possible room q ≡ true
  unfolding possible Fits ShortLine ShortTrailer Counts
  stands-possible (Line p k t) h =
      to_both (leb k LINE_LIMIT) (leb (t + size_of p) room) (le-leb k LINE_LIMIT h.line)
      (le-leb (t + size_of p) room h.fits)
  stands-possible (LineFeed v t) h = le-leb (t + v) room h.fits
  stands-possible (Data m t) h = to_both (ltb m t) (leb t room) (lt-ltb m t h.counts) (le-leb t room h.fits)
  stands-possible (DataCr t) h = le-leb t room h.fits
  stands-possible (DataLf t) h = le-leb t room h.fits
  stands-possible (Trail p k t) h =
      to_both (leb k TRAILER_LIMIT) (leb t room) (le-leb k TRAILER_LIMIT h.trailer) (le-leb t room h.fits)
  stands-possible (EndLf t n) h =
      to_both (leb n TRAILER_LIMIT) (leb t room) (le-leb n TRAILER_LIMIT h.trailer) (le-leb t room h.fits)
  stands-possible (Done t n) h =
      to_both (leb n TRAILER_LIMIT) (leb t room) (le-leb n TRAILER_LIMIT h.trailer) (le-leb t room h.fits)
  stands-possible Dead h = absurd h.counts

  pub filled-fits : (q : State) → Stands room q → filled q ≤ room
  unfolding filled Fits
  filled-fits (Line p k t) h = omega (arith, h.fits)
  filled-fits (LineFeed v t) h = omega (arith, h.fits)
  filled-fits (Data m t) h = omega (arith, h.fits)
  filled-fits (DataCr t) h = h.fits
  filled-fits (DataLf t) h = h.fits
  filled-fits (Trail p k t) h = h.fits
  filled-fits (EndLf t n) h = h.fits
  filled-fits (Done t n) h = h.fits
  filled-fits Dead h = omega arith

-- ## A byte that leaves a continuation
-- from a position in front of which n bytes of data stand
abbrev Grows : ℕ → State → Type 0
Grows n q = live q ≡ true → Counts q × (filled q ≡ n)

leave_grows : (o : Option ℕ) (t : ℕ) → Grows (t + 0) (leave_line o t)
unfolding leave_line live Counts filled
leave_grows none t = λ e. false-true e
leave_grows (some v) t = λ _. (tt, omega arith)

enter_grows : (v t : ℕ) → Grows (t + 0) (enter_chunk v t)
unfolding enter_chunk Counts filled
enter_grows zero t = λ _. (tt, omega arith)
enter_grows (suc m) t = λ _. (omega arith, omega arith)

none_grows : (n : ℕ) → Grows n Dead
unfolding live
none_grows n = λ e. false-true e

grows : (q : State) (b : ℕ) → Counts q → Grows (filled q + length (emit q b)) (step q b)
unfolding step emit filled Counts
grows (Line p k t) b h = to-cond (Grows (t + 0)) (eqb b 13) (λ _. leave_grows (line_ends p) t) (λ _ _. (tt, omega arith))
grows (LineFeed v t) b h = to-cond (Grows (t + 0)) (eqb b 10) (λ _. enter_grows v t) (λ _. none_grows (t + 0))
grows (Data zero t) b h = to-cond (Grows (t - 1 + 1)) (octet? b) (λ _ _. (tt, omega arith)) (λ _. none_grows (t - 1 + 1))
grows (Data (suc m) t) b h =
    to-cond (Grows (t - suc (suc m) + 1)) (octet? b) (λ _ _. (omega arith, omega arith)) (λ _. none_grows (t - suc (suc m) + 1))
grows (DataCr t) b h = to-cond (Grows (t + 0)) (eqb b 13) (λ _ _. (tt, omega arith)) (λ _. none_grows (t + 0))
grows (DataLf t) b h = to-cond (Grows (t + 0)) (eqb b 10) (λ _ _. (tt, omega arith)) (λ _. none_grows (t + 0))
grows (Trail p k t) b h =
    to-cond (Grows (t + 0)) (trailer.ends p && eqb b 13) (λ _ _. (tt, omega arith)) (λ _ _. (tt, omega arith))
grows (EndLf t n) b h = to-cond (Grows (t + 0)) (eqb b 10) (λ _ _. (tt, omega arith)) (λ _. none_grows (t + 0))
grows (Done t n) b h = none_grows (t + 0)
grows Dead b h = absurd h

module _ (room : ℕ) (q : State) (b : ℕ) (h : Stands room q) (l : live (step q b) ≡ true) where
  pub filled-step : filled (step q b) ≡ filled q + length (emit q b)
  filled-step = (grows q b h.counts l).1

  pub stands-step : long_line (step q b) ≡ false → long_trailer (step q b) ≡ false → no_room room (step q b) ≡ false → Stands room (step q b)
  stands-step x y z = record {
    fits = keep_fits room q b h.fits z;
    line = keep_line q b h.line x;
    trailer = keep_trailer q b h.trailer y;
    counts = (grows q b h.counts l).0;
  }
