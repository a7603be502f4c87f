-- A state that breaks no limit is within the limits again; and what a larger room changes.
use mathlib.Core.Path.{◌≡◌, refl}
use mathlib.Core.Bool.{Bool, true, false, ◌&&◌, cond}
use mathlib.Core.List.{List, [], ◌∷◌}
use mathlib.Core.Option.{Option, none, some}
use Prim.Native.Nat.{ℕ, zero, suc, ◌+◌, ◌*◌, ◌≤◌}
use native.Mathlib.Omega.{arith}
use lib.Dec.{eqb, ltb}
use borrow.Author.Tests.{eqb-true, eqb-false, ltb-true, ltb-false, lt-ltb}
use Rattle.octets.specs.Bytes.{hex?, octet?, hex_value}
use Rattle.grammar.specs.Refusals.{BODY_TOO_LARGE}
use Rattle.framing.specs.declared.LinePos.{LinePos}
use Rattle.framing.specs.declared.LinePos.TheVariants.{First, Size, Ext}
use Rattle.framing.specs.declared.State.{State}
use Rattle.framing.specs.declared.State.TheVariants.{Line, LineFeed, Data, DataCr, DataLf, Trail, EndLf, Done, Dead}
use Rattle.framing.specs.Grammar.{LINE_LIMIT, TRAILER_LIMIT}
use Rattle.framing.specs.helpers.Machine.{extensions, next_line_pos, line_ends, size_of, trailer}
use Rattle.framing.specs.helpers.Machine.{leave_line, enter_chunk, step, long_line, long_trailer, too_long, past_room, no_room, broke}
use Rattle.framing.specs.helpers.Scan.{run}
use Rattle.framing.proofs.Cases.{none-some, by_cond, to-cond}

-- the data that a state counts is within the room
unfoldable pub Fits : ℕ → State → Type 0
Fits room (Line p k t) = t + size_of p ≤ room
Fits room (LineFeed v t) = t + v ≤ room
Fits room (Data m t) = t ≤ room
Fits room (DataCr t) = t ≤ room
Fits room (DataLf t) = t ≤ room
Fits room (Trail p k t) = t ≤ room
Fits room (EndLf t n) = t ≤ room
Fits room (Done t n) = t ≤ room
Fits room Dead = Unit {0}

-- so are the bytes of a line
unfoldable pub ShortLine : State → Type 0
ShortLine (Line p k t) = k ≤ LINE_LIMIT
ShortLine (LineFeed v t) = Unit {0}
ShortLine (Data m t) = Unit {0}
ShortLine (DataCr t) = Unit {0}
ShortLine (DataLf t) = Unit {0}
ShortLine (Trail p k t) = Unit {0}
ShortLine (EndLf t n) = Unit {0}
ShortLine (Done t n) = Unit {0}
ShortLine Dead = Unit {0}

-- and of the trailer
unfoldable pub ShortTrailer : State → Type 0
ShortTrailer (Line p k t) = Unit {0}
ShortTrailer (LineFeed v t) = Unit {0}
ShortTrailer (Data m t) = Unit {0}
ShortTrailer (DataCr t) = Unit {0}
ShortTrailer (DataLf t) = Unit {0}
ShortTrailer (Trail p k t) = k ≤ TRAILER_LIMIT
ShortTrailer (EndLf t n) = n ≤ TRAILER_LIMIT
ShortTrailer (Done t n) = n ≤ TRAILER_LIMIT
ShortTrailer Dead = Unit {0}

pub ends-size : (p : LinePos) (v : ℕ) → line_ends p ≡ some v → size_of p ≡ v
unfolding line_ends
ends-size First v e = none-some e
ends-size (Size w) v e = cc
ends-size (Ext w x) v e = by_cond (λ (o : Option ℕ). o ≡ some v) (extensions.ends x) (λ _ z. same z) (λ _ z. none-some z) e
  where
    same : some w ≡ some v → w ≡ v
    same z = cc

-- a size only grows
step_grows : (p : LinePos) (b : ℕ) → size_of p ≤ size_of (next_line_pos p b)
unfolding next_line_pos
step_grows First b = omega arith
step_grows (Size v) b = to-cond (λ (q : LinePos). v ≤ size_of q) (hex? b) (λ _. omega arith) (λ _. omega arith)
step_grows (Ext v x) b = omega arith

pub size_grows : (p : LinePos) (l : List ℕ) → size_of p ≤ size_of (run next_line_pos p l)
size_grows p [] = omega arith
size_grows p (b ∷ l) = omega (arith, step_grows p b, size_grows (next_line_pos p b) l)

module _ (room : ℕ) where
  leave_in : (p : LinePos) (k t : ℕ) (o : Option ℕ) → line_ends p ≡ o → Fits room (Line p k t) → Fits room (leave_line o t)
  unfolding Fits leave_line
  leave_in p k t none e h = tt
  leave_in p k t (some v) e h = let z : size_of p ≡ v = ends-size p v e in omega (arith, h, z)

  size_in : (p : LinePos) (b t : ℕ) → t + size_of p ≤ room → past_room room (next_line_pos p b) t ≡ false → t + size_of (next_line_pos p b) ≤ room
  unfolding next_line_pos past_room
  size_in First b t h = to-cond (λ (q : LinePos). past_room room q t ≡ false → t + size_of q ≤ room) (hex? b)
      (λ _ z. ltb-false room (t + (0 * 16 + hex_value b)) z) (λ _ _. h)
  size_in (Size v) b t h = to-cond (λ (q : LinePos). past_room room q t ≡ false → t + size_of q ≤ room) (hex? b)
      (λ _ z. ltb-false room (t + (v * 16 + hex_value b)) z) (λ _ _. h)
  size_in (Ext v x) b t h = λ _. h

  enter_in : (v t : ℕ) → t + v ≤ room → Fits room (enter_chunk v t)
  unfolding Fits enter_chunk
  enter_in zero t h = omega arith
  enter_in (suc m) t h = h

  abbrev Kept : State → Type 0
  Kept s = no_room room s ≡ false → Fits room s

  pub keep_fits : (s : State) (b : ℕ) → Fits room s → Kept (step s b)
  unfolding step Fits
  keep_fits (Line p k t) b h = to-cond Kept (eqb b 13) (λ _ _. leave_in p k t (line_ends p) refl h) (λ _ e. size_in p b t h e)
  keep_fits (LineFeed v t) b h = to-cond Kept (eqb b 10) (λ _ _. enter_in v t h) (λ _ _. tt)
  keep_fits (Data zero t) b h = to-cond Kept (octet? b) (λ _ _. h) (λ _ _. tt)
  keep_fits (Data (suc m) t) b h = to-cond Kept (octet? b) (λ _ _. h) (λ _ _. tt)
  keep_fits (DataCr t) b h = to-cond Kept (eqb b 13) (λ _ _. h) (λ _ _. tt)
  keep_fits (DataLf t) b h = to-cond Kept (eqb b 10) (λ _ _. omega arith) (λ _ _. tt)
  keep_fits (Trail p k t) b h = to-cond Kept (trailer.ends p && eqb b 13) (λ _ _. h) (λ _ _. h)
  keep_fits (EndLf t n) b h = to-cond Kept (eqb b 10) (λ _ _. h) (λ _ _. tt)
  keep_fits (Done t n) b h = λ _. tt
  keep_fits Dead b h = λ _. tt

-- ## Lengths
still_short : (k limit : ℕ) → k ≤ limit → eqb (suc k) (suc limit) ≡ false → suc k ≤ limit
still_short k limit h e = go (eqb-false (suc k) (suc limit) e)
  where
    go : (suc k ≡ suc limit → ⊥) → suc k ≤ limit
    go n = omega arith

abbrev KeptLine : State → Type 0
KeptLine s = long_line s ≡ false → ShortLine s

leave_short : (o : Option ℕ) (t : ℕ) → ShortLine (leave_line o t)
unfolding ShortLine leave_line
leave_short none t = tt
leave_short (some v) t = tt

enter_short : (v t : ℕ) → ShortLine (enter_chunk v t)
unfolding ShortLine enter_chunk
enter_short zero t = tt
enter_short (suc m) t = tt

pub keep_line : (s : State) (b : ℕ) → ShortLine s → KeptLine (step s b)
unfolding step ShortLine
keep_line (Line p k t) b h = to-cond KeptLine (eqb b 13) (λ _ _. leave_short (line_ends p) t) (λ _ e. still_short k LINE_LIMIT h e)
keep_line (LineFeed v t) b h = to-cond KeptLine (eqb b 10) (λ _ _. enter_short v t) (λ _ _. tt)
keep_line (Data zero t) b h = to-cond KeptLine (octet? b) (λ _ _. tt) (λ _ _. tt)
keep_line (Data (suc m) t) b h = to-cond KeptLine (octet? b) (λ _ _. tt) (λ _ _. tt)
keep_line (DataCr t) b h = to-cond KeptLine (eqb b 13) (λ _ _. tt) (λ _ _. tt)
keep_line (DataLf t) b h = to-cond KeptLine (eqb b 10) (λ _ _. omega arith) (λ _ _. tt)
keep_line (Trail p k t) b h = to-cond KeptLine (trailer.ends p && eqb b 13) (λ _ _. tt) (λ _ _. tt)
keep_line (EndLf t n) b h = to-cond KeptLine (eqb b 10) (λ _ _. tt) (λ _ _. tt)
keep_line (Done t n) b h = λ _. tt
keep_line Dead b h = λ _. tt

abbrev KeptTrailer : State → Type 0
KeptTrailer s = long_trailer s ≡ false → ShortTrailer s

leave_trailer : (o : Option ℕ) (t : ℕ) → ShortTrailer (leave_line o t)
unfolding ShortTrailer leave_line
leave_trailer none t = tt
leave_trailer (some v) t = tt

enter_trailer : (v t : ℕ) → ShortTrailer (enter_chunk v t)
unfolding ShortTrailer enter_chunk
enter_trailer zero t = omega arith
enter_trailer (suc m) t = tt

pub keep_trailer : (s : State) (b : ℕ) → ShortTrailer s → KeptTrailer (step s b)
unfolding step ShortTrailer
keep_trailer (Line p k t) b h = to-cond KeptTrailer (eqb b 13) (λ _ _. leave_trailer (line_ends p) t) (λ _ _. tt)
keep_trailer (LineFeed v t) b h = to-cond KeptTrailer (eqb b 10) (λ _ _. enter_trailer v t) (λ _ _. tt)
keep_trailer (Data zero t) b h = to-cond KeptTrailer (octet? b) (λ _ _. tt) (λ _ _. tt)
keep_trailer (Data (suc m) t) b h = to-cond KeptTrailer (octet? b) (λ _ _. tt) (λ _ _. tt)
keep_trailer (DataCr t) b h = to-cond KeptTrailer (eqb b 13) (λ _ _. tt) (λ _ _. tt)
keep_trailer (DataLf t) b h = to-cond KeptTrailer (eqb b 10) (λ _ _. tt) (λ _ _. tt)
keep_trailer (Trail p k t) b h =
    to-cond KeptTrailer (trailer.ends p && eqb b 13) (λ _ _. h) (λ _ e. still_short k TRAILER_LIMIT h e)
keep_trailer (EndLf t n) b h = to-cond KeptTrailer (eqb b 10) (λ _ _. h) (λ _ _. tt)
keep_trailer (Done t n) b h = λ _. tt
keep_trailer Dead b h = λ _. tt

-- ## A larger room
-- every other limit is the same there
pub same : (r q n : ℕ) (s : State) → (n ≡ BODY_TOO_LARGE → ⊥) → broke q n s ≡ broke r n s
same r q n s f = go (eqb n BODY_TOO_LARGE) refl
  where
    go : (x : Bool) → eqb n BODY_TOO_LARGE ≡ x → cond x (no_room q s) (too_long n s) ≡ cond x (no_room r s) (too_long n s)
    go true e = absurd (f (eqb-true n BODY_TOO_LARGE e))
    go false e = refl

-- and what passes it passes each smaller one
size-lifts : (r q v t : ℕ) → r ≤ q → ltb q (t + v) ≡ true → ltb r (t + v) ≡ true
size-lifts r q v t h e = lt-ltb r (t + v) (omega (arith, h, ltb-true q (t + v) e))

pub lifts : (r q : ℕ) (s : State) → r ≤ q → no_room q s ≡ true → no_room r s ≡ true
unfolding past_room
lifts r q (Line First k t) h e = e
lifts r q (Line (Size v) k t) h e = size-lifts r q v t h e
lifts r q (Line (Ext v x) k t) h e = e
lifts r q (LineFeed v t) h e = e
lifts r q (Data m t) h e = e
lifts r q (DataCr t) h e = e
lifts r q (DataLf t) h e = e
lifts r q (Trail p k t) h e = e
lifts r q (EndLf t n) h e = e
lifts r q (Done t n) h e = e
lifts r q Dead h e = e
