-- What the machine makes of the bytes that a reader tells apart: the next state, and the verdict on it.
use mathlib.Core.Path.{◌≡◌, refl, sym, ◌∙◌, ap}
use mathlib.Core.Bool.{Bool, true, false, ◌&&◌, cond}
use mathlib.Core.Option.{Option, none, some}
use Prim.Native.Nat.{ℕ, zero, suc, ◌+◌, ◌-◌, ◌*◌, ◌<◌, ◌≤◌}
use native.Mathlib.Omega.{arith}
use lib.Dec.{eqb, ltb}
use borrow.Author.Tests.{eq-eqb, ne_eqb, lt-ltb, le-ltb, le-leb}
use Rattle.octets.specs.Bytes.{hex?, hex_value}
use Rattle.framing.specs.Grammar.{LINE_LIMIT, TRAILER_LIMIT, limits}
use Rattle.framing.specs.declared.ExtPos.{ExtPos}
use Rattle.framing.specs.declared.LinePos.{LinePos}
use Rattle.framing.specs.declared.LinePos.TheVariants.{First, Size, Ext}
use Rattle.framing.specs.declared.State.{State}
use Rattle.framing.specs.declared.State.TheVariants.{Line, LineFeed, Data, DataCr, DataLf, Trail, EndLf, Done, Dead}
use Rattle.framing.specs.helpers.Machine.{extensions, next_line_pos, line_ends, line_live, size_of, TrailerAt, trailer, at_forbidden}
use Rattle.framing.specs.helpers.Machine.{leave_line, enter_chunk, step, live, done, past_room, machine, tell}
use Rattle.framing.specs.helpers.Scan.{ended, refusal, verdict_of, over_by}
use Rattle.framing.specs.Reading.{judge}
use Rattle.framing.proofs.Cases.{false-true, to-cond}

-- ## Verdicts
module _ (room : ℕ) where
  -- a live state, by the limit that it breaks
  judged : (s : State) (o : Option ℕ) → live s ≡ true → over_by machine tell limits room s ≡ o → judge room s ≡ verdict_of o (done s)
  unfolding judge
  judged s o a e =
      ap (λ (z : Bool). cond z (verdict_of (over_by machine tell limits room s) (done s)) (some (refusal 1))) a
      ∙ ap (λ (z : Option ℕ). verdict_of z (done s)) e

  pub dead-refused : (s : State) → live s ≡ false → judge room s ≡ some (refusal 1)
  unfolding judge
  dead-refused s e = ap (λ (z : Bool). cond z (verdict_of (over_by machine tell limits room s) (done s)) (some (refusal 1))) e

  pub no_more : judge room Dead ≡ some (refusal 1)
  no_more = dead-refused Dead (unfold live in refl)

  pub quiet-first : (t : ℕ) → judge room (Line First 0 t) ≡ none
  unfolding judge live line_live done past_room
  quiet-first t = refl

  pub quiet_feed : (v t : ℕ) → judge room (LineFeed v t) ≡ none
  unfolding judge live done
  quiet_feed v t = refl

  pub quiet_data : (m t : ℕ) → judge room (Data m t) ≡ none
  unfolding judge live done
  quiet_data m t = refl

  pub quiet_data_cr : (t : ℕ) → judge room (DataCr t) ≡ none
  unfolding judge live done
  quiet_data_cr t = refl

  pub quiet_data_lf : (t : ℕ) → judge room (DataLf t) ≡ none
  unfolding judge live done
  quiet_data_lf t = refl

  pub quiet-trailer : (t : ℕ) → judge room (Trail trailer.begin 0 t) ≡ none
  unfolding judge live done
  quiet-trailer t = refl

  pub quiet-end : (t n : ℕ) → judge room (EndLf t n) ≡ none
  unfolding judge live done
  quiet-end t n = refl

  pub ended-done : (t n : ℕ) → judge room (Done t n) ≡ some (ended (record { length = t; trailer = n }))
  unfolding judge live done
  ended-done t n = refl

  module _ (w k t : ℕ) where
    pub size_five : k ≡ suc LINE_LIMIT → judge room (Line (Size w) k t) ≡ some (refusal 5)
    unfolding judge live line_live done
    size_five e = ap (λ (z : Bool). verdict_of (cond z (some 5) (cond (past_room room (Size w) t) (some 7) none)) none) (eq-eqb k (suc LINE_LIMIT) e)

    by_room : (k ≡ suc LINE_LIMIT → ⊥) → judge room (Line (Size w) k t) ≡ verdict_of (cond (ltb room (t + w)) (some 7) none) none
    unfolding judge live line_live done past_room
    by_room e = ap (λ (z : Bool). verdict_of (cond z (some 5) (cond (ltb room (t + w)) (some 7) none)) none) (ne_eqb k (suc LINE_LIMIT) e)

    pub size_seven : (k ≡ suc LINE_LIMIT → ⊥) → room < t + w → judge room (Line (Size w) k t) ≡ some (refusal 7)
    size_seven e r = by_room e ∙ ap (λ (z : Bool). verdict_of (cond z (some 7) none) none) (lt-ltb room (t + w) r)

    pub size-quiet : (k ≡ suc LINE_LIMIT → ⊥) → t + w ≤ room → judge room (Line (Size w) k t) ≡ none
    size-quiet e r = by_room e ∙ ap (λ (z : Bool). verdict_of (cond z (some 7) none) none) (le-ltb room (t + w) r)

  -- a live position in a line that is short and gives a size within the room
  pub line_quiet : (p : LinePos) (k t : ℕ) → line_live p ≡ true → k ≤ LINE_LIMIT → t + size_of p ≤ room → judge room (Line p k t) ≡ none
  unfolding judge live done
  line_quiet p k t a short fits =
      ap (λ (z : Bool). cond z (verdict_of (cond (eqb k (suc LINE_LIMIT)) (some 5) (within (past_room room p t))) none) (some (refusal 1))) a
      ∙ ap (λ (z : Bool). verdict_of (cond z (some 5) (within (past_room room p t))) none) (ne_eqb k (suc LINE_LIMIT) (λ e. absurd (omega arith)))
      ∙ ap (λ (z : Bool). verdict_of (within z) none) (go p fits)
    where
      within : Bool → Option ℕ
      within z = cond z (some 7) none

      go : (q : LinePos) → t + size_of q ≤ room → past_room room q t ≡ false
      go First h = unfold past_room in refl
      go (Size w) h = unfold past_room in le-ltb room (t + w) h
      go (Ext w x) h = unfold past_room in refl

  module _ (v : ℕ) (e : ExtPos) (k t : ℕ) where
    pub ext-dead : extensions.alive e ≡ false → judge room (Line (Ext v e) k t) ≡ some (refusal 1)
    ext-dead h = dead-refused (Line (Ext v e) k t) (unfold live line_live in h)

    by_length : extensions.alive e ≡ true → judge room (Line (Ext v e) k t) ≡ verdict_of (cond (eqb k (suc LINE_LIMIT)) (some 5) none) none
    unfolding judge live line_live done past_room
    by_length h = ap (λ (z : Bool). cond z (verdict_of (cond (eqb k (suc LINE_LIMIT)) (some 5) none) none) (some (refusal 1))) h

    pub ext_five : extensions.alive e ≡ true → k ≡ suc LINE_LIMIT → judge room (Line (Ext v e) k t) ≡ some (refusal 5)
    ext_five h n = by_length h ∙ ap (λ (z : Bool). verdict_of (cond z (some 5) none) none) (eq-eqb k (suc LINE_LIMIT) n)

    pub ext-quiet : extensions.alive e ≡ true → (k ≡ suc LINE_LIMIT → ⊥) → judge room (Line (Ext v e) k t) ≡ none
    ext-quiet h n = by_length h ∙ ap (λ (z : Bool). verdict_of (cond z (some 5) none) none) (ne_eqb k (suc LINE_LIMIT) n)

  module _ (p : TrailerAt) (k t : ℕ) where
    pub trail_dead : trailer.alive p ≡ false → judge room (Trail p k t) ≡ some (refusal 1)
    trail_dead h = dead-refused (Trail p k t) (unfold live in h)

    pub trail_six : trailer.alive p ≡ true → k ≡ suc TRAILER_LIMIT → judge room (Trail p k t) ≡ some (refusal 6)
    unfolding live done
    trail_six h n = judged (Trail p k t) (some 6) h (rw (eq-eqb k (suc TRAILER_LIMIT) n) refl)

    pub trail_fifteen : trailer.alive p ≡ true → (k ≡ suc TRAILER_LIMIT → ⊥) → at_forbidden p ≡ true → judge room (Trail p k t) ≡ some (refusal 15)
    unfolding live done
    trail_fifteen h n e = judged (Trail p k t) (some 15) h (rw (ne_eqb k (suc TRAILER_LIMIT) n, e) refl)

    pub trail_quiet : trailer.alive p ≡ true → (k ≡ suc TRAILER_LIMIT → ⊥) → at_forbidden p ≡ false → judge room (Trail p k t) ≡ none
    unfolding live done
    trail_quiet h n e = judged (Trail p k t) none h (rw (ne_eqb k (suc TRAILER_LIMIT) n, e) refl)

-- ## Steps
module _ (b : ℕ) where
  -- a digit is no CR
  pub digit_no_cr : hex? b ≡ true → b ≡ 13 → ⊥
  unfolding hex?
  digit_no_cr h e = false-true (sym (ap hex? e) ∙ h)

  -- in a chunk line
  pub first-other : (k t : ℕ) → hex? b ≡ false → live (step (Line First k t) b) ≡ false
  unfolding step live line_live next_line_pos line_ends leave_line
  first-other k t h = to-cond (λ (s : State). live s ≡ false) (eqb b 13) (λ _. refl)
      (λ _. ap (λ (z : Bool). line_live (cond z (Size (0 * 16 + hex_value b)) (Ext 0 ExtPos.Dead))) h)

  pub line_step : (p : LinePos) (k t : ℕ) → (b ≡ 13 → ⊥) → step (Line p k t) b ≡ Line (next_line_pos p b) (suc k) t
  unfolding step
  line_step p k t h = ap (λ (z : Bool). cond z (leave_line (line_ends p) t) (Line (next_line_pos p b) (suc k) t)) (ne_eqb b 13 h)

  pub line-cr : (p : LinePos) (k t : ℕ) → b ≡ 13 → step (Line p k t) b ≡ leave_line (line_ends p) t
  unfolding step
  line-cr p k t h = ap (λ (z : Bool). cond z (leave_line (line_ends p) t) (Line (next_line_pos p b) (suc k) t)) (eq-eqb b 13 h)

  pub first_digit : hex? b ≡ true → next_line_pos First b ≡ Size (0 * 16 + hex_value b)
  unfolding next_line_pos
  first_digit h = ap (λ (z : Bool). cond z (Size (0 * 16 + hex_value b)) (Ext 0 ExtPos.Dead)) h

  pub more_digit : (v : ℕ) → hex? b ≡ true → next_line_pos (Size v) b ≡ Size (v * 16 + hex_value b)
  unfolding next_line_pos
  more_digit v h = ap (λ (z : Bool). cond z (Size (v * 16 + hex_value b)) (Ext v (extensions.next extensions.begin b))) h

  pub size-other : (v : ℕ) → hex? b ≡ false → next_line_pos (Size v) b ≡ Ext v (extensions.next extensions.begin b)
  unfolding next_line_pos
  size-other v h = ap (λ (z : Bool). cond z (Size (v * 16 + hex_value b)) (Ext v (extensions.next extensions.begin b))) h

  -- behind the CR of a line
  pub feed_lf : (v t : ℕ) → b ≡ 10 → step (LineFeed v t) b ≡ enter_chunk v t
  unfolding step
  feed_lf v t h = ap (λ (z : Bool). cond z (enter_chunk v t) Dead) (eq-eqb b 10 h)

  pub feed_other : (v t : ℕ) → (b ≡ 10 → ⊥) → step (LineFeed v t) b ≡ Dead
  unfolding step
  feed_other v t h = ap (λ (z : Bool). cond z (enter_chunk v t) Dead) (ne_eqb b 10 h)

  -- in data
  pub data_last : (t : ℕ) → b < 256 → step (Data 0 t) b ≡ DataCr t
  unfolding step
  data_last t h = ap (λ (z : Bool). cond z (DataCr t) Dead) (le-leb b 255 (omega arith))

  pub data_more : (m t : ℕ) → b < 256 → step (Data (suc m) t) b ≡ Data m t
  unfolding step
  data_more m t h = ap (λ (z : Bool). cond z (Data m t) Dead) (le-leb b 255 (omega arith))

  pub data_cr : (t : ℕ) → b ≡ 13 → step (DataCr t) b ≡ DataLf t
  unfolding step
  data_cr t h = ap (λ (z : Bool). cond z (DataLf t) Dead) (eq-eqb b 13 h)

  pub no_data_cr : (t : ℕ) → (b ≡ 13 → ⊥) → step (DataCr t) b ≡ Dead
  unfolding step
  no_data_cr t h = ap (λ (z : Bool). cond z (DataLf t) Dead) (ne_eqb b 13 h)

  pub data_lf : (t : ℕ) → b ≡ 10 → step (DataLf t) b ≡ Line First 0 t
  unfolding step
  data_lf t h = ap (λ (z : Bool). cond z (Line First 0 t) Dead) (eq-eqb b 10 h)

  pub no_data_lf : (t : ℕ) → (b ≡ 10 → ⊥) → step (DataLf t) b ≡ Dead
  unfolding step
  no_data_lf t h = ap (λ (z : Bool). cond z (Line First 0 t) Dead) (ne_eqb b 10 h)

  -- in the trailer
  pub trail_close : (p : TrailerAt) (k t : ℕ) → (trailer.ends p && eqb b 13) ≡ true → step (Trail p k t) b ≡ EndLf t k
  unfolding step
  trail_close p k t h = ap (λ (z : Bool). cond z (EndLf t k) (Trail (trailer.next p b) (suc k) t)) h

  pub trail_step : (p : TrailerAt) (k t : ℕ) → (trailer.ends p && eqb b 13) ≡ false → step (Trail p k t) b ≡ Trail (trailer.next p b) (suc k) t
  unfolding step
  trail_step p k t h = ap (λ (z : Bool). cond z (EndLf t k) (Trail (trailer.next p b) (suc k) t)) h

  pub end-lf : (t n : ℕ) → b ≡ 10 → step (EndLf t n) b ≡ Done t n
  unfolding step
  end-lf t n h = ap (λ (z : Bool). cond z (Done t n) Dead) (eq-eqb b 10 h)

  pub end-other : (t n : ℕ) → (b ≡ 10 → ⊥) → step (EndLf t n) b ≡ Dead
  unfolding step
  end-other t n h = ap (λ (z : Bool). cond z (Done t n) Dead) (ne_eqb b 10 h)

pub leave_some : (v t : ℕ) (o : Option ℕ) → o ≡ some v → leave_line o t ≡ LineFeed v t
unfolding leave_line
leave_some v t o e = ap (λ (z : Option ℕ). leave_line z t) e

pub leave_none : (t : ℕ) (o : Option ℕ) → o ≡ none → leave_line o t ≡ Dead
unfolding leave_line
leave_none t o e = ap (λ (z : Option ℕ). leave_line z t) e

pub enter_last : (v t : ℕ) → v ≡ 0 → enter_chunk v t ≡ Trail trailer.begin 0 t
unfolding enter_chunk
enter_last v t e = ap (λ (z : ℕ). enter_chunk z t) e

pub enter_data : (v t : ℕ) → 0 < v → enter_chunk v t ≡ Data (v - 1) (t + v)
unfolding enter_chunk
enter_data zero t h = absurd (omega arith)
enter_data (suc m) t h = ap (λ (n : ℕ). Data n (t + suc m)) (omega arith)
