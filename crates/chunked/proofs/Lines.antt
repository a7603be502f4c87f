-- A chunk line, a byte at a time: its digits, what stands behind them, its CR and LF; then the trailer.
use Rattle.std.proofs.Common.{◌≡◌, ℕ, suc, ◌+◌, ◌-◌, ◌*◌, ◌<◌, ◌≤◌, Bool, true, false, cond, ◌&&◌, eqb, List, [], ◌∷◌, ◌++◌, length, get_or}
use Rattle.std.proofs.Common.{take, drop, sym, refl, ap, ◌∙◌, subst, ap₂, append_assoc, arith, length-drop, length-take-le, get_or-drop}
use Rattle.std.proofs.Common.{take-suc}
use mathlib.Core.Option.{none, some}
use Rattle.octets.specs.Bytes.{hex?, hex_value}
use Rattle.octets.proofs.Bytes.{is_hex, no_hex}
use Rattle.framing.specs.Answer as Framing
use Rattle.framing.specs.Grammar.{LINE_LIMIT, TRAILER_LIMIT}
use Rattle.framing.specs.declared.ExtPos.{ExtPos}
use Rattle.framing.specs.declared.LinePos.{LinePos}
use Rattle.framing.specs.declared.LinePos.TheVariants.{First, Size, Ext}
use Rattle.framing.specs.declared.State.TheVariants.{Line, LineFeed, Data, Trail, EndLf}
use Rattle.framing.specs.helpers.Machine.{extensions, next_line_pos, line_ends, TrailerAt, trailer, at_forbidden, step, live}
use Rattle.framing.specs.Reading.{decode}
use Rattle.framing.proofs.Scanning.{run_append}
use Rattle.framing.proofs.Lines.{line_run, line-complete}
use Rattle.chunked.specs.declared.Ending.TheVariants as Ending
use Rattle.chunked.specs.helpers.Passes.{At, SizeRead, LineAt, CrlfAt, LastAt, Last, ending_answer}
use Rattle.chunked.proofs.Passes.{at_next, at_refuse, at_end, first_fits, line-short, last-whole}
use Rattle.framing.proofs.Turns as Turns

-- ## The bytes of a line
module _ (xs : List ℕ) (i j : ℕ) (starts : i ≤ j) (lt : j < length xs) where
  part-on : take (j + 1 - i) (drop i xs) ≡ take (j - i) (drop i xs) ++ (get_or xs j 0 ∷ [])
  part-on =
      let m : j + 1 - i ≡ suc (j - i) = omega arith in
      let n : i + (j - i) ≡ j = omega arith in
      ap (λ (k : ℕ). take k (drop i xs)) m
      ∙ take-suc (drop i xs) (j - i) 0 (omega (arith, length-drop i xs))
      ∙ ap (λ (z : ℕ). take (j - i) (drop i xs) ++ (z ∷ [])) (get_or-drop i xs (j - i) 0 ∙ ap (λ (k : ℕ). get_or xs k 0) n)

  read-on : {p q : LinePos} → line_run First (take (j - i) (drop i xs)) ≡ p → next_line_pos p (get_or xs j 0) ≡ q
      → line_run First (take (j + 1 - i) (drop i xs)) ≡ q
  read-on h e =
      ap (line_run First) part-on
      ∙ run_append next_line_pos First (take (j - i) (drop i xs)) (get_or xs j 0 ∷ [])
      ∙ ap (λ (z : LinePos). next_line_pos z (get_or xs j 0)) h
      ∙ e

module _ (room : ℕ) (xs : List ℕ) (i t : ℕ) where
  -- the digits from i to j have the value v
  pub record InSize (v j : ℕ) : Type 0 where
    pub starts : i ≤ j
    pub pos : LinePos
    pub at : At room xs (Line pos (j - i) t) j
    pub steps : (b : ℕ) → hex? b ≡ true → next_line_pos pos b ≡ Size (v * 16 + hex_value b)
    pub first : j ≡ i → pos ≡ First
    pub later : (j ≡ i → ⊥) → pos ≡ Size v
    pub fits : t + v ≤ room
    pub read : line_run First (take (j - i) (drop i xs)) ≡ pos

  -- extensions stand at e at the place k of a line that gives v
  pub record InExt (v : ℕ) (e : ExtPos) (k : ℕ) : Type 0 where
    pub starts : i ≤ k
    pub pos : LinePos
    pub at : At room xs (Line pos (k - i) t) k
    pub steps : k < length xs → next_line_pos pos (get_or xs k 0) ≡ Ext v (extensions.next e (get_or xs k 0))
    pub ends : line_ends pos ≡ cond (extensions.ends e) (some v) none
    pub read : line_run First (take (k - i) (drop i xs)) ≡ pos

module _ {room : ℕ} {xs : List ℕ} {i t : ℕ} where
  pub size-start : At room xs (Line First 0 t) i → InSize room xs i t 0 i
  size-start at =
      let z : 0 ≡ i - i = omega arith in
      let f : t ≤ room = first_fits at in
      record {
        starts = omega arith;
        pos = First;
        at = subst (λ (k : ℕ). At room xs (Line First k t) i) z at;
        steps = λ b h. Turns.first_digit b h;
        first = λ _. refl;
        later = λ h. absurd (h refl);
        fits = omega arith;
        read = ap (λ (k : ℕ). line_run First (take k (drop i xs))) (sym z);
      }

  module _ {v j : ℕ} (h : InSize room xs i t v j) (lt : j < length xs) {d : ℕ}
      (e : d ≡ cond (hex? (get_or xs j 0)) (hex_value (get_or xs j 0)) 16) where
    abbrev b : ℕ
    b = get_or xs j 0

    pub size-first : b < 256 → 15 < d → j ≡ i → Framing.refused 1 j ≡ decode room xs
    size-first small big z =
        at_refuse h.at lt refl
        (Turns.dead-refused room (step (Line h.pos (j - i) t) b)
        (ap (λ (p : LinePos). live (step (Line p (j - i) t) b)) (h.first z) ∙ Turns.first-other b (j - i) t (no_hex b d e small big)))

    pub size-read : b < 256 → 15 < d → (j ≡ i → ⊥) → SizeRead room xs i t v j
    size-read small big z = (
      h.starts,
      lt,
      subst (λ (p : LinePos). At room xs (Line p (j - i) t) j) (h.later z) h.at,
      no_hex b d e small big,
      h.read ∙ h.later z,
    )

    module _ (low : d ≤ 15) where
      digit_turn : next_line_pos h.pos b ≡ Size (v * 16 + d)
      digit_turn =
          let w : (hex? b ≡ true) × (d ≡ hex_value b) = is_hex b d e low in
          h.steps b w.0 ∙ ap (λ (n : ℕ). Size (v * 16 + n)) (sym w.1)

      digit_step : step (Line h.pos (j - i) t) b ≡ Line (Size (v * 16 + d)) (suc (j - i)) t
      digit_step =
          Turns.line_step b h.pos (j - i) t (Turns.digit_no_cr b (is_hex b d e low).0) ∙ ap (λ (p : LinePos). Line p (suc (j - i)) t) digit_turn

      pub size-long : j - i ≡ LINE_LIMIT → Framing.refused 5 j ≡ decode room xs
      size-long z = at_refuse h.at lt digit_step (Turns.size_five room (v * 16 + d) (suc (j - i)) t (omega arith))

      module _ (short : j - i ≡ LINE_LIMIT → ⊥) where
        still_short : suc (j - i) ≡ suc LINE_LIMIT → ⊥
        still_short z = short (omega arith)

        pub size-past : room < t + (v * 16 + d) → Framing.refused 7 j ≡ decode room xs
        size-past r = at_refuse h.at lt digit_step (Turns.size_seven room (v * 16 + d) (suc (j - i)) t still_short r)

        pub size-on : t + (v * 16 + d) ≤ room → InSize room xs i t (v * 16 + d) (j + 1)
        size-on r =
            let z : suc (j - i) ≡ j + 1 - i = omega (arith, h.starts) in
            record {
              starts = omega (arith, h.starts);
              pos = Size (v * 16 + d);
              at = subst (λ (k : ℕ). At room xs (Line (Size (v * 16 + d)) k t) (j + 1)) z
                  (at_next h.at lt digit_step (Turns.size-quiet room (v * 16 + d) (suc (j - i)) t still_short r));
              steps = λ c k. Turns.more_digit c (v * 16 + d) k;
              first = λ y. absurd (omega (arith, h.starts));
              later = λ _. refl;
              fits = r;
              read = read-on xs i j h.starts lt h.read digit_turn;
            }

  -- ## Behind the digits
  pub ext-start : {v j : ℕ} → SizeRead room xs i t v j → InExt room xs i t v extensions.begin j
  ext-start {v} {j} h = record {
    starts = h.0;
    pos = Size v;
    at = h.2;
    steps = λ _. Turns.size-other (get_or xs j 0) v h.3;
    ends = unfold line_ends in refl;
    read = h.4;
  }

  module _ {v : ℕ} {e : ExtPos} {k : ℕ} (h : InExt room xs i t v e k) (lt : k < length xs) where
    abbrev c : ℕ
    c = get_or xs k 0

    pub ext-ended : c ≡ 13 → extensions.ends e ≡ true → At room xs (LineFeed v t) (k + 1)
    ext-ended z f =
        at_next h.at lt
        (Turns.line-cr c h.pos (k - i) t z ∙ Turns.leave_some v t (line_ends h.pos)
        (h.ends ∙ ap (λ (y : Bool). cond y (some v) none) f))
        (Turns.quiet_feed room v t)

    pub ext-line : c ≡ 13 → extensions.ends e ≡ true → LineAt xs i (k + 1 - i) v (13 ∷ [])
    ext-line z f =
        let s : k - i ≤ LINE_LIMIT = line-short h.at in
        record {
          inside = omega (arith, h.starts);
          text = take (k - i) (drop i xs);
          split = part-on xs i k h.starts lt ∙ ap (λ (n : ℕ). take (k - i) (drop i xs) ++ (n ∷ [])) z;
          line = line-complete (take (k - i) (drop i xs)) v (ap line_ends h.read ∙ h.ends ∙ ap (λ (y : Bool). cond y (some v) none) f);
          short = omega (arith, length-take-le (k - i) (drop i xs) (omega (arith, length-drop i xs)));
        }

    pub ext-unended : c ≡ 13 → extensions.ends e ≡ false → Framing.refused 1 k ≡ decode room xs
    ext-unended z f =
        at_refuse h.at lt
        (Turns.line-cr c h.pos (k - i) t z ∙ Turns.leave_none t (line_ends h.pos)
        (h.ends ∙ ap (λ (y : Bool). cond y (some v) none) f))
        (Turns.no_more room)

    module _ (other : c ≡ 13 → ⊥) where
      ext-step : step (Line h.pos (k - i) t) c ≡ Line (Ext v (extensions.next e c)) (suc (k - i)) t
      ext-step = Turns.line_step c h.pos (k - i) t other ∙ ap (λ (p : LinePos). Line p (suc (k - i)) t) (h.steps lt)

      pub ext_wrong : extensions.alive (extensions.next e c) ≡ false → Framing.refused 1 k ≡ decode room xs
      ext_wrong f = at_refuse h.at lt ext-step (Turns.ext-dead room v (extensions.next e c) (suc (k - i)) t f)

      pub ext-long : extensions.alive (extensions.next e c) ≡ true → k - i ≡ LINE_LIMIT → Framing.refused 5 k ≡ decode room xs
      ext-long f z = at_refuse h.at lt ext-step (Turns.ext_five room v (extensions.next e c) (suc (k - i)) t f (omega arith))

      pub ext-on : extensions.alive (extensions.next e c) ≡ true → (k - i ≡ LINE_LIMIT → ⊥) → InExt room xs i t v (extensions.next e c) (k + 1)
      ext-on f short =
          let z : suc (k - i) ≡ k + 1 - i = omega (arith, h.starts) in
          record {
            starts = omega (arith, h.starts);
            pos = Ext v (extensions.next e c);
            at = subst (λ (n : ℕ). At room xs (Line (Ext v (extensions.next e c)) n t) (k + 1)) z
                (at_next h.at lt ext-step (Turns.ext-quiet room v (extensions.next e c) (suc (k - i)) t f (λ y. short (omega arith))));
            steps = λ _. unfold next_line_pos in refl;
            ends = unfold line_ends in refl;
            read = read-on xs i k h.starts lt h.read (h.steps lt);
          }

-- the byte at k, in the trailer at i, leads to the position q
pub record Into (room : ℕ) (xs : List ℕ) (q : TrailerAt) (i t k : ℕ) : Type 0 where
  pub starts : i ≤ k
  pub inside : k < length xs
  pub before : TrailerAt
  pub at : At room xs (Trail before (k - i) t) k
  pub steps : step (Trail before (k - i) t) (get_or xs k 0) ≡ Trail q (suc (k - i)) t

module _ {room : ℕ} {xs : List ℕ} where
  -- ## Behind the CR of a line
  module _ {v t k : ℕ} (at : At room xs (LineFeed v t) k) (lt : k < length xs) where
    pub feed_refused : (get_or xs k 0 ≡ 10 → ⊥) → Framing.refused 1 k ≡ decode room xs
    feed_refused h = at_refuse at lt (Turns.feed_other (get_or xs k 0) v t h) (Turns.no_more room)

    pub feed_last : get_or xs k 0 ≡ 10 → v ≡ 0 → At room xs (Trail trailer.begin 0 t) (k + 1)
    feed_last h z = at_next at lt (Turns.feed_lf (get_or xs k 0) v t h ∙ Turns.enter_last v t z) (Turns.quiet-trailer room t)

    pub feed_data : get_or xs k 0 ≡ 10 → 0 < v → At room xs (Data (v - 1) (t + v)) (k + 1)
    feed_data h z = at_next at lt (Turns.feed_lf (get_or xs k 0) v t h ∙ Turns.enter_data v t z) (Turns.quiet_data room (v - 1) (t + v))

    pub feed_line : {i : ℕ} → i ≤ k → LineAt xs i (k - i) v (13 ∷ []) → get_or xs k 0 ≡ 10 → LineAt xs i (k + 1 - i) v (13 ∷ 10 ∷ [])
    feed_line {i} starts l h = record {
      inside = omega arith;
      text = l.text;
      split = part-on xs i k starts lt
          ∙ ap₂ (λ (y : List ℕ) (n : ℕ). y ++ (n ∷ [])) l.split h
          ∙ append_assoc l.text (13 ∷ []) (10 ∷ []);
      line = l.line;
      short = l.short;
    }

  -- ## The trailer
  pub trail_start : {i t : ℕ} → At room xs (Trail trailer.begin 0 t) i → At room xs (Trail trailer.begin (i - i) t) i
  trail_start {i} {t} at =
      let z : 0 ≡ i - i = omega arith in
      subst (λ (n : ℕ). At room xs (Trail trailer.begin n t) i) z at

  pub trail_closed : {t k n : ℕ} {p : TrailerAt} → At room xs (Trail p n t) k → k < length xs
      → (trailer.ends p && eqb (get_or xs k 0) 13) ≡ true → At room xs (EndLf t n) (k + 1)
  trail_closed {t} {k} {n} {p} at lt h = at_next at lt (Turns.trail_close (get_or xs k 0) p n t h) (Turns.quiet-end room t n)

  pub trail_into : {t k : ℕ} {p q : TrailerAt} (i : ℕ) → i ≤ k → At room xs (Trail p (k - i) t) k → k < length xs
      → (trailer.ends p && eqb (get_or xs k 0) 13) ≡ false → q ≡ trailer.next p (get_or xs k 0) → Into room xs q i t k
  trail_into {t} {k} {p} i starts at lt unclosed e = record {
    starts = starts;
    inside = lt;
    before = p;
    at = at;
    steps = Turns.trail_step (get_or xs k 0) p (k - i) t unclosed ∙ ap (λ (z : TrailerAt). Trail z (suc (k - i)) t) (sym e);
  }

  module _ {q : TrailerAt} {i t k : ℕ} (into : Into room xs q i t k) where
    pub trail_wrong : trailer.alive q ≡ false → Framing.refused 1 k ≡ decode room xs
    trail_wrong f = at_refuse into.at into.inside into.steps (Turns.trail_dead room q (suc (k - i)) t f)

    pub trail_long : trailer.alive q ≡ true → k - i ≡ TRAILER_LIMIT → Framing.refused 6 k ≡ decode room xs
    trail_long f z = at_refuse into.at into.inside into.steps (Turns.trail_six room q (suc (k - i)) t f (omega arith))

    pub trail_forbidden : trailer.alive q ≡ true → (k - i ≡ TRAILER_LIMIT → ⊥) → at_forbidden q ≡ true → Framing.refused 15 k ≡ decode room xs
    trail_forbidden f short z =
        at_refuse into.at into.inside into.steps (Turns.trail_fifteen room q (suc (k - i)) t f (λ y. short (omega arith)) z)

    pub trail_on : trailer.alive q ≡ true → (k - i ≡ TRAILER_LIMIT → ⊥) → at_forbidden q ≡ false → At room xs (Trail q (k + 1 - i) t) (k + 1)
    trail_on f short e =
        let z : suc (k - i) ≡ k + 1 - i = omega (arith, into.starts) in
        subst (λ (n : ℕ). At room xs (Trail q n t) (k + 1)) z
        (at_next into.at into.inside into.steps (Turns.trail_quiet room q (suc (k - i)) t f (λ y. short (omega arith)) e))

  module _ {t i k : ℕ} (starts : i ≤ k) (at : At room xs (EndLf t (k - i)) (k + 1)) (lt : k + 1 < length xs) where
    pub close-refused : (get_or xs (k + 1) 0 ≡ 10 → ⊥) → Framing.refused 1 (k + 1) ≡ decode room xs
    close-refused h = at_refuse at lt (Turns.end-other (get_or xs (k + 1) 0) t (k - i) h) (Turns.no_more room)

    pub close-whole : get_or xs (k + 1) 0 ≡ 10
        → ending_answer t (Ending.Whole (k + 2) (k - i)) ≡ decode room xs
    close-whole h =
        ap₂ (λ (m n : ℕ). Framing.whole (record { taken = m; length = t; trailer_start = n; trailer_length = k - i }))
        (omega arith) (omega arith)
        ∙ at_end at lt (Turns.end-lf (get_or xs (k + 1) 0) t (k - i) h) (Turns.ended-done room t (k - i))

  -- an empty trailer
  pub closed-empty : {t i : ℕ} → At room xs (Trail trailer.begin 0 t) i → CrlfAt xs i → Last room xs t (Ending.Whole (i + 2) 0)
  closed-empty {t} {i} at c =
      let k : At room xs (EndLf t (i - i)) (i + 1)
      = trail_closed (trail_start at) (omega (arith, c.inside)) (ap (λ (b : ℕ). eqb b 13) c.cr) in
      let z : i - i ≡ 0 = omega arith in
      subst (λ (n : ℕ). Last room xs t (Ending.Whole (i + 2) n)) z
      (last-whole (omega arith) (close-whole (omega arith) k (omega (arith, c.inside)) c.lf))

  -- ## A last line without extensions
  pub last_on : {t i : ℕ} → At room xs (Line First 0 t) i → LastAt xs i → At room xs (Trail trailer.begin 0 t) (i + 3)
  unfolding hex?
  last_on {t} {i} at (zero_digit, c) =
      let digit : 0 ≡ cond (hex? (get_or xs i 0)) (hex_value (get_or xs i 0)) 16 = ap (λ (b : ℕ). cond (hex? b) (hex_value b) 16) (sym zero_digit) in
      let other : 16 ≡ cond (hex? (get_or xs (i + 1) 0)) (hex_value (get_or xs (i + 1) 0)) 16
      = ap (λ (b : ℕ). cond (hex? b) (hex_value b) 16) (sym c.cr) in
      let size : InSize room xs i t 0 (i + 1)
      = size-on (size-start at) (omega (arith, c.inside)) digit (omega arith) (λ e. absurd (omega arith)) (omega (arith, first_fits at)) in
      let read : SizeRead room xs i t 0 (i + 1)
      = size-read size (omega (arith, c.inside)) other (omega (arith, c.cr)) (omega arith) (λ e. absurd (omega arith)) in
      let feed : At room xs (LineFeed 0 t) (i + 1 + 1) = ext-ended (ext-start read) (omega (arith, c.inside)) c.cr refl in
      let z : i + 1 + 1 + 1 ≡ i + 3 = omega arith in
      subst (At room xs (Trail trailer.begin 0 t)) z (feed_last feed (omega (arith, c.inside)) c.lf refl)
