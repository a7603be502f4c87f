-- A piece of the input, line by line: what is said, and what is held.
use mathlib.Core.Path.{◌≡◌, refl, sym, ◌∙◌, ap, ap₂}
use mathlib.Core.Bool.{true, false, cond}
use mathlib.Core.List.{List, [], ◌∷◌, ◌++◌, append_assoc, append-nil}
use Prim.Native.Nat.{ℕ, ◌+◌, ◌-◌, ◌*◌, ◌<◌, ◌≤◌}
use native.Mathlib.Omega.{arith}
use lib.Dec.{ltb}
use lib.ListN.{length, take, drop, length-append, length-drop, length-take, drop_of_length-le}
use lib.Seq.{take_all, take_at, drop-drop, length-take-le}
use borrow.Author.Tests.{ltb-true, ltb-false}
use Rattle.numerals.proofs.Digits.{split, at_true, at-false}
use Rattle.text.specs.Placing.{placed}
use Rattle.text.proofs.Placing.{placed-fits, placed-length, placed-placed}
use Rattle.lines.specs.Reading.{line_end, lines_from, rest_from, line_with, gathered_line, gathering}
use Rattle.lines.specs.declared.Gathered.{Gathered}
use Rattle.lines.proofs.Demands as Lines
use Rattle.lines.proofs.Ends.{end-within, lines_none, rest-none}
use Rattle.report.specs.Saying.{said, all_said}
use Rattle.report.specs.Calls.{LINE_LENGTH, Foremost}
use Rattle.report.proofs.Says.{said-short, said_clip}
use Rattle.report.proofs.Pieces.{all_none, all_append, all_one, all_short, text-short, foremost_put}

-- at bytes of it are taken: these lines ended, and of the line begun behind them the first bytes are held
pub record Spoken (piece first : List ℕ) (old line out : List ℕ) (at begun used : ℕ) : Type 0 where
  pub lined : length line ≡ LINE_LENGTH
  pub ended : List (List ℕ)
  pub head : List ℕ
  pub within : at ≤ length piece
  pub short : begun ≤ LINE_LENGTH
  pub held : take begun line ≡ take LINE_LENGTH head
  pub lines : lines_from first piece ≡ ended ++ lines_from head (drop at piece)
  pub rest : rest_from first piece ≡ rest_from head (drop at piece)
  pub wrote : out ≡ placed old 0 (all_said ended)
  pub count : used ≡ length (all_said ended)
  pub few : length ended ≤ at

pub spoken_start : {piece line₀ old : List ℕ} {begun : ℕ} → length line₀ ≡ LINE_LENGTH → begun ≤ LINE_LENGTH
    → Spoken piece (take begun line₀) old line₀ old 0 begun 0
spoken_start {piece} {line₀} {old} {begun} lined short = record {
  lined = lined;
  ended = [];
  head = take begun line₀;
  within = omega arith;
  short = short;
  held = sym (take_all LINE_LENGTH (take begun line₀) (omega (arith, length-take begun line₀)));
  lines = refl;
  rest = refl;
  wrote = sym (ap (placed old 0) all_none ∙ placed-fits old 0 [] (omega arith));
  count = sym (ap length all_none);
  few = omega arith;
}

-- what `gather` gave of the bytes of a piece from a place on
pub record Part (piece line : List ℕ) (at begun : ℕ) (g : Gathered) (line' : List ℕ) : Type 0 where
  pub below : at < length piece
  pub answers : g ≡ gathering line begun (take (length piece - at) (drop at piece))
  pub writes : line' ≡ gathered_line line begun (take (length piece - at) (drop at piece))

module _ {piece first old line out : List ℕ} {at begun used : ℕ}
    (s : Spoken piece first old line out at begun used) where
  pub out-length : length out ≡ length old
  out-length = ap length s.wrote ∙ placed-length old 0 (all_said s.ended)

  -- what is said of one more line fits
  pub next_fits : at < length piece → 16 * length piece + 16 ≤ length old → used + 16 ≤ length out
  next_fits h f = omega (arith, out-length, s.count, s.few, all_short s.ended)

  pub spoken_all : length piece ≤ at → 16 * length piece ≤ length old → Foremost used out (all_said (lines_from first piece))
      × (out ≡ placed old 0 (all_said (lines_from first piece)))
      × Foremost begun line (take LINE_LENGTH (rest_from first piece))
  spoken_all h fits =
      let none : drop at piece ≡ [] = drop_of_length-le piece {i = at} h in
      let e : lines_from first piece ≡ s.ended
      = s.lines ∙ ap (λ (z : List ℕ). s.ended ++ lines_from s.head z) none
      ∙ ap (λ (z : List (List ℕ)). s.ended ++ z) (lines_none s.head) ∙ append-nil s.ended in
      let r : rest_from first piece ≡ s.head = s.rest ∙ ap (rest_from s.head) none ∙ rest-none s.head in
      let put = s.wrote ∙ ap (λ (z : List (List ℕ)). placed old 0 (all_said z)) (sym e) in
      let count = s.count ∙ ap (λ (z : List (List ℕ)). length (all_said z)) (sym e) in
      let within : begun ≤ length line = omega (arith, s.short, s.lined) in (
        foremost_put old (all_said (lines_from first piece)) (omega (arith, text-short first piece)) count put,
        put,
        record { within = within; counts = sym (length-take-le begun line within); is = s.held ∙ ap (take LINE_LENGTH) (sym r) },
      )

  -- the part from at on is gathered
  pub part : {line' : List ℕ} {g : Gathered} → at < length piece
      → (g ≡ gathering line begun (take (length piece - at) (drop at piece)))
      × (line' ≡ gathered_line line begun (take (length piece - at) (drop at piece)))
      → Part piece line at begun g line'
  part h e = record { below = h; answers = e.0; writes = e.1 }

  module _ {g : Gathered} {line' : List ℕ} (got : Part piece line at begun g line') where
    abbrev p : List ℕ
    p = drop at piece

    is-rest : take (length piece - at) (drop at piece) ≡ p
    is-rest = take_all (length piece - at) (drop at piece) (omega (arith, length-drop at piece))

    gives : g ≡ gathering line begun p
    gives = got.answers ∙ ap (gathering line begun) is-rest

    gave : line' ≡ gathered_line line begun p
    gave = got.writes ∙ ap (gathered_line line begun) is-rest

    rest-length : length p ≡ length piece - at
    rest-length = length-drop at piece

    counted : g.held ≡ length (line_with line begun p)
    unfolding gathering
    counted = ap (λ (z : Gathered). z.held) gives

    flag : g.ended ≡ ltb (line_end p) (length p)
    unfolding gathering
    flag = ap (λ (z : Gathered). z.ended) gives

    moved : g.taken ≡ cond (ltb (line_end p) (length p)) (line_end p + 1) (line_end p)
    unfolding gathering
    moved = ap (λ (z : Gathered). z.taken) gives

    -- the line so far, whole
    abbrev pub whole : List ℕ
    whole = s.head ++ take (line_end p) p

    kept : line_with line begun p ≡ take LINE_LENGTH whole
    kept = Lines.held_after line s.head begun p (s.held ∙ ap (λ (k : ℕ). take k s.head) (sym s.lined))
        ∙ ap (λ (k : ℕ). take k whole) s.lined

    pub line-length : length line' ≡ LINE_LENGTH
    line-length = ap length gave ∙ omega (
      arith,
      s.lined,
      length-append (line_with line begun p) (drop (length (line_with line begun p)) line),
      length-drop (length (line_with line begun p)) line,
      ap length kept,
      length-take LINE_LENGTH whole,
    )

    pub held-short : g.held ≤ LINE_LENGTH
    held-short = omega (arith, counted, ap length kept, length-take LINE_LENGTH whole)

    pub front : take g.held line' ≡ take LINE_LENGTH whole
    front =
        let n = length (line_with line begun p) in
        ap₂ take counted gave ∙ take_at (line_with line begun p) (drop n line) n refl ∙ kept

    taken-line : g.ended ≡ true → (line_end p < length p) × (g.taken ≡ line_end p + 1)
    taken-line e =
        let t : ltb (line_end p) (length p) ≡ true = sym flag ∙ e in
        (ltb-true (line_end p) (length p) t, moved ∙ at_true (ltb (line_end p) (length p)) (line_end p + 1) (line_end p) t)

    taken-all : g.ended ≡ false → (length p ≤ line_end p) × (g.taken ≡ line_end p)
    taken-all e =
        let t : ltb (line_end p) (length p) ≡ false = sym flag ∙ e in
        (ltb-false (line_end p) (length p) t, moved ∙ at-false (ltb (line_end p) (length p)) (line_end p + 1) (line_end p) t)

    pub taken-within : (0 < g.taken) × (at + g.taken ≤ length piece)
    taken-within = split g.ended
        (λ e. (omega (arith, (taken-line e).1), omega (arith, (taken-line e).0, (taken-line e).1, rest-length)))
        (λ e. (omega (arith, (taken-all e).0, (taken-all e).1, rest-length), omega (arith, (taken-all e).1, end-within p, rest-length)))

    behind-part : (k : ℕ) → drop k p ≡ drop (at + k) piece
    behind-part k = drop-drop k at piece

    -- the line ended, and is answered
    pub spoken_line : {out' : List ℕ} {used' : ℕ} → g.ended ≡ true → 16 * length piece + 16 ≤ length old
        → used' ≡ used + length (said (take g.held line')) → out' ≡ placed out used (said (take g.held line'))
        → Spoken piece first old line' out' (at + g.taken) 0 used'
    spoken_line e f u w =
        let said-is : said (take g.held line') ≡ said whole = ap said front ∙ said_clip whole in
        let more : all_said (s.ended ++ (whole ∷ [])) ≡ all_said s.ended ++ said whole
        = all_append s.ended (whole ∷ []) ∙ ap (λ (z : List ℕ). all_said s.ended ++ z) (all_one whole) in
        let past : drop (line_end p + 1) p ≡ drop (at + g.taken) piece
        = behind-part (line_end p + 1) ∙ ap (λ (k : ℕ). drop (at + k) piece) (sym (taken-line e).1) in
        let first-line = Lines.line-ended s.head p (taken-line e).0 in
        record {
          lined = line-length;
          ended = s.ended ++ (whole ∷ []);
          head = [];
          within = taken-within.1;
          short = omega arith;
          held = refl;
          lines = s.lines
              ∙ ap (λ (z : List (List ℕ)). s.ended ++ z) (first-line.0 ∙ ap (λ (z : List ℕ). whole ∷ lines_from [] z) past)
              ∙ sym (append_assoc s.ended (whole ∷ []) (lines_from [] (drop (at + g.taken) piece)));
          rest = s.rest ∙ first-line.1 ∙ ap (rest_from []) past;
          wrote = w ∙ ap₂ (λ (y z : List ℕ). placed y used z) s.wrote said-is
              ∙ placed-placed old 0 (all_said s.ended) used (said whole)
              (omega (arith, s.few, all_short s.ended, said-short whole)) (omega (arith, s.count))
              ∙ ap (placed old 0) (sym more);
          count = u ∙ omega (arith, s.count, ap length said-is, ap length more, length-append (all_said s.ended) (said whole));
          few = omega (arith, s.few, length-append s.ended (whole ∷ []), taken-within.0);
        }

    -- the line goes on behind the piece
    pub spoken_on : g.ended ≡ false → Spoken piece first old line' out (at + g.taken) g.held used
    spoken_on e =
        let whole_part : whole ≡ s.head ++ p = ap (λ (z : List ℕ). s.head ++ z) (take_all (line_end p) p (taken-all e).0) in
        let none : drop (at + g.taken) piece ≡ []
        = drop_of_length-le piece {i = at + g.taken} (omega (arith, (taken-all e).0, (taken-all e).1, rest-length)) in
        let no_line = Lines.line-goes-on s.head p (taken-all e).0 in
        record {
          lined = line-length;
          ended = s.ended;
          head = whole;
          within = taken-within.1;
          short = held-short;
          held = front;
          lines = s.lines
              ∙ ap (λ (z : List (List ℕ)). s.ended ++ z) (no_line.0 ∙ sym (ap (lines_from whole) none ∙ lines_none whole));
          rest = s.rest ∙ no_line.1 ∙ sym whole_part ∙ sym (ap (rest_from whole) none ∙ rest-none whole);
          wrote = s.wrote;
          count = s.count;
          few = omega (arith, s.few);
        }
