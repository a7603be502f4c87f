-- Runs of bytes that the code passes over at once, as steps of the reader.
use mathlib.Core.Path.{◌≡◌, refl, sym, ◌∙◌, ap, ap₂, subst}
use mathlib.Core.Bool.{false}
use mathlib.Core.List.{List, [], ◌∷◌, ◌++◌, append-nil}
use mathlib.Core.Option.{Option, none, some}
use Prim.Native.Nat.{ℕ, suc, ◌+◌, ◌-◌, ◌≤◌}
use native.Mathlib.Omega.{arith}
use lib.ListN.{length, get_or, take}
use lib.Seq.{length-take-le}
use Rattle.grammar.specs.Refusals.{FRAMED_TOO_LONG}
use Rattle.text.specs.Placing.{placed}
use Rattle.framing.specs.Grammar.{limits}
use Rattle.framing.specs.declared.LinePos.TheVariants.{First}
use Rattle.framing.specs.declared.State.{State}
use Rattle.framing.specs.declared.State.TheVariants.{Line, Data, DataCr}
use Rattle.framing.specs.Reading.{judge}
use Rattle.framing.specs.helpers.Machine.{End, machine, step, emit, tell}
use Rattle.framing.specs.helpers.Scan.{Verdict, ended, refusal}
use Rattle.framing.proofs.Counting.{judged-passed}
use Rattle.framing.proofs.Counting.{passed as beyond}
use Rattle.framing.proofs.Passing as Framing
use Rattle.pieces.specs.Grammar.{FRAMED_LIMIT}
use Rattle.pieces.specs.Reading.{judged, over?, advance, steps, gathered, filled}
use Rattle.pieces.specs.declared.Pieces.{Pieces}
use Rattle.pieces.specs.helpers.Runs.{Sound, Going, Ran, Passed, Idle}
use Rattle.size_lines.proofs.PlainLines.{take-crlf}
use Rattle.plain_chunks.proofs.Chunks.{placed-none}
use Rattle.framing.proofs.Rooms.{Fits}
use Rattle.pieces.proofs.Possible.{Counts, Stands, possible-stands}
use Rattle.pieces.proofs.Steps.{not-over-says, led, Turn, goes, stops, turn, gathered-onward, gathered_none}
use Rattle.pieces.proofs.Steps.{refusal-refuses, passes}

-- over the bytes xs, with no verdict on the way, to p
pub record Run (s : Pieces) (xs d : List ℕ) (p : State) : Type 0 where
  pub state : advance s xs ≡ record { position = p; taken = s.taken + length xs; room = s.room; refused = 0 }
  pub given : gathered s xs ≡ d

module _ (s : Pieces) (o : over? s ≡ false) where
  pub runs : {xs d : List ℕ} {q p : State} → s.position ≡ q → Framing.Passes s.room q xs d p → s.taken + length xs ≤ FRAMED_LIMIT
      → Run s xs d p
  runs {xs} {d} {q} {p} e f h =
      let f' : Framing.Passes s.room s.position xs d p
      = subst (λ (z : State). Framing.Passes s.room z xs d p) (sym e) f in
      let r = passes s xs f'.quiet h (not-over-says s o).0 in
      record {
        state = r.state
            ∙ ap (λ (z : State). record { position = z; taken = s.taken + length xs; room = s.room; refused = 0 }) f'.goes.ends;
        given = r.given ∙ f'.goes.gives;
      }

-- no byte is passed
pub ran_none : (s : Pieces) (bytes : List ℕ) → Ran s bytes s
unfolding advance steps
ran_none s bytes = record { count = 0; inside = omega arith; taken = omega arith; state = refl; none = refl }

-- ## What the numbers of a state say
module _ (s : Pieces) (d : Sound s) where
  pub data_left : {m t : ℕ} → s.position ≡ Data m t → (suc m ≤ t) × (t ≤ s.room)
  unfolding Counts Fits
  data_left {m} {t} e =
      let w : Stands s.room (Data m t)
      = subst (Stands s.room) e (possible-stands s.room s.position d.stands) in
      (w.counts, w.fits)

-- ## Data
-- behind so many bytes, at p
abbrev behind : Pieces → State → ℕ → Pieces
behind s p k = record { position = p; taken = s.taken + k; room = s.room; refused = 0 }

-- the first n of the bytes are data
module _ (s : Pieces) (bytes : List ℕ) (n : ℕ) {old new : List ℕ} {m t : ℕ} (g : Going s old) (e : s.position ≡ Data m t)
    (within : s.taken + length bytes ≤ FRAMED_LIMIT) (octets : Framing.Octets bytes) (inside : n ≤ length bytes)
    (wrote : new ≡ placed old (t - m - 1) (take n bytes)) where
  taken-front : length (take n bytes) ≡ n
  taken-front = length-take-le n bytes inside

  front : t - m - 1 ≡ filled s.position
  unfolding filled
  front = let z : t - m - 1 ≡ t - suc m = omega arith in z ∙ ap filled (sym e)

  passed_by : {k : ℕ} {p : State} → k ≤ length bytes → Run s (take k bytes) (take n bytes) p → Passed s bytes old (behind s p k) new
  passed_by {k} {p} h r = record {
    count = k;
    inside = h;
    taken = refl;
    state = ap (behind s p) (sym (length-take-le k bytes h)) ∙ sym r.state;
    wrote = wrote ∙ ap₂ (λ (at : ℕ) (d : List ℕ). placed old at d) front (sym r.given);
  }

  pub part-passed : n ≤ m → Passed s bytes old (behind s (Data (m - n) t) n) new
  part-passed h =
      passed_by inside (runs s g.going e
      (subst (λ (c : ℕ). Framing.Passes s.room (Data m t) (take n bytes) (take n bytes) (Data (m - c) t)) taken-front
      (Framing.passes-part (take n bytes) m t (Framing.octets_take n bytes octets) (omega (arith, taken-front))))
      (omega (arith, taken-front)))

  module _ (all : n ≡ suc m) where
    data_passes : Framing.Passes s.room (Data m t) (take n bytes) (take n bytes) (DataCr t)
    data_passes = Framing.passes_data (take n bytes) m t (Framing.octets_take n bytes octets) (omega (arith, taken-front))

    pub data_passed : Passed s bytes old (behind s (DataCr t) n) new
    data_passed = passed_by inside (runs s g.going e data_passes (omega (arith, taken-front)))

    pub chunk-passed : n + 2 ≤ length bytes → get_or bytes n 0 ≡ 13 → get_or bytes (n + 1) 0 ≡ 10
        → Passed s bytes old (behind s (Line First 0 t) (n + 2)) new
    chunk-passed h cr lf =
        let f : Framing.Passes s.room (Data m t) (take (n + 2) bytes) (take n bytes) (Line First 0 t)
        = subst (λ (z : List ℕ). Framing.Passes s.room (Data m t) z (take n bytes) (Line First 0 t))
        (sym (take-crlf bytes n h cr lf))
        (subst (λ (z : List ℕ). Framing.Passes s.room (Data m t) (take n bytes ++ (13 ∷ 10 ∷ [])) z (Line First 0 t))
        (append-nil (take n bytes)) (Framing.passes_then data_passes (Framing.passes-crlf t))) in
        passed_by h (runs s g.going e f (omega (arith, length-take-le (n + 2) bytes h)))

-- no data, nothing written
pub ran_passed : {s r : Pieces} {bytes : List ℕ} (old : List ℕ) → Ran s bytes r → Passed s bytes old r old
ran_passed {s} old p = record {
  count = p.count;
  inside = p.inside;
  taken = p.taken;
  state = p.state;
  wrote = sym (ap (placed old (filled s.position)) p.none ∙ placed-none old (filled s.position));
}

-- ## No data that is taken
pub idle_by : (s : Pieces) → ((b : ℕ) → emit s.position b ≡ []) → Idle s
unfolding steps
idle_by s h b = go (turn s b)
  where
    go : Turn s b → gathered s (b ∷ []) ≡ []
    go (goes o k e) = gathered-onward s b o e [] ∙ ap (λ (d : List ℕ). d ++ []) (h b)
    go (stops n l v a k) = gathered_none s (b ∷ []) (k [])

-- the byte behind the limit on a framed body is refused, whatever it is
pub idle_full : (s : Pieces) → over? s ≡ false → s.taken ≡ FRAMED_LIMIT → Idle s
unfolding judge
idle_full s o e b =
    let v = judge s.room (step s.position b) in
    let h : judged s b ≡ some (beyond FRAMED_TOO_LONG v)
    = judged-passed FRAMED_TOO_LONG FRAMED_LIMIT machine tell limits (λ a. absurd (omega arith)) s.room (led s b) (ap suc e) in
    go v h
  where
    go : (v : Option (Verdict End)) → judged s b ≡ some (beyond FRAMED_TOO_LONG v) → gathered s (b ∷ []) ≡ []
    go none h = (refusal-refuses s b o FRAMED_TOO_LONG h).given
    go (some (ended t)) h = (refusal-refuses s b o FRAMED_TOO_LONG h).given
    go (some (refusal n)) h = (refusal-refuses s b o n h).given
