-- Chunks that lie whole in the bytes, passed over one behind the other.
use mathlib.Core.Path.{◌≡◌, refl, sym, ◌∙◌, ap, subst}
use mathlib.Core.Bool.{Bool, true, false, cond}
use mathlib.Core.List.{List, [], ◌∷◌, ◌++◌, append-nil}
use Prim.Native.Nat.{ℕ, ◌+◌, ◌-◌, ◌≤◌}
use native.Mathlib.Omega.{arith}
use lib.Dec.{eqb}
use lib.ListN.{length, take, drop, length-drop, take-append-drop}
use lib.Seq.{take-add, drop-drop, length-take-le}
use borrow.Author.Tests.{ne_eqb}
use Rattle.numerals.proofs.Digits.{at-false}
use Rattle.text.specs.Placing.{placed, fits}
use Rattle.text.proofs.Placing.{Put, put-none, put_then, behind-fits, placed-length}
use Rattle.framing.specs.declared.LinePos.TheVariants.{First}
use Rattle.framing.specs.declared.State.{State}
use Rattle.framing.specs.declared.State.TheVariants.{Line, Data}
use Rattle.framing.specs.helpers.Machine.{step, emit}
use Rattle.framing.specs.helpers.Scan.{out}
use Rattle.framing.proofs.Passing as Framing
use Rattle.framing.proofs.Turns.{quiet-first}
use Rattle.chunked.specs.helpers.Passes.{CrlfAt}
use Rattle.size_lines.specs.helpers.Lines.{PlainSize}
use Rattle.size_lines.proofs.PlainLines.{take-crlf}
use Rattle.plain_chunks.specs.declared.Run.{Run}
use Rattle.plain_chunks.specs.helpers.Runs.{stands, Passed}

-- nothing is placed
pub placed-none : (old : List ℕ) (at : ℕ) → placed old at [] ≡ old
unfolding placed
placed-none old at = go (fits old at [])
  where
    go : (t : Bool) → cond t (take at old ++ ([] ++ drop (at + 0) old)) old ≡ old
    go true =
        let z : at + 0 ≡ at = omega arith in
        ap (λ (n : ℕ). take at old ++ drop n old) z ∙ take-append-drop at old
    go false = refl

-- over one
chunk-passes : (room : ℕ) {bytes : List ℕ} {t v n : ℕ} → t ≤ room → PlainSize bytes (room - t) v n → CrlfAt bytes (n + v)
    → Framing.Octets (take v (drop n bytes))
    → Framing.Passes room (Line First 0 t) (take (n + v + 2) bytes) (take v (drop n bytes)) (Line First 0 (t + v))
chunk-passes room {bytes} {t} {v} {n} le l c o =
    let x : List ℕ = take v (drop n bytes) in
    let k : length x ≡ v = length-take-le v (drop n bytes) (omega (arith, c.inside, length-drop n bytes)) in
    let f : t + v ≤ room = omega (arith, l.fits) in
    let all : List ℕ = ((l.text ++ (13 ∷ 10 ∷ [])) ++ x) ++ (13 ∷ 10 ∷ []) in
    let cut : take (n + v + 2) bytes ≡ all
    = take-crlf bytes (n + v) c.inside c.cr c.lf
    ∙ ap (λ (z : List ℕ). z ++ (13 ∷ 10 ∷ [])) (take-add n v bytes ∙ ap (λ (z : List ℕ). z ++ x) l.split) in
    let p : Framing.Passes room (Line First 0 t) all (x ++ []) (Line First 0 (t + v))
    = Framing.passes_then
    (Framing.passes_then (Framing.passes-size t l.line l.some l.short f)
    (Framing.passes_data x (v - 1) (t + v) o (omega (arith, l.some))))
    (Framing.passes-crlf (t + v)) in
    subst (λ (z : List ℕ). Framing.Passes room (Line First 0 t) z x (Line First 0 (t + v))) (sym cut)
    (subst (λ (d : List ℕ). Framing.Passes room (Line First 0 t) all d (Line First 0 (t + v))) (append-nil x) p)

-- over the first `at` of the bytes, from a line behind t bytes of data to one behind `total`; their data is put behind the data so far
pub record Chunks (room : ℕ) (bytes old : List ℕ) (t at total : ℕ) (new : List ℕ) : Type 0 where
  pub inside : at ≤ length bytes
  pub given : List ℕ
  pub passes : Framing.Passes room (Line First 0 t) (take at bytes) given (Line First 0 total)
  pub put : Put old t given new total

pub chunks-none : (room : ℕ) {bytes old : List ℕ} {t : ℕ} → t ≤ length old → Chunks room bytes old t 0 t old
chunks-none room {bytes} {old} {t} h = record {
  inside = omega arith;
  given = [];
  passes = Framing.passes_none (Line First 0 t) (quiet-first room t);
  put = put-none old t h;
}

module _ {room : ℕ} {bytes old : List ℕ} {t at total : ℕ} {new : List ℕ} (lent : length old ≡ room)
    (h : Chunks room bytes old t at total new) where
  pub total-fits : total ≤ room
  total-fits = omega (arith, h.put.fits, h.put.ends)

  pub chunks-on : Framing.Octets bytes → {v n : ℕ} {new' : List ℕ} → PlainSize (drop at bytes) (room - total) v n
      → CrlfAt (drop at bytes) (n + v) → new' ≡ placed new total (take v (drop (at + n) bytes))
      → Chunks room bytes old t (at + n + v + 2) (total + v) new'
  chunks-on o {v} {n} {new'} l c w =
      let ys : List ℕ = drop at bytes in
      let x : List ℕ = take v (drop n ys) in
      let same : drop (at + n) bytes ≡ drop n ys = sym (drop-drop n at bytes) in
      let k : length x ≡ v = length-take-le v (drop n ys) (omega (arith, c.inside, length-drop n ys)) in
      let m : length new ≡ length old = ap length h.put.is ∙ placed-length old t h.given in
      let far : at + n + v + 2 ≡ at + (n + v + 2) = omega arith in
      record {
        inside = omega (arith, c.inside, length-drop at bytes, h.inside);
        given = h.given ++ x;
        passes = subst (λ (z : List ℕ). Framing.Passes room (Line First 0 t) z (h.given ++ x) (Line First 0 (total + v)))
            (sym (ap (λ (i : ℕ). take i bytes) far ∙ take-add at (n + v + 2) bytes))
            (Framing.passes_then h.passes (chunk-passes room total-fits l c
            (subst (λ (z : List ℕ). Framing.Octets (take v z)) same (Framing.octets_part (at + n) v bytes o))));
        put = put_then old t h.given new total x new' (total + v) h.put
            (omega (arith, h.put.fits, h.put.ends, l.fits, total-fits))
            (sym (behind-fits new total x (omega (arith, l.fits, total-fits)) ∙ ap (λ (i : ℕ). total + i) k))
            (w ∙ ap (λ (z : List ℕ). placed new total (take v z)) same);
      }

-- to p, all in all
passed_by : {bytes old new given : List ℕ} {t : ℕ} (r : Run) → r.taken ≤ length bytes
    → Framing.Passes (length old) (Line First 0 t) (take r.taken bytes) given (stands r) → new ≡ placed old t given
    → Passed t bytes old r new
passed_by {old = old} {t = t} r h p w = record {
  inside = h;
  ends = p.goes.ends;
  quiet = p.quiet;
  wrote = w ∙ ap (placed old t) (sym p.goes.gives);
}

-- no byte
pub none_passed : {bytes old : List ℕ} (t : ℕ) → Passed t bytes old (record { taken = 0; total = t; size = 0 }) old
none_passed {old = old} t =
    passed_by (record { taken = 0; total = t; size = 0 }) (omega arith) (Framing.passes_none (Line First 0 t) (quiet-first (length old) t)) (sym (placed-none old t))

-- behind them
pub chunks-passed : {bytes old new : List ℕ} {t at total : ℕ} → Chunks (length old) bytes old t at total new
    → Passed t bytes old (record { taken = at; total = total; size = 0 }) new
chunks-passed {at = at} {total = total} h = passed_by (record { taken = at; total = total; size = 0 }) h.inside h.passes h.put.is

-- behind them and the line of the next
pub begun-passed : {bytes old new : List ℕ} {t at total v n : ℕ} → Chunks (length old) bytes old t at total new
    → PlainSize (drop at bytes) (length old - total) v n
    → Passed t bytes old (record { taken = at + n; total = total + v; size = v }) new
begun-passed {bytes} {old} {new} {t} {at} {total} {v} {n} h l =
    let room : ℕ = length old in
    let to : State = Data (v - 1) (total + v) in
    let inside : at + n ≤ length bytes = omega (arith, h.inside, l.inside, length-drop at bytes) in
    let line : Framing.Passes room (Line First 0 total) (take n (drop at bytes)) [] to
    = subst (λ (z : List ℕ). Framing.Passes room (Line First 0 total) z [] to) (sym l.split)
    (Framing.passes-size total l.line l.some l.short (omega (arith, l.fits, total-fits refl h))) in
    let p : Framing.Passes room (Line First 0 t) (take (at + n) bytes) h.given to
    = subst (λ (z : List ℕ). Framing.Passes room (Line First 0 t) z h.given to) (sym (take-add at n bytes))
    (subst (λ (d : List ℕ). Framing.Passes room (Line First 0 t) (take at bytes ++ take n (drop at bytes)) d to)
    (append-nil h.given) (Framing.passes_then h.passes line)) in
    passed_by (record { taken = at + n; total = total + v; size = v }) inside
    (subst (Framing.Passes room (Line First 0 t) (take (at + n) bytes) h.given)
    (sym (at-false (eqb v 0) (Line First 0 (total + v)) to (ne_eqb v 0 (λ e. absurd (omega (arith, l.some)))))) p) h.put.is

-- as the machine does
pub passes : {t : ℕ} {bytes old new : List ℕ} {r : Run} → Passed t bytes old r new
    → Framing.Passes (length old) (Line First 0 t) (take r.taken bytes) (out step emit (Line First 0 t) (take r.taken bytes)) (stands r)
passes h = record { goes = record { ends = h.ends; gives = refl }; quiet = h.quiet }
