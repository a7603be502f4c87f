-- Chunks that `plain_chunks` passed over, as steps of the reader.
use mathlib.Core.Path.{◌≡◌, refl, sym, ◌∙◌, ap, ap₂, subst}
use mathlib.Core.List.{List}
use Prim.Native.Nat.{ℕ, ◌+◌, ◌≤◌}
use native.Mathlib.Omega.{arith}
use lib.ListN.{length, take}
use lib.Seq.{length-take-le}
use Rattle.text.specs.Placing.{placed}
use Rattle.framing.specs.declared.LinePos.TheVariants.{First}
use Rattle.framing.specs.declared.State.TheVariants.{Line}
use Rattle.framing.specs.helpers.Machine.{step, emit}
use Rattle.framing.specs.helpers.Scan.{out}
use Rattle.framing.proofs.Passing as Framing
use Rattle.plain_chunks.specs.declared.Run.{Run}
use Rattle.plain_chunks.specs.helpers.Runs as Plain
use Rattle.plain_chunks.proofs.Chunks.{passes}
use Rattle.pieces.specs.Grammar.{FRAMED_LIMIT}
use Rattle.pieces.specs.Reading.{filled}
use Rattle.pieces.specs.declared.Pieces.{Pieces}
use Rattle.pieces.specs.helpers.Runs.{Going, Passed}
use Rattle.pieces.proofs.Passing as Passing

pub chunks-passed : (s : Pieces) {bytes old new : List ℕ} {t : ℕ} (r : Run) → Going s old → s.position ≡ Line First 0 t
    → s.taken + length bytes ≤ FRAMED_LIMIT → Plain.Passed t bytes old r new
    → Passed s bytes old (record { position = Plain.stands r; taken = s.taken + r.taken; room = s.room; refused = 0 }) new
unfolding filled
chunks-passed s {bytes} {old} {new} {t} r g e w h =
    let k : length (take r.taken bytes) ≡ r.taken = length-take-le r.taken bytes h.inside in
    let d : List ℕ = out step emit (Line First 0 t) (take r.taken bytes) in
    let p : Framing.Passes s.room (Line First 0 t) (take r.taken bytes) d (Plain.stands r)
    = subst (λ (n : ℕ). Framing.Passes n (Line First 0 t) (take r.taken bytes) d (Plain.stands r)) g.lent (passes h) in
    let u = Passing.runs s g.going e p (omega (arith, h.inside)) in
    record {
      count = r.taken;
      inside = h.inside;
      taken = refl;
      state = ap (λ (c : ℕ). record { position = Plain.stands r; taken = s.taken + c; room = s.room; refused = 0 }) (sym k) ∙ sym u.state;
      wrote = h.wrote ∙ ap₂ (λ (i : ℕ) (d : List ℕ). placed old i d) (ap filled (sym e)) (sym u.given);
    }
