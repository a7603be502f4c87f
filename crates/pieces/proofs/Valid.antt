-- What the machine's step as code says of the next byte, and what a valid call gives.
use mathlib.Core.Path.{◌≡◌, refl, sym, ◌∙◌, ap, ap₂}
use mathlib.Core.Bool.{Bool, true, cond}
use mathlib.Core.List.{List}
use mathlib.Core.Option.{Option, none, some}
use Prim.Native.Nat.{ℕ, suc, ◌+◌, ◌-◌, ◌≤◌, min}
use native.Mathlib.Decide.{ℕ_discrete, dec_le}
use native.Mathlib.Numerals.{add-one}
use native.Mathlib.Omega.{arith}
use lib.ListN.{length, take}
use lib.Seq.{take_all}
use Rattle.std.proofs.Common.{Some, None}
use Rattle.grammar.specs.Reading as Grammar
use Rattle.grammar.specs.Refusals.{OUT_OF_RANGE, FRAMED_TOO_LONG}
use Rattle.text.specs.Placing.{placed}
use Rattle.framing.specs.Answer.{refused}
use Rattle.framing.proofs.Cases.{pick_true}
use Rattle.framing.specs.Grammar.{limits}
use Rattle.framing.specs.Reading.{judge}
use Rattle.framing.specs.declared.State.{State}
use Rattle.framing.specs.helpers.Machine.{End, machine, step, tell}
use Rattle.framing.specs.helpers.Scan.{Verdict, ended, refusal}
use Rattle.framing.proofs.Counting.{judged-passed}
use Rattle.framing.proofs.Counting.{passed as beyond}
use Rattle.transition.specs.Moving.{by_verdict, transition}
use Rattle.pieces.specs.Grammar.{FRAMED_LIMIT}
use Rattle.pieces.specs.Reading.{judged, next, valid, answer_of, advance, steps, gathered, filled}
use Rattle.pieces.specs.Reading.{state_after, taken_by, answered, output_after}
use Rattle.pieces.specs.declared.Pieces.{Pieces}
use Rattle.pieces.specs.helpers.Runs.{Sound}
use Rattle.pieces.proofs.Steps.{advance-taken, led, onward, turned, next-none, next-ended, next-refused, judged-below}

-- ## The next byte
module _ (s : Pieces) (b : ℕ) (d : Sound s) where
  abbrev verdict : Option (Verdict End)
  verdict = judge s.room (step s.position b)

  by_step : transition s.room s.position b ≡ Some (by_verdict verdict (step s.position b))
  unfolding transition
  by_step = ap (λ (t : Bool). cond t (Some (by_verdict verdict (step s.position b))) None) d.stands

  told_by : {r : Grammar.Verdict State} → transition s.room s.position b ≡ Some r → by_verdict verdict (step s.position b) ≡ r
  told_by {r} e = let z : Some (by_verdict verdict (step s.position b)) ≡ Some r = sym by_step ∙ e in cc

  pub never_impossible : {A : Type 0} → transition s.room s.position b ≡ None → A
  never_impossible e =
      let z : Some (by_verdict verdict (step s.position b)) ≡ None = sym by_step ∙ e in
      let z : ◌≡◌ {A = ℕ} 0 1 = cc in absurd (omega arith)

  at-limit : s.taken ≡ FRAMED_LIMIT → judged s b ≡ some (beyond FRAMED_TOO_LONG verdict)
  unfolding judge
  at-limit e =
      judged-passed FRAMED_TOO_LONG FRAMED_LIMIT machine tell limits (λ a. absurd (omega arith)) s.room (led s b) (ap suc e)

  -- it is taken, within the limit on a framed body
  pub next-to : {p : State} → transition s.room s.position b ≡ Some (Grammar.value p) → (s.taken ≡ FRAMED_LIMIT → ⊥)
      → record { position = p; taken = s.taken + 1; room = s.room; refused = 0 } ≡ next s b
  next-to {p} e below =
      let j : judged s b ≡ verdict = judged-below s b (omega (arith, d.within, below)) in
      let w = go verdict refl (told_by e) in
      ap₂ (λ (q : State) (n : ℕ). record { position = q; taken = n; room = s.room; refused = 0 }) w.0 (add-one s.taken) ∙ sym (w.1 j)
    where
      go : (v : Option (Verdict End)) → verdict ≡ v → by_verdict v (step s.position b) ≡ Grammar.value p
          → (p ≡ step s.position b) × (judged s b ≡ verdict → next s b ≡ onward s b)
      go none f h = let z : step s.position b ≡ p = cc in (sym z, λ j. next-none s b (j ∙ f))
      go (some (ended t)) f h = let z : step s.position b ≡ p = cc in (sym z, λ j. next-ended s b t (j ∙ f))
      go (some (refusal n)) f h = let z : ◌≡◌ {A = ℕ} 0 1 = cc in absurd (omega arith)

  -- the byte behind the limit
  pub next-full : {p : State} → transition s.room s.position b ≡ Some (Grammar.value p) → s.taken ≡ FRAMED_LIMIT → turned s FRAMED_TOO_LONG ≡ next s b
  next-full {p} e full = sym (next-refused s b FRAMED_TOO_LONG (at-limit full ∙ go verdict (told_by e)))
    where
      go : (v : Option (Verdict End)) → by_verdict v (step s.position b) ≡ Grammar.value p
          → some (beyond FRAMED_TOO_LONG v) ≡ some (refusal FRAMED_TOO_LONG)
      go none h = refl
      go (some (ended t)) h = refl
      go (some (refusal n)) h = let z : ◌≡◌ {A = ℕ} 0 1 = cc in absurd (omega arith)

  -- it is refused
  pub next-turned : {n k : ℕ} → transition s.room s.position b ≡ Some (Grammar.refused n k) → turned s n ≡ next s b
  next-turned {n} {k} e = sym (next-refused s b n (by (ℕ_discrete s.taken FRAMED_LIMIT)))
    where
      go : (v : Option (Verdict End)) → by_verdict v (step s.position b) ≡ Grammar.refused n k → v ≡ some (refusal n)
      go none h = let z : ◌≡◌ {A = ℕ} 0 1 = cc in absurd (omega arith)
      go (some (ended t)) h = let z : ◌≡◌ {A = ℕ} 0 1 = cc in absurd (omega arith)
      go (some (refusal m)) h = let z : m ≡ n = cc in ap (λ (j : ℕ). some (refusal j)) z

      by : Dec (s.taken ≡ FRAMED_LIMIT) → judged s b ≡ some (refusal n)
      by (yes full) = at-limit full ∙ ap (λ (v : Option (Verdict End)). some (beyond FRAMED_TOO_LONG v)) (go verdict (told_by e))
      by (no below) = judged-below s b (omega (arith, d.within, below)) ∙ go verdict (told_by e)

-- ## A valid call
-- the smaller of quota and piece length: the bytes that are offered
pub offered-part : (piece : List ℕ) (quota n : ℕ) → n ≡ min quota (length piece) → take n piece ≡ take quota piece
offered-part piece quota n e = go (dec_le quota (length piece))
  where
    go : Dec (quota ≤ length piece) → take n piece ≡ take quota piece
    go (yes h) = let z : n ≡ quota = omega arith in ap (λ (k : ℕ). take k piece) z
    go (no h) = take_all n piece (omega arith) ∙ sym (take_all quota piece (omega arith))

-- what is answered of it, and written
pub record Fed (s : Pieces) (piece : List ℕ) (quota : ℕ) (old : List ℕ) (r : Pieces) (new : List ℕ) : Type 0 where
  pub state : r ≡ state_after s piece quota (length old)
  pub taken : r.taken - s.taken ≡ taken_by s piece quota (length old)
  pub answer : answer_of r ≡ answered s piece quota (length old)
  pub wrote : new ≡ output_after s piece quota old

pub feeds : (s : Pieces) (piece : List ℕ) (quota : ℕ) (old : List ℕ) {r : Pieces} {new : List ℕ} → valid s quota (length old) ≡ true
    → r ≡ advance s (take quota piece) → new ≡ placed old (filled s.position) (gathered s (take quota piece)) → Fed s piece quota old r new
feeds s piece quota old {r} {new} v e w =
    let xs : List ℕ = take quota piece in
    let t : r.taken ≡ s.taken + steps s xs = ap (λ (z : Pieces). z.taken) e ∙ advance-taken s xs in
    let n : r.taken - s.taken ≡ steps s xs = omega arith in
    record {
      state = e ∙ pick_true (valid s quota (length old)) (advance s xs) s v;
      taken = n ∙ pick_true (valid s quota (length old)) (steps s xs) 0 v;
      answer = ap answer_of e ∙ pick_true (valid s quota (length old)) (answer_of (advance s xs)) (refused OUT_OF_RANGE 0) v;
      wrote = w ∙ pick_true (valid s quota (length old)) (placed old (filled s.position) (gathered s xs)) old v;
    }
