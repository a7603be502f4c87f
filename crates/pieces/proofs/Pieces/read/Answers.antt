-- `Pieces::read` meets its contract: what remains leads to where all of the bytes lead.
use native.Mathlib.Omega.{arith}
use mathlib.Core.Path.{◌≡◌, sym, ◌∙◌, subst}
use Prim.Native.Nat.{ℕ, ◌+◌, ◌-◌, ◌<◌, ◌≤◌}
use lib.ListN.{length, get_or, take, drop, length-take, length-drop}
use lib.Seq.{take_all}
use mathlib.Core.Bool.{false}
use mathlib.Core.List.{List}
use Rattle.pieces.specs.Reading.{next, over?}
use Rattle.pieces.specs.declared.Pieces.{Pieces}
use Rattle.pieces.specs.helpers.Runs.{Sound, Passed, Idle}
use Rattle.pieces.proofs.Rest.{Rest, left, rest-start, rest_over, rest_end, rest-on, rest_still, Onward, rest-next}
use Rattle.pieces.proofs.Pieces.read.Goals as goal

-- where the code stands in the bytes
abbrev at : Pieces → Pieces → ℕ
at s₀ s = s.taken - s₀.taken

-- behind the data of a chunk that has begun
begun : {s r : Pieces} {bytes old new : List ℕ} → Sound s × (length old ≡ s.room) → Passed s bytes old r new
    → Rest s 0 bytes old r new (at s r)
begun {s} {r} {bytes} {old} {new} x p =
    let n : 0 + p.count ≡ at s r = omega (arith, p.taken) in
    subst (Rest s 0 bytes old r new) n (rest-on (rest-start {i₀ = 0} (omega arith) x.0 x.1) p)

module _ {s₀ s t : Pieces} {bytes old new wrote : List ℕ} (least : s₀.taken ≤ s.taken) (r : Rest s₀ 0 bytes old s new (at s₀ s))
    (p : Passed s (take (length bytes - at s₀ s) (drop (at s₀ s) bytes)) new t wrote) where
  -- what `pass` did with the bytes that remain
  remaining : Passed s (drop (at s₀ s) bytes) new t wrote
  remaining =
      subst (λ (xs : List ℕ). Passed s xs new t wrote)
      (take_all (length bytes - at s₀ s) (drop (at s₀ s) bytes) (omega (arith, length-drop (at s₀ s) bytes))) p

  -- a run of some bytes
  run-on : Rest s₀ 0 bytes old t wrote (at s₀ t)
  run-on =
      let n : at s₀ s + remaining.count ≡ at s₀ t = omega (arith, remaining.taken) in
      subst (Rest s₀ 0 bytes old t wrote) n (rest-on r remaining)

  -- one byte
  one-on : {u : Pieces} → over? s ≡ false → at s₀ s < length bytes → t.taken ≤ s.taken
      → (0 < length (take (length bytes - at s₀ s) (drop (at s₀ s) bytes)) → t.taken ≤ s.taken → Idle s)
      → u ≡ next s (get_or bytes (at s₀ s) 0)
      → Onward s₀ 0 bytes old s wrote (at s₀ s) u
  one-on o lt h idle e =
      subst (Onward s₀ 0 bytes old s wrote (at s₀ s)) (sym e)
      (rest-next (rest_still r remaining h) o lt
      (idle (omega (arith, length-take (length bytes - at s₀ s) (drop (at s₀ s) bytes), length-drop (at s₀ s) bytes)) h))

-- where that leads
onward : {s₀ s u : Pieces} {bytes old wrote : List ℕ} → s₀.taken ≤ s.taken → Onward s₀ 0 bytes old s wrote (at s₀ s) u
    → (s₀.taken ≤ u.taken) × Rest s₀ 0 bytes old u wrote (at s₀ u) × (left bytes u (at s₀ u) < left bytes s (at s₀ s))
onward {s₀} {s} {u} {bytes} {old} {wrote} least w =
    let n : at s₀ s + (u.taken - s.taken) ≡ at s₀ u = omega (arith, w.least) in (
      omega (arith, w.least),
      subst (Rest s₀ 0 bytes old u wrote) n w.rest,
      subst (λ (i : ℕ). left bytes u i < left bytes s (at s₀ s)) n w.falls,
    )

pub returns-then-is_over-clause-goes : goal.returns-then-is_over-clause-goes
returns-then-is_over-clause-goes c =
    (rest_over (rest-start {i₀ = 0} {bytes = c.args.bytes.now} (omega arith) c.requires.0 c.requires.1)
    (sym c.is_over.ensures ∙ c.if-is_over.true)).0

pub returns-then-is_over-clause-writes : goal.returns-then-is_over-clause-writes
returns-then-is_over-clause-writes c =
    (rest_over (rest-start {i₀ = 0} {bytes = c.args.bytes.now} (omega arith) c.requires.0 c.requires.1)
    (sym c.is_over.ensures ∙ c.if-is_over.true)).1

pub loop-state-init : goal.loop-state-init
loop-state-init c = record {
  least = omega (arith, c.pass_begun-state.ensures.taken);
  rest = begun c.requires c.pass_begun-state.ensures;
}

pub loop-state-preserved-then-passed-state : goal.loop-state-preserved-then-passed-state
loop-state-preserved-then-passed-state c =
    let i = c.loop-state.invariant in
    record { least = omega (arith, i.least, c.if-passed-state.true); rest = run-on i.least i.rest c.pass-passed.ensures.goes }

pub loop-state-smaller : goal.loop-state-smaller
loop-state-smaller c =
    let i = c.loop-state.invariant in
    (onward i.least (one-on i.least i.rest c.pass-passed.ensures.goes (sym c.is_over-in-loop-state.ensures ∙ c.if-not-is_over.true)
    c.loop-state-test.true c.if-passed-state.false c.pass-passed.ensures.idle c.next-state.ensures)).2

pub loop-state-preserved : goal.loop-state-preserved
loop-state-preserved c =
    let i = c.loop-state.invariant in
    let w = onward i.least (one-on i.least i.rest c.pass-passed.ensures.goes (sym c.is_over-in-loop-state.ensures ∙ c.if-not-is_over.true)
    c.loop-state-test.true c.if-passed-state.false c.pass-passed.ensures.idle c.next-state.ensures) in
    record { least = w.0; rest = w.1 }

pub returns-else-not-is_over-clause-goes : goal.returns-else-not-is_over-clause-goes
returns-else-not-is_over-clause-goes c =
    (rest_over c.loop-state.invariant.rest (sym c.is_over-in-loop-state.ensures ∙ c.if-not-is_over.false)).0

pub returns-else-not-is_over-clause-writes : goal.returns-else-not-is_over-clause-writes
returns-else-not-is_over-clause-writes c =
    (rest_over c.loop-state.invariant.rest (sym c.is_over-in-loop-state.ensures ∙ c.if-not-is_over.false)).1

pub returns-after-loop-state-clause-goes : goal.returns-after-loop-state-clause-goes
returns-after-loop-state-clause-goes c = (rest_end c.loop-state.invariant.rest c.loop-state-test.false).0

pub returns-after-loop-state-clause-writes : goal.returns-after-loop-state-clause-writes
returns-after-loop-state-clause-writes c = (rest_end c.loop-state.invariant.rest c.loop-state-test.false).1
