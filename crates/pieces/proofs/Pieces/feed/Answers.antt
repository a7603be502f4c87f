-- `Pieces::feed` meets its contract.
use native.Mathlib.Omega.{arith}
use mathlib.Core.Path.{sym, ◌∙◌, ap}
use mathlib.Core.List.{List}
use Prim.Native.Nat.{ℕ}
use lib.ListN.{length, take}
use Rattle.text.specs.Placing.{placed}
use Rattle.pieces.specs.Reading.{listed, advance, gathered, filled}
use Rattle.pieces.specs.declared.Pieces.{Pieces}
use Rattle.pieces.proofs.Steps.{advance-taken, advance-sound}
use Rattle.pieces.proofs.Sequences.{valid_allows}
use Rattle.pieces.proofs.Valid.{offered-part, feeds}
use Rattle.pieces.proofs.Pieces.feed.Goals as goal

pub read-state-requires : goal.read-state-requires
read-state-requires c =
    let a = valid_allows c.args.self c.args.quota (length c.args.out.now) (sym c.accepts.ensures ∙ c.if-not-accepts.false) in
    (a.sound, a.same_room)

pub overflow_sub-result : goal.overflow_sub-result
overflow_sub-result c =
    omega (
      arith,
      ap (λ (z : Pieces). z.taken) c.read-state.ensures.goes,
      advance-taken c.args.self (take c.min.result c.args.piece.now),
    )

pub answer-requires : goal.answer-requires
answer-requires c =
    let a = valid_allows c.args.self c.args.quota (length c.args.out.now) (sym c.accepts.ensures ∙ c.if-not-accepts.false) in
    ap (λ (z : Pieces). listed z.refused) c.read-state.ensures.goes ∙ (advance-sound _ _ a.sound).lists

pub returns-clause-takes : goal.returns-clause-takes
returns-clause-takes c =
    let x = c.args in
    let z = offered-part x.piece.now x.quota c.min.result c.min.ensures in
    (feeds x.self x.piece.now x.quota x.out.now (sym c.accepts.ensures ∙ c.if-not-accepts.false)
    (c.read-state.ensures.goes ∙ ap (advance x.self) z)
    (c.read-state.ensures.writes ∙ ap (λ (xs : List ℕ). placed x.out.now (filled x.self.position) (gathered x.self xs)) z)).taken
