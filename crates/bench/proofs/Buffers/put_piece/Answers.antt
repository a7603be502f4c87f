-- `bench::Buffers::put_piece` meets its contract. The lines that ended are answered, and the first bytes of the next are held.
use mathlib.Core.Path.{sym, subst}
use mathlib.Core.List.{List}
use Prim.Native.Nat.{ℕ, ◌+◌}
use native.Mathlib.Omega.{arith}
use lib.ListN.{take}
use Rattle.bench.proofs.Walk.{Spoken, spoken_start, out-length, next_fits, spoken_all}
use Rattle.bench.proofs.Walk.{part, held-short, taken-within, spoken_line, spoken_on}
use Rattle.bench.proofs.Buffers.put_piece.Goals as goal

pub loop-at-init : goal.loop-at-init
loop-at-init c = spoken_start (omega arith) (omega arith)

pub overflow_add-at : goal.overflow_add-at
overflow_add-at c =
    let loop = c.loop-at in
    let got = part loop.invariant c.loop-at-test.true (c.gather-gathered.ensures.answers, c.gather-gathered.ensures.writes) in
    omega (arith, (taken-within loop.invariant got).1)

pub put_line-used-requires : goal.put_line-used-requires
put_line-used-requires c =
    let loop = c.loop-at in
    let got = part loop.invariant c.loop-at-test.true (c.gather-gathered.ensures.answers, c.gather-gathered.ensures.writes) in
    let fits = next_fits loop.invariant c.loop-at-test.true (omega arith) in
    (omega (arith, held-short loop.invariant got), omega (arith, fits, out-length loop.invariant))

pub loop-at-smaller-then-gathered : goal.loop-at-smaller-then-gathered
loop-at-smaller-then-gathered c =
    let loop = c.loop-at in
    let got = part loop.invariant c.loop-at-test.true (c.gather-gathered.ensures.answers, c.gather-gathered.ensures.writes) in
    omega (arith, taken-within loop.invariant got, c.loop-at-test.true)

pub loop-at-preserved-then-gathered : goal.loop-at-preserved-then-gathered
loop-at-preserved-then-gathered c =
    let loop = c.loop-at in
    let put = c.put_line-used in
    let got = part loop.invariant c.loop-at-test.true (c.gather-gathered.ensures.answers, c.gather-gathered.ensures.writes) in
    subst (λ (line : List ℕ). Spoken c.args.piece.now (take c.args.held c.args.self.now.line) c.args.self.now.out line
    put.new.self.out (loop.at + c.gather-gathered.result.taken) 0 put.result) (sym put.ensures.lines)
    (spoken_line loop.invariant got c.if-gathered.true (omega arith) put.ensures.ends put.ensures.says)

pub loop-at-smaller : goal.loop-at-smaller
loop-at-smaller c =
    let loop = c.loop-at in
    let got = part loop.invariant c.loop-at-test.true (c.gather-gathered.ensures.answers, c.gather-gathered.ensures.writes) in
    omega (arith, taken-within loop.invariant got, c.loop-at-test.true)

pub loop-at-preserved : goal.loop-at-preserved
loop-at-preserved c =
    let loop = c.loop-at in
    let got = part loop.invariant c.loop-at-test.true (c.gather-gathered.ensures.answers, c.gather-gathered.ensures.writes) in
    spoken_on loop.invariant got c.if-gathered.false

pub returns : goal.returns
returns c =
    let all = spoken_all c.loop-at.invariant c.loop-at-test.false (omega arith) in
    record { says = all.0; keeps = all.1; holds = all.2 }
