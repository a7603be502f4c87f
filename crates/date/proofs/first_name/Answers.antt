-- `date::first_name` meets its contract: the first k names do not agree, and of the next one the first j bytes do.
use native.Mathlib.Omega.{arith}
use native.Mathlib.Numerals.{add-one}
use Rattle.std.specs.Prelude.{Some}
use mathlib.Core.Path.{sym, ap, ◌∙◌}
use lib.ListN.{length-drop}
use Rattle.date.specs.helpers.Scan.{numbered}
use Rattle.date.proofs.Tables.{no_name, all-passed, passed-one, found_here}
use Rattle.date.proofs.first_name.Goals as goal
use Rattle.date.proofs.first_name.Goals.{then-at-s-via-then-at-s, then-at-s-via-else-at-s+then-s-at-lt3}

pub returns-then-at-s : goal.returns-then-at-s
returns-then-at-s c =
    let x = c.args in
    elim c.then-at-s.branch [
      | then-at-s-via-then-at-s w ↦ ap numbered (no_name x.names.now x.s.now x.at (omega (arith, length-drop x.at x.s.now)))
      | then-at-s-via-else-at-s+then-s-at-lt3 w ↦ ap numbered (no_name x.names.now x.s.now x.at (omega (arith, length-drop x.at x.s.now)))
    ]

pub names-preserved : goal.names-preserved
names-preserved c =
    let l = c.loop-j in
    let x = c.args in
    passed-one x.names.now x.s.now x.at (omega arith) l.k l.invariant.0 l.invariant.1 l.j (omega arith) c.if-s-at.true

pub returns-then-k-count : goal.returns-then-k-count
returns-then-k-count c =
    let x = c.args in
    ap numbered (all-passed x.names.now x.s.now x.at c.names.k c.names.invariant c.if-k-count.true)

pub returns-after-loop-j : goal.returns-after-loop-j
returns-after-loop-j c =
    let l = c.loop-j in
    let x = c.args in
    ap Some (add-one l.k) ∙ ap numbered
    (sym (add-one l.k) ∙ found_here x.names.now x.s.now x.at (omega arith) l.k l.invariant.0 l.invariant.1 l.j c.loop-j-test.false l.invariant.2)
