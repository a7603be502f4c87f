-- The limit on chunk lines: the machine finds it where the grammar says that it is broken, and nowhere else.
use mathlib.Core.Path.{◌≡◌, refl, sym, ◌∙◌, ap, subst}
use mathlib.Core.Bool.{true}
use mathlib.Core.List.{List, ◌++◌}
use Prim.Native.Nat.{ℕ, suc, ◌+◌}
use native.Mathlib.Omega.{arith}
use lib.ListN.{length}
use borrow.Author.Tests.{eqb-true, eq-eqb}
use Rattle.grammar.specs.Refusals.{LINE_TOO_LONG}
use Rattle.framing.specs.declared.LinePos.TheVariants.{First}
use Rattle.framing.specs.declared.State.{State}
use Rattle.framing.specs.declared.State.TheVariants.{Line, LineFeed, Data, DataCr, DataLf, Trail, EndLf, Done, Dead}
use Rattle.framing.specs.Grammar as G
use Rattle.framing.specs.Grammar.{InLine, Broken, LINE_LIMIT}
use Rattle.framing.specs.helpers.Machine.{next_line_pos, line_live, live, done, long_line}
use Rattle.framing.proofs.Cases.{false-true}
use Rattle.framing.proofs.Scanning.{run_append, run-live}
use Rattle.framing.proofs.Lines.{line_run, line-sound, line_dead, line-begun, line-ends-live}
use Rattle.framing.proofs.Goes.{then, goes-chunks, goes-line}
use Rattle.framing.proofs.Past.{Past}
use Rattle.framing.proofs.Finds.{Finds, Tied}

pub long-line-found : {p l : List ℕ} → InLine p l → length l ≡ suc LINE_LIMIT → Finds long_line p
unfolding live done
long-line-found (G.in_line {d = d} {l = l} u {v = v} cs h) e =
    let a : line_live (line_run First l) ≡ true
    = run-live next_line_pos line_live line_dead (line_run First l) u
    (ap line_live (sym (run_append next_line_pos First l u)) ∙ line-ends-live (line_run First (l ++ u)) v (line-sound h)) in
    record {
      state = Line (line_run First l) (0 + length l) (length d);
      reached = (then (goes-chunks cs) (goes-line l First 0 (length d) a)).ends;
      alive = a;
      passed = eq-eqb (0 + length l) (suc LINE_LIMIT) (omega arith);
    }

long-line-broken : (room : ℕ) (s : State) (p d : List ℕ) → long_line s ≡ true → live s ≡ true → Past s p d → Broken room LINE_TOO_LONG p
unfolding live
long-line-broken room (Line x k t) p d e a h =
    let f : (u : List ℕ) × (v : ℕ) × G.Line (h.part ++ u) v = line-begun h.part (ap line_live h.at ∙ a) in
    subst (Broken room LINE_TOO_LONG) (sym h.split)
    (G.long_line (G.in_line f.0 h.are f.2) (sym h.count ∙ eqb-true k (suc LINE_LIMIT) e))
long-line-broken room (LineFeed v t) p d e a h = false-true e
long-line-broken room (Data m t) p d e a h = false-true e
long-line-broken room (DataCr t) p d e a h = false-true e
long-line-broken room (DataLf t) p d e a h = false-true e
long-line-broken room (Trail x k t) p d e a h = false-true e
long-line-broken room (EndLf t n) p d e a h = false-true e
long-line-broken room (Done t n) p d e a h = false-true e
long-line-broken room Dead p d e a h = false-true e

pub long-line_tied : (room : ℕ) → Tied room (LINE_TOO_LONG, long_line)
long-line_tied room = record { opens = refl; broken = long-line-broken room }
