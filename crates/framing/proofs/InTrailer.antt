-- Limits inside the trailer: from where a byte stands to the machine's position there, and back.
use mathlib.Core.Path.{◌≡◌, sym, ◌∙◌, ap, ap₂, subst}
use mathlib.Core.Bool.{Bool, true}
use mathlib.Core.List.{List, [], ◌∷◌, ◌++◌, append_assoc, append-nil}
use Prim.Native.Nat.{ℕ, ◌+◌}
use native.Mathlib.Omega.{arith}
use lib.ListN.{length}
use Rattle.framing.specs.declared.State.{State}
use Rattle.framing.specs.declared.State.TheVariants.{Line, LineFeed, Data, DataCr, DataLf, Trail, EndLf, Done, Dead}
use Rattle.framing.specs.Grammar as G
use Rattle.framing.specs.Grammar.{InTrailer, Trailer}
use Rattle.framing.specs.helpers.Machine.{TrailerAt, trailer, step, live, done, start, in_trailer}
use Rattle.framing.specs.helpers.Scan.{run}
use Rattle.framing.proofs.Cases.{false-true}
use Rattle.framing.proofs.Parts.{at, begun-alive, alive-begun}
use Rattle.framing.proofs.Trails.{trailer-read}
use Rattle.framing.proofs.Goes.{then, goes-chunks, goes-last-line, goes_trail}
use Rattle.framing.proofs.Past.{Past}
use Rattle.framing.proofs.Finds.{Finds}

module _ (test : TrailerAt → ℕ → Bool) where
  -- a byte of the trailer that passes the test is found
  pub trailer-finds : {p t : List ℕ} → InTrailer p t → test (at trailer trailer.begin t) (length t) ≡ true → Finds (in_trailer test) p
  unfolding live done
  trailer-finds (G.in_trailer {c = c} {d = d} {l = l} {t = t} u cs h y) e =
      let a : trailer.alive (at trailer trailer.begin t) ≡ true = begun-alive trailer trailer-read t u y in
      let n : 0 + length t ≡ length t = omega arith in
      record {
        state = Trail (at trailer trailer.begin t) (0 + length t) (length d);
        reached = ap (λ (z : List ℕ). run step start (c ++ z)) (sym (append_assoc l (13 ∷ 10 ∷ []) t))
            ∙ (then (goes-chunks cs) (then (goes-last-line (length d) h) (goes_trail t trailer.begin 0 (length d) a))).ends;
        alive = a;
        passed = ap (test (at trailer trailer.begin t)) n ∙ e;
      }

  -- the last of these bytes stands in the trailer, and passes the test
  pub record Stands (p : List ℕ) : Type 0 where
    pub part : List ℕ
    pub is : InTrailer p part
    pub passed : test (at trailer trailer.begin part) (length part) ≡ true

  pub trailer-stands : (s : State) (p d : List ℕ) → in_trailer test s ≡ true → live s ≡ true → Past s p d → Stands p
  unfolding live
  trailer-stands (Line x k t) p d e a h = false-true e
  trailer-stands (LineFeed v t) p d e a h = false-true e
  trailer-stands (Data m t) p d e a h = false-true e
  trailer-stands (DataCr t) p d e a h = false-true e
  trailer-stands (DataLf t) p d e a h = false-true e
  trailer-stands (Trail x k t) p d e a h =
      let f : (u : List ℕ) × Trailer (h.part ++ u) = alive-begun trailer trailer-read h.part (ap trailer.alive h.at ∙ a) in record {
        part = h.part;
        is = subst (λ (z : List ℕ). InTrailer z h.part)
            (sym (h.split ∙ ap (λ (z : List ℕ). h.chunks ++ (h.line ++ (13 ∷ 10 ∷ z))) (append-nil h.part)))
            (G.in_trailer f.0 h.are h.is f.1);
        passed = ap₂ test h.at (sym h.count) ∙ e;
      }
  trailer-stands (EndLf t n) p d e a h = false-true e
  trailer-stands (Done t n) p d e a h = false-true e
  trailer-stands Dead p d e a h = false-true e
