-- The reader's steps from a state that is not over, and the scan of the machine that counts its bytes: they come to the same.
use mathlib.Core.Path.{◌≡◌, refl, sym, ◌∙◌, ap, ap₂}
use mathlib.Core.Bool.{Bool, true, false, cond}
use mathlib.Core.List.{List, [], ◌∷◌}
use mathlib.Core.Option.{Option, none, some}
use Prim.Native.Nat.{ℕ, suc, ◌+◌, ◌<◌}
use native.Mathlib.Omega.{arith}
use lib.Dec.{eqb}
use lib.ListN.{length, take}
use lib.Seq.{take-length, take-take}
use borrow.Author.Tests.{ne_eqb}
use Rattle.grammar.specs.Refusals.{MALFORMED, FRAMED_TOO_LONG}
use Rattle.framing.specs.declared.Whole.{Whole}
use Rattle.framing.specs.declared.State.{State}
use Rattle.framing.specs.Answer.{whole, more, refused}
use Rattle.framing.specs.Demand.{Among}
use Rattle.framing.specs.Grammar.{limits, chunked}
use Rattle.framing.specs.helpers.Machine.{End, machine, start, step, emit, live, done, tell}
use Rattle.framing.specs.helpers.Scan.{Verdict, ended, refusal, Counted, Found, going, stop, note, out, scan}
use Rattle.framing.specs.helpers.Scan.{answer, written, over_by, judge_by, find_by}
use Rattle.framing.proofs.Machines.{judged-none, judged-ended}
use Rattle.framing.proofs.Scanning.{stop-stops, stop-take}
use Rattle.framing.proofs.Counting.{counted-out, counted-laws}
use Rattle.framing.proofs.Judging.{laws}
use Rattle.framing.proofs.Demands.{malformed_no_limit}
use Rattle.pieces.specs.Grammar.{FRAMED_LIMIT, in_pieces}
use Rattle.pieces.specs.declared.Pieces.{Pieces}
use Rattle.pieces.specs.Reading.{counting, begun, judged, heed, unrefused, answer_of, over, over?, advance, steps, decoded}
use Rattle.pieces.specs.Calls.{met}
use Rattle.pieces.proofs.Steps.{refusal-listed, over-refused, over_done, over_stays, over-steps, onward, turned, next-none, next-ended}
use Rattle.pieces.proofs.Steps.{next-refused, advance_cons, advance-onward, steps-onward, steps-turned}
use Rattle.pieces.proofs.Answers.{answer-refused}

-- ## Answers
answer-is : (s : Pieces) (n : ℕ) (o : Option End) → s.refused ≡ n → done s.position ≡ o
    → answer_of s ≡ cond (eqb n 0) (unrefused o s.taken) (refused n s.taken)
unfolding answer_of
answer-is s n o x y =
    ap₂ (λ (m : ℕ) (p : Option End). cond (eqb m 0) (unrefused p s.taken) (refused m s.taken)) x y

pub not-refused : {A : Type 0} {w : Whole} {n p : ℕ} → whole w ≡ refused n p → A
not-refused e = let z : ◌≡◌ {A = ℕ} 0 1 = cc in absurd (omega arith)

-- ## One byte, by its verdict
module _ (s : Pieces) (b : ℕ) where
  abbrev behind : Counted State
  behind = record { count = suc s.taken; at = step s.position b }

  abbrev past_limit : Option ℕ
  past_limit = over_by counting tell in_pieces.limits s.room behind

  none_done : judged s b ≡ none → done (step s.position b) ≡ none
  none_done e = (judged-none (live (step s.position b)) (done (step s.position b)) past_limit e).1

  ended-done : (t : End) → judged s b ≡ some (ended t) → done (step s.position b) ≡ some t
  ended-done t e = judged-ended (live (step s.position b)) (done (step s.position b)) past_limit t e

-- ## All bytes
-- what is found from a state on
abbrev pub found_from : Pieces → List ℕ → Found (Verdict End)
found_from s xs =
    scan counting.step (judge_by counting tell in_pieces.limits s.room)
    (record { count = s.taken; at = s.position }) s.taken xs

-- the place behind the bytes accepted, n being that behind all of them
abbrev pub accepted : ℕ → Found (Verdict End) → ℕ
accepted n going = n
accepted n (stop j (ended e)) = suc j
accepted n (stop j (refusal m)) = j

-- the place behind the bytes met
abbrev pub heard : ℕ → Found (Verdict End) → ℕ
heard n going = n
heard n (stop j v) = suc j

-- what the steps come to, where f is found
pub record Reads (s : Pieces) (xs : List ℕ) (f : Found (Verdict End)) : Type 0 where
  pub answers : answer_of (advance s xs) ≡ answer tell f
  pub taken : (advance s xs).taken ≡ accepted (s.taken + length xs) f
  pub met_is : met (advance s xs) ≡ heard (s.taken + length xs) f
  pub count : s.taken + steps s xs ≡ accepted (s.taken + length xs) f

on-byte : (s : Pieces) (b : ℕ) (xs : List ℕ) (o : Option (Verdict End)) → answer_of s ≡ more → judged s b ≡ o
    → (done (step s.position b) ≡ none → Reads (heed none s b) xs (found_from (heed none s b) xs))
    → Reads s (b ∷ xs) (note s.taken o (found_from (heed none s b) xs))
unfolding answer
on-byte s b xs none u e on =
    let t : Pieces = heed none s b in
    let f : Found (Verdict End) = found_from t xs in
    let r : Reads t xs f = on (none_done s b e) in
    let o : over? s ≡ false = ap over u in
    let a : advance s (b ∷ xs) ≡ advance t xs = advance-onward s b o (next-none s b e) xs in
    let k : suc s.taken + length xs ≡ s.taken + suc (length xs) = omega arith in
    let n : accepted (suc s.taken + length xs) f ≡ accepted (s.taken + suc (length xs)) f = ap (λ (m : ℕ). accepted m f) k in
    record {
      answers = ap answer_of a ∙ r.answers;
      taken = ap (λ (z : Pieces). z.taken) a ∙ r.taken ∙ n;
      met_is = ap met a ∙ r.met_is ∙ ap (λ (m : ℕ). heard m f) k;
      count = omega (arith, steps-onward s b o (next-none s b e) xs, r.count, n);
    }
on-byte s b xs (some (ended t)) u e on =
    let o : over? s ≡ false = ap over u in
    let z : over? (onward s b) ≡ true = over_done (onward s b) t (ended-done s b t e) in
    let a : advance s (b ∷ xs) ≡ onward s b = advance-onward s b o (next-ended s b t e) xs ∙ over_stays (onward s b) z xs in
    record {
      answers = ap answer_of a ∙ answer-is (onward s b) 0 (some t) refl (ended-done s b t e);
      taken = ap (λ (x : Pieces). x.taken) a;
      met_is = ap met a;
      count = omega (arith, steps-onward s b o (next-ended s b t e) xs, over-steps (onward s b) z xs);
    }
on-byte s b xs (some (refusal n)) u e on =
    let o : over? s ≡ false = ap over u in
    let w : n ≡ 0 → ⊥ = (refusal-listed s b n e).1 in
    let a : advance s (b ∷ xs) ≡ turned s n
    = advance_cons s b o xs ∙ ap (λ (x : Pieces). advance x xs) (next-refused s b n e) ∙ over_stays (turned s n) (over-refused (turned s n) w) xs in
    record {
      answers = ap answer_of a ∙ answer-refused (turned s n) w;
      taken = ap (λ (x : Pieces). x.taken) a;
      met_is = ap met a ∙ ap (λ (x : Bool). cond x s.taken (suc s.taken)) (ne_eqb n 0 w);
      count = omega (arith, steps-turned s b o n w (next-refused s b n e) xs);
    }

pub reads : (s : Pieces) (xs : List ℕ) → s.refused ≡ 0 → done s.position ≡ none → Reads s xs (found_from s xs)
unfolding answer advance steps
reads s [] r d = record {
  answers = answer-is s 0 none r d;
  taken = omega arith;
  met_is = ap (λ (n : ℕ). cond (eqb n 0) s.taken (suc s.taken)) r ∙ omega arith;
  count = omega arith;
}
reads s (b ∷ xs) r d =
    on-byte s b xs (judged s b) (answer-is s 0 none r d) refl (λ e. reads (heed none s b) xs refl e)

-- ## From the start
-- 14 is no limit of document 01, and is not 1
pub unlisted : Among limits FRAMED_TOO_LONG → ⊥
unlisted a = omega arith

pub not-malformed : FRAMED_TOO_LONG ≡ MALFORMED → ⊥
not-malformed e = omega arith

module _ (r : ℕ) where
  abbrev judge : Counted State → Option (Verdict End)
  judge = judge_by counting tell in_pieces.limits r

  -- there is no verdict before the first byte
  opens : judge counting.start ≡ none
  opens =
      (counted-laws FRAMED_TOO_LONG FRAMED_LIMIT machine tell (chunked limits) r (laws limits r malformed_no_limit) unlisted not-malformed
      ).opens

  abbrev pub found : List ℕ → Found (Verdict End)
  found s = find_by counting tell in_pieces.limits r s

  pub found-reads : (s : List ℕ) → Reads (begun r) s (found s)
  unfolding done
  found-reads s = reads (begun r) s refl refl

  pub found_inside : (s : List ℕ) (j : ℕ) (v : Verdict End) → found s ≡ stop j v → j < length s
  found_inside s j v e = (stop-stops counting.step judge counting.start s opens j v e).inside

  -- the data of the bytes accepted
  pub found_data : (s : List ℕ) (f : Found (Verdict End)) → Reads (begun r) s f
      → decoded r s ≡ written (out step emit start) (out counting.step counting.emit counting.start) f s
  unfolding written
  found_data s going w =
      let z : steps (begun r) s ≡ length s = omega (arith, w.count) in
      ap (λ (n : ℕ). out step emit start (take n s)) z ∙ ap (out step emit start) (take-length s)
  found_data s (stop j (ended e)) w =
      let z : steps (begun r) s ≡ suc j = omega (arith, w.count) in
      ap (λ (n : ℕ). out step emit start (take n s)) z
      ∙ sym (counted-out FRAMED_TOO_LONG FRAMED_LIMIT machine counting.start (take (suc j) s))
  found_data s (stop j (refusal n)) w =
      let z : steps (begun r) s ≡ j = omega (arith, w.count) in
      ap (λ (m : ℕ). out step emit start (take m s)) z

  -- ## The bytes met decide
  found-heard : (s : List ℕ) (f : Found (Verdict End)) → found s ≡ f → found (take (heard (length s) f) s) ≡ f
  found-heard s going e = ap found (take-length s) ∙ e
  found-heard s (stop j v) e = stop-take counting.step judge counting.start s opens j v e

  written-heard : (early data_of : List ℕ → List ℕ) (s : List ℕ) (f : Found (Verdict End))
      → written early data_of f (take (heard (length s) f) s) ≡ written early data_of f s
  unfolding written
  written-heard early data_of s going = ap early (take-length s)
  written-heard early data_of s (stop j (ended e)) = ap data_of (take-take (suc j) (suc j) s (omega arith))
  written-heard early data_of s (stop j (refusal n)) = ap early (take-take j (suc j) s (omega arith))

  module _ (s : List ℕ) where
    abbrev input : List ℕ
    input = take (met (advance (begun r) s)) s

    input-heard : input ≡ take (heard (length s) (found s)) s
    input-heard =
        let z : 0 + length s ≡ length s = omega arith in
        ap (λ (n : ℕ). take n s) ((found-reads s).met_is ∙ ap (λ (n : ℕ). heard n (found s)) z)

    pub found-input : found input ≡ found s
    found-input = ap found input-heard ∙ found-heard s (found s) refl

    pub written-input : (early data_of : List ℕ → List ℕ) → written early data_of (found s) input ≡ written early data_of (found s) s
    written-input early data_of = ap (written early data_of (found s)) input-heard ∙ written-heard early data_of s (found s)
