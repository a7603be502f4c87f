-- A pass over the input: from a place and a state to the next, or to the answer.
use Rattle.std.proofs.Common.{◌≡◌, ℕ, zero, suc, ◌+◌, ◌<◌, ◌≤◌, List, [], ◌∷◌, ◌++◌, length, get_or, take, drop, sym, refl, ap, ◌∙◌, subst}
use Rattle.std.proofs.Common.{add-one, arith, length-take-le, take-suc, take-take, take-add}
use mathlib.Core.Option.{none, some}
use Rattle.octets.specs.declared.Refusal.{Refusal}
use Rattle.octets.specs.Reading.{number_of, place_of}
use Rattle.framing.specs.Answer as Framing
use Rattle.framing.specs.Grammar.{LINE_LIMIT}
use Rattle.framing.specs.declared.State.{State}
use Rattle.framing.specs.declared.LinePos.{LinePos}
use Rattle.framing.specs.declared.LinePos.TheVariants.{First}
use Rattle.framing.specs.declared.State.TheVariants.{Line, LineFeed, Data}
use Rattle.framing.specs.helpers.Machine.{End, step, live, done, line_live, past_room, start, tell, size_of}
use Rattle.framing.specs.helpers.Scan.{Verdict, ended, refusal, stop, run, scan, answer, Quiet}
use Rattle.framing.specs.Reading.{judge, decode}
use Rattle.framing.proofs.Scanning.{run_append, quiet-on, quiet_then, quiet-going, stops-stop}
use Rattle.framing.proofs.Passing.{Passes}
use Rattle.framing.specs.Grammar.{limits}
use Rattle.framing.proofs.Judging.{quiet-fits, quiet_line}
use Rattle.chunked.specs.declared.Ending.{Ending}
use Rattle.framing.specs.declared.Whole.{Whole}
use Rattle.chunked.specs.helpers.Passes.{At, Last, ending_answer}
use Rattle.framing.proofs.Rooms.{Fits, ShortLine}

pub begins : (room : ℕ) → judge room start ≡ none
unfolding judge live line_live done past_room
begins room = refl

module _ {room : ℕ} {xs : List ℕ} where
  pub at-start : At room xs start 0
  at-start = record { within = omega arith; quiet = first; reached = refl }
    where
      first : Quiet step (judge room) start xs 0
      first zero l = begins room
      first (suc i) l = absurd (omega arith)

  module _ {s : State} {i : ℕ} (at : At room xs s i) where
    before : (k : ℕ) → k ≤ length (take i xs) → judge room (run step start (take k (take i xs))) ≡ none
    before k l =
        let h : k ≤ i = omega (arith, l, length-take-le i xs at.within) in
        ap (λ (z : List ℕ). judge room (run step start z)) (take-take k i xs h) ∙ at.quiet k h

    at-fits : Fits room s
    unfolding judge
    at-fits = subst (Fits room) at.reached (quiet-fits limits room (omega arith) (take i xs) before)

    at-short : ShortLine s
    unfolding judge
    at-short = subst ShortLine at.reached (quiet_line limits room (omega arith) (take i xs) before)

    pub at_more : length xs ≤ i → Framing.more ≡ decode room xs
    unfolding judge decode answer
    at_more h =
        let e : i ≡ length xs = omega (arith, at.within, h) in
        sym (ap (answer tell) (quiet-going step (judge room) start xs (begins room) (subst (Quiet step (judge room) start xs) e at.quiet)))

    module _ (lt : i < length xs) where
      onward : run step start (take (suc i) xs) ≡ step s (get_or xs i 0)
      onward =
          ap (run step start) (take-suc xs i 0 lt)
          ∙ run_append step start (take i xs) (get_or xs i 0 ∷ [])
          ∙ ap (λ (z : State). step z (get_or xs i 0)) at.reached

      module _ {n : State} (e : step s (get_or xs i 0) ≡ n) where
        pub at_next : judge room n ≡ none → At room xs n (i + 1)
        at_next h = subst (At room xs n) (sym (add-one i)) (record {
          within = lt;
          quiet = quiet-on step (judge room) start xs i at.quiet (ap (judge room) (onward ∙ e) ∙ h);
          reached = onward ∙ e;
        })

        at-stop : (v : Verdict End) → judge room n ≡ some v → scan step (judge room) start 0 xs ≡ stop i v
        at-stop v h = stops-stop step (judge room) start xs (begins room) i v
            (record { inside = lt; quiet = at.quiet; verdict = ap (judge room) (onward ∙ e) ∙ h })

        pub at_refuse : {m : ℕ} → judge room n ≡ some (refusal m) → Framing.refused m i ≡ decode room xs
        unfolding judge decode answer
        at_refuse {m} h = sym (ap (answer tell) (at-stop (refusal m) h))

        pub at_end : {e : End} → judge room n ≡ some (ended e) → Framing.whole (tell (i + 1) e) ≡ decode room xs
        unfolding judge decode answer
        at_end {e} h = ap (λ (k : ℕ). Framing.whole (tell k e)) (add-one i) ∙ sym (ap (answer tell) (at-stop (ended e) h))

  -- over several bytes with no verdict on the way
  pub at_along : {s s' : State} {d : List ℕ} {i : ℕ} → At room xs s i → (n : ℕ) → i + n ≤ length xs
      → Passes room s (take n (drop i xs)) d s' → At room xs s' (i + n)
  at_along {s} {s'} {d} {i} at n h p =
      let x : List ℕ = take n (drop i xs) in
      let e : take (i + n) xs ≡ take i xs ++ x = take-add i n xs in
      let q : Quiet step (judge room) start (take i xs ++ x) (length (take i xs ++ x))
      = quiet_then step (judge room) start (take i xs) x (before at)
      (subst (λ (z : State). Quiet step (judge room) z x (length x)) (sym at.reached) p.quiet) in
      record {
        within = h;
        quiet = λ j l.
            ap (λ (z : List ℕ). judge room (run step start z)) (sym (take-take j (i + n) xs l) ∙ ap (take j) e)
            ∙ q j (omega (arith, l, ap length e, length-take-le (i + n) xs h));
        reached = ap (run step start) e ∙ run_append step start (take i xs) x ∙ ap (λ (z : State). run step z x) at.reached
            ∙ p.goes.ends;
      }

  pub line-fits : {p : LinePos} {k t i : ℕ} → At room xs (Line p k t) i → t + size_of p ≤ room
  unfolding Fits
  line-fits at = at-fits at

  pub line-short : {p : LinePos} {k t i : ℕ} → At room xs (Line p k t) i → k ≤ LINE_LIMIT
  unfolding ShortLine
  line-short at = at-short at

  pub first_fits : {t i : ℕ} → At room xs (Line First 0 t) i → t ≤ room
  first_fits at = omega (arith, line-fits at)

  pub feed_fits : {v t i : ℕ} → At room xs (LineFeed v t) i → t + v ≤ room
  unfolding Fits
  feed_fits at = at-fits at

  pub data_fits : {m t i : ℕ} → At room xs (Data m t) i → t ≤ room
  unfolding Fits
  data_fits at = at-fits at

  -- ## Ends
  pub last_more : {t : ℕ} → Framing.more ≡ decode room xs → Last room xs t Ending.More
  last_more e = record { is = e; closing = tt }

  pub last-refused : {t : ℕ} {r : Refusal} → Framing.refused (number_of r) (place_of r) ≡ decode room xs → Last room xs t (Ending.Refused r)
  last-refused e = record { is = e; closing = tt }

  pub last-whole : {t n k : ℕ} → k + 2 ≤ n → ending_answer t (Ending.Whole n k) ≡ decode room xs → Last room xs t (Ending.Whole n k)
  last-whole h e = record { is = e; closing = h }

  pub last-length : {t : ℕ} {e : Ending} → Last room xs t e → (w : Whole) → decode room xs ≡ Framing.whole w → w.length ≡ t
  last-length {t} {e} l w h = go e (l.is ∙ h)
    where
      go : (e : Ending) → ending_answer t e ≡ Framing.whole w → w.length ≡ t
      go (Ending.Whole n k) z = cc
      go Ending.More z = let z : ◌≡◌ {A = ℕ} 0 1 = cc in absurd (omega arith)
      go (Ending.Refused r) z = let z : ◌≡◌ {A = ℕ} 0 1 = cc in absurd (omega arith)
