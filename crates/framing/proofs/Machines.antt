-- What is asked of a reader, from laws about its machine: a step, a verdict on each state, a completion for each live state.
-- For any machine that takes one byte at a time, any format, any limits and whatever is told of a whole body.
use mathlib.Core.Path.{◌≡◌, refl, sym, ◌∙◌, ap, subst, subst₂, fun_ext}
use mathlib.Core.Bool.{Bool, true, false}
use mathlib.Core.List.{List, [], ◌∷◌, ◌++◌, append_assoc}
use mathlib.Core.Logic.{◌⊎◌, inl, inr, ⊎_elim}
use mathlib.Core.Option.{Option, none, some}
use Prim.Native.Nat.{ℕ, zero, suc, ◌<◌, ◌≤◌}
use native.Mathlib.Decide.{ℕ_discrete}
use native.Mathlib.Omega.{arith}
use lib.ListN.{length, take, drop, get_or, take-append-drop}
use lib.Seq.{take-suc, take-take, take-length, length-take-le, take-append-le}
use Rattle.grammar.specs.Refusals.{MALFORMED, BODY_TOO_LARGE}
use Rattle.framing.specs.Answer.{Answer, whole, more, refused}
use Rattle.framing.specs.Demand as Demand
use Rattle.framing.specs.Demand.{Format, rank, Among, Unended, Unbroken, BeginsWhole, Unfinished, Reaches, Malformed, Over, Decodes}
use Rattle.framing.specs.helpers.Scan.{Machine, Verdict, ended, refusal, verdict_of, judged_by, Found, going}
use Rattle.framing.specs.helpers.Scan.{stop, run, out, Quiet, answer, written}
use Rattle.framing.specs.helpers.Scan.{over_by, judge_by, find_by, decode_by, decoded_by}
use Rattle.framing.proofs.Cases.{false-true, none-some, same_some}
use Rattle.framing.proofs.Ranks.{same_rank, first_passes, first_found, first-same}
use Rattle.framing.proofs.Scanning.{run_append, run-live, Stops, quiet-on, going-quiet}
use Rattle.framing.proofs.Scanning.{stop-stops, quiet-going, stops-stop, stands, same-scan}

not-ended : {A E : Type 0} {n : ℕ} {e : E} → some (refusal n) ≡ some (ended e) → A
not-ended e = let z : ◌≡◌ {A = ℕ} 0 1 = cc in absurd (omega arith)

-- ## Verdicts, taken apart
module _ {E : Type 0} where
  pub judged-none : (l : Bool) (d : Option E) (o : Option ℕ) → judged_by l d o ≡ none → (l ≡ true) × (d ≡ none) × (o ≡ none)
  judged-none true d (some n) e = none-some (sym e)
  judged-none true none none e = (refl, refl, refl)
  judged-none true (some t) none e = none-some (sym e)
  judged-none false d o e = none-some (sym e)

  pub judged-ended : (l : Bool) (d : Option E) (o : Option ℕ) (t : E) → judged_by l d o ≡ some (ended t) → d ≡ some t
  judged-ended true d (some n) t e = not-ended e
  judged-ended true none none t e = none-some e
  judged-ended true (some u) none t e = cc
  judged-ended false d o t e = not-ended e

  pub judged-refusal : (l : Bool) (d : Option E) (o : Option ℕ) (n : ℕ) → judged_by l d o ≡ some (refusal n)
      → ((l ≡ false) × (n ≡ MALFORMED)) ⊎ ((l ≡ true) × (o ≡ some n))
  judged-refusal true d (some m) n e = inr (refl, cc)
  judged-refusal true none none n e = none-some e
  judged-refusal true (some u) none n e = not-ended (sym e)
  judged-refusal false d o n e = inl (refl, cc)

  judged : (l l' : Bool) (d d' : Option E) (o o' : Option ℕ) → l ≡ l' → d ≡ d' → o ≡ o' → judged_by l d o ≡ judged_by l' d' o'
  judged l l' d d' o o' x y z = cc

  -- an answer is that of a scan
  module _ {W : Type 0} (tell : ℕ → E → W) where
    more_of : (f : Found (Verdict E)) → answer tell f ≡ more → f ≡ going
    unfolding answer
    more_of going e = refl
    more_of (stop i (ended t)) e = let z : ◌≡◌ {A = ℕ} 0 1 = cc in absurd (omega arith)
    more_of (stop i (refusal n)) e = let z : ◌≡◌ {A = ℕ} 0 1 = cc in absurd (omega arith)

    pub whole_of : (f : Found (Verdict E)) (w : W) → answer tell f ≡ whole w → (i : ℕ) × (e : E) × (f ≡ stop i (ended e)) × (w ≡ tell (suc i) e)
    unfolding answer
    whole_of going w e = let z : ◌≡◌ {A = ℕ} 0 1 = cc in absurd (omega arith)
    whole_of (stop i (ended t)) w e = (i, t, refl, cc)
    whole_of (stop i (refusal m)) w e = let z : ◌≡◌ {A = ℕ} 0 1 = cc in absurd (omega arith)

    pub refused-of : (f : Found (Verdict E)) (n i : ℕ) → answer tell f ≡ refused n i → f ≡ stop i (refusal n)
    unfolding answer
    refused-of going n i e = let z : ◌≡◌ {A = ℕ} 0 1 = cc in absurd (omega arith)
    refused-of (stop j (ended s)) n i e = let z : ◌≡◌ {A = ℕ} 0 1 = cc in absurd (omega arith)
    refused-of (stop j (refusal m)) n i e =
        let h : m ≡ n = cc in
        let k : j ≡ i = cc in
        rw (h, k)

-- ## One machine, one room
module _ {E S W : Type 0} (f : Format W) (machine : Machine E S) (tell : ℕ → E → W) (room : ℕ) where
  abbrev over : S → Option ℕ
  over = over_by machine tell f.limits room

  abbrev pub judge : S → Option (Verdict E)
  judge = judge_by machine tell f.limits room

  abbrev reached : List ℕ → S
  reached p = run machine.step machine.start p

  abbrev data_of : List ℕ → List ℕ
  data_of = out machine.step machine.emit machine.start

  -- what is to be shown of a machine
  pub record Laws : Type 0 where
    -- it begins alive, with no verdict
    pub opens : judge machine.start ≡ none
    -- a dead state stays dead, and nothing follows a body
    pub dead : (s : S) (b : ℕ) → machine.live s ≡ false → machine.live (machine.step s b) ≡ false
    pub last : (s : S) (e : E) (b : ℕ) → machine.done s ≡ some e → machine.live (machine.step s b) ≡ false
    pub alive : (s : S) (e : E) → machine.done s ≡ some e → machine.live s ≡ true
    -- every live state has a completion
    pub finish : (s : S) → machine.live s ≡ true → (u : List ℕ) × (e : E) × (machine.done (run machine.step s u) ≡ some e)
    -- it ends at the bodies of the grammar, gives their data, and what is told of them is what is to be told
    pub body_to : (p : List ℕ) (e : E) → machine.done (reached p) ≡ some e
        → f.Body p (data_of p) × f.Tells (tell (length p) e) p (data_of p)
    pub body_from : (p d : List ℕ) → f.Body p d
        → (e : E) × (machine.done (reached p) ≡ some e) × (data_of p ≡ d) × ((w : W) → f.Tells w p d → w ≡ tell (length p) e)
    -- a limit that it finds is broken, where nothing was found before; and it finds each that is broken
    pub over_to : (p : List ℕ) (b n : ℕ) → Quiet machine.step judge machine.start p (length p) → Among f.limits n
        → machine.live (reached (p ++ (b ∷ []))) ≡ true → machine.broke room n (reached (p ++ (b ∷ []))) ≡ true
        → f.Broken room n (p ++ (b ∷ []))
    pub over_from : (p : List ℕ) (n : ℕ) → Among f.limits n → f.Broken room n p
        → (machine.live (reached p) ≡ true) × (machine.broke room n (reached p) ≡ true)
    -- "malformed" is no limit
    pub other : Among f.limits MALFORMED → ⊥

  module _ (laws : Laws) where
    abbrev Live : List ℕ → Type 0
    Live = Demand.Live f.Body

    abbrev found : List ℕ → Found (Verdict E)
    found = find_by machine tell f.limits room

    abbrev decode : List ℕ → Answer W
    decode = decode_by machine tell f.limits room

    -- ## Beginnings
    pub live_to : (p : List ℕ) → machine.live (reached p) ≡ true → Live p
    live_to p h =
        let c : (u : List ℕ) × (e : E) × (machine.done (run machine.step (reached p) u) ≡ some e) = laws.finish (reached p) h in (
          c.0,
          data_of (p ++ c.0),
          (laws.body_to (p ++ c.0) c.1 (ap machine.done (run_append machine.step machine.start p c.0) ∙ c.2)).0,
        )

    run-alive : (p u : List ℕ) → machine.live (reached (p ++ u)) ≡ true → machine.live (reached p) ≡ true
    run-alive p u h =
        run-live machine.step machine.live laws.dead (reached p) u
        (ap machine.live (sym (run_append machine.step machine.start p u)) ∙ h)

    body-alive : (p d : List ℕ) → f.Body p d → machine.live (reached p) ≡ true
    body-alive p d b = laws.alive (reached p) (laws.body_from p d b).0 (laws.body_from p d b).1

    pub live-from : (p : List ℕ) → Live p → machine.live (reached p) ≡ true
    live-from p l = run-alive p l.0 (body-alive (p ++ l.0) l.1 l.2)

    pub prefix_free : (p : List ℕ) (b : ℕ) (q d e : List ℕ) → f.Body p d → f.Body (p ++ (b ∷ q)) e → ⊥
    prefix_free p b q d e x y =
        let h : machine.live (reached (p ++ (b ∷ []))) ≡ true
        = run-alive (p ++ (b ∷ [])) q (subst (λ (z : List ℕ). machine.live (reached z) ≡ true) (sym (append_assoc p (b ∷ []) q))
        (body-alive (p ++ (b ∷ q)) e y)) in
        false-true
        (sym (laws.last (reached p) (laws.body_from p d x).0 b (laws.body_from p d x).1)
        ∙ ap machine.live (sym (run_append machine.step machine.start p (b ∷ []))) ∙ h)

    pub one-reading : (p d e : List ℕ) → f.Body p d → f.Body p e → d ≡ e
    one-reading p d e x y = sym (laws.body_from p d x).2 ∙ (laws.body_from p e y).2

    -- ## The verdict that each kind of beginning gets
    body-judged : (p d : List ℕ) (b : f.Body p d) → over (reached p) ≡ none → judge (reached p) ≡ some (ended (laws.body_from p d b).0)
    body-judged p d b o =
        judged (machine.live (reached p)) true (machine.done (reached p)) (some (laws.body_from p d b).0) (over (reached p)) none
        (body-alive p d b) (laws.body_from p d b).1 o

    -- where there is no verdict, no body has ended
    undone : {A : Type 0} (p d : List ℕ) → f.Body p d → judge (reached p) ≡ none → A
    undone p d b e =
        none-some (sym (judged-none (machine.live (reached p)) (machine.done (reached p)) (over (reached p)) e).1
        ∙ (laws.body_from p d b).1)

    dead-judged : (p : List ℕ) → (Live p → ⊥) → judge (reached p) ≡ some (refusal MALFORMED)
    dead-judged p n = go (machine.live (reached p)) refl
      where
        go : (l : Bool) → machine.live (reached p) ≡ l → judge (reached p) ≡ some (refusal MALFORMED)
        go true e = absurd (n (live_to p e))
        go false e =
            judged (machine.live (reached p)) false (machine.done (reached p)) (machine.done (reached p)) (over (reached p))
            (over (reached p)) e refl refl

    broken-judged : (p : List ℕ) (n : ℕ) → Among f.limits n → f.Broken room n p
        → (m : ℕ) × (judge (reached p) ≡ some (refusal m)) × (over (reached p) ≡ some m) × (rank f.limits m ≤ rank f.limits n)
    broken-judged p n a b =
        let w = laws.over_from p n a b in
        let o : (m : ℕ) × (over (reached p) ≡ some m) × (rank f.limits m ≤ rank f.limits n)
        = first_found (λ m. machine.broke room m (reached p)) f.limits n a w.1 in (
          o.0,
          judged (machine.live (reached p)) true (machine.done (reached p)) (machine.done (reached p)) (over (reached p)) (some o.0) w.0
              refl o.1,
          o.1,
          o.2,
        )

    module _ (s : List ℕ) where
      abbrev front : ℕ → S
      front i = reached (take i s)

      abbrev Still : ℕ → Type 0
      Still n = Quiet machine.step judge machine.start s n

      split-take : (i j : ℕ) → i ≤ j → take i s ++ drop i (take j s) ≡ take j s
      split-take i j h = ap (λ (z : List ℕ). z ++ drop i (take j s)) (sym (take-take i j s h)) ∙ take-append-drop i (take j s)

      alive-below : (i j : ℕ) → i ≤ j → machine.live (front j) ≡ true → machine.live (front i) ≡ true
      alive-below i j h l =
          run-alive (take i s) (drop i (take j s)) (ap (λ (z : List ℕ). machine.live (reached z)) (split-take i j h) ∙ l)

      still_below : (i j : ℕ) → i ≤ j → Still j → Still i
      still_below i j h k n l = k n (omega arith)

      -- a limit that the machine finds at i is broken there
      over-at : (i n : ℕ) → i < length s → Still i → machine.live (front (suc i)) ≡ true → over (front (suc i)) ≡ some n
          → Among f.limits n × f.Broken room n (take (suc i) s)
      over-at i n h k l o =
          let e : take (suc i) s ≡ take i s ++ (get_or s i 0 ∷ []) = take-suc s i 0 h in
          let w : Among f.limits n × (machine.broke room n (front (suc i)) ≡ true)
          = first_passes (λ m. machine.broke room m (front (suc i))) f.limits n o in (
            w.0,
            subst (f.Broken room n) (sym e)
                (laws.over_to (take i s) (get_or s i 0) n (λ m g. short m (omega (arith, g, length-take-le i s (omega arith)))) w.0
                (ap (λ (z : List ℕ). machine.live (reached z)) (sym e) ∙ l)
                (ap (λ (z : List ℕ). machine.broke room n (reached z)) (sym e) ∙ w.1)),
          )
        where
          short : (m : ℕ) → m ≤ i → judge (reached (take m (take i s))) ≡ none
          short m g = ap (λ (z : List ℕ). judge (reached z)) (take-take m i s g) ∙ k m g

      -- nothing but a dead byte follows a body
      ended-dead : (i : ℕ) (d : List ℕ) → i < length s → f.Body (take i s) d → machine.live (front (suc i)) ≡ false
      ended-dead i d h b =
          ap (λ (z : List ℕ). machine.live (reached z)) (take-suc s i 0 h)
          ∙ ap machine.live (run_append machine.step machine.start (take i s) (get_or s i 0 ∷ []))
          ∙ laws.last (front i) (laws.body_from (take i s) d b).0 (get_or s i 0) (laws.body_from (take i s) d b).1

      -- ## Bytes with no verdict
      still_unbroken : (n : ℕ) → Still n → Unbroken f room s n
      still_unbroken n k m i a h b =
          let w = broken-judged (take (suc i) s) m a b in none-some (sym (k (suc i) h) ∙ w.1)

      still_unended : (n : ℕ) → Still n → Unended f.Body s n
      still_unended n k i d h b = undone (take i s) d b (k i h)

      still_live : (n : ℕ) → Still n → Live (take n s)
      still_live n k =
          live_to (take n s) (judged-none (machine.live (front n)) (machine.done (front n)) (over (front n)) (k n (omega arith))).0

      quiet-byte : (i : ℕ) → i < length s → Still i → machine.live (front (suc i)) ≡ true
          → ((d : List ℕ) → f.Body (take (suc i) s) d → ⊥) → ((n : ℕ) → Among f.limits n → f.Broken room n (take (suc i) s) → ⊥)
          → judge (front (suc i)) ≡ none
      quiet-byte i h k l n u = go (judge (front (suc i))) refl
        where
          go : (o : Option (Verdict E)) → judge (front (suc i)) ≡ o → o ≡ none
          go none e = refl
          go (some (ended t)) e =
              absurd (n (data_of (take (suc i) s)) (laws.body_to (take (suc i) s) t
              (judged-ended (machine.live (front (suc i))) (machine.done (front (suc i))) (over (front (suc i))) t e)).0)
          go (some (refusal m)) e = ⊎_elim
              (λ (w : (machine.live (front (suc i)) ≡ false) × (m ≡ MALFORMED)). false-true (sym w.0 ∙ l))
              (λ (w : (machine.live (front (suc i)) ≡ true) × (over (front (suc i)) ≡ some m)).
              let z = over-at i m h k w.0 w.1 in absurd (u m z.0 z.1))
              (judged-refusal (machine.live (front (suc i))) (machine.done (front (suc i))) (over (front (suc i))) m e)

      still : (n : ℕ) → n ≤ length s → machine.live (front n) ≡ true → Unbroken f room s n → Unended f.Body s n → Still n
      still n h l u e = go n (omega arith)
        where
          start_still : Still 0
          start_still zero g = laws.opens
          start_still (suc i) g = absurd (omega arith)

          go : (i : ℕ) → i ≤ n → Still i
          go zero g = start_still
          go (suc i) g =
              let k : Still i = go i (omega arith) in
              quiet-on machine.step judge machine.start s i k
              (quiet-byte i (omega arith) k (alive-below (suc i) n g l) (λ d b. e (suc i) d g b) (λ m a b. u m i a g b))

      -- ## Scans and answers
      stopped : (j : ℕ) (v : Verdict E) → found s ≡ stop j v → Stops machine.step judge machine.start s j v
      stopped j v e = stop-stops machine.step judge machine.start s laws.opens j v e

      reach : (j : ℕ) (v : Verdict E) → Stops machine.step judge machine.start s j v → Reaches f room s j
      reach j v t = record { inside = t.inside; unbroken = still_unbroken j t.quiet; unended = still_unended j t.quiet }

      stop-at : (j : ℕ) (v : Verdict E) → Reaches f room s j → machine.live (front j) ≡ true → judge (front (suc j)) ≡ some v
          → found s ≡ stop j v
      stop-at j v r l h = stops-stop machine.step judge machine.start s laws.opens j v (record {
        inside = r.inside;
        quiet = still j (omega (arith, r.inside)) l r.unbroken r.unended;
        verdict = h;
      })

      more-to : decode s ≡ more → Unfinished f room s
      more-to e =
          let k : Still (length s) = going-quiet machine.step judge machine.start s laws.opens (more_of tell (found s) e) in record {
            unbroken = still_unbroken (length s) k;
            unended = still_unended (length s) k;
            live = subst Live (take-length s) (still_live (length s) k);
          }

      more-from : Unfinished f room s → decode s ≡ more
      unfolding answer
      more-from w =
          ap (answer tell) (quiet-going machine.step judge machine.start s laws.opens
          (still (length s) (omega arith) (ap (λ (z : List ℕ). machine.live (reached z)) (take-length s) ∙ live-from s w.live)
          w.unbroken w.unended))

      refusal_of : (n j : ℕ) → Stops machine.step judge machine.start s j (refusal n)
          → ((machine.live (front (suc j)) ≡ false) × (n ≡ MALFORMED))
          ⊎ ((machine.live (front (suc j)) ≡ true) × (over (front (suc j)) ≡ some n))
      refusal_of n j t =
          judged-refusal (machine.live (front (suc j))) (machine.done (front (suc j))) (over (front (suc j))) n t.verdict

      malformed-to : (j : ℕ) → decode s ≡ refused MALFORMED j → Malformed f room s j
      malformed-to j e =
          let t : Stops machine.step judge machine.start s j (refusal MALFORMED)
          = stopped j (refusal MALFORMED) (refused-of tell (found s) MALFORMED j e) in record {
            reaches = reach j (refusal MALFORMED) t;
            live = still_live j t.quiet;
            dead = λ l. ⊎_elim
                (λ (w : (machine.live (front (suc j)) ≡ false) × (MALFORMED ≡ MALFORMED)).
                false-true (sym w.0 ∙ live-from (take (suc j) s) l))
                (λ (w : (machine.live (front (suc j)) ≡ true) × (over (front (suc j)) ≡ some MALFORMED)).
                laws.other (over-at j MALFORMED t.inside t.quiet w.0 w.1).0)
                (refusal_of MALFORMED j t);
          }

      malformed-from : (j : ℕ) → Malformed f room s j → decode s ≡ refused MALFORMED j
      unfolding answer
      malformed-from j m = ap (answer tell) (stop-at j (refusal MALFORMED) m.reaches (live-from (take j s) m.live)
          (dead-judged (take (suc j) s) m.dead))

      limit-to : (n j : ℕ) → (n ≡ MALFORMED → ⊥) → decode s ≡ refused n j → Over f room s n j
      limit-to n j g e =
          let t : Stops machine.step judge machine.start s j (refusal n) = stopped j (refusal n) (refused-of tell (found s) n j e) in
          ⊎_elim (λ (w : (machine.live (front (suc j)) ≡ false) × (n ≡ MALFORMED)). absurd (g w.1))
          (λ (w : (machine.live (front (suc j)) ≡ true) × (over (front (suc j)) ≡ some n)).
          let b = over-at j n t.inside t.quiet w.0 w.1 in record {
            reaches = reach j (refusal n) t;
            limit = b.0;
            broken = b.1;
            lowest = λ m h c.
                let k = broken-judged (take (suc j) s) m (omega (arith, h, b.0)) c in
                let z : n ≡ k.0 = same_some n k.0 (sym w.1 ∙ k.2) in
                omega (arith, k.3, ap (rank f.limits) z, h);
          })
          (refusal_of n j t)

      limit-from : (n j : ℕ) → Over f room s n j → decode s ≡ refused n j
      unfolding answer
      limit-from n j o =
          let r : Reaches f room s j = o.reaches in
          let k = broken-judged (take (suc j) s) n o.limit o.broken in
          let a : machine.live (front (suc j)) ≡ true = (laws.over_from (take (suc j) s) n o.limit o.broken).0 in
          let l : machine.live (front j) ≡ true = alive-below j (suc j) (omega arith) a in
          let q : Still j = still j (omega (arith, r.inside)) l r.unbroken r.unended in
          let z : k.0 ≡ n
          = same_rank f.limits n k.0 o.limit
          (equal (rank f.limits k.0) (rank f.limits n) k.3 (λ h. o.lowest k.0 h (over-at j k.0 r.inside q a k.2).1)) in
          ap (answer tell) (stop-at j (refusal n) r l (k.1 ∙ ap (λ (m : ℕ). some (refusal m)) z))
        where
          equal : (x y : ℕ) → x ≤ y → (x < y → ⊥) → x ≡ y
          equal x y h n = omega arith

      -- ## Whole
      taken-bytes : (i : ℕ) → i < length s → length (take (suc i) s) ≡ suc i
      taken-bytes i h = length-take-le (suc i) s h

      whole_to : (w : W) → decode s ≡ whole w → (d : List ℕ) × BeginsWhole f room s w d
      whole_to w e =
          let o : (i : ℕ) × (e : E) × (found s ≡ stop i (ended e)) × (w ≡ tell (suc i) e) = whole_of tell (found s) w e in
          let t : Stops machine.step judge machine.start s o.0 (ended o.1) = stopped o.0 (ended o.1) o.2 in
          let b = laws.body_to (take (suc o.0) s) o.1
          (judged-ended (machine.live (front (suc o.0))) (machine.done (front (suc o.0))) (over (front (suc o.0))) o.1
          t.verdict) in (
            data_of (take (suc o.0) s),
            record {
              count = suc o.0;
              inside = t.inside;
              body = b.0;
              tells = subst (λ (x : W). f.Tells x (take (suc o.0) s) (data_of (take (suc o.0) s)))
                  (ap (λ (n : ℕ). tell n o.1) (taken-bytes o.0 t.inside) ∙ sym o.3) b.1;
              unbroken = λ m i a h c. go o.0 o.1 t m i a h c (ℕ_discrete i o.0);
            },
          )
        where
          go : (i : ℕ) (e : E) → Stops machine.step judge machine.start s i (ended e) → (m j : ℕ) → Among f.limits m → j < suc i
              → f.Broken room m (take (suc j) s) → Dec (j ≡ i) → ⊥
          go i e t m j a h b (yes z) =
              let y = broken-judged (take (suc j) s) m a b in
              not-ended (sym y.1 ∙ ap (λ (x : ℕ). judge (front (suc x))) z ∙ t.verdict)
          go i e t m j a h b (no z) = still_unbroken i t.quiet m j a (omega arith) b

      -- a byte that breaks no limit
      within : (i : ℕ) → i < length s → Still i → machine.live (front (suc i)) ≡ true
          → ((n : ℕ) → Among f.limits n → f.Broken room n (take (suc i) s) → ⊥) → over (front (suc i)) ≡ none
      within i h k l u = go (over (front (suc i))) refl
        where
          go : (o : Option ℕ) → over (front (suc i)) ≡ o → o ≡ none
          go none e = refl
          go (some n) e = let z = over-at i n h k l e in absurd (u n z.0 z.1)

      found-whole : (n : ℕ) (d : List ℕ) → n ≤ length s → f.Body (take n s) d → Unbroken f room s n
          → (i : ℕ) × (e : E) × (n ≡ suc i) × (found s ≡ stop i (ended e)) × ((w : W) → f.Tells w (take n s) d → w ≡ tell n e)
      found-whole zero d k b u = undone [] d b laws.opens
      found-whole (suc i) d k b u =
          let a : machine.live (front (suc i)) ≡ true = body-alive (take (suc i) s) d b in
          let e : E = (laws.body_from (take (suc i) s) d b).0 in
          let l : machine.live (front i) ≡ true = alive-below i (suc i) (omega arith) a in
          let r : Reaches f room s i = record {
            inside = k;
            unbroken = λ m j c h z. u m j c (omega arith) z;
            unended = λ j c h z.
                false-true (sym (ended-dead j c (omega (arith, k)) z) ∙ alive-below (suc j) (suc i) (omega arith) a);
          } in
          let q : Still i = still i (omega (arith, k)) l r.unbroken r.unended in (
            i,
            e,
            refl,
            stop-at i (ended e) r l (body-judged (take (suc i) s) d b (within i k q a (λ n c z. u n i c (omega arith) z))),
            λ w z. (laws.body_from (take (suc i) s) d b).3 w z ∙ ap (λ (n : ℕ). tell n e) (taken-bytes i k),
          )

      whole_from : (w : W) (d : List ℕ) → BeginsWhole f room s w d → decode s ≡ whole w
      unfolding answer
      whole_from w d b =
          let o = found-whole b.count d b.inside b.body b.unbroken in
          ap (answer tell) o.3 ∙ ap whole (ap (λ (n : ℕ). tell n o.1) (sym o.2) ∙ sym (o.4 w b.tells))

      -- ## Written bytes, whatever is written before a body is whole
      module _ (early : List ℕ → List ℕ) where
        abbrev writes : List ℕ
        writes = written early data_of (found s) s

        writes-of : (w : W) (d : List ℕ) → BeginsWhole f room s w d → writes ≡ d
        unfolding written
        writes-of w d b =
            let o = found-whole b.count d b.inside b.body b.unbroken in
            ap (λ (z : Found (Verdict E)). written early data_of z s) o.3
            ∙ ap (λ (n : ℕ). data_of (take n s)) (sym o.2)
            ∙ (laws.body_from (take b.count s) d b.body).2

        keeps_more : decode s ≡ more → writes ≡ early s
        unfolding written
        keeps_more e = ap (λ (z : Found (Verdict E)). written early data_of z s) (more_of tell (found s) e)

        refused-live : (n p : ℕ) → decode s ≡ refused n p → Live (take p s)
        refused-live n p e = still_live p (stopped p (refusal n) (refused-of tell (found s) n p e)).quiet

        keeps_refused : (n p : ℕ) → decode s ≡ refused n p → writes ≡ early (take p s)
        unfolding written
        keeps_refused n p e = ap (λ (z : Found (Verdict E)). written early data_of z s) (refused-of tell (found s) n p e)

        -- ## Longer inputs
        stands-found : (t : List ℕ) → (decode s ≡ more → ⊥) → found (s ++ t) ≡ found s
        unfolding answer
        stands-found t g = go (found s) refl
          where
            go : (r : Found (Verdict E)) → found s ≡ r → found (s ++ t) ≡ found s
            go going e = absurd (g (ap (answer tell) e))
            go (stop j v) e = stands machine.step judge machine.start 0 s t j v e ∙ sym e

        stands-written : (t : List ℕ) (r : Found (Verdict E)) → found s ≡ r → (r ≡ going → ⊥)
            → written early data_of r (s ++ t) ≡ written early data_of r s
        unfolding written
        stands-written t going e g = absurd (g refl)
        stands-written t (stop i (ended v)) e g = ap data_of (take-append-le (suc i) s t (stopped i (ended v) e).inside)
        stands-written t (stop i (refusal n)) e g =
            ap early (take-append-le i s t (omega (arith, (stopped i (refusal n) e).inside)))

        stands-both : (t : List ℕ) → (decode s ≡ more → ⊥)
            → (decode (s ++ t) ≡ decode s) × (written early data_of (found (s ++ t)) (s ++ t) ≡ writes)
        unfolding answer
        stands-both t g =
            let e : found (s ++ t) ≡ found s = stands-found t g in (
              ap (answer tell) e,
              ap (λ (z : Found (Verdict E)). written early data_of z (s ++ t)) e
                  ∙ stands-written t (found s) refl (λ z. g (ap (answer tell) z)),
            )

-- ## One machine, in every room
module _ {E S W : Type 0} (f : Format W) (machine : Machine E S) (tell : ℕ → E → W)
    (laws : (r : ℕ) → Laws f machine tell r)
    -- a larger room changes one limit alone, and lifts it
    (same : (r q n : ℕ) (s : S) → (n ≡ BODY_TOO_LARGE → ⊥) → machine.broke q n s ≡ machine.broke r n s)
    (lifts : (r q : ℕ) (s : S) → r ≤ q → machine.broke q BODY_TOO_LARGE s ≡ true → machine.broke r BODY_TOO_LARGE s ≡ true)
    -- what is written of the bytes accepted, where these are not a whole body
    (Early : List ℕ → List ℕ → Type 0) (early : List ℕ → List ℕ) (writes-early : (p : List ℕ) → Demand.Live f.Body p → Early p (early p))
  where
    abbrev found_in : ℕ → List ℕ → Found (Verdict E)
    found_in = find_by machine tell f.limits

    abbrev decode_in : ℕ → List ℕ → Answer W
    decode_in = decode_by machine tell f.limits

    agree : (l : Bool) (d : Option E) (o o' : Option ℕ) → (o ≡ some BODY_TOO_LARGE) ⊎ (o' ≡ o)
        → (judged_by l d o ≡ some (refusal BODY_TOO_LARGE)) ⊎ (judged_by l d o' ≡ judged_by l d o)
    agree false d o o' h = inr refl
    agree true d o o' h = ⊎_elim (λ (e : o ≡ some BODY_TOO_LARGE). inl (ap (λ (z : Option ℕ). verdict_of z d) e))
        (λ (e : o' ≡ o). inr (ap (λ (z : Option ℕ). verdict_of z d) e)) h

    roomier-found : (r q : ℕ) (s : List ℕ) → r ≤ q → ((p : ℕ) → decode_in r s ≡ refused BODY_TOO_LARGE p → ⊥) → found_in q s ≡ found_in r s
    unfolding answer
    roomier-found r q s h g =
        same-scan machine.step (judge_by machine tell f.limits r) (judge_by machine tell f.limits q) (refusal BODY_TOO_LARGE)
        (λ z. agree (machine.live z) (machine.done z) (over_by machine tell f.limits r z) (over_by machine tell f.limits q z)
        (first-same (λ n. machine.broke r n z) (λ n. machine.broke q n z) BODY_TOO_LARGE (λ n k. same r q n z k) (λ k. lifts r q z h k)
        f.limits))
        machine.start 0 s (λ j z. g j (ap (answer tell) z))

    pub decodes : Decodes f Early decode_in (λ r s. decoded_by machine tell f.limits r early s)
    unfolding answer
    decodes = record {
      whole = λ r s w. (whole_to f machine tell r (laws r) s w, λ b. whole_from f machine tell r (laws r) s w b.0 b.1);
      more = λ r s. (more-to f machine tell r (laws r) s, more-from f machine tell r (laws r) s);
      malformed = λ r s p. (malformed-to f machine tell r (laws r) s p, malformed-from f machine tell r (laws r) s p);
      limit = λ r s n p g. (limit-to f machine tell r (laws r) s n p g, limit-from f machine tell r (laws r) s n p);
      writes = λ r s. writes-of f machine tell r (laws r) s early;
      keeps_more = λ r s e.
          subst (Early s) (sym (keeps_more f machine tell r (laws r) s early e)) (writes-early s (more-to f machine tell r (laws r) s e).live);
      keeps_refused = λ r s n p e.
          subst (Early (take p s)) (sym (keeps_refused f machine tell r (laws r) s early n p e))
          (writes-early (take p s) (refused-live f machine tell r (laws r) s early n p e));
      stands = λ r s t g. stands-both f machine tell r (laws r) s early t g;
      roomier = λ r q s h g.
          let e : found_in q s ≡ found_in r s = roomier-found r q s h g in (
            ap (answer tell) e,
            ap (λ (z : Found (Verdict E)). written early (out machine.step machine.emit machine.start) z s) e,
          );
    }

-- what is asked of a reader holds of each that gives the same
pub decodes_along : {W : Type 0} {f : Format W} {Early : List ℕ → List ℕ → Type 0} {decode decode' : ℕ → List ℕ → Answer W}
    {decoded decoded' : ℕ → List ℕ → List ℕ} → ((r : ℕ) (s : List ℕ) → decode' r s ≡ decode r s)
    → ((r : ℕ) (s : List ℕ) → decoded' r s ≡ decoded r s) → Decodes f Early decode decoded → Decodes f Early decode' decoded'
decodes_along {f = f} {Early = Early} x y =
    subst₂ (Decodes f Early) (fun_ext (λ r. fun_ext (λ s. sym (x r s)))) (fun_ext (λ r. fun_ext (λ s. sym (y r s))))
