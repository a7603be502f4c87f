-- Bytes taken one after the other: what a byte comes to, that a cut anywhere changes nothing, and which states are met.
use mathlib.Core.Path.{◌≡◌, refl, sym, ◌∙◌, ap, ap₂, subst}
use mathlib.Core.Bool.{Bool, true, false, cond}
use mathlib.Core.List.{List, [], ◌∷◌, ◌++◌, append_assoc, append-nil}
use mathlib.Core.Logic.{◌⊎◌, inl, inr, ⊎_elim}
use mathlib.Core.Option.{Option, none, some}
use Prim.Native.Nat.{ℕ, suc, ◌+◌, ◌<◌, ◌≤◌}
use native.Mathlib.Omega.{arith}
use lib.Dec.{eqb}
use lib.ListN.{length, take, length-append}
use borrow.Author.Tests.{eqb-true, eqb-false, eq-eqb, ne_eqb, le-leb}
use Rattle.grammar.specs.Refusals.{MALFORMED, LINE_TOO_LONG, TRAILER_TOO_LONG, BODY_TOO_LARGE, FORBIDDEN_FIELD, FRAMED_TOO_LONG}
use Rattle.framing.specs.Answer.{refused}
use Rattle.framing.specs.declared.State.{State}
use Rattle.framing.specs.Demand.{Among}
use Rattle.framing.specs.Grammar.{limits}
use Rattle.framing.specs.Reading.{judge}
use Rattle.framing.specs.helpers.Machine.{End, machine, step, emit, live, done, tell}
use Rattle.framing.specs.helpers.Scan.{Verdict, ended, refusal, Counted, judged_by, over_by, run, out, Quiet}
use Rattle.framing.proofs.Cases.{false-true, none-some, pick_true, pick-false}
use Rattle.framing.proofs.Ranks.{first_passes, first-none}
use Rattle.framing.proofs.Counting.{judged-within}
use Rattle.transition.specs.Moving.{possible}
use Rattle.pieces.specs.Grammar.{FRAMED_LIMIT, in_pieces}
use Rattle.pieces.specs.declared.Pieces.{Pieces}
use Rattle.pieces.specs.helpers.Runs.{Sound}
use Rattle.pieces.specs.Reading.{counting, begun, judged, heed, next, unrefused, answer_of, over, over?, advance, steps, gathered}
use Rattle.pieces.specs.Reading.{filled, listed}
use Rattle.pieces.proofs.Possible.{possible-stands, stands-possible, filled-fits, filled-step, stands-step}

-- ## Verdicts
-- the state and count that a byte leads to
abbrev pub led : Pieces → ℕ → Counted State
led s b = record { count = suc s.taken; at = step s.position b }

heeded : (l : Bool) (d : Option End) (o : Option ℕ) → ((n : ℕ) → judged_by l d o ≡ some (refusal n) → ⊥) → (l ≡ true) × (o ≡ none)
heeded true d none h = (refl, refl)
heeded true d (some n) h = absurd (h n refl)
heeded false d o h = absurd (h MALFORMED refl)

refusal_of : (l : Bool) (d : Option End) (o : Option ℕ) (n : ℕ) → judged_by l d o ≡ some (refusal n) → (n ≡ MALFORMED) ⊎ (o ≡ some n)
refusal_of true none none n e = none-some e
refusal_of true (some d) none n e = let z : ◌≡◌ {A = ℕ} 0 1 = cc in absurd (omega arith)
refusal_of true d (some m) n e = let z : m ≡ n = cc in inr (ap some z)
refusal_of false d o n e = let z : 1 ≡ n = cc in inl (sym z)

-- the numbers of limits are listed, and none is 0
among_listed : (n : ℕ) → Among in_pieces.limits n → listed n ≡ true
among_listed n =
    go (eqb n 0) (eqb n MALFORMED) (eqb n LINE_TOO_LONG) (eqb n TRAILER_TOO_LONG) (eqb n BODY_TOO_LARGE) (eqb n FORBIDDEN_FIELD)
    (eqb n FRAMED_TOO_LONG)
  where
    go : (u v w x y y' z : Bool) → cond w 0 (suc (cond x 0 (suc (cond y 0 (suc (cond y' 0 (suc (cond z 0 1)))))))) < 5
        → cond u true (cond v true (cond w true (cond x true (cond y true (cond y' true z))))) ≡ true
    go true v w x y y' z h = refl
    go false true w x y y' z h = refl
    go false false true x y y' z h = refl
    go false false false true y y' z h = refl
    go false false false false true y' z h = refl
    go false false false false false true z h = refl
    go false false false false false false true h = refl
    go false false false false false false false h = absurd (omega arith)

among_some : (n : ℕ) → Among in_pieces.limits n → n ≡ 0 → ⊥
among_some n h e = let z : Among in_pieces.limits 0 = subst (Among in_pieces.limits) e h in omega arith

module _ (s : Pieces) (b : ℕ) where
  abbrev broken : ℕ → Bool
  broken n = counting.broke s.room n (led s b)

  -- nor is that of any refusal
  pub refusal-listed : (n : ℕ) → judged s b ≡ some (refusal n) → (listed n ≡ true) × (n ≡ 0 → ⊥)
  refusal-listed n e =
      ⊎_elim (λ (z : n ≡ MALFORMED). (ap listed z, λ i. absurd (omega arith)))
      (λ (z : over_by counting tell in_pieces.limits s.room (led s b) ≡ some n).
      let a = (first_passes broken in_pieces.limits n z).0 in (among_listed n a, among_some n a))
      (refusal_of (live (step s.position b)) (done (step s.position b))
      (over_by counting tell in_pieces.limits s.room (led s b)) n e)

  -- the byte leaves a continuation and breaks no limit
  pub record Heeded : Type 0 where
    pub lives : live (step s.position b) ≡ true
    pub unbroken : (n : ℕ) → Among in_pieces.limits n → broken n ≡ false

  -- so it does where it is not refused
  pub unrefused_heeded : ((n : ℕ) → judged s b ≡ some (refusal n) → ⊥) → Heeded
  unrefused_heeded h =
      let w = heeded (live (step s.position b)) (done (step s.position b))
      (over_by counting tell in_pieces.limits s.room (led s b)) h in
      record { lives = w.0; unbroken = λ n a. first-none broken in_pieces.limits n w.1 a }

-- ## Over
pub over-refused : (s : Pieces) → (s.refused ≡ 0 → ⊥) → over? s ≡ true
unfolding answer_of
over-refused s h =
    ap (λ (x : Bool). over (cond x (unrefused (done s.position) s.taken) (refused s.refused s.taken))) (ne_eqb s.refused 0 h)

pub over_done : (s : Pieces) (e : End) → done s.position ≡ some e → over? s ≡ true
unfolding answer_of
over_done s e h = go (eqb s.refused 0)
  where
    go : (x : Bool) → over (cond x (unrefused (done s.position) s.taken) (refused s.refused s.taken)) ≡ true
    go true = ap (λ (o : Option End). over (unrefused o s.taken)) h
    go false = refl

pub not-over : (s : Pieces) → s.refused ≡ 0 → done s.position ≡ none → over? s ≡ false
unfolding answer_of
not-over s z h =
    ap (λ (x : Bool). over (cond x (unrefused (done s.position) s.taken) (refused s.refused s.taken))) (eq-eqb s.refused 0 z)
    ∙ ap (λ (o : Option End). over (unrefused o s.taken)) h

-- what a state that is not over says
pub not-over-says : (s : Pieces) → over? s ≡ false → (s.refused ≡ 0) × (done s.position ≡ none)
not-over-says s o = (zeroed (eqb s.refused 0) refl, go (done s.position) refl)
  where
    zeroed : (x : Bool) → eqb s.refused 0 ≡ x → s.refused ≡ 0
    zeroed true e = eqb-true s.refused 0 e
    zeroed false e = false-true (sym o ∙ over-refused s (eqb-false s.refused 0 e))

    go : (d : Option End) → done s.position ≡ d → d ≡ none
    go none e = refl
    go (some t) e = false-true (sym o ∙ over_done s t e)

-- a state that is over stays as it is and takes nothing
module _ (s : Pieces) (o : over? s ≡ true) where
  pub over_stays : (xs : List ℕ) → advance s xs ≡ s
  unfolding advance
  over_stays [] = refl
  over_stays (b ∷ xs) = sym (pick_true (over? s) s (advance (next s b) xs) o)

  pub over-steps : (xs : List ℕ) → steps s xs ≡ 0
  unfolding steps
  over-steps [] = refl
  over-steps (b ∷ xs) = sym (pick_true (over? s) 0 (cond (eqb (next s b).refused 0) (suc (steps (next s b) xs)) 0) o)

-- ## One byte
-- the state behind a byte that is taken
abbrev pub onward : Pieces → ℕ → Pieces
onward s b = record { position = step s.position b; taken = suc s.taken; room = s.room; refused = 0 }

-- behind one that gets that refusal
abbrev pub turned : Pieces → ℕ → Pieces
turned s n = record { position = s.position; taken = s.taken; room = s.room; refused = n }

module _ (s : Pieces) (b : ℕ) where
  pub next-none : judged s b ≡ none → next s b ≡ onward s b
  unfolding next
  next-none e = ap (λ (v : Option (Verdict End)). heed v s b) e

  pub next-ended : (t : End) → judged s b ≡ some (ended t) → next s b ≡ onward s b
  unfolding next
  next-ended t e = ap (λ (v : Option (Verdict End)). heed v s b) e

  pub next-refused : (n : ℕ) → judged s b ≡ some (refusal n) → next s b ≡ turned s n
  unfolding next
  next-refused n e = ap (λ (v : Option (Verdict End)). heed v s b) e

  module _ (o : over? s ≡ false) where
    pub advance_cons : (xs : List ℕ) → advance s (b ∷ xs) ≡ advance (next s b) xs
    unfolding advance
    advance_cons xs = sym (pick-false (over? s) s (advance (next s b) xs) o)

    steps_cons : (xs : List ℕ) → steps s (b ∷ xs) ≡ cond (eqb (next s b).refused 0) (suc (steps (next s b) xs)) 0
    unfolding steps
    steps_cons xs = sym (pick-false (over? s) 0 (cond (eqb (next s b).refused 0) (suc (steps (next s b) xs)) 0) o)

    pub advance-onward : next s b ≡ onward s b → (xs : List ℕ) → advance s (b ∷ xs) ≡ advance (onward s b) xs
    advance-onward e xs = advance_cons xs ∙ ap (λ (z : Pieces). advance z xs) e

    pub steps-onward : next s b ≡ onward s b → (xs : List ℕ) → steps s (b ∷ xs) ≡ suc (steps (onward s b) xs)
    steps-onward e xs = steps_cons xs ∙ ap (λ (z : Pieces). cond (eqb z.refused 0) (suc (steps z xs)) 0) e

    pub gathered-onward : next s b ≡ onward s b → (xs : List ℕ)
        → gathered s (b ∷ xs) ≡ emit s.position b ++ gathered (onward s b) xs
    gathered-onward e xs = ap (λ (n : ℕ). out step emit s.position (take n (b ∷ xs))) (steps-onward e xs)

    pub steps-turned : (n : ℕ) → (n ≡ 0 → ⊥) → next s b ≡ turned s n → (xs : List ℕ) → steps s (b ∷ xs) ≡ 0
    steps-turned n h e xs =
        steps_cons xs ∙ ap (λ (z : Pieces). cond (eqb z.refused 0) (suc (steps z xs)) 0) e
        ∙ ap (λ (x : Bool). cond x (suc (steps (turned s n) xs)) 0) (ne_eqb n 0 h)

pub gathered_none : (s : Pieces) (xs : List ℕ) → steps s xs ≡ 0 → gathered s xs ≡ []
gathered_none s xs e = ap (λ (n : ℕ). out step emit s.position (take n xs)) e

-- what becomes of bytes from a state on, by the first of them
pub data Turn (s : Pieces) (b : ℕ) : Type 0 where
  -- it is taken
  goes : over? s ≡ false → Heeded s b → next s b ≡ onward s b → Turn s b
  -- it is not: the state was over, or is now
  stops : (n : ℕ) → (listed s.refused ≡ true → listed n ≡ true) → over? (turned s n) ≡ true
      → ((xs : List ℕ) → advance s (b ∷ xs) ≡ turned s n) → ((xs : List ℕ) → steps s (b ∷ xs) ≡ 0) → Turn s b

pub turn : (s : Pieces) (b : ℕ) → Turn s b
turn s b = first (over? s) refl
  where
    by : over? s ≡ false → (v : Option (Verdict End)) → judged s b ≡ v → Turn s b
    by o none e = goes o (unrefused_heeded s b (λ n f. none-some (sym e ∙ f))) (next-none s b e)
    by o (some (ended t)) e = goes o (unrefused_heeded s b (λ n f. other t n (sym e ∙ f))) (next-ended s b t e)
      where
        other : (t : End) (n : ℕ) → some (ended t) ≡ some (refusal n) → ⊥
        other t n g = let z : ◌≡◌ {A = ℕ} 0 1 = cc in omega arith
    by o (some (refusal n)) e =
        let w = refusal-listed s b n e in
        let z : next s b ≡ turned s n = next-refused s b n e in
        let v : over? (turned s n) ≡ true = over-refused (turned s n) w.1 in
        stops n (λ _. w.0) v (λ xs. advance_cons s b o xs ∙ ap (λ (y : Pieces). advance y xs) z ∙ over_stays (turned s n) v xs)
        (steps-turned s b o n w.1 z)

    first : (x : Bool) → over? s ≡ x → Turn s b
    first true o = stops s.refused (λ l. l) o (λ xs. over_stays s o (b ∷ xs)) (λ xs. over-steps s o (b ∷ xs))
    first false o = by o (judged s b) refl

-- ## Bytes one after the other
pub advance_append : (s : Pieces) (xs ys : List ℕ) → advance s (xs ++ ys) ≡ advance (advance s xs) ys
unfolding advance
advance_append s [] ys = refl
advance_append s (b ∷ xs) ys = go (turn s b) (advance_append (onward s b) xs ys)
  where
    go : Turn s b → advance (onward s b) (xs ++ ys) ≡ advance (advance (onward s b) xs) ys
        → advance s (b ∷ xs ++ ys) ≡ advance (advance s (b ∷ xs)) ys
    go (goes o h e) below =
        advance-onward s b o e (xs ++ ys) ∙ below ∙ sym (ap (λ (z : Pieces). advance z ys) (advance-onward s b o e xs))
    go (stops n l v a k) below = a (xs ++ ys) ∙ sym (ap (λ (z : Pieces). advance z ys) (a xs) ∙ over_stays (turned s n) v ys)

pub steps_append : (s : Pieces) (xs ys : List ℕ) → steps s (xs ++ ys) ≡ steps s xs + steps (advance s xs) ys
unfolding advance steps
steps_append s [] ys = omega arith
steps_append s (b ∷ xs) ys = go (turn s b) (steps_append (onward s b) xs ys)
  where
    go : Turn s b → steps (onward s b) (xs ++ ys) ≡ steps (onward s b) xs + steps (advance (onward s b) xs) ys
        → steps s (b ∷ xs ++ ys) ≡ steps s (b ∷ xs) + steps (advance s (b ∷ xs)) ys
    go (goes o h e) below =
        let y : steps (advance s (b ∷ xs)) ys ≡ steps (advance (onward s b) xs) ys
        = ap (λ (z : Pieces). steps z ys) (advance-onward s b o e xs) in
        omega (arith, steps-onward s b o e (xs ++ ys), steps-onward s b o e xs)
    go (stops n l v a k) below =
        let y : steps (advance s (b ∷ xs)) ys ≡ 0 = ap (λ (z : Pieces). steps z ys) (a xs) ∙ over-steps (turned s n) v ys in
        omega (arith, k (xs ++ ys), k xs)

pub gathered_append : (s : Pieces) (xs ys : List ℕ) → gathered s (xs ++ ys) ≡ gathered s xs ++ gathered (advance s xs) ys
unfolding advance steps
gathered_append s [] ys = refl
gathered_append s (b ∷ xs) ys = go (turn s b) (gathered_append (onward s b) xs ys)
  where
    go : Turn s b → gathered (onward s b) (xs ++ ys) ≡ gathered (onward s b) xs ++ gathered (advance (onward s b) xs) ys
        → gathered s (b ∷ xs ++ ys) ≡ gathered s (b ∷ xs) ++ gathered (advance s (b ∷ xs)) ys
    go (goes o h e) below =
        gathered-onward s b o e (xs ++ ys) ∙ ap (λ (z : List ℕ). emit s.position b ++ z) below
        ∙ sym (append_assoc (emit s.position b) (gathered (onward s b) xs) (gathered (advance (onward s b) xs) ys))
        ∙ sym (ap₂ (λ (x : List ℕ) (z : Pieces). x ++ gathered z ys) (gathered-onward s b o e xs) (advance-onward s b o e xs))
    go (stops n l v a k) below =
        gathered_none s (b ∷ xs ++ ys) (k (xs ++ ys))
        ∙ sym (ap₂ (λ (x : List ℕ) (z : Pieces). x ++ gathered z ys) (gathered_none s (b ∷ xs) (k xs)) (a xs)
        ∙ gathered_none (turned s n) ys (over-steps (turned s n) v ys))

-- ## What they leave, and how many are taken
pub advance-room : (s : Pieces) (xs : List ℕ) → (advance s xs).room ≡ s.room
unfolding advance
advance-room s [] = refl
advance-room s (b ∷ xs) = go (turn s b) (advance-room (onward s b) xs)
  where
    go : Turn s b → (advance (onward s b) xs).room ≡ s.room → (advance s (b ∷ xs)).room ≡ s.room
    go (goes o h e) below = ap (λ (z : Pieces). z.room) (advance-onward s b o e xs) ∙ below
    go (stops n l v a k) below = ap (λ (z : Pieces). z.room) (a xs)

pub advance-taken : (s : Pieces) (xs : List ℕ) → (advance s xs).taken ≡ s.taken + steps s xs
unfolding advance steps
advance-taken s [] = omega arith
advance-taken s (b ∷ xs) = go (turn s b) (advance-taken (onward s b) xs)
  where
    go : Turn s b → (advance (onward s b) xs).taken ≡ suc s.taken + steps (onward s b) xs
        → (advance s (b ∷ xs)).taken ≡ s.taken + steps s (b ∷ xs)
    go (goes o h e) below = ap (λ (z : Pieces). z.taken) (advance-onward s b o e xs) ∙ omega (arith, below, steps-onward s b o e xs)
    go (stops n l v a k) below = ap (λ (z : Pieces). z.taken) (a xs) ∙ omega (arith, k xs)

pub advance-position : (s : Pieces) (xs : List ℕ) → (advance s xs).position ≡ run step s.position (take (steps s xs) xs)
unfolding advance steps
advance-position s [] = refl
advance-position s (b ∷ xs) = go (turn s b) (advance-position (onward s b) xs)
  where
    go : Turn s b → (advance (onward s b) xs).position ≡ run step (step s.position b) (take (steps (onward s b) xs) xs)
        → (advance s (b ∷ xs)).position ≡ run step s.position (take (steps s (b ∷ xs)) (b ∷ xs))
    go (goes o h e) below =
        ap (λ (z : Pieces). z.position) (advance-onward s b o e xs) ∙ below
        ∙ sym (ap (λ (n : ℕ). run step s.position (take n (b ∷ xs))) (steps-onward s b o e xs))
    go (stops n l v a k) below =
        ap (λ (z : Pieces). z.position) (a xs) ∙ sym (ap (λ (n : ℕ). run step s.position (take n (b ∷ xs))) (k xs))

pub steps-within : (s : Pieces) (xs : List ℕ) → steps s xs ≤ length xs
unfolding steps
steps-within s [] = omega arith
steps-within s (b ∷ xs) = go (turn s b) (steps-within (onward s b) xs)
  where
    go : Turn s b → steps (onward s b) xs ≤ length xs → steps s (b ∷ xs) ≤ suc (length xs)
    go (goes o h e) below = omega (arith, steps-onward s b o e xs)
    go (stops n l v a k) below = omega (arith, k xs)

-- "It takes the smaller of quota and piece length, fewer only where the body ends or at a refused byte"
pub steps_all : (s : Pieces) (xs : List ℕ) → over? (advance s xs) ≡ false → steps s xs ≡ length xs
unfolding advance steps
steps_all s [] h = refl
steps_all s (b ∷ xs) h = go (turn s b) (steps_all (onward s b) xs)
  where
    go : Turn s b → (over? (advance (onward s b) xs) ≡ false → steps (onward s b) xs ≡ length xs) → steps s (b ∷ xs) ≡ suc (length xs)
    go (goes o g e) below = steps-onward s b o e xs ∙ ap suc (below (sym (ap over? (advance-onward s b o e xs)) ∙ h))
    go (stops n l v a k) below = false-true (sym h ∙ ap over? (a xs) ∙ v)

-- ## One byte alone
-- from a state that is not over: it is taken where its verdict is none or the body's end
pub record Takes (s : Pieces) (b : ℕ) : Type 0 where
  pub state : next s b ≡ onward s b
  pub count : steps s (b ∷ []) ≡ 1
  pub given : gathered s (b ∷ []) ≡ emit s.position b

pub record Refuses (s : Pieces) (b n : ℕ) : Type 0 where
  pub number : n ≡ 0 → ⊥
  pub state : next s b ≡ turned s n
  pub count : steps s (b ∷ []) ≡ 0
  pub given : gathered s (b ∷ []) ≡ []

module _ (s : Pieces) (b : ℕ) (o : over? s ≡ false) where
  pub advance-one : advance s (b ∷ []) ≡ next s b
  unfolding advance
  advance-one = advance_cons s b o []

  onward_takes : next s b ≡ onward s b → Takes s b
  unfolding steps
  onward_takes e = record {
    state = e;
    count = steps-onward s b o e [];
    given = gathered-onward s b o e [] ∙ append-nil (emit s.position b);
  }

  pub none_takes : judged s b ≡ none → Takes s b
  none_takes e = onward_takes (next-none s b e)

  pub ended_takes : (t : End) → judged s b ≡ some (ended t) → Takes s b
  ended_takes t e = onward_takes (next-ended s b t e)

  pub refusal-refuses : (n : ℕ) → judged s b ≡ some (refusal n) → Refuses s b n
  refusal-refuses n e =
      let w = (refusal-listed s b n e).1 in
      let k : steps s (b ∷ []) ≡ 0 = steps-turned s b o n w (next-refused s b n e) [] in
      record { number = w; state = next-refused s b n e; count = k; given = gathered_none s (b ∷ []) k }

-- ## Bytes that get no verdict
-- within the limit on a framed body, the verdict of framing's reader
pub judged-below : (s : Pieces) (b : ℕ) → s.taken < FRAMED_LIMIT → judged s b ≡ judge s.room (step s.position b)
unfolding judge
judged-below s b h =
    judged-within FRAMED_TOO_LONG FRAMED_LIMIT machine tell limits (λ a. absurd (omega arith)) s.room (led s b) (λ e. absurd (omega arith))

quiet_undone : (room : ℕ) (q : State) → judge room q ≡ none → done q ≡ none
unfolding judge
quiet_undone room q = go (live q) (done q) (over_by machine tell limits room q)
  where
    go : (l : Bool) (d : Option End) (o : Option ℕ) → judged_by l d o ≡ none → d ≡ none
    go true none none e = refl
    go true (some t) none e = none-some (sym e)
    go true d (some n) e = none-some (sym e)
    go false d o e = none-some (sym e)

-- all of the bytes are taken
pub record Passes (s : Pieces) (xs : List ℕ) : Type 0 where
  pub state : advance s xs
      ≡ record { position = run step s.position xs; taken = s.taken + length xs; room = s.room; refused = 0 }
  pub count : steps s xs ≡ length xs
  pub given : gathered s xs ≡ out step emit s.position xs

pub passes : (s : Pieces) (xs : List ℕ) → Quiet step (judge s.room) s.position xs (length xs)
    → s.taken + length xs ≤ FRAMED_LIMIT → s.refused ≡ 0 → Passes s xs
unfolding advance steps
passes s [] k h z = record {
  state = ap₂ (λ (t n : ℕ). record { position = s.position; taken = t; room = s.room; refused = n }) (omega arith) z;
  count = refl;
  given = refl;
}
passes s (b ∷ xs) k h z = go (passes (onward s b) xs (λ i l. k (suc i) (omega arith)) (omega arith) refl)
  where
    o : over? s ≡ false
    o = not-over s z (quiet_undone s.room s.position (k 0 (omega arith)))

    e : next s b ≡ onward s b
    e = next-none s b (judged-below s b (omega arith) ∙ k 1 (omega arith))

    total : suc s.taken + length xs ≡ s.taken + suc (length xs)
    total = omega arith

    go : Passes (onward s b) xs → Passes s (b ∷ xs)
    go below = record {
      state = advance-onward s b o e xs ∙ below.state
          ∙ ap (λ (t : ℕ). record { position = run step (step s.position b) xs; taken = t; room = s.room; refused = 0 }) total;
      count = steps-onward s b o e xs ∙ ap suc below.count;
      given = gathered-onward s b o e xs ∙ ap (λ (d : List ℕ). emit s.position b ++ d) below.given;
    }

-- ## States that are met
-- what `valid` asks of a state
pub begun-sound : (room : ℕ) → Sound (begun room)
unfolding possible
begun-sound room = record { stands = le-leb 0 room (omega arith); within = omega arith; lists = refl }

onward-sound : (s : Pieces) (b : ℕ) → Heeded s b → Sound s → Sound (onward s b)
onward-sound s b h d = record {
  stands = stands-possible s.room (step s.position b)
      (stands-step s.room s.position b (possible-stands s.room s.position d.stands) h.lives
      (h.unbroken LINE_TOO_LONG (omega arith)) (h.unbroken TRAILER_TOO_LONG (omega arith)) (h.unbroken BODY_TOO_LARGE (omega arith)));
  within =
      let z = eqb-false (suc s.taken) (suc FRAMED_LIMIT) (h.unbroken FRAMED_TOO_LONG (omega arith)) in
      let n : s.taken ≤ FRAMED_LIMIT = d.within in
      omega arith;
  lists = refl;
}

pub advance-sound : (s : Pieces) (xs : List ℕ) → Sound s → Sound (advance s xs)
unfolding advance
advance-sound s [] d = d
advance-sound s (b ∷ xs) d = go (turn s b) (λ h. advance-sound (onward s b) xs (onward-sound s b h d))
  where
    go : Turn s b → (Heeded s b → Sound (advance (onward s b) xs)) → Sound (advance s (b ∷ xs))
    go (goes o h e) below = subst Sound (sym (advance-onward s b o e xs)) (below h)
    go (stops n l v a k) below =
        subst Sound (sym (a xs)) (record { stands = d.stands; within = d.within; lists = l d.lists })

pub next-sound : (s : Pieces) (b : ℕ) → over? s ≡ false → Sound s → Sound (next s b)
next-sound s b o d = subst Sound (advance-one s b o) (advance-sound s (b ∷ []) d)

-- ## The data so far
-- it stands at the front of the output, and fits
pub filled_on : (s : Pieces) (xs : List ℕ) → Sound s → filled (advance s xs).position ≡ filled s.position + length (gathered s xs)
unfolding advance steps
filled_on s [] d = omega arith
filled_on s (b ∷ xs) d = go (turn s b) (λ h. filled_on (onward s b) xs (onward-sound s b h d))
  where
    go : Turn s b
        → (Heeded s b → filled (advance (onward s b) xs).position ≡ filled (step s.position b) + length (gathered (onward s b) xs))
        → filled (advance s (b ∷ xs)).position ≡ filled s.position + length (gathered s (b ∷ xs))
    go (goes o h e) below =
        let f = filled-step s.room s.position b (possible-stands s.room s.position d.stands) h.lives in
        let l : length (gathered s (b ∷ xs)) ≡ length (emit s.position b) + length (gathered (onward s b) xs)
        = ap length (gathered-onward s b o e xs) ∙ length-append (emit s.position b) (gathered (onward s b) xs) in
        ap (λ (z : Pieces). filled z.position) (advance-onward s b o e xs) ∙ below h ∙ omega arith
    go (stops n l v a k) below =
        let w : length (gathered s (b ∷ xs)) ≡ 0 = ap length (gathered_none s (b ∷ xs) (k xs)) in
        ap (λ (z : Pieces). filled z.position) (a xs) ∙ omega arith

pub gathered-fits : (s : Pieces) (xs : List ℕ) → Sound s → filled s.position + length (gathered s xs) ≤ s.room
gathered-fits s xs d =
    let t : Pieces = advance s xs in
    let f : filled t.position ≤ t.room
    = filled-fits t.room t.position (possible-stands t.room t.position (advance-sound s xs d).stands) in
    omega (arith, advance-room s xs, filled_on s xs d)
