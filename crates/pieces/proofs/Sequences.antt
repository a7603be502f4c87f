-- Calls one after the other, from the start: what they leave depends on the bytes that they offer, joined, and on nothing else.
use mathlib.Core.Path.{◌≡◌, refl, sym, ◌∙◌, ap, ap₂, subst}
use mathlib.Core.Bool.{Bool, true, false, not, ◌&&◌, and-true, cond}
use mathlib.Core.List.{List, [], ◌∷◌, ◌++◌, append-nil}
use mathlib.Core.Logic.{◌⊎◌, inl, inr, ⊎_elim}
use mathlib.Core.Option.{Option, none, some}
use Prim.Native.Nat.{ℕ, zero, suc, ◌+◌, ◌-◌, ◌*◌, ◌/◌, ◌<◌, ◌≤◌, min}
use native.Mathlib.Nat.{zero-mul, suc-mul, lt-div-mul-add}
use native.Mathlib.Omega.{arith}
use lib.Dec.{eqb, leb}
use lib.ListN.{length, take, drop, length-append, length-take, length-drop}
use lib.Seq.{take_all}
use borrow.Author.Tests.{eqb-true, eqb-false, eq-eqb, ne_eqb, leb-true, le-leb, not-true}
use Rattle.grammar.specs.Refusals.{OUT_OF_RANGE}
use Rattle.text.specs.Placing.{placed}
use Rattle.text.proofs.Placing.{placed-fits, placed-length, placed-placed}
use Rattle.framing.specs.Answer.{Answer, refused}
use Rattle.framing.specs.declared.Whole.{Whole}
use Rattle.framing.specs.helpers.Machine.{End, done}
use Rattle.framing.proofs.Cases.{false-true, by_cond, pick_true, pick-false}
use Rattle.transition.specs.Moving.{possible}
use Rattle.pieces.specs.Grammar.{FRAMED_LIMIT}
use Rattle.pieces.specs.declared.Pieces.{Pieces}
use Rattle.pieces.specs.Reading.{begun, unrefused, answer_of, over?, advance, steps, gathered, decode, decoded, filled, listed, valid}
use Rattle.pieces.specs.Reading.{state_after, taken_by, answered, output_after}
use Rattle.pieces.specs.Calls.{Call, after, output, taken_in, offer, offers, waiting}
use Rattle.pieces.proofs.Possible.{both, to_both}
use Rattle.plain_chunks.proofs.Chunks.{placed-none}
use Rattle.pieces.proofs.Steps.{over_stays, over-steps, gathered_none, advance_append, steps_append, gathered_append, advance-room}
use Rattle.pieces.specs.helpers.Runs.{Sound}
use Rattle.pieces.proofs.Steps.{advance-taken, steps-within, steps_all, begun-sound, advance-sound, filled_on, gathered-fits}

-- ## One call, on any state
-- what `valid` says
pub record Allows (s : Pieces) (quota len : ℕ) : Type 0 where
  pub some_quota : 0 < quota
  pub same_room : len ≡ s.room
  pub sound : Sound s

pub valid_allows : (s : Pieces) (quota len : ℕ) → valid s quota len ≡ true → Allows s quota len
unfolding valid
valid_allows s quota len h =
    let a = both (not (eqb quota 0)) (eqb len s.room && rest) h in
    let b = both (eqb len s.room) rest a.1 in
    let c = both (leb s.taken FRAMED_LIMIT) (listed s.refused && possible s.room s.position) b.1 in
    let d = both (listed s.refused) (possible s.room s.position) c.1 in
    let z = eqb-false quota 0 (not-true (eqb quota 0) a.0) in
    record {
      some_quota = omega arith;
      same_room = eqb-true len s.room b.0;
      sound = record { stands = d.1; within = leb-true s.taken FRAMED_LIMIT c.0; lists = d.0 };
    }
  where
    rest : Bool
    rest = leb s.taken FRAMED_LIMIT && (listed s.refused && possible s.room s.position)

-- on a state that is met, quota and length decide
pub sound-valid : (s : Pieces) (quota len : ℕ) → Sound s → valid s quota len ≡ (not (eqb quota 0) && eqb len s.room)
unfolding valid
sound-valid s quota len d =
    ap (λ (x : Bool). not (eqb quota 0) && (eqb len s.room && x))
    (to_both (leb s.taken FRAMED_LIMIT) (listed s.refused && possible s.room s.position) (le-leb s.taken FRAMED_LIMIT d.within)
    (to_both (listed s.refused) (possible s.room s.position) d.lists d.stands))
    ∙ ap (λ (x : Bool). not (eqb quota 0) && x) (and-true (eqb len s.room))

pub allows_valid : (s : Pieces) (quota len : ℕ) → Allows s quota len → valid s quota len ≡ true
allows_valid s quota len a =
    sound-valid s quota len a.sound
    ∙ to_both (not (eqb quota 0)) (eqb len s.room) (ap not (ne_eqb quota 0 (λ e. absurd (omega (arith, a.some_quota)))))
    (eq-eqb len s.room a.same_room)

module _ (s : Pieces) (piece : List ℕ) (quota : ℕ) where
  -- "how many bytes it took, at most the quota. It takes the smaller of quota and piece length, fewer only where the body ends or at a
  -- refused byte"
  pub takes : (len : ℕ) → valid s quota len ≡ true
      → (taken_by s piece quota len ≤ quota) × (taken_by s piece quota len ≤ length piece)
      × (over? (state_after s piece quota len) ≡ false → taken_by s piece quota len ≡ min quota (length piece))
  takes len h =
      let t : taken_by s piece quota len ≡ steps s (take quota piece) = sym (pick_true (valid s quota len) (steps s (take quota piece)) 0 h) in
      let z : state_after s piece quota len ≡ advance s (take quota piece)
      = sym (pick_true (valid s quota len) (advance s (take quota piece)) s h) in
      let w : steps s (take quota piece) ≤ length (take quota piece) = steps-within s (take quota piece) in (
        omega (arith, length-take quota piece),
        omega (arith, length-take quota piece),
        λ o. t ∙ steps_all s (take quota piece) (sym (ap over? z) ∙ o) ∙ length-take quota piece,
      )

  -- "no answer about the body": no valid call gives it
  pub never_nine : (len p : ℕ) → valid s quota len ≡ true → answered s piece quota len ≡ refused OUT_OF_RANGE p → ⊥
  unfolding answer_of
  never_nine len p h e =
      let t : Pieces = advance s (take quota piece) in
      let l : listed t.refused ≡ true = (advance-sound s (take quota piece) (valid_allows s quota len h).sound).lists in
      go t.refused (done t.position) t.taken l (pick_true (valid s quota len) (answer_of t) (refused OUT_OF_RANGE 0) h ∙ e)
    where
      no_refusal : (d : Option End) (k : ℕ) → unrefused d k ≡ refused OUT_OF_RANGE p → ⊥
      no_refusal none k z = let y : ◌≡◌ {A = ℕ} 0 1 = cc in omega arith
      no_refusal (some t) k z = let y : ◌≡◌ {A = ℕ} 0 1 = cc in omega arith

      go : (n : ℕ) (d : Option End) (k : ℕ) → listed n ≡ true → cond (eqb n 0) (unrefused d k) (refused n k) ≡ refused OUT_OF_RANGE p → ⊥
      go n d k l =
          by_cond (λ (a : Answer Whole). a ≡ refused OUT_OF_RANGE p) (eqb n 0) (λ _ z. no_refusal d k z)
          (λ _ z. let y : n ≡ OUT_OF_RANGE = cc in false-true (ap listed (sym y) ∙ l))

  module _ (old : List ℕ) where
    -- "refusal 9, which changes nothing and is no answer about the body"
    pub invalid : valid s quota (length old) ≡ false
        → (state_after s piece quota (length old) ≡ s) × (taken_by s piece quota (length old) ≡ 0)
        × (answered s piece quota (length old) ≡ refused OUT_OF_RANGE 0) × (output_after s piece quota old ≡ old)
    invalid h = (
      sym (pick-false (valid s quota (length old)) (advance s (take quota piece)) s h),
      sym (pick-false (valid s quota (length old)) (steps s (take quota piece)) 0 h),
      sym (pick-false (valid s quota (length old)) (answer_of (advance s (take quota piece))) (refused OUT_OF_RANGE 0) h),
      sym (pick-false (valid s quota (length old)) (placed old (filled s.position) (gathered s (take quota piece))) old h),
    )

    -- "Once whole or refused in the body, later valid calls take nothing and repeat the answer"
    pub repeats : valid s quota (length old) ≡ true → over? s ≡ true
        → (state_after s piece quota (length old) ≡ s) × (taken_by s piece quota (length old) ≡ 0)
        × (answered s piece quota (length old) ≡ answer_of s) × (output_after s piece quota old ≡ old)
    repeats h o =
        let a : Allows s quota (length old) = valid_allows s quota (length old) h in
        let z : advance s (take quota piece) ≡ s = over_stays s o (take quota piece) in
        let k : steps s (take quota piece) ≡ 0 = over-steps s o (take quota piece) in (
          sym (pick_true (valid s quota (length old)) (advance s (take quota piece)) s h) ∙ z,
          sym (pick_true (valid s quota (length old)) (steps s (take quota piece)) 0 h) ∙ k,
          sym (pick_true (valid s quota (length old)) (answer_of (advance s (take quota piece))) (refused OUT_OF_RANGE 0) h) ∙ ap answer_of z,
          sym (pick_true (valid s quota (length old)) (placed old (filled s.position) (gathered s (take quota piece))) old h)
              ∙ ap (placed old (filled s.position)) (gathered_none s (take quota piece) k) ∙ placed-none old (filled s.position),
        )

-- ## One call, on a state that is met: it goes on by the bytes that it offers
module _ (room : ℕ) (s : Pieces) (d : Sound s) (r : s.room ≡ room) (c : Call) where
  abbrev asked : Bool
  asked = not (eqb c.quota 0) && eqb c.len room

  asked-valid : valid s c.quota c.len ≡ asked
  asked-valid = sound-valid s c.quota c.len d ∙ ap (λ (n : ℕ). not (eqb c.quota 0) && eqb c.len n) r

  call_state : state_after s c.piece c.quota c.len ≡ advance s (offer room c)
  unfolding advance
  call_state = ap (λ (x : Bool). cond x (advance s (take c.quota c.piece)) s) asked-valid ∙ go asked
    where
      go : (x : Bool) → cond x (advance s (take c.quota c.piece)) s ≡ advance s (cond x (take c.quota c.piece) [])
      go true = refl
      go false = refl

  call_taken : taken_by s c.piece c.quota c.len ≡ steps s (offer room c)
  unfolding steps
  call_taken = ap (λ (x : Bool). cond x (steps s (take c.quota c.piece)) 0) asked-valid ∙ go asked
    where
      go : (x : Bool) → cond x (steps s (take c.quota c.piece)) 0 ≡ steps s (cond x (take c.quota c.piece) [])
      go true = refl
      go false = refl

  call_output : (old : List ℕ) → length old ≡ room
      → cond (eqb c.len (length old)) (output_after s c.piece c.quota old) old
      ≡ placed old (filled s.position) (gathered s (offer room c))
  unfolding steps
  call_output old l =
      ap (λ (n : ℕ). cond (eqb c.len n) (cond (valid s c.quota n) all old) old) l
      ∙ ap (λ (x : Bool). cond (eqb c.len room) (cond x all old) old)
      (sound-valid s c.quota room d ∙ ap (λ (x : Bool). not (eqb c.quota 0) && x) (eq-eqb room s.room (sym r))
      ∙ and-true (not (eqb c.quota 0)))
      ∙ go (not (eqb c.quota 0)) (eqb c.len room)
    where
      all : List ℕ
      all = placed old (filled s.position) (gathered s (take c.quota c.piece))

      still : old ≡ placed old (filled s.position) []
      still = sym (placed-none old (filled s.position))

      go : (x y : Bool) → cond y (cond x all old) old
          ≡ placed old (filled s.position) (gathered s (cond (x && y) (take c.quota c.piece) []))
      go true true = refl
      go true false = still
      go false true = still
      go false false = still

-- ## Calls one after the other
module _ (room : ℕ) where
  after-offers : (s : Pieces) (cs : List Call) → Sound s → s.room ≡ room → after s cs ≡ advance s (offers room cs)
  unfolding after offers advance
  after-offers s [] d r = refl
  after-offers s (c ∷ cs) d r =
      let x : List ℕ = offer room c in
      ap (λ (z : Pieces). after z cs) (call_state room s d r c)
      ∙ after-offers (advance s x) cs (advance-sound s x d) (advance-room s x ∙ r) ∙ sym (advance_append s x (offers room cs))

  taken-offers : (s : Pieces) (cs : List Call) → Sound s → s.room ≡ room → taken_in s cs ≡ steps s (offers room cs)
  unfolding taken_in offers steps
  taken-offers s [] d r = refl
  taken-offers s (c ∷ cs) d r =
      let x : List ℕ = offer room c in
      ap₂ (λ (n : ℕ) (z : Pieces). n + taken_in z cs) (call_taken room s d r c) (call_state room s d r c)
      ∙ ap (λ (n : ℕ). steps s x + n) (taken-offers (advance s x) cs (advance-sound s x d) (advance-room s x ∙ r))
      ∙ sym (steps_append s x (offers room cs))

  output-offers : (s : Pieces) (cs : List Call) (old : List ℕ) → Sound s → s.room ≡ room → length old ≡ room
      → output s cs old ≡ placed old (filled s.position) (gathered s (offers room cs))
  unfolding output offers steps
  output-offers s [] old d r l = sym (placed-none old (filled s.position))
  output-offers s (c ∷ cs) old d r l =
      let x : List ℕ = offer room c in
      let z : Pieces = advance s x in
      let g : List ℕ = gathered s x in
      let new : List ℕ = placed old (filled s.position) g in
      ap₂ (λ (y : Pieces) (o : List ℕ). output y cs o) (call_state room s d r c) (call_output room s d r c old l)
      ∙ output-offers z cs new (advance-sound s x d) (advance-room s x ∙ r) (placed-length old (filled s.position) g ∙ l)
      ∙ placed-placed old (filled s.position) g (filled z.position) (gathered z (offers room cs))
      (omega (
        arith,
        gathered-fits s (x ++ offers room cs) d,
        ap length (gathered_append s x (offers room cs)),
        length-append g (gathered z (offers room cs)),
        r,
        l,
      ))
      (filled_on s x d)
      ∙ sym (ap (placed old (filled s.position)) (gathered_append s x (offers room cs)))

-- ## From the start
module _ (room : ℕ) (cs : List Call) where
  pub reached : after (begun room) cs ≡ advance (begun room) (offers room cs)
  reached = after-offers room (begun room) cs (begun-sound room) refl

  pub reached-sound : Sound (after (begun room) cs)
  reached-sound = subst Sound (sym reached) (advance-sound (begun room) (offers room cs) (begun-sound room))

  pub reached-room : (after (begun room) cs).room ≡ room
  reached-room = ap (λ (z : Pieces). z.room) reached ∙ advance-room (begun room) (offers room cs)

  -- "another output length or a quota of 0 is refusal 9", and nothing else is
  pub valid-reached : (quota len : ℕ) → valid (after (begun room) cs) quota len ≡ (not (eqb quota 0) && eqb len room)
  valid-reached quota len =
      sound-valid (after (begun room) cs) quota len reached-sound
      ∙ ap (λ (n : ℕ). not (eqb quota 0) && eqb len n) reached-room

  -- "how many bytes it took", over the calls
  pub takes_in : taken_in (begun room) cs ≡ (after (begun room) cs).taken
  takes_in =
      let n : (advance (begun room) (offers room cs)).taken ≡ 0 + steps (begun room) (offers room cs)
      = advance-taken (begun room) (offers room cs) in
      taken-offers room (begun room) cs (begun-sound room) refl
      ∙ sym (ap (λ (z : Pieces). z.taken) reached ∙ n ∙ omega arith)

  module _ (old : List ℕ) (l : length old ≡ room) where
    output-placed : output (begun room) cs old ≡ placed old 0 (decoded room (offers room cs))
    unfolding filled
    output-placed = output-offers room (begun room) cs old (begun-sound room) refl l

    -- "the output holds the data so far at its front .., the rest as lent"
    pub output-is : output (begun room) cs old
        ≡ decoded room (offers room cs) ++ drop (length (decoded room (offers room cs))) old
    unfolding filled
    output-is =
        let d : List ℕ = decoded room (offers room cs) in
        let n : 0 + length d ≡ length d = omega arith in
        output-placed ∙ placed-fits old 0 d (omega (arith, gathered-fits (begun room) (offers room cs) (begun-sound room)))
        ∙ ap (λ (i : ℕ). d ++ drop i old) n

    pub output-length : length (output (begun room) cs old) ≡ room
    output-length = ap length output-placed ∙ placed-length old 0 (decoded room (offers room cs)) ∙ l

  -- "its input is all bytes taken so far and the refused byte, if it met one; what lies beyond the quota doesn't count"
  pub answer-is : (piece : List ℕ) (quota len : ℕ) → 0 < quota → len ≡ room
      → answered (after (begun room) cs) piece quota len ≡ decode room (offers room cs ++ take quota piece)
  answer-is piece quota len q e =
      let s : Pieces = after (begun room) cs in
      let v : valid s quota len ≡ true
      = allows_valid s quota len (record { some_quota = q; same_room = e ∙ sym reached-room; sound = reached-sound }) in
      sym (pick_true (valid s quota len) (answer_of (advance s (take quota piece))) (refused OUT_OF_RANGE 0) v)
      ∙ ap (λ (z : Pieces). answer_of (advance z (take quota piece))) reached
      ∙ ap answer_of (sym (advance_append (begun room) (offers room cs) (take quota piece)))

-- "any cutting gives the one-call answer, place and body"
pub any_cutting : (room : ℕ) (cs es : List Call) (old : List ℕ) → length old ≡ room → offers room cs ≡ offers room es
    → (after (begun room) cs ≡ after (begun room) es) × (output (begun room) cs old ≡ output (begun room) es old)
any_cutting room cs es old l e = (
  reached room cs ∙ ap (advance (begun room)) e ∙ sym (reached room es),
  output-placed room cs old l ∙ ap (λ (xs : List ℕ). placed old 0 (decoded room xs)) e ∙ sym (output-placed room es old l),
)

-- the call that offers all of them at once
abbrev pub at_once : ℕ → List ℕ → Call
at_once room xs = record { piece = xs; quota = suc (length xs); len = room }

offers_once : (room : ℕ) (xs : List ℕ) → offers room (at_once room xs ∷ []) ≡ xs
unfolding offers
offers_once room xs =
    append-nil (offer room (at_once room xs))
    ∙ ap (λ (x : Bool). cond x (take (suc (length xs)) xs) [])
    (to_both (not (eqb (suc (length xs)) 0)) (eqb room room) (ap not (ne_eqb (suc (length xs)) 0 (λ e. absurd (omega arith)))) (eq-eqb room room refl))
    ∙ take_all (suc (length xs)) xs (omega arith)

pub one_call : (room : ℕ) (cs : List Call) (old : List ℕ) → length old ≡ room
    → (after (begun room) cs ≡ after (begun room) (at_once room (offers room cs) ∷ []))
    × (output (begun room) cs old ≡ output (begun room) (at_once room (offers room cs) ∷ []) old)
one_call room cs old l = any_cutting room cs (at_once room (offers room cs) ∷ []) old l (sym (offers_once room (offers room cs)))

-- ## Progress
waiting-over : (quota k : ℕ) (s : Pieces) (xs : List ℕ) → over? s ≡ true → waiting quota k s xs ≡ s
unfolding waiting
waiting-over quota zero s xs o = refl
waiting-over quota (suc k) s xs o =
    ap (λ (z : Pieces). waiting quota k z rest) (go (valid s quota s.room)) ∙ waiting-over quota k s rest o
  where
    rest : List ℕ
    rest = drop (taken_by s xs quota s.room) xs

    go : (x : Bool) → cond x (advance s (take quota xs)) s ≡ s
    go true = over_stays s o (take quota xs)
    go false = refl

-- enough calls to offer all the bytes
abbrev Advances : Pieces → ℕ → Pieces → Type 0
Advances s n z = (over? z ≡ true) ⊎ (z.taken ≡ s.taken + n)

enough_calls : (quota k : ℕ) (s : Pieces) (xs : List ℕ) → Sound s → 0 < quota → length xs ≤ k * quota
    → Advances s (length xs) (waiting quota k s xs)
unfolding waiting
enough_calls quota zero s xs d q h = inr (omega (arith, zero-mul quota))
enough_calls quota (suc k) s xs d q h =
    go (λ l. enough_calls quota k t (drop n xs) (subst Sound (sym e) (advance-sound s (take quota xs) d)) q l) (over? t) refl
  where
    t : Pieces
    t = state_after s xs quota s.room

    v : valid s quota s.room ≡ true
    v = allows_valid s quota s.room (record { some_quota = q; same_room = refl; sound = d })

    e : t ≡ advance s (take quota xs)
    e = sym (pick_true (valid s quota s.room) (advance s (take quota xs)) s v)

    n : ℕ
    n = taken_by s xs quota s.room

    on : over? t ≡ false → (n ≡ min quota (length xs)) × (t.taken ≡ s.taken + n)
    on o =
        let m : n ≡ steps s (take quota xs) = sym (pick_true (valid s quota s.room) (steps s (take quota xs)) 0 v) in
        let a : t.taken ≡ s.taken + steps s (take quota xs) = ap (λ (z : Pieces). z.taken) e ∙ advance-taken s (take quota xs) in
        ((takes s xs quota s.room v).2 o, omega arith)

    go : (length (drop n xs) ≤ k * quota → Advances t (length (drop n xs)) (waiting quota k t (drop n xs)))
        → (x : Bool) → over? t ≡ x → Advances s (length xs) (waiting quota k t (drop n xs))
    go below true o = inl (ap over? (waiting-over quota k t (drop n xs) o) ∙ o)
    go below false o =
        let m : n ≡ min quota (length xs) = (on o).0 in
        let l : length (drop n xs) ≡ length xs - n = length-drop n xs in
        ⊎_elim (λ (y : over? (waiting quota k t (drop n xs)) ≡ true). inl y)
        (λ (y : (waiting quota k t (drop n xs)).taken ≡ t.taken + length (drop n xs)). inr (omega (arith, (on o).1)))
        (below (omega (arith, suc-mul k quota)))

-- "With quota q at least 1 and all n bytes waiting, n divided by q, rounded up, calls must take all n or answer whole or refused"
pub progress : (room : ℕ) (cs : List Call) (xs : List ℕ) (quota : ℕ) → 0 < quota
    → (over? (waiting quota ((length xs + quota - 1) / quota) (after (begun room) cs) xs) ≡ true)
    ⊎ ((waiting quota ((length xs + quota - 1) / quota) (after (begun room) cs) xs).taken ≡ (after (begun room) cs).taken + length xs)
progress room cs xs quota q =
    enough_calls quota ((length xs + quota - 1) / quota) (after (begun room) cs) xs (reached-sound room cs) q
    (omega (arith, lt-div-mul-add {a = length xs + quota - 1} {b = quota} q))
