-- The laws of the machine for chunked bodies, in every room and under every set of limits: it ends at the grammar's bodies, and its limits
-- are the grammar's.
use mathlib.Core.Path.{◌≡◌, refl, sym, ◌∙◌, ap, ap₂, subst, subst₂}
use mathlib.Core.Bool.{Bool, true, false}
use mathlib.Core.List.{List, [], ◌∷◌, ◌++◌}
use mathlib.Core.Option.{Option, none, some}
use Prim.Native.Nat.{ℕ, ◌+◌, ◌-◌, ◌≤◌}
use native.Mathlib.Omega.{arith}
use lib.Dec.{eqb}
use lib.ListN.{length, take}
use borrow.Author.Tests.{eqb-true}
use Rattle.grammar.specs.Refusals.{MALFORMED, LINE_TOO_LONG, TRAILER_TOO_LONG, BODY_TOO_LARGE}
use Rattle.framing.specs.declared.Whole.{Whole}
use Rattle.framing.specs.declared.State.{State}
use Rattle.framing.specs.declared.State.TheVariants.{Line, LineFeed, Data, DataCr, DataLf, Trail, EndLf, Done, Dead}
use Rattle.framing.specs.Demand.{Among}
use Rattle.framing.specs.Grammar as G
use Rattle.framing.specs.Grammar.{crlf, Body, HasTrailer, Tells, Broken, chunked}
use Rattle.framing.specs.helpers.Machine.{End, step, emit, live, line_live, done, tell, long_line, long_trailer, past_room}
use Rattle.framing.specs.helpers.Machine.{tests, test_of, broke, start, machine}
use Rattle.framing.specs.helpers.Scan.{judged_by, first, run, out, Quiet}
use Rattle.framing.proofs.Cases.{false-true, none-some, by_cond, to-cond, never}
use Rattle.framing.proofs.Scanning.{run_keeps}
use Rattle.framing.proofs.Ranks.{Each, first-none, none_first}
use Rattle.framing.proofs.Machines.{Laws, judge, judged-none}
use Rattle.framing.proofs.Goes.{Goes, goes_parts, Finish, finish, dead}
use Rattle.framing.proofs.Trailers.{trailer-start, ends-trailed, same-trailer}
use Rattle.framing.proofs.Past.{Ended, Past, past}
use Rattle.framing.proofs.Rooms.{Fits, ShortLine, ShortTrailer, keep_line, keep_trailer}
use Rattle.framing.proofs.Finds.{Finds, finds, Tied}
use Rattle.framing.proofs.LongLine.{long-line-found, long-line_tied}
use Rattle.framing.proofs.LongTrailer.{long-trailer-found, long-trailer_tied}
use Rattle.framing.proofs.ForbiddenField.{forbidden_field_found, forbidden_field_tied}
use Rattle.framing.proofs.NoRoom.{no_room-found, no_room-broken, fits}

-- ## Ends
done-is : (s : State) (e : End) → done s ≡ some e → s ≡ Done e.length e.trailer
unfolding done
done-is (Line p k u) e h = none-some h
done-is (LineFeed v u) e h = none-some h
done-is (Data m u) e h = none-some h
done-is (DataCr u) e h = none-some h
done-is (DataLf u) e h = none-some h
done-is (Trail p k u) e h = none-some h
done-is (EndLf u n) e h = none-some h
done-is (Done u n) e h = let z : record { length = u; trailer = n } ≡ e = cc in ap (λ (x : End). Done x.length x.trailer) z
done-is Dead e h = none-some h

done-done : (t n : ℕ) → done (Done t n) ≡ some (record { length = t; trailer = n })
unfolding done
done-done t n = refl

last : (s : State) (e : End) (b : ℕ) → done s ≡ some e → live (step s b) ≡ false
unfolding step live
last s e b h = ap (λ (z : State). live (step z b)) (done-is s e h)

alive : (s : State) (e : End) → done s ≡ some e → live s ≡ true
unfolding live
alive s e h = ap live (done-is s e h)

completes : (s : State) → live s ≡ true → (u : List ℕ) × (e : End) × (done (run step s u) ≡ some e)
completes s h =
    let f : Finish s = finish s h in
    (f.rest, record { length = f.total; trailer = f.trailer }, ap done f.goes.ends ∙ done-done f.total f.trailer)

body_to : (p : List ℕ) (e : End) → done (run step start p) ≡ some e
    → Body p (out step emit start p) × Tells (tell (length p) e) p (out step emit start p)
body_to p e h =
    let d : List ℕ = out step emit start p in
    let w : Ended e.length e.trailer p d = subst (λ (s : State). Past s p d) (done-is (run step start p) e h) (past p) in
    let n : length (w.chunks ++ (w.line ++ crlf)) ≡ length p - (e.trailer + 2)
    = sym (trailer-start w.chunks w.line w.trailer)
    ∙ ap₂ (λ (x : List ℕ) (k : ℕ). length x - (k + 2)) (sym w.split) (sym w.count) in (
      subst (λ (z : List ℕ). Body z d) (sym w.split) (G.body w.are w.is w.trails),
      record {
        taken = refl;
        joined = w.total;
        trailer = w.trailer;
        stands = subst₂ (λ (z : List ℕ) (k : ℕ). HasTrailer z k w.trailer) (sym w.split) n (G.has_trailer w.are w.is w.trails);
        trailed = w.count;
      },
    )

body-ends : {p d : List ℕ} → Body p d → (n : ℕ) × Goes start p d (Done (length d) n)
body-ends (G.body {t = t} cs h y) = (length t, goes_parts cs h y)

told : (p d : List ℕ) (n : ℕ) → run step start p ≡ Done (length d) n → (w : Whole) → Tells w p d
    → w ≡ tell (length p) (record { length = length d; trailer = n })
told p d n ends w t =
    let e = ends-trailed t.stands in
    let same : length t.trailer ≡ n = same-trailer (sym e.1 ∙ ends) in
    ap₂ (λ (a b : ℕ). record { taken = a; length = b; trailer_start = w.trailer_start; trailer_length = w.trailer_length })
    t.taken t.joined
    ∙ ap₂ (λ (a b : ℕ). record { taken = length p; length = length d; trailer_start = a; trailer_length = b })
    (e.2 ∙ ap (λ (k : ℕ). length p - (k + 2)) same) (t.trailed ∙ same)

body_from : (p d : List ℕ) → Body p d → (e : End) × (done (run step start p) ≡ some e) × (out step emit start p ≡ d)
    × ((w : Whole) → Tells w p d → w ≡ tell (length p) e)
body_from p d b =
    let g : (n : ℕ) × Goes start p d (Done (length d) n) = body-ends b in
    (record { length = length d; trailer = g.0 }, ap done g.1.ends ∙ done-done (length d) g.0, g.1.gives, told p d g.0 g.1.ends)

-- ## Limits
module _ (room : ℕ) where
  found : (n : ℕ) {p : List ℕ} → Broken room n p → Finds (broke room n) p
  found n (G.long_line i e) = long-line-found i e
  found n (G.long_trailer i e) = long-trailer-found i e
  found n (G.no_room i fits passes) = no_room-found room i passes
  found n (G.forbidden_field i e) = forbidden_field_found i e

  abbrev Holds : Bool → Type 0
  Holds x = x ≡ true

  -- no byte so far broke the limit
  abbrev Unpassed : ℕ → List ℕ → Type 0
  Unpassed n p = (i : ℕ) → i ≤ length p → broke room n (run step start (take i p)) ≡ false

  ties : Each (Tied room) tests
  ties = (long-line_tied room, (long-trailer_tied room, (forbidden_field_tied room, tt)))

  tied_broken : (ts : List (ℕ × (State → Bool))) → Each (Tied room) ts → (n : ℕ) (s : State) (p d : List ℕ) → test_of ts n s ≡ true → live s ≡ true
      → Past s p d → Broken room n p
  tied_broken [] k n s p d e a h = false-true e
  tied_broken (t ∷ ts) k n s p d e a h =
      by_cond Holds (eqb n t.0)
      (λ z y. subst (λ (m : ℕ). Broken room m p) (sym (eqb-true n t.0 z)) (k.0.broken s p d y a h))
      (λ _ y. tied_broken ts k.1 n s p d y a h) e

  tied_opens : (ts : List (ℕ × (State → Bool))) → Each (Tied room) ts → (n : ℕ) → test_of ts n start ≡ false
  tied_opens [] k n = refl
  tied_opens (t ∷ ts) k n = to-cond (λ (x : Bool). x ≡ false) (eqb n t.0) (λ _. k.0.opens) (λ _. tied_opens ts k.1 n)

  -- by its number, from the ties of each
  broken : (n : ℕ) (p : List ℕ) (b : ℕ) → Unpassed n p → live (run step start (p ++ (b ∷ []))) ≡ true
      → broke room n (run step start (p ++ (b ∷ []))) ≡ true → Broken room n (p ++ (b ∷ []))
  broken n p b before a =
      by_cond Holds (eqb n BODY_TOO_LARGE)
      (λ e h. is BODY_TOO_LARGE e (no_room-broken room p b (was BODY_TOO_LARGE e) h))
      (λ _ h. tied_broken tests ties n (run step start all) all (out step emit start all) h a (past all))
    where
      all : List ℕ
      all = p ++ (b ∷ [])

      was : (m : ℕ) → eqb n m ≡ true → Unpassed m p
      was m e = subst (λ (k : ℕ). Unpassed k p) (eqb-true n m e) before

      is : (m : ℕ) → eqb n m ≡ true → Broken room m (p ++ (b ∷ [])) → Broken room n (p ++ (b ∷ []))
      is m e = subst (λ (k : ℕ). Broken room k (p ++ (b ∷ []))) (sym (eqb-true n m e))

  unbroken : (n : ℕ) → broke room n start ≡ false
  unfolding past_room
  unbroken n = never (eqb n BODY_TOO_LARGE) (tied_opens tests ties n)

module _ (ls : List ℕ) (room : ℕ) where
  -- bytes with no verdict are within the limits
  unpassed : (n : ℕ) → Among ls n → (p : List ℕ) → Quiet step (judge (chunked ls) machine tell room) start p (length p) → Unpassed room n p
  unpassed n a p k i h =
      first-none (λ m. broke room m (run step start (take i p))) ls n
      (judged-none (live (run step start (take i p))) (done (run step start (take i p)))
      (first (λ m. broke room m (run step start (take i p))) ls) (k i h)).2 a

  pub quiet-fits : Among ls BODY_TOO_LARGE → (p : List ℕ) → Quiet step (judge (chunked ls) machine tell room) start p (length p)
      → Fits room (run step start p)
  quiet-fits a p k = fits room p (unpassed BODY_TOO_LARGE a p k)

  start-line : ShortLine start
  unfolding ShortLine
  start-line = omega arith

  pub quiet_line : Among ls LINE_TOO_LONG → (p : List ℕ) → Quiet step (judge (chunked ls) machine tell room) start p (length p)
      → ShortLine (run step start p)
  quiet_line a p k = run_keeps step ShortLine long_line keep_line p start start-line (unpassed LINE_TOO_LONG a p k)

  start-trailer : ShortTrailer start
  unfolding ShortTrailer
  start-trailer = tt

  pub quiet-trailer : Among ls TRAILER_TOO_LONG → (p : List ℕ) → Quiet step (judge (chunked ls) machine tell room) start p (length p)
      → ShortTrailer (run step start p)
  quiet-trailer a p k = run_keeps step ShortTrailer long_trailer keep_trailer p start start-trailer (unpassed TRAILER_TOO_LONG a p k)

  opens : judge (chunked ls) machine tell room start ≡ none
  unfolding live line_live done
  opens = ap (λ (o : Option ℕ). judged_by true none o) (none_first (λ n. broke room n start) ls (unbroken room))

  pub laws : (Among ls MALFORMED → ⊥) → Laws (chunked ls) machine tell room
  laws other = record {
    opens = opens;
    dead = dead;
    last = last;
    alive = alive;
    finish = completes;
    body_to = body_to;
    body_from = body_from;
    over_to = λ p b n k a l o. broken room n p b (unpassed n a p k) l o;
    over_from = λ p n a b. finds (broke room n) p (found room n b);
    other = other;
  }
