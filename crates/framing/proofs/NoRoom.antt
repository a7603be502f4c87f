-- The limit that is the room: the machine finds it where the grammar says that it is broken, and nowhere else as long as all before fitted.
use mathlib.Core.Path.{◌≡◌, refl, sym, ◌∙◌, ap, subst}
use mathlib.Core.Bool.{Bool, true, false, ◌&&◌}
use mathlib.Core.List.{List, [], ◌∷◌, ◌++◌, append_assoc}
use mathlib.Core.Option.{Option, none, some}
use Prim.Native.Nat.{ℕ, zero, suc, ◌+◌, ◌*◌, ◌<◌, ◌≤◌}
use native.Mathlib.Omega.{arith}
use lib.Dec.{eqb}
use lib.ListN.{length, take}
use borrow.Author.Tests.{ltb-true, lt-ltb}
use Rattle.grammar.specs.Refusals.{BODY_TOO_LARGE}
use Rattle.octets.specs.Bytes.{hex?, hex_value, octet?}
use Rattle.framing.specs.declared.LinePos.{LinePos}
use Rattle.framing.specs.declared.LinePos.TheVariants.{First, Size, Ext}
use Rattle.framing.specs.declared.State.{State}
use Rattle.framing.specs.declared.State.TheVariants.{Line, LineFeed, Data, DataCr, DataLf, Trail, EndLf, Done, Dead}
use Rattle.framing.specs.Grammar as G
use Rattle.framing.specs.Grammar.{Many, hex_value_from, AtDigit, Broken}
use Rattle.framing.specs.helpers.Machine.{next_line_pos, line_ends, line_live, trailer, leave_line, enter_chunk, size_of}
use Rattle.framing.specs.helpers.Machine.{step, emit, live, done, past_room, no_room, start}
use Rattle.framing.specs.helpers.Scan.{run, out}
use Rattle.framing.proofs.Cases.{false-true, by_cond}
use Rattle.framing.proofs.Scanning.{run_append, run_keeps}
use Rattle.framing.proofs.Lines.{line_run, run-digits, run-size, digits-complete}
use Rattle.framing.proofs.Goes.{then, goes-chunks, goes-line}
use Rattle.framing.proofs.Past.{InLine, Past, past, many_append}
use Rattle.framing.proofs.Rooms.{Fits, keep_fits}
use Rattle.framing.proofs.Finds.{Finds}

-- ## Digits
run_many : {l : List ℕ} → Many hex? l → size_of (line_run First l) ≡ hex_value_from 0 l
unfolding next_line_pos
run_many G.none = refl
run_many (G.more {b = b} {xs = xs} h m) = rw h (ap size_of (run-size (0 * 16 + hex_value b) m))

split_many : (l : List ℕ) (b : ℕ) → Many hex? (l ++ (b ∷ [])) → Many hex? l × (hex? b ≡ true)
split_many [] b (G.more h m) = (G.none, h)
split_many (a ∷ l) b (G.more h m) = let w : Many hex? l × (hex? b ≡ true) = split_many l b m in (G.more h w.0, w.1)

many_some : {l : List ℕ} → G.Some hex? l → Many hex? l
many_some (G.some h m) = G.more h m

size_many : {l : List ℕ} {v : ℕ} → G.Size l v → Many hex? l × (v ≡ hex_value_from 0 l)
size_many (G.size h) = (many_some h, refl)

many_size : (l : List ℕ) (b : ℕ) → Many hex? l → hex? b ≡ true → G.Size (l ++ (b ∷ [])) (hex_value_from 0 (l ++ (b ∷ [])))
many_size [] b m h = G.size (G.some h G.none)
many_size (a ∷ l) b (G.more k m) h = G.size (G.some k (many_append m (G.more h G.none)))

-- do the digits of a size stand last
abbrev sized : State → Bool
sized (Line First k t) = false
sized (Line (Size v) k t) = true
sized (Line (Ext v e) k t) = false
sized (LineFeed v t) = false
sized (Data m t) = false
sized (DataCr t) = false
sized (DataLf t) = false
sized (Trail p k t) = false
sized (EndLf t n) = false
sized (Done t n) = false
sized Dead = false

-- a step into a size comes from a line
step-size : (s : State) (b w k t : ℕ) → step s b ≡ Line (Size w) k t → (q : LinePos) × (j : ℕ) × (s ≡ Line q j t) × (next_line_pos q b ≡ Size w)
unfolding step leave_line enter_chunk
step-size s b w k t = go s
  where
    Is : State → Type 0
    Is z = z ≡ Line (Size w) k t

    no : {A : Type 0} (z : State) → sized z ≡ false → Is z → A
    no z f e = false-true (sym f ∙ ap sized e)

    leaves : {A : Type 0} (o : Option ℕ) (u : ℕ) → Is (leave_line o u) → A
    leaves none u = no Dead refl
    leaves (some v) u = no (LineFeed v u) refl

    enters : {A : Type 0} (n u : ℕ) → Is (enter_chunk n u) → A
    enters zero u = no (Trail trailer.begin 0 u) refl
    enters (suc n) u = no (Data n (u + suc n)) refl

    go : (s : State) → Is (step s b) → (q : LinePos) × (j : ℕ) × (s ≡ Line q j t) × (next_line_pos q b ≡ Size w)
    go (Line p j u) = by_cond Is (eqb b 13) (λ _. leaves (line_ends p) u)
        (λ _ z. let x : next_line_pos p b ≡ Size w = cc in let y : u ≡ t = cc in (p, j, ap (Line p j) y, x))
    go (LineFeed v u) = by_cond Is (eqb b 10) (λ _. enters v u) (λ _. no Dead refl)
    go (Data zero u) = by_cond Is (octet? b) (λ _. no (DataCr u) refl) (λ _. no Dead refl)
    go (Data (suc m) u) = by_cond Is (octet? b) (λ _. no (Data m u) refl) (λ _. no Dead refl)
    go (DataCr u) = by_cond Is (eqb b 13) (λ _. no (DataLf u) refl) (λ _. no Dead refl)
    go (DataLf u) = by_cond Is (eqb b 10) (λ _. no (Line First 0 u) refl) (λ _. no Dead refl)
    go (Trail p j u) = by_cond Is (trailer.ends p && eqb b 13) (λ _. no (EndLf u j) refl)
        (λ _. no (Trail (trailer.next p b) (suc j) u) refl)
    go (EndLf u n) = by_cond Is (eqb b 10) (λ _. no (Done u n) refl) (λ _. no Dead refl)
    go (Done u n) = no Dead refl
    go Dead = no Dead refl

module _ (room : ℕ) where
  pub no_room-found : {p : List ℕ} {t v w : ℕ} → AtDigit p t v w → room < t + w → Finds (no_room room) p
  unfolding live done past_room line_live
  no_room-found (G.at_digit {d = d} {l = l} b cs m h) passes =
      let z : line_run First (l ++ (b ∷ [])) ≡ Size (hex_value_from 0 (l ++ (b ∷ []))) = run-digits (many_size l b m h) in
      record {
        state = Line (Size (hex_value_from 0 (l ++ (b ∷ [])))) (0 + length (l ++ (b ∷ []))) (length d);
        reached = (then (goes-chunks cs) (goes-line (l ++ (b ∷ [])) First 0 (length d) (rw z refl))).ends
            ∙ ap (λ (q : LinePos). Line q (0 + length (l ++ (b ∷ []))) (length d)) z;
        alive = refl;
        passed = lt-ltb room (length d + hex_value_from 0 (l ++ (b ∷ []))) passes;
      }

  -- a state that passes the room stands behind a digit
  at_size : (s : State) → no_room room s ≡ true → (w k t : ℕ) × (s ≡ Line (Size w) k t) × (room < t + w)
  unfolding past_room
  at_size (Line First k t) e = false-true e
  at_size (Line (Size w) k t) e = (w, k, t, refl, ltb-true room (t + w) e)
  at_size (Line (Ext v x) k t) e = false-true e
  at_size (LineFeed v t) e = false-true e
  at_size (Data m t) e = false-true e
  at_size (DataCr t) e = false-true e
  at_size (DataLf t) e = false-true e
  at_size (Trail x k t) e = false-true e
  at_size (EndLf t n) e = false-true e
  at_size (Done t n) e = false-true e
  at_size Dead e = false-true e

  -- a digit, from the state before it
  digit_broken : (q : LinePos) (k t b w : ℕ) (p d : List ℕ) → InLine q k t p d → t + size_of q ≤ room → next_line_pos q b ≡ Size w → room < t + w
      → Broken room BODY_TOO_LARGE (p ++ (b ∷ []))
  digit_broken q k t b w p d h fits e past =
      let z : Many hex? (h.part ++ (b ∷ [])) × (w ≡ hex_value_from 0 (h.part ++ (b ∷ [])))
      = size_many (digits-complete (h.part ++ (b ∷ [])) w
      (run_append next_line_pos First h.part (b ∷ []) ∙ ap (λ (x : LinePos). next_line_pos x b) h.at ∙ e)) in
      let m : Many hex? h.part × (hex? b ≡ true) = split_many h.part b z.0 in
      let v : size_of q ≡ hex_value_from 0 h.part = ap size_of (sym h.at) ∙ run_many m.0 in
      subst (Broken room BODY_TOO_LARGE)
      (sym (ap (λ (l : List ℕ). l ++ (b ∷ [])) h.split ∙ append_assoc h.chunks h.part (b ∷ [])))
      (G.no_room (G.at_digit b h.are m.0 m.1) (omega (arith, fits, h.total, v)) (omega (arith, past, h.total, z.1)))

  line-room : (q : LinePos) (k t : ℕ) → Fits room (Line q k t) → t + size_of q ≤ room
  unfolding Fits
  line-room q k t h = h

  -- bytes that never pass the room are within it
  abbrev Before : List ℕ → Type 0
  Before p = (i : ℕ) → i ≤ length p → no_room room (run step start (take i p)) ≡ false

  start_fits : Fits room start
  unfolding Fits
  start_fits = omega arith

  pub fits : (p : List ℕ) → Before p → Fits room (run step start p)
  fits p before = run_keeps step (Fits room) (no_room room) (keep_fits room) p start start_fits before

  pub no_room-broken : (p : List ℕ) (b : ℕ) → Before p → no_room room (run step start (p ++ (b ∷ []))) ≡ true
      → Broken room BODY_TOO_LARGE (p ++ (b ∷ []))
  no_room-broken p b before e =
      let w = at_size (run step start (p ++ (b ∷ []))) e in
      let z = step-size (run step start p) b w.0 w.1 w.2 (sym (run_append step start p (b ∷ [])) ∙ w.3) in
      digit_broken z.0 z.1 w.2 b w.0 p (out step emit start p)
      (subst (λ (s : State). Past s p (out step emit start p)) z.2 (past p))
      (line-room z.0 z.1 w.2 (subst (Fits room) z.2 (fits p before))) z.3 w.4
