-- The machine for trailer lines agrees with the grammar.
use mathlib.Core.Path.{◌≡◌, refl, sym, ◌∙◌, ap}
use mathlib.Core.Bool.{Bool, true, false, cond}
use mathlib.Core.List.{List, [], ◌∷◌, ◌++◌}
use Prim.Native.Nat.{ℕ, suc}
use lib.Dec.{eqb}
use borrow.Author.Tests.{eqb-true}
use Rattle.framing.specs.declared.TrailPos.TheVariants as TrailPos
use Rattle.framing.specs.Grammar as G
use Rattle.octets.specs.Bytes.{token?, content?}
use Rattle.framing.specs.Grammar.{Many, Some, Trailer, forbidden}
use Rattle.framing.specs.helpers.Trailer.{TrailPlace, LineStart, Name, Value, Lf, Dead, trail_step, trail_ends, trail_live, plain}
use Rattle.framing.specs.helpers.Trailer.{TrailerAt, place, in_name, place_behind_name, in_value, named_step, named, trailer}
use Rattle.framing.specs.helpers.Names.{texts, every, going_on, count, staying}
use Rattle.framing.specs.helpers.Scan.{run}
use Rattle.framing.proofs.Scanning.{run_append, run_step}
use Rattle.framing.proofs.Cases.{false-true, by_cond, to-cond}
use Rattle.framing.proofs.Parts.{Reads, refined}

abbrev trail_run : TrailPlace → List ℕ → TrailPlace
trail_run = run trail_step

-- ## From the machine to the grammar

data Rest : TrailPlace → List ℕ → Type 0 where
  start : {t : List ℕ} → Trailer t → Rest LineStart t
  name : {n f t : List ℕ} → Many token? n → Many content? f → Trailer t → Rest Name (n ++ (58 ∷ (f ++ (13 ∷ 10 ∷ t))))
  value : {f t : List ℕ} → Many content? f → Trailer t → Rest Value (f ++ (13 ∷ 10 ∷ t))
  lf : {t : List ℕ} → Trailer t → Rest Lf (10 ∷ t)

dead_end : {A : Type 0} {xs : List ℕ} → Rest Dead xs → A
dead_end h = elim h [ ]

to_start : {b : ℕ} {xs : List ℕ} → token? b ≡ true → Rest Name xs → Rest LineStart (b ∷ xs)
to_start h (name n f t) = start (G.more (G.some h n) f t)

to-name : {b : ℕ} {xs : List ℕ} → token? b ≡ true → Rest Name xs → Rest Name (b ∷ xs)
to-name h (name n f t) = name (G.more h n) f t

value-name : {xs : List ℕ} → Rest Value xs → Rest Name (58 ∷ xs)
value-name (value f t) = name G.none f t

to-value : {b : ℕ} {xs : List ℕ} → content? b ≡ true → Rest Value xs → Rest Value (b ∷ xs)
to-value h (value f t) = value (G.more h f) t

lf-value : {xs : List ℕ} → Rest Lf xs → Rest Value (13 ∷ xs)
lf-value (lf t) = value G.none t

start-lf : {xs : List ℕ} → Rest LineStart xs → Rest Lf (10 ∷ xs)
start-lf (start t) = lf t

from_start : {xs : List ℕ} → Rest LineStart xs → Trailer xs
from_start (start t) = t

back : (p : TrailPlace) (b : ℕ) (xs : List ℕ) → Rest (trail_step p b) xs → Rest p (b ∷ xs)
back LineStart b xs = by_cond (λ (p : TrailPlace). Rest p xs) (token? b) to_start (λ k h. dead_end h)
back Name b xs = by_cond (λ (p : TrailPlace). Rest p xs) (token? b) to-name (λ _.
    by_cond (λ (p : TrailPlace). Rest p xs) (eqb b 58) (λ k h. rw (eqb-true b 58 k) (value-name h)) (λ k h. dead_end h))
back Value b xs = by_cond (λ (p : TrailPlace). Rest p xs) (content? b) to-value (λ _.
    by_cond (λ (p : TrailPlace). Rest p xs) (eqb b 13) (λ k h. rw (eqb-true b 13 k) (lf-value h)) (λ k h. dead_end h))
back Lf b xs = by_cond (λ (p : TrailPlace). Rest p xs) (eqb b 10) (λ k h. rw (eqb-true b 10 k) (start-lf h)) (λ k h. dead_end h)
back Dead b xs = λ h. dead_end h

rest_nil : (p : TrailPlace) → trail_ends p ≡ true → Rest p []
rest_nil LineStart h = start G.none
rest_nil Name h = false-true h
rest_nil Value h = false-true h
rest_nil Lf h = false-true h
rest_nil Dead h = false-true h

rest : (p : TrailPlace) (xs : List ℕ) → trail_ends (trail_run p xs) ≡ true → Rest p xs
rest p [] h = rest_nil p h
rest p (b ∷ xs) h = back p b xs (rest (trail_step p b) xs h)

trail_complete : (xs : List ℕ) → trail_ends (trail_run LineStart xs) ≡ true → Trailer xs
trail_complete xs h = from_start (rest LineStart xs h)

-- ## From the grammar to the machine

run-names : {n : List ℕ} → Many token? n → trail_run Name n ≡ Name
run-names G.none = refl
run-names (G.more h m) = rw h (run-names m)

run-name : {n : List ℕ} → Some token? n → trail_run LineStart n ≡ Name
run-name (G.some h m) = rw h (run-names m)

run_value : {f : List ℕ} → Many content? f → trail_run Value f ≡ Value
run_value G.none = refl
run_value (G.more h m) = rw h (run_value m)

colon : trail_step Name 58 ≡ Value
unfolding token?
colon = refl

crlf : trail_step (trail_step Value 13) 10 ≡ LineStart
unfolding content?
crlf = refl

trail_sound : {xs : List ℕ} → Trailer xs → trail_run LineStart xs ≡ LineStart
trail_sound G.none = refl
trail_sound (G.more {n = n} {f = f} {t = t} a c r) =
    run_append trail_step LineStart n (58 ∷ (f ++ (13 ∷ 10 ∷ t)))
    ∙ ap (λ (p : TrailPlace). trail_run p (58 ∷ (f ++ (13 ∷ 10 ∷ t)))) (run-name a)
    ∙ run_step trail_step Name 58 (f ++ (13 ∷ 10 ∷ t)) colon
    ∙ run_append trail_step Value f (13 ∷ 10 ∷ t)
    ∙ ap (λ (p : TrailPlace). trail_run p (13 ∷ 10 ∷ t)) (run_value c)
    ∙ run_step trail_step (trail_step Value 13) 10 t crlf
    ∙ trail_sound r

-- ## Live positions

trail_dead : (p : TrailPlace) (b : ℕ) → trail_live p ≡ false → trail_live (trail_step p b) ≡ false
trail_dead LineStart b h = false-true (sym h)
trail_dead Name b h = false-true (sym h)
trail_dead Value b h = false-true (sym h)
trail_dead Lf b h = false-true (sym h)
trail_dead Dead b h = refl

-- the CR that closes the trailer is no byte of a line
no_cr : (p : TrailPlace) → trail_ends p ≡ true → trail_live (trail_step p 13) ≡ false
unfolding token?
no_cr LineStart h = refl
no_cr Name h = false-true h
no_cr Value h = false-true h
no_cr Lf h = false-true h
no_cr Dead h = false-true h

trail_finish : (p : TrailPlace) → trail_live p ≡ true → (u : List ℕ) × (trail_ends (trail_run p u) ≡ true)
unfolding token? content?
trail_finish LineStart h = ([], refl)
trail_finish Name h = (58 ∷ 13 ∷ 10 ∷ [], refl)
trail_finish Value h = (13 ∷ 10 ∷ [], refl)
trail_finish Lf h = (10 ∷ [], refl)
trail_finish Dead h = false-true h

ends-live : (p : TrailPlace) → trail_ends p ≡ true → trail_live p ≡ true
ends-live LineStart h = refl
ends-live Name h = refl
ends-live Value h = refl
ends-live Lf h = refl
ends-live Dead h = false-true h

plain-read : Reads Trailer plain
plain-read = record {
  sound = λ xs t. ap trail_ends (trail_sound t);
  complete = trail_complete;
  ends_alive = ends-live;
  finish = trail_finish;
  dead = trail_dead;
}

-- ## With what it remembers of names, whatever their list
-- one choice for both
both : (t : Bool) (x y : TrailerAt) {u v : TrailPlace} → place x ≡ u → place y ≡ v → place (cond t x y) ≡ cond t u v
both true x y h k = h
both false x y h k = k

in_name_lem : (names : List (List ℕ)) (m k : ℕ) → place (in_name names m k) ≡ Name
in_name_lem names m k = to-cond (λ (p : TrailerAt). place p ≡ Name) (eqb m 0) (λ _. refl) (λ _. refl)

behind_name : (m : ℕ) → place (place_behind_name m) ≡ Value
behind_name m = to-cond (λ (p : TrailerAt). place p ≡ Value) (eqb m 0) (λ _. refl) (λ _. refl)

in_value_lem : (b : ℕ) → place (in_value b) ≡ trail_step Value b
in_value_lem b =
    both (content? b) TrailPos.Value (cond (eqb b 13) TrailPos.Lf TrailPos.Dead) refl (both (eqb b 13) TrailPos.Lf TrailPos.Dead refl refl)

module _ (names : List (List ℕ)) where
  same_place : (p : TrailerAt) (b : ℕ) → place (named_step names p b) ≡ trail_step (place p) b
  same_place TrailPos.LineStart b =
      let m : ℕ = going_on (texts names) (every names) 0 b in both (token? b) (in_name names m 1) TrailPos.Dead (in_name_lem names m 1) refl
  same_place (TrailPos.Name c) b =
      let l : ℕ = staying names c b in
      let k : ℕ = suc (count names c) in
      both (token? b) (in_name names l k) (cond (eqb b 58) (place_behind_name l) TrailPos.Dead) (in_name_lem names l k)
      (both (eqb b 58) (place_behind_name l) TrailPos.Dead (behind_name l) refl)
  same_place TrailPos.Value b = in_value_lem b
  same_place TrailPos.Forbidden b = in_value_lem b
  same_place TrailPos.Lf b = both (eqb b 10) TrailPos.LineStart TrailPos.Dead refl refl
  same_place TrailPos.Dead b = refl

  pub named-read : Reads Trailer (named names)
  named-read =
      refined (named names) plain place (record { begin = refl; next = same_place; ends = λ p. refl; alive = λ p. refl }) plain-read

  named_no_cr : (p : TrailerAt) → (named names).ends p ≡ true → (named names).alive ((named names).next p 13) ≡ false
  named_no_cr p h = ap trail_live (same_place p 13) ∙ no_cr (place p) h

-- ## By the name of the part
pub trailer_no_cr : (p : TrailerAt) → trailer.ends p ≡ true → trailer.alive (trailer.next p 13) ≡ false
trailer_no_cr = named_no_cr forbidden

pub trailer-read : Reads Trailer trailer
trailer-read = named-read forbidden
