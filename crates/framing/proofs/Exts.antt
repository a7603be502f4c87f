-- The machine for chunk extensions agrees with the grammar.
use mathlib.Core.Path.{◌≡◌, refl, sym, ◌∙◌, ap, subst}
use mathlib.Core.Bool.{true, false}
use mathlib.Core.List.{List, [], ◌∷◌, ◌++◌, append_assoc}
use Prim.Native.Nat.{ℕ}
use native.Mathlib.Omega.{arith}
use lib.Dec.{eqb}
use borrow.Author.Tests.{eqb-true}
use Rattle.framing.specs.declared.ExtPos.{ExtPos}
use Rattle.framing.specs.Grammar as G
use Rattle.octets.specs.Bytes.{hex?, token?, text?, escaped?}
use Rattle.framing.specs.Grammar.{Many, Some, Value, Extension, Extensions}
use Rattle.framing.specs.helpers.Extensions.{ext_step, ext_ends, ext_live, extensions}
use Rattle.framing.specs.helpers.Scan.{run}
use Rattle.framing.proofs.Scanning.{run_append, run_step}
use Rattle.framing.proofs.Cases.{false-true, by_cond}
use Rattle.framing.proofs.Parts.{Reads}
use Rattle.framing.proofs.Quoted as Quoted
use Rattle.framing.proofs.Quoted.{Spelled, spelled, inside}

abbrev ext_run : ExtPos → List ℕ → ExtPos
ext_run = run ext_step

-- ## From the machine to the grammar: what each position still waits for

data Tail : List ℕ → Type 0 where
  no_value : {r : List ℕ} → Extensions r → Tail r
  value : {v r : List ℕ} → Value v → Extensions r → Tail (61 ∷ (v ++ r))

data Rest : ExtPos → List ℕ → Type 0 where
  between : {r : List ℕ} → Extensions r → Rest ExtPos.Between r
  name_start : {n r : List ℕ} → Some token? n → Tail r → Rest ExtPos.NameStart (n ++ r)
  name : {n r : List ℕ} → Many token? n → Tail r → Rest ExtPos.Name (n ++ r)
  value_start : {v r : List ℕ} → Value v → Extensions r → Rest ExtPos.ValueStart (v ++ r)
  in_token : {n r : List ℕ} → Many token? n → Extensions r → Rest ExtPos.Token (n ++ r)
  in_quoted : {i r : List ℕ} → Spelled i → Extensions r → Rest ExtPos.Quoted (i ++ (34 ∷ r))
  pair : {b : ℕ} {i r : List ℕ} → escaped? b ≡ true → Spelled i → Extensions r → Rest ExtPos.Pair (b ∷ (i ++ (34 ∷ r)))

bad : {A : Type 0} {xs : List ℕ} → Rest ExtPos.Dead xs → A
bad h = elim h [ ]

from_name-start : {xs : List ℕ} → Rest ExtPos.NameStart xs → Extensions (59 ∷ xs)
from_name-start (name_start {n = n} {r = r} t (no_value e)) = G.more (G.bare t) e
from_name-start (name_start {n = n} t (value {v = v} {r = r} w e)) =
    subst Extensions (append_assoc (59 ∷ n) (61 ∷ v) r) (G.more (G.valued t w) e)

to-name : {b : ℕ} {xs : List ℕ} → token? b ≡ true → Rest ExtPos.Name xs → Rest ExtPos.Name (b ∷ xs)
to-name h (name m t) = name (G.more h m) t

to-name_start : {b : ℕ} {xs : List ℕ} → token? b ≡ true → Rest ExtPos.Name xs → Rest ExtPos.NameStart (b ∷ xs)
to-name_start h (name m t) = name_start (G.some h m) t

tail_name : {xs : List ℕ} → Tail xs → Rest ExtPos.Name xs
tail_name t = name G.none t

from-value_start : {xs : List ℕ} → Rest ExtPos.ValueStart xs → Tail (61 ∷ xs)
from-value_start (value_start v e) = value v e

to-token : {b : ℕ} {xs : List ℕ} → token? b ≡ true → Rest ExtPos.Token xs → Rest ExtPos.Token (b ∷ xs)
to-token h (in_token m e) = in_token (G.more h m) e

token_value-start : {b : ℕ} {xs : List ℕ} → token? b ≡ true → Rest ExtPos.Token xs → Rest ExtPos.ValueStart (b ∷ xs)
token_value-start h (in_token m e) = value_start (G.token_value (G.some h m)) e

quoted_value-start : {xs : List ℕ} → Rest ExtPos.Quoted xs → Rest ExtPos.ValueStart (34 ∷ xs)
quoted_value-start (in_quoted {i = i} {r = r} w e) = subst (Rest ExtPos.ValueStart) (ap (λ (l : List ℕ). 34 ∷ l) (append_assoc i (34 ∷ []) r))
    (value_start (G.quoted_value (inside w)) e)

to_quoted : {b : ℕ} {xs : List ℕ} → text? b ≡ true → Rest ExtPos.Quoted xs → Rest ExtPos.Quoted (b ∷ xs)
to_quoted h (in_quoted w e) = in_quoted (Quoted.text h w) e

pair_quoted : {xs : List ℕ} → Rest ExtPos.Pair xs → Rest ExtPos.Quoted (92 ∷ xs)
pair_quoted (pair h w e) = in_quoted (Quoted.pair h w) e

quoted_pair : {b : ℕ} {xs : List ℕ} → escaped? b ≡ true → Rest ExtPos.Quoted xs → Rest ExtPos.Pair (b ∷ xs)
quoted_pair h (in_quoted w e) = pair h w e

from-between : {xs : List ℕ} → Rest ExtPos.Between xs → Extensions xs
from-between (between e) = e

-- ## a byte back
back : (e : ExtPos) (b : ℕ) (xs : List ℕ) → Rest (ext_step e b) xs → Rest e (b ∷ xs)
back ExtPos.Between b xs = by_cond (λ (e : ExtPos). Rest e xs) (eqb b 59)
    (λ k h. rw (eqb-true b 59 k) (between (from_name-start h))) (λ k h. bad h)
back ExtPos.NameStart b xs = by_cond (λ (e : ExtPos). Rest e xs) (token? b) to-name_start (λ k h. bad h)
back ExtPos.Name b xs = by_cond (λ (e : ExtPos). Rest e xs) (token? b) to-name (λ _.
    by_cond (λ (e : ExtPos). Rest e xs) (eqb b 61) (λ k h. rw (eqb-true b 61 k) (tail_name (from-value_start h))) (λ _.
    by_cond (λ (e : ExtPos). Rest e xs) (eqb b 59) (λ k h. rw (eqb-true b 59 k) (tail_name (no_value (from_name-start h)))) (λ k h. bad h)))
back ExtPos.ValueStart b xs = by_cond (λ (e : ExtPos). Rest e xs) (token? b) token_value-start (λ _.
    by_cond (λ (e : ExtPos). Rest e xs) (eqb b 34) (λ k h. rw (eqb-true b 34 k) (quoted_value-start h)) (λ k h. bad h))
back ExtPos.Token b xs = by_cond (λ (e : ExtPos). Rest e xs) (token? b) to-token (λ _.
    by_cond (λ (e : ExtPos). Rest e xs) (eqb b 59) (λ k h. rw (eqb-true b 59 k) (in_token G.none (from_name-start h))) (λ k h. bad h))
back ExtPos.Quoted b xs = by_cond (λ (e : ExtPos). Rest e xs) (text? b) to_quoted (λ _.
    by_cond (λ (e : ExtPos). Rest e xs) (eqb b 92) (λ k h. rw (eqb-true b 92 k) (pair_quoted h)) (λ _.
    by_cond (λ (e : ExtPos). Rest e xs) (eqb b 34) (λ k h. rw (eqb-true b 34 k) (in_quoted Quoted.end (from-between h))) (λ k h. bad h)))
back ExtPos.Pair b xs = by_cond (λ (e : ExtPos). Rest e xs) (escaped? b) quoted_pair (λ k h. bad h)
back ExtPos.Dead b xs = λ h. bad h

rest_nil : (e : ExtPos) → ext_ends e ≡ true → Rest e []
rest_nil ExtPos.Between h = between G.none
rest_nil ExtPos.NameStart h = false-true h
rest_nil ExtPos.Name h = name G.none (no_value G.none)
rest_nil ExtPos.ValueStart h = false-true h
rest_nil ExtPos.Token h = in_token G.none G.none
rest_nil ExtPos.Quoted h = false-true h
rest_nil ExtPos.Pair h = false-true h
rest_nil ExtPos.Dead h = false-true h

rest : (e : ExtPos) (xs : List ℕ) → ext_ends (ext_run e xs) ≡ true → Rest e xs
rest e [] h = rest_nil e h
rest e (b ∷ xs) h = back e b xs (rest (ext_step e b) xs h)

-- ## From the grammar to the machine

ends_semicolon : (a : ExtPos) → ext_ends a ≡ true → ext_step a 59 ≡ ExtPos.NameStart
unfolding token?
ends_semicolon ExtPos.Between h = refl
ends_semicolon ExtPos.NameStart h = false-true h
ends_semicolon ExtPos.Name h = refl
ends_semicolon ExtPos.ValueStart h = false-true h
ends_semicolon ExtPos.Token h = refl
ends_semicolon ExtPos.Quoted h = false-true h
ends_semicolon ExtPos.Pair h = false-true h
ends_semicolon ExtPos.Dead h = false-true h

run-name : {n : List ℕ} → Many token? n → ext_run ExtPos.Name n ≡ ExtPos.Name
run-name G.none = refl
run-name (G.more h m) = rw h (run-name m)

run-token : {n : List ℕ} → Many token? n → ext_run ExtPos.Token n ≡ ExtPos.Token
run-token G.none = refl
run-token (G.more h m) = rw h (run-token m)

run-name_start : {n : List ℕ} → Some token? n → ext_run ExtPos.NameStart n ≡ ExtPos.Name
run-name_start (G.some h m) = rw h (run-name m)

close-quote : ext_step ExtPos.Quoted 34 ≡ ExtPos.Between
unfolding text?
close-quote = refl

open_pair : ext_step ExtPos.Quoted 92 ≡ ExtPos.Pair
unfolding text?
open_pair = refl

open_quote : ext_step ExtPos.ValueStart 34 ≡ ExtPos.Quoted
unfolding token?
open_quote = refl

name_equals : ext_step ExtPos.Name 61 ≡ ExtPos.ValueStart
unfolding token?
name_equals = refl

step-text : (b : ℕ) → text? b ≡ true → ext_step ExtPos.Quoted b ≡ ExtPos.Quoted
step-text b h = rw h

step_escaped : (b : ℕ) → escaped? b ≡ true → ext_step ExtPos.Pair b ≡ ExtPos.Quoted
step_escaped b h = rw h

run_inside : {i : List ℕ} → Spelled i → ext_run ExtPos.Quoted (i ++ (34 ∷ [])) ≡ ExtPos.Between
run_inside Quoted.end = close-quote
run_inside (Quoted.text {b = b} {xs = xs} h w) = run_step ext_step ExtPos.Quoted b (xs ++ (34 ∷ [])) (step-text b h) ∙ run_inside w
run_inside (Quoted.pair {b = b} {xs = xs} h w) =
    run_step ext_step ExtPos.Quoted 92 (b ∷ (xs ++ (34 ∷ []))) open_pair
    ∙ run_step ext_step ExtPos.Pair b (xs ++ (34 ∷ [])) (step_escaped b h)
    ∙ run_inside w

run_value : {v : List ℕ} → Value v → ext_ends (ext_run ExtPos.ValueStart v) ≡ true
run_value (G.token_value (G.some h m)) = rw h (rw (run-token m) refl)
run_value (G.quoted_value {xs = xs} w) = ap ext_ends (run_step ext_step ExtPos.ValueStart 34 (xs ++ (34 ∷ [])) open_quote ∙ run_inside (spelled xs w))

run_extension : {x : List ℕ} → Extension x → (a : ExtPos) → ext_ends a ≡ true → ext_ends (ext_run a x) ≡ true
run_extension (G.bare {n = n} t) a h = rw (ends_semicolon a h) (rw (run-name_start t) refl)
run_extension (G.valued {n = n} {v = v} t w) a h =
    rw (run_step ext_step a 59 (n ++ (61 ∷ v)) (ends_semicolon a h))
    (rw (run_append ext_step ExtPos.NameStart n (61 ∷ v)) (rw (run-name_start t) (rw (run_step ext_step ExtPos.Name 61 v name_equals) (run_value w))))

ext-sound : {xs : List ℕ} → Extensions xs → (a : ExtPos) → ext_ends a ≡ true → ext_ends (ext_run a xs) ≡ true
ext-sound G.none a h = h
ext-sound (G.more {e = e} {es = es} x xs) a h = rw (run_append ext_step a e es) (ext-sound xs (ext_run a e) (run_extension x a h))

-- ## Live positions

ext-dead : (e : ExtPos) (b : ℕ) → ext_live e ≡ false → ext_live (ext_step e b) ≡ false
ext-dead ExtPos.Between b h = false-true (sym h)
ext-dead ExtPos.NameStart b h = false-true (sym h)
ext-dead ExtPos.Name b h = false-true (sym h)
ext-dead ExtPos.ValueStart b h = false-true (sym h)
ext-dead ExtPos.Token b h = false-true (sym h)
ext-dead ExtPos.Quoted b h = false-true (sym h)
ext-dead ExtPos.Pair b h = false-true (sym h)
ext-dead ExtPos.Dead b h = refl

-- a CR stands in no extension
ext_no_cr : (e : ExtPos) → ext_live (ext_step e 13) ≡ false
unfolding token? text? escaped?
ext_no_cr ExtPos.Between = refl
ext_no_cr ExtPos.NameStart = refl
ext_no_cr ExtPos.Name = refl
ext_no_cr ExtPos.ValueStart = refl
ext_no_cr ExtPos.Token = refl
ext_no_cr ExtPos.Quoted = refl
ext_no_cr ExtPos.Pair = refl
ext_no_cr ExtPos.Dead = refl

ext-finish : (e : ExtPos) → ext_live e ≡ true → (u : List ℕ) × (ext_ends (ext_run e u) ≡ true)
unfolding token? text? escaped?
ext-finish ExtPos.Between h = ([], refl)
ext-finish ExtPos.NameStart h = (97 ∷ [], refl)
ext-finish ExtPos.Name h = ([], refl)
ext-finish ExtPos.ValueStart h = (97 ∷ [], refl)
ext-finish ExtPos.Token h = ([], refl)
ext-finish ExtPos.Quoted h = (34 ∷ [], refl)
ext-finish ExtPos.Pair h = (32 ∷ 34 ∷ [], refl)
ext-finish ExtPos.Dead h = false-true h

ext-ends-live : (e : ExtPos) → ext_ends e ≡ true → ext_live e ≡ true
ext-ends-live ExtPos.Between h = refl
ext-ends-live ExtPos.NameStart h = refl
ext-ends-live ExtPos.Name h = refl
ext-ends-live ExtPos.ValueStart h = refl
ext-ends-live ExtPos.Token h = refl
ext-ends-live ExtPos.Quoted h = refl
ext-ends-live ExtPos.Pair h = refl
ext-ends-live ExtPos.Dead h = false-true h

-- no extension begins with a digit of the size
semicolon : hex? 59 ≡ false
unfolding hex?
semicolon = refl

begins : {ys : List ℕ} → Extensions ys → (b : ℕ) (xs : List ℕ) → ys ≡ b ∷ xs → hex? b ≡ false
begins G.none b xs e = let z : ◌≡◌ {A = ℕ} 0 1 = cc in absurd (omega arith)
begins (G.more (G.bare t) x) b xs e = let z : 59 ≡ b = cc in ap hex? (sym z) ∙ semicolon
begins (G.more (G.valued t w) x) b xs e = let z : 59 ≡ b = cc in ap hex? (sym z) ∙ semicolon

-- ## By the name of the part
pub extensions_no_cr : (e : ExtPos) → extensions.alive (extensions.next e 13) ≡ false
extensions_no_cr = ext_no_cr

pub extensions-begin : (b : ℕ) (xs : List ℕ) → Extensions (b ∷ xs) → hex? b ≡ false
extensions-begin b xs x = begins x b xs refl

pub extensions-read : Reads Extensions extensions
extensions-read = record {
  sound = λ xs x. ext-sound x ExtPos.Between refl;
  complete = λ xs h. from-between (rest ExtPos.Between xs h);
  ends_alive = ext-ends-live;
  finish = ext-finish;
  dead = ext-dead;
}
