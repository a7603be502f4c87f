-- What ties the machine for a part of a body to the grammar's name for that part. For any part.
use mathlib.Core.Path.{◌≡◌, sym, ◌∙◌, ap}
use mathlib.Core.Bool.{true, false}
use mathlib.Core.List.{List, ◌++◌}
use Prim.Native.Nat.{ℕ}
use Rattle.framing.specs.helpers.Scan.{Part, run}
use Rattle.framing.proofs.Cases.{false-true}
use Rattle.framing.proofs.Scanning.{run_append, run-live, run_along}

-- the position behind the bytes
abbrev pub at : {P : Type 0} → Part P → P → List ℕ → P
at part p xs = run part.next p xs

pub record Reads {P : Type 0} (Text : List ℕ → Type 0) (part : Part P) : Type 0 where
  -- it may end behind each text of the grammar, and behind no other
  pub sound : (xs : List ℕ) → Text xs → part.ends (at part part.begin xs) ≡ true
  pub complete : (xs : List ℕ) → part.ends (at part part.begin xs) ≡ true → Text xs
  -- it may end at live positions only, each of which has a completion; a dead one stays dead
  pub ends_alive : (p : P) → part.ends p ≡ true → part.alive p ≡ true
  pub finish : (p : P) → part.alive p ≡ true → (u : List ℕ) × (part.ends (at part p u) ≡ true)
  pub dead : (p : P) (b : ℕ) → part.alive p ≡ false → part.alive (part.next p b) ≡ false

module _ {P : Type 0} {Text : List ℕ → Type 0} (part : Part P) (reads : Reads Text part) where
  -- behind a beginning of a text it is alive
  pub begun-alive : (xs u : List ℕ) → Text (xs ++ u) → part.alive (at part part.begin xs) ≡ true
  begun-alive xs u t =
      run-live part.next part.alive reads.dead (at part part.begin xs) u
      (ap part.alive (sym (run_append part.next part.begin xs u))
      ∙ reads.ends_alive (at part part.begin (xs ++ u)) (reads.sound (xs ++ u) t))

  -- a live position goes on to a text
  pub alive-begun : (xs : List ℕ) → part.alive (at part part.begin xs) ≡ true → (u : List ℕ) × Text (xs ++ u)
  alive-begun xs h =
      let f : (u : List ℕ) × (part.ends (at part (at part part.begin xs) u) ≡ true) = reads.finish (at part part.begin xs) h in
      (f.0, reads.complete (xs ++ f.0) (ap part.ends (run_append part.next part.begin xs f.0) ∙ f.1))

  -- from a dead position it never ends
  pub never_ends : {A : Type 0} (p : P) (xs : List ℕ) → part.alive p ≡ false → part.ends (at part p xs) ≡ true → A
  never_ends p xs h e =
      false-true (sym h ∙ run-live part.next part.alive reads.dead p xs (reads.ends_alive (at part p xs) e))

-- a finer machine for the same part: it remembers something of the bytes that it has passed
pub record Refines {P Q : Type 0} (fine : Part Q) (part : Part P) (place : Q → P) : Type 0 where
  pub begin : place fine.begin ≡ part.begin
  pub next : (q : Q) (b : ℕ) → place (fine.next q b) ≡ part.next (place q) b
  pub ends : (q : Q) → fine.ends q ≡ part.ends (place q)
  pub alive : (q : Q) → fine.alive q ≡ part.alive (place q)

module _ {P Q : Type 0} (fine : Part Q) (part : Part P) (place : Q → P) (refines : Refines fine part place) where
  at_place : (q : Q) (xs : List ℕ) → place (at fine q xs) ≡ at part (place q) xs
  at_place = run_along part.next fine.next place refines.next

  ends_at : (q : Q) (xs : List ℕ) → fine.ends (at fine q xs) ≡ part.ends (at part (place q) xs)
  ends_at q xs = refines.ends (at fine q xs) ∙ ap part.ends (at_place q xs)

  ends-begin : (xs : List ℕ) → fine.ends (at fine fine.begin xs) ≡ part.ends (at part part.begin xs)
  ends-begin xs = ends_at fine.begin xs ∙ ap (λ (p : P). part.ends (at part p xs)) refines.begin

  -- is tied to the grammar as the other is
  pub refined : {Text : List ℕ → Type 0} → Reads Text part → Reads Text fine
  refined reads = record {
    sound = λ xs t. ends-begin xs ∙ reads.sound xs t;
    complete = λ xs h. reads.complete xs (sym (ends-begin xs) ∙ h);
    ends_alive = λ q h. refines.alive q ∙ reads.ends_alive (place q) (sym (refines.ends q) ∙ h);
    finish = λ q h.
        let f = reads.finish (place q) (sym (refines.alive q) ∙ h) in
        (f.0, ends_at q f.0 ∙ f.1);
    dead = λ q b h.
        refines.alive (fine.next q b)
        ∙ ap part.alive (refines.next q b)
        ∙ reads.dead (place q) b (sym (refines.alive q) ∙ h);
  }
