-- A pass over the bytes of a call: what is still to be done, from a state and a place on.
use mathlib.Core.Path.{◌≡◌, refl, sym, ◌∙◌, ap, subst}
use mathlib.Core.Bool.{Bool, true, false, cond}
use mathlib.Core.List.{List, [], ◌∷◌, ◌++◌}
use Prim.Native.Nat.{ℕ, suc, ◌+◌, ◌-◌, ◌<◌, ◌≤◌}
use native.Mathlib.Omega.{arith}
use lib.ListN.{length, get_or, take, drop, length-append, length-drop, take-append-drop}
use lib.Seq.{drop-cons, drop-drop, drop-length}
use Rattle.text.specs.Placing.{placed}
use Rattle.text.proofs.Placing.{placed-length, placed-placed}
use Rattle.pieces.specs.Reading.{next, over?, listed, advance, steps, gathered, filled}
use Rattle.pieces.specs.declared.Pieces.{Pieces}
use Rattle.pieces.specs.helpers.Runs.{Sound, Passed, Idle}
use Rattle.plain_chunks.proofs.Chunks.{placed-none}
use Rattle.pieces.proofs.Steps.{over_stays, over-steps, advance-one, gathered_none, advance_append, gathered_append}
use Rattle.pieces.proofs.Steps.{advance-room, advance-sound, filled_on, gathered-fits, onward, turned, Turn, goes, stops, turn}

-- from s, at the place i of the bytes, with `new` written, what remains leads to where the bytes lead from s₀ at the place i₀
pub record Rest (s₀ : Pieces) (i₀ : ℕ) (bytes old : List ℕ) (s : Pieces) (new : List ℕ) (i : ℕ) : Type 0 where
  pub inside : i ≤ length bytes
  pub sound : Sound s
  pub lent : length new ≡ s.room
  pub goes : advance s (drop i bytes) ≡ advance s₀ (drop i₀ bytes)
  pub wrote : placed new (filled s.position) (gathered s (drop i bytes)) ≡ placed old (filled s₀.position) (gathered s₀ (drop i₀ bytes))

-- what falls: the bytes that remain, and one where the body goes on
abbrev pub left : List ℕ → Pieces → ℕ → ℕ
left bytes s i = length bytes - i + cond (over? s) 0 1

-- where the code goes on behind a byte, to t, and that something falls
pub record Onward (s₀ : Pieces) (i₀ : ℕ) (bytes old : List ℕ) (s : Pieces) (new : List ℕ) (i : ℕ) (t : Pieces) : Type 0 where
  pub least : s.taken ≤ t.taken
  pub most : t.taken ≤ s.taken + 1
  pub rest : Rest s₀ i₀ bytes old t new (i + (t.taken - s.taken))
  pub falls : left bytes t (i + (t.taken - s.taken)) < left bytes s i

module _ {s₀ : Pieces} {i₀ : ℕ} {bytes old : List ℕ} where
  pub rest-start : i₀ ≤ length bytes → Sound s₀ → length old ≡ s₀.room → Rest s₀ i₀ bytes old s₀ old i₀
  rest-start h d l = record { inside = h; sound = d; lent = l; goes = refl; wrote = refl }

  module _ {s : Pieces} {new : List ℕ} {i : ℕ} (r : Rest s₀ i₀ bytes old s new i) where
    -- nothing remains
    pub rest_over : over? s ≡ true → (s ≡ advance s₀ (drop i₀ bytes)) × (new ≡ placed old (filled s₀.position) (gathered s₀ (drop i₀ bytes)))
    rest_over o = (
      sym (over_stays s o (drop i bytes)) ∙ r.goes,
      sym (ap (placed new (filled s.position)) (gathered_none s (drop i bytes) (over-steps s o (drop i bytes)))
          ∙ placed-none new (filled s.position))
          ∙ r.wrote,
    )

    pub rest_end : length bytes ≤ i → (s ≡ advance s₀ (drop i₀ bytes)) × (new ≡ placed old (filled s₀.position) (gathered s₀ (drop i₀ bytes)))
    unfolding advance steps
    rest_end h =
        let e : i ≡ length bytes = omega (arith, r.inside) in
        let z : drop i bytes ≡ [] = ap (λ (n : ℕ). drop n bytes) e ∙ drop-length bytes in (
          sym (ap (advance s) z) ∙ r.goes,
          sym (ap (λ (xs : List ℕ). placed new (filled s.position) (gathered s xs)) z ∙ placed-none new (filled s.position)) ∙ r.wrote,
        )

    -- over a run
    pub rest-on : {t : Pieces} {next : List ℕ} (p : Passed s (drop i bytes) new t next) → Rest s₀ i₀ bytes old t next (i + p.count)
    rest-on {t} {next} p =
        let ys : List ℕ = drop i bytes in
        let k : ℕ = p.count in
        let cut : take k ys ++ drop k ys ≡ ys = take-append-drop k ys in
        let rest : drop (i + k) bytes ≡ drop k ys = sym (drop-drop k i bytes) in
        let d : List ℕ = gathered s (take k ys) in
        let e : List ℕ = gathered t (drop k ys) in
        let g : gathered s ys ≡ d ++ e
        = ap (gathered s) (sym cut) ∙ gathered_append s (take k ys) (drop k ys)
        ∙ ap (λ (z : Pieces). d ++ gathered z (drop k ys)) (sym p.state) in
        let f : filled t.position ≡ filled s.position + length d
        = ap (λ (z : Pieces). filled z.position) p.state ∙ filled_on s (take k ys) r.sound in
        record {
          inside = omega (arith, p.inside, length-drop i bytes, r.inside);
          sound = subst Sound (sym p.state) (advance-sound s (take k ys) r.sound);
          lent = ap length p.wrote ∙ placed-length new (filled s.position) d ∙ r.lent
              ∙ sym (ap (λ (z : Pieces). z.room) p.state ∙ advance-room s (take k ys));
          goes = ap (advance t) rest ∙ ap (λ (z : Pieces). advance z (drop k ys)) p.state
              ∙ sym (advance_append s (take k ys) (drop k ys)) ∙ ap (advance s) cut ∙ r.goes;
          wrote = ap (λ (xs : List ℕ). placed next (filled t.position) (gathered t xs)) rest
              ∙ ap (λ (xs : List ℕ). placed xs (filled t.position) e) p.wrote
              ∙ placed-placed new (filled s.position) d (filled t.position) e
              (omega (arith, gathered-fits s ys r.sound, ap length g, length-append d e, r.lent)) f
              ∙ ap (placed new (filled s.position)) (sym g)
              ∙ r.wrote;
        }

    -- over one byte, which is no data that is taken
    module _ (o : over? s ≡ false) (lt : i < length bytes) (idle : Idle s) where
      abbrev b : ℕ
      b = get_or bytes i 0

      rest-is : drop i bytes ≡ b ∷ drop (suc i) bytes
      rest-is = drop-cons bytes i 0 lt

      -- as a run of one
      one-passed : next s b ≡ onward s b → Passed s (drop i bytes) new (onward s b) new
      one-passed e = record {
        count = 1;
        inside = omega (arith, length-drop i bytes);
        taken = omega arith;
        state = sym (ap (advance s) one ∙ advance-one s b o ∙ e);
        wrote = sym (ap (λ (xs : List ℕ). placed new (filled s.position) (gathered s xs)) one
            ∙ ap (placed new (filled s.position)) (idle b) ∙ placed-none new (filled s.position));
      }
        where
          one : take 1 (drop i bytes) ≡ b ∷ []
          one = ap (take 1) rest-is

      -- the byte is refused: nothing remains
      rest-turned : (n : ℕ) → over? (turned s n) ≡ true → ((xs : List ℕ) → advance s (b ∷ xs) ≡ turned s n)
          → ((xs : List ℕ) → steps s (b ∷ xs) ≡ 0) → (listed s.refused ≡ true → listed n ≡ true) → Rest s₀ i₀ bytes old (turned s n) new i
      rest-turned n v a k l = record {
        inside = r.inside;
        sound = record { stands = r.sound.stands; within = r.sound.within; lists = l r.sound.lists };
        lent = r.lent;
        goes = over_stays (turned s n) v (drop i bytes) ∙ sym (ap (advance s) rest-is ∙ a (drop (suc i) bytes)) ∙ r.goes;
        wrote = ap (placed new (filled s.position)) (gathered_none (turned s n) (drop i bytes) (over-steps (turned s n) v (drop i bytes)))
            ∙ sym (ap (placed new (filled s.position))
            (ap (gathered s) rest-is ∙ gathered_none s (b ∷ drop (suc i) bytes) (k (drop (suc i) bytes))))
            ∙ r.wrote;
      }

      pub rest-next : Onward s₀ i₀ bytes old s new i (next s b)
      unfolding one-passed
      rest-next = go (turn s b)
        where
          some : ◌≡◌ {A = ℕ} (cond (over? s) 0 1) 1
          some = ap (λ (x : Bool). cond {A = ℕ} x 0 1) o

          small : (x : Bool) → cond {A = ℕ} x 0 1 ≤ 1
          small true = omega arith
          small false = omega arith

          none : (t : Pieces) → over? t ≡ true → ◌≡◌ {A = ℕ} (cond (over? t) 0 1) 0
          none t v = ap (λ (x : Bool). cond {A = ℕ} x 0 1) v

          go : Turn s b → Onward s₀ i₀ bytes old s new i (next s b)
          go (goes _ _ e) =
              let z : i + 1 ≡ i + (suc s.taken - s.taken) = omega arith in
              subst (Onward s₀ i₀ bytes old s new i) (sym e) (record {
                least = omega arith;
                most = omega arith;
                rest = subst (Rest s₀ i₀ bytes old (onward s b) new) z (rest-on (one-passed e));
                falls = omega (arith, some, small (over? (onward s b)));
              })
          go (stops n l v a k) =
              let z : i ≡ i + (s.taken - s.taken) = omega arith in
              subst (Onward s₀ i₀ bytes old s new i) (sym (sym (advance-one s b o) ∙ a [])) (record {
                least = omega arith;
                most = omega arith;
                rest = subst (Rest s₀ i₀ bytes old (turned s n) new) z (rest-turned n v a k l);
                falls = omega (arith, some, none (turned s n) v);
              })

    -- a run of no bytes
    pub rest_still : {t : Pieces} {next : List ℕ} → Passed s (drop i bytes) new t next → t.taken ≤ s.taken → Rest s₀ i₀ bytes old s next i
    unfolding advance
    rest_still {t} {next} p h =
        let k : p.count ≡ 0 = omega (arith, p.taken) in
        let e : t ≡ s = p.state ∙ ap (λ (n : ℕ). advance s (take n (drop i bytes))) k in
        let z : i + p.count ≡ i = omega arith in
        subst (λ (x : Pieces). Rest s₀ i₀ bytes old x next i) e (subst (Rest s₀ i₀ bytes old t next) z (rest-on p))
