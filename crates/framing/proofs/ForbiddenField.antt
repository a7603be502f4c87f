-- The limit on names in the trailer: the machine finds it where the grammar says that it is broken, and nowhere else. For any list of
-- names without a colon, up to `forbidden_field_found`.
use mathlib.Core.Path.{◌≡◌, refl, sym, ◌∙◌, ap, ap₂, subst}
use mathlib.Core.Bool.{Bool, true, false}
use mathlib.Core.List.{List, [], ◌∷◌, ◌++◌, append_assoc, append-nil}
use Prim.Native.Nat.{ℕ, suc, ◌+◌, ◌*◌, ◌<◌}
use native.Mathlib.Nat.{zero-mod, mod-eq_of_lt, div-eq_of_lt, add-mul-div_left, add-mul-mod_self_left}
use native.Mathlib.Omega.{arith}
use lib.Dec.{eqb}
use lib.ListN.{length, length-append}
use borrow.Author.Tests.{eqb-true, eq-eqb}
use Rattle.grammar.specs.Refusals.{FORBIDDEN_FIELD}
use Rattle.grammar.specs.Grammar.{lower}
use Rattle.octets.specs.Bytes.{token?, content?}
use Rattle.framing.specs.declared.TrailPos.TheVariants.{LineStart, Name, Value, Forbidden, Lf, Dead}
use Rattle.framing.specs.declared.State.{State}
use Rattle.framing.specs.Grammar as G
use Rattle.framing.specs.Grammar.{Many, Token, Trailer, InTrailer, AtColon, Named, Broken, forbidden}
use Rattle.framing.specs.helpers.Names.{texts, every, going_on, width, bits, count, staying}
use Rattle.framing.specs.helpers.Trailer.{in_name, place_behind_name, in_value, named_step, named}
use Rattle.framing.specs.helpers.Machine.{TrailerAt, trailer, live, at_forbidden, forbidden_field}
use Rattle.framing.specs.helpers.Scan.{run}
use Rattle.framing.proofs.Cases.{false-true, to-cond}
use Rattle.framing.proofs.Scanning.{run_append}
use Rattle.framing.proofs.Parts.{at, alive-begun}
use Rattle.framing.proofs.Trails.{named-read, trailer-read}
use Rattle.framing.proofs.Names.{agreeing, agreeing-few, agrees_on, every-agrees, none-on, Colonless, named-agrees, agrees-named}
use Rattle.framing.proofs.Past.{Past, many_append}
use Rattle.framing.proofs.Finds.{Finds, Tied}
use Rattle.framing.proofs.InTrailer.{trailer-finds, Stands, trailer-stands}

module _ (names : List (List ℕ)) where
  -- ## In a name
  -- the position behind n, a name so far
  pub record Agrees (n : List ℕ) (q : TrailerAt) : Type 0 where
    pub code : ℕ
    pub is : q ≡ Name code
    pub agree : bits names code ≡ agreeing (texts names) n
    pub counts : eqb (bits names code) 0 ≡ false → count names code ≡ length n

  in_name_lem : (n : List ℕ) (m k : ℕ) → m ≡ agreeing (texts names) n → (eqb m 0 ≡ false → k ≡ length n) → Agrees n (in_name names m k)
  in_name_lem n m k e c = to-cond (Agrees n) (eqb m 0)
      (λ z. record {
        code = 0;
        is = refl;
        agree = none ∙ sym (eqb-true m 0 z) ∙ e;
        counts = λ h. false-true (sym h ∙ eq-eqb (bits names 0) 0 none);
      })
      (λ _. record {
        code = m + width names * k;
        is = refl;
        agree = low ∙ e;
        counts = λ h. high ∙ c (ap (λ (i : ℕ). eqb i 0) (sym low) ∙ h);
      })
    where
      none : bits names 0 ≡ 0
      none = zero-mod (width names)

      few : m < width names
      few = omega (arith, e, agreeing-few names n)

      low : bits names (m + width names * k) ≡ m
      low = add-mul-mod_self_left m (width names) k ∙ mod-eq_of_lt few

      high : count names (m + width names * k) ≡ k
      high = add-mul-div_left m k (omega arith) ∙ ap (λ (i : ℕ). i + k) (div-eq_of_lt few) ∙ omega arith

  -- what goes on with a byte
  goes_on : (n : List ℕ) (m k b : ℕ) → m ≡ agreeing (texts names) n → (eqb m 0 ≡ false → k ≡ length n)
      → going_on (texts names) m k b ≡ agreeing (texts names) (n ++ (b ∷ []))
  goes_on n m k b e c = go (eqb m 0) refl
    where
      go : (x : Bool) → eqb m 0 ≡ x → going_on (texts names) m k b ≡ agreeing (texts names) (n ++ (b ∷ []))
      go true z =
          ap (λ (i : ℕ). going_on (texts names) i k b) (eqb-true m 0 z)
          ∙ none-on (texts names) k b
          ∙ sym (none-on (texts names) (length n) b)
          ∙ ap (λ (i : ℕ). going_on (texts names) i (length n) b) (sym (eqb-true m 0 z) ∙ e)
          ∙ agrees_on (texts names) n b
      go false z = ap₂ (λ (i j : ℕ). going_on (texts names) i j b) e (c z) ∙ agrees_on (texts names) n b

  first_byte : (b : ℕ) → token? b ≡ true → Agrees (b ∷ []) (named_step names LineStart b)
  first_byte b h =
      let m : ℕ = going_on (texts names) (every names) 0 b in
      rw h (in_name_lem (b ∷ []) m 1 (ap (λ (i : ℕ). going_on (texts names) i 0 b) (every-agrees names) ∙ agrees_on (texts names) [] b) (λ _. refl))

  -- a text that goes on was still in
  was_in : (m k b : ℕ) → eqb (going_on (texts names) m k b) 0 ≡ false → eqb m 0 ≡ false
  was_in m k b e = go (eqb m 0) refl
    where
      go : (x : Bool) → eqb m 0 ≡ x → x ≡ false
      go true z = false-true (sym e ∙ ap (λ (i : ℕ). eqb (going_on (texts names) i k b) 0) (eqb-true m 0 z)
          ∙ eq-eqb (going_on (texts names) 0 k b) 0 (none-on (texts names) k b))
      go false z = refl

  next-byte : (n : List ℕ) (q : TrailerAt) (b : ℕ) → Agrees n q → token? b ≡ true → Agrees (n ++ (b ∷ [])) (named_step names q b)
  next-byte n q b a h =
      let m : ℕ = staying names a.code b in
      subst (λ (z : TrailerAt). Agrees (n ++ (b ∷ [])) (named_step names z b)) (sym a.is)
      (rw h (in_name_lem (n ++ (b ∷ [])) m (suc (count names a.code))
      (goes_on n (bits names a.code) (count names a.code) b a.agree a.counts)
      (λ e. ap suc (a.counts (was_in (bits names a.code) (count names a.code) b e)) ∙ sym (counted n b))))
    where
      counted : (n : List ℕ) (b : ℕ) → length (n ++ (b ∷ [])) ≡ suc (length n)
      counted n b = omega (arith, length-append n (b ∷ []))

  -- the colon
  behind_colon : (n : List ℕ) (q : TrailerAt) → Agrees n q → named_step names q 58 ≡ place_behind_name (agreeing (texts names) (n ++ (58 ∷ [])))
  unfolding token?
  behind_colon n q a =
      ap (λ (z : TrailerAt). named_step names z 58) a.is
      ∙ ap place_behind_name (goes_on n (bits names a.code) (count names a.code) 58 a.agree a.counts)

  -- ## From the grammar to the machine
  more_bytes : (n : List ℕ) (q : TrailerAt) (xs : List ℕ) → Agrees n q → Many token? xs → Agrees (n ++ xs) (run (named_step names) q xs)
  more_bytes n q xs a G.none = subst (λ (z : List ℕ). Agrees z q) (sym (append-nil n)) a
  more_bytes n q xs a (G.more {b = b} {xs = ys} h m) =
      subst (λ (z : List ℕ). Agrees z (run (named_step names) (named_step names q b) ys)) (append_assoc n (b ∷ []) ys)
      (more_bytes (n ++ (b ∷ [])) (named_step names q b) ys (next-byte n q b a h) m)

  token-agrees : {n : List ℕ} → Token n → Agrees n (at (named names) LineStart n)
  token-agrees (G.some {b = b} {xs = xs} h m) = more_bytes (b ∷ []) (named_step names LineStart b) xs (first_byte b h) m

  only_start : (q : TrailerAt) → (named names).ends q ≡ true → q ≡ LineStart
  only_start LineStart h = refl
  only_start (Name c) h = false-true h
  only_start Value h = false-true h
  only_start Forbidden h = false-true h
  only_start Lf h = false-true h
  only_start Dead h = false-true h

  -- behind lines, a name and its colon
  at_colon : {t n : List ℕ} → Trailer t → Token n
      → at (named names) LineStart (t ++ (n ++ (58 ∷ []))) ≡ place_behind_name (agreeing (texts names) (n ++ (58 ∷ [])))
  at_colon {t} {n} y k =
      run_append (named_step names) LineStart t (n ++ (58 ∷ []))
      ∙ ap (λ (z : TrailerAt). run (named_step names) z (n ++ (58 ∷ [])))
      (only_start (at (named names) LineStart t) ((named-read names).sound t y))
      ∙ run_append (named_step names) LineStart n (58 ∷ [])
      ∙ behind_colon n (at (named names) LineStart n) (token-agrees k)

  -- ## From the machine to the grammar
  -- lines, then a part of a name
  record InName (q : TrailerAt) (p : List ℕ) : Type 0 where
    pub before : List ℕ
    pub name : List ℕ
    pub lines : Trailer before
    pub token : Token name
    pub split : p ≡ before ++ name
    pub agrees : Agrees name q

  -- lines, then one of the names and its colon
  pub record AtName (p : List ℕ) : Type 0 where
    pub before : List ℕ
    pub name : List ℕ
    pub lines : Trailer before
    pub token : Token name
    pub split : p ≡ before ++ (name ++ (58 ∷ []))
    pub is : Named name names

  longer : {n : List ℕ} (b : ℕ) → Token n → token? b ≡ true → Token (n ++ (b ∷ []))
  longer b (G.some h m) z = G.some h (many_append m (G.more z G.none))

  abbrev Marks : TrailerAt → List ℕ → Type 0
  Marks LineStart p = Unit {0}
  Marks (Name c) p = InName (Name c) p
  Marks Value p = Unit {0}
  Marks Forbidden p = AtName p
  Marks Lf p = Unit {0}
  Marks Dead p = Unit {0}

  name-marks : (q : TrailerAt) (p : List ℕ) → InName q p → Marks q p
  name-marks q p i = subst (λ (z : TrailerAt). InName z p → Marks z p) (sym i.agrees.is) (λ x. x) i

  value-marks : (b : ℕ) (p : List ℕ) → Marks (in_value b) p
  value-marks b p =
      to-cond (λ (q : TrailerAt). Marks q p) (content? b) (λ _. tt)
      (λ _. to-cond (λ (q : TrailerAt). Marks q p) (eqb b 13) (λ _. tt) (λ _. tt))

  module _ (clear : Colonless names) where
    colon_marks : (c : ℕ) (p : List ℕ) → InName (Name c) p → Marks (named_step names (Name c) 58) (p ++ (58 ∷ []))
    colon_marks c p i =
        subst (λ (q : TrailerAt). Marks q (p ++ (58 ∷ []))) (sym (behind_colon i.name (Name c) i.agrees))
        (to-cond (λ (q : TrailerAt). Marks q (p ++ (58 ∷ []))) (eqb (agreeing (texts names) (i.name ++ (58 ∷ []))) 0) (λ _. tt) (λ e. record {
          before = i.before;
          name = i.name;
          lines = i.lines;
          token = i.token;
          split = ap (λ (z : List ℕ). z ++ (58 ∷ [])) i.split ∙ append_assoc i.before i.name (58 ∷ []);
          is = agrees-named i.name names clear e;
        }))

    no_name : (c b : ℕ) → token? b ≡ false → eqb b 58 ≡ false → named_step names (Name c) b ≡ Dead
    no_name c b h e = rw (h, e) refl

    mark_on : (q : TrailerAt) (b : ℕ) (p : List ℕ) → at (named names) LineStart p ≡ q → Marks q p
        → Marks (named_step names q b) (p ++ (b ∷ []))
    mark_on LineStart b p e h = go (token? b) refl
      where
        go : (x : Bool) → token? b ≡ x → Marks (named_step names LineStart b) (p ++ (b ∷ []))
        go true z = name-marks (named_step names LineStart b) (p ++ (b ∷ [])) (record {
          before = p;
          name = b ∷ [];
          lines = (named-read names).complete p (ap (named names).ends e);
          token = G.some z G.none;
          split = refl;
          agrees = first_byte b z;
        })
        go false z = rw z tt
    mark_on (Name c) b p e h = go (token? b) (eqb b 58) refl refl
      where
        go : (x y : Bool) → token? b ≡ x → eqb b 58 ≡ y → Marks (named_step names (Name c) b) (p ++ (b ∷ []))
        go true y z w = name-marks (named_step names (Name c) b) (p ++ (b ∷ [])) (record {
          before = h.before;
          name = h.name ++ (b ∷ []);
          lines = h.lines;
          token = longer b h.token z;
          split = ap (λ (z : List ℕ). z ++ (b ∷ [])) h.split ∙ append_assoc h.before h.name (b ∷ []);
          agrees = next-byte h.name (Name c) b h.agrees z;
        })
        go false true z w =
            subst (λ (a : ℕ). Marks (named_step names (Name c) a) (p ++ (a ∷ []))) (sym (eqb-true b 58 w)) (colon_marks c p h)
        go false false z w = subst (λ (q : TrailerAt). Marks q (p ++ (b ∷ []))) (sym (no_name c b z w)) tt
    mark_on Value b p e h = value-marks b (p ++ (b ∷ []))
    mark_on Forbidden b p e h = value-marks b (p ++ (b ∷ []))
    mark_on Lf b p e h = to-cond (λ (q : TrailerAt). Marks q (p ++ (b ∷ []))) (eqb b 10) (λ _. tt) (λ _. tt)
    mark_on Dead b p e h = tt

    marks-from : (xs p : List ℕ) (q : TrailerAt) → at (named names) LineStart p ≡ q → Marks q p → Marks (run (named_step names) q xs) (p ++ xs)
    marks-from [] p q e h = subst (Marks q) (sym (append-nil p)) h
    marks-from (b ∷ xs) p q e h =
        subst (Marks (run (named_step names) (named_step names q b) xs)) (append_assoc p (b ∷ []) xs)
        (marks-from xs (p ++ (b ∷ [])) (named_step names q b)
        (run_append (named_step names) LineStart p (b ∷ []) ∙ ap (λ (z : TrailerAt). named_step names z b) e) (mark_on q b p e h))

    is-forbidden : (q : TrailerAt) (p : List ℕ) → Marks q p → at_forbidden q ≡ true → AtName p
    is-forbidden LineStart p h e = false-true e
    is-forbidden (Name c) p h e = false-true e
    is-forbidden Value p h e = false-true e
    is-forbidden Forbidden p h e = h
    is-forbidden Lf p h e = false-true e
    is-forbidden Dead p h e = false-true e

    -- the position says "forbidden" exactly behind lines, one of the names and its colon
    pub forbidden-from : (p : List ℕ) → at_forbidden (at (named names) LineStart p) ≡ true → AtName p
    forbidden-from p = is-forbidden (at (named names) LineStart p) p (marks-from p [] LineStart refl tt)

    pub forbidden-to : {t n : List ℕ} → Trailer t → Token n → Named n names
        → at (named names) LineStart (t ++ (n ++ (58 ∷ []))) ≡ Forbidden
    forbidden-to {t} {n} y k h = at_colon y k ∙ rw (named-agrees n names clear h) refl

-- ## The three names
clear : Colonless forbidden
unfolding lower
clear = (refl, (refl, (refl, tt)))

pub forbidden_field_found : {p n : List ℕ} → AtColon p n → Named n forbidden → Finds forbidden_field p
forbidden_field_found (G.at_colon {c = c} {l = l} {t = t} {n = n} cs h y k) e =
    let part : List ℕ = t ++ (n ++ (58 ∷ [])) in
    let z : at trailer trailer.begin part ≡ Forbidden = forbidden-to forbidden clear y k e in
    let f : (u : List ℕ) × Trailer (part ++ u) = alive-begun trailer trailer-read part (ap trailer.alive z) in
    trailer-finds (λ q i. at_forbidden q) (G.in_trailer f.0 cs h f.1) (ap at_forbidden z)

colon_of : {p part : List ℕ} → InTrailer p part → (w : AtName forbidden part) → AtColon p w.name
colon_of (G.in_trailer {c = c} {l = l} u cs h y) w =
    subst (λ (z : List ℕ). AtColon (c ++ (l ++ (13 ∷ 10 ∷ z))) w.name) (sym w.split) (G.at_colon cs h w.lines w.token)

forbidden_field_broken : (room : ℕ) (s : State) (p d : List ℕ) → forbidden_field s ≡ true → live s ≡ true → Past s p d
    → Broken room FORBIDDEN_FIELD p
forbidden_field_broken room s p d e a h =
    let w : Stands (λ q i. at_forbidden q) p = trailer-stands (λ q i. at_forbidden q) s p d e a h in
    let n : AtName forbidden w.part = forbidden-from forbidden clear w.part w.passed in
    G.forbidden_field (colon_of w.is n) n.is

pub forbidden_field_tied : (room : ℕ) → Tied room (FORBIDDEN_FIELD, forbidden_field)
forbidden_field_tied room = record { opens = refl; broken = forbidden_field_broken room }
