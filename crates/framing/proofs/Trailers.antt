-- Where the trailer of a body stands: behind the last chunk's line, and before the last two bytes. The machine knows its length, so that
-- a body has one trailer.
use mathlib.Core.Path.{◌≡◌, refl, sym, ◌∙◌, ap, ap₂, subst}
use mathlib.Core.List.{List, [], ◌++◌, append_assoc}
use Prim.Native.Nat.{ℕ, ◌+◌, ◌-◌, ◌≤◌}
use native.Mathlib.Omega.{arith}
use lib.ListN.{length, length-append, take, drop, take-append-drop}
use lib.Seq.{take_at, drop_at, drop-drop, length-take-le}
use Rattle.framing.specs.declared.Whole.{Whole}
use Rattle.framing.specs.declared.State.TheVariants.{Done}
use Rattle.framing.specs.Grammar as G
use Rattle.framing.specs.Grammar.{crlf, HasTrailer, Tells}
use Rattle.framing.specs.helpers.Machine.{step, start}
use Rattle.framing.specs.helpers.Scan.{run}
use Rattle.framing.proofs.Goes.{goes_parts}

pub trailer-start : (c l t : List ℕ) → length (c ++ (l ++ (crlf ++ (t ++ crlf)))) - (length t + 2) ≡ length (c ++ (l ++ crlf))
trailer-start c l t =
    omega (
      arith,
      length-append c (l ++ (crlf ++ (t ++ crlf))),
      length-append l (crlf ++ (t ++ crlf)),
      length-append t crlf,
      length-append c (l ++ crlf),
      length-append l crlf,
    )

pub ends-trailed : {p t : List ℕ} {n : ℕ} → HasTrailer p n t
    → (m : ℕ) × (run step start p ≡ Done m (length t)) × (n ≡ length p - (length t + 2))
ends-trailed (G.has_trailer {c = c} {d = d} {l = l} {t = t} cs h y) = (length d, (goes_parts cs h y).ends, sym (trailer-start c l t))

pub same-trailer : {m n k j : ℕ} → Done m n ≡ Done k j → n ≡ j
same-trailer e = cc

trailer-closed : {p t : List ℕ} {n : ℕ} → HasTrailer p n t → n + length t + 2 ≡ length p
trailer-closed (G.has_trailer {c = c} {l = l} {t = t} cs h y) =
    omega (
      arith,
      length-append c (l ++ (crlf ++ (t ++ crlf))),
      length-append l (crlf ++ (t ++ crlf)),
      length-append t crlf,
      length-append c (l ++ crlf),
      length-append l crlf,
    )

-- the bytes there, whatever follows the body
trailer-at : {p t : List ℕ} {n : ℕ} → HasTrailer p n t → (u : List ℕ) → take (length t) (drop n (p ++ u)) ≡ t
trailer-at (G.has_trailer {c = c} {l = l} {t = t} cs h y) u =
    ap (λ (z : List ℕ). take (length t) (drop (length (c ++ (l ++ crlf))) z)) (simp append_assoc)
    ∙ ap (take (length t)) (drop_at (c ++ (l ++ crlf)) (t ++ (crlf ++ u)) (length (c ++ (l ++ crlf))) refl)
    ∙ take_at t (crlf ++ u) (length t) refl

-- behind them CR LF
close_at : {p t : List ℕ} {n : ℕ} → HasTrailer p n t → (u : List ℕ) → take 2 (drop (n + length t) (p ++ u)) ≡ crlf
close_at (G.has_trailer {c = c} {l = l} {t = t} cs h y) u =
    ap (take 2) (
    sym (drop-drop (length t) (length (c ++ (l ++ crlf))) ((c ++ (l ++ (crlf ++ (t ++ crlf)))) ++ u))
    ∙ ap (λ (z : List ℕ). drop (length t) (drop (length (c ++ (l ++ crlf))) z)) (simp append_assoc)
    ∙ ap (drop (length t)) (drop_at (c ++ (l ++ crlf)) (t ++ (crlf ++ u)) (length (c ++ (l ++ crlf))) refl)
    ∙ drop_at t (crlf ++ u) (length t) refl)

-- ## By what is told of a body at the front of s
module _ (s : List ℕ) (n : ℕ) (inside : n ≤ length s) {w : Whole} {d : List ℕ} (t : Tells w (take n s) d) where
  told-bytes : take w.trailer_length (drop w.trailer_start s) ≡ t.trailer
  told-bytes =
      ap₂ (λ (k : ℕ) (z : List ℕ). take k (drop w.trailer_start z)) t.trailed (sym (take-append-drop n s))
      ∙ trailer-at t.stands (drop n s)

  -- the bytes there are the trailer of the bytes taken
  pub told-trailer : HasTrailer (take w.taken s) w.trailer_start (take w.trailer_length (drop w.trailer_start s))
  told-trailer =
      subst (λ (z : List ℕ). HasTrailer (take w.taken s) w.trailer_start z) (sym told-bytes)
      (subst (λ (k : ℕ). HasTrailer (take k s) w.trailer_start t.trailer) (sym (t.taken ∙ length-take-le n s inside)) t.stands)

  -- the two bytes behind it are the last of them, CR LF
  pub told-close : (take 2 (drop (w.trailer_start + w.trailer_length) s) ≡ crlf)
      × (w.trailer_start + w.trailer_length + 2 ≡ w.taken)
  told-close = (
    ap₂ (λ (k : ℕ) (z : List ℕ). take 2 (drop (w.trailer_start + k) z)) t.trailed (sym (take-append-drop n s))
        ∙ close_at t.stands (drop n s),
    omega (arith, t.trailed, t.taken, trailer-closed t.stands),
  )

pub one-trailer : {p t u : List ℕ} {n m : ℕ} → HasTrailer p n t → HasTrailer p m u → (n ≡ m) × (t ≡ u)
one-trailer {p} {t} {u} {n} {m} h k =
    let x = ends-trailed h in
    let y = ends-trailed k in
    let same : length t ≡ length u = same-trailer (sym x.1 ∙ y.1) in
    let start : n ≡ m = x.2 ∙ ap (λ (i : ℕ). length p - (i + 2)) same ∙ sym y.2 in
    (start, sym (trailer-at h []) ∙ ap₂ (λ (i j : ℕ). take i (drop j (p ++ []))) same start ∙ trailer-at k [])
