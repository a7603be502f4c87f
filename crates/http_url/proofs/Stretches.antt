-- A stretch behind another one, and of plain bytes.
use Rattle.std.proofs.Common.{◌≡◌, ℕ, zero, suc, ◌+◌, ◌<◌, ◌≤◌, Bool, true, List, Result, Ok, Err, length, get_or, sym, subst, arith}
use Rattle.octets.specs.declared.Refusal.{Refusal}
use Rattle.http_url.specs.Bytes.{path?, query?}
use Rattle.http_url.specs.helpers.Scan.{Stretch, empty, character, escape, Found}

module _ (p : ℕ → Bool) (s : List ℕ) where
  stretch_then : (i j e : ℕ) → Stretch p s i j → Stretch p s j e → Stretch p s i e
  stretch_then i j e v empty = v
  stretch_then i j e v (character {e = f} w at q) = character (stretch_then i j f v w) at q
  stretch_then i j e v (escape {e = f} w at q d) = escape (stretch_then i j f v w) at q d

  -- what is found behind a stretch is found from before it
  pub found-behind : (i j : ℕ) → Stretch p s i j → (x : Result ℕ Refusal) → Found p s j x → Found p s i x
  found-behind i j v (Ok e) w = (stretch_then i j e v w.0, w.1, w.2, w.3)
  found-behind i j v (Err q) w = (w.0, w.1, w.2, stretch_then i j w.0 v w.3, w.4, w.5, w.6, w.7)

  -- n bytes more that pass the test
  pub stretch_on : (i j n : ℕ) → Stretch p s i j → j + n ≤ length s → ((k : ℕ) → k < n → p (get_or s (j + k) 0) ≡ true) → Stretch p s i (j + n)
  stretch_on i j zero v h e = let z : j + 0 ≡ j = omega arith in subst (Stretch p s i) (sym z) v
  stretch_on i j (suc n) v h e =
      let z : j + suc n ≡ (j + n) + 1 = omega arith in
      let w = stretch_on i j n v (omega arith) (λ k l. e k (omega arith)) in
      subst (Stretch p s i) (sym z) (character w (omega arith) (e n (omega arith)))

path-query : (b : ℕ) → path? b ≡ true → query? b ≡ true
unfolding query?
path-query b e = rw e

-- a stretch of a path is one of a query
pub stretch_query : (s : List ℕ) (i e : ℕ) → Stretch path? s i e → Stretch query? s i e
stretch_query s i e empty = empty
stretch_query s i e (character {e = f} w at q) = character (stretch_query s i f w) at (path-query (get_or s f 0) q)
stretch_query s i e (escape {e = f} w at q d) = escape (stretch_query s i f w) at q d
