-- The tests of texts, queries and pages hold just where the two are equal.
use Prim.Native.Nat.{ℕ}
use native.Mathlib.Omega.{arith}
use borrow.Author.Tests.{eqb-true, eq-eqb}
use mathlib.Core.Path.{◌≡◌, refl, sym, ap, subst, ◌∙◌}
use mathlib.Core.Logic.{◌↔◌}
use mathlib.Core.Bool.{Bool, true, false, ◌&&◌, true≢false}
use mathlib.Core.List.{List}
use mathlib.Core.Option.{Option, none, some}
use lib.Dec.{eqb}
use Rattle.octets.specs.Same.{same?}
use Rattle.octets.proofs.SameBytes.{same-is}
use Rattle.url_equal.specs.Meaning.{Page, same_query, same_page}

both_true : (x y : Bool) → (x && y) ≡ true → (x ≡ true) × (y ≡ true)
both_true true y e = (refl, e)
both_true false y e = absurd (true≢false (sym e))

same_query-is : (p q : Option (List ℕ)) → (same_query p q ≡ true) ↔ (p ≡ q)
same_query-is none none = (λ e. refl, λ e. refl)
same_query-is none (some t) = (λ e. absurd (true≢false (sym e)), λ e. let z : ◌≡◌ {A = ℕ} 0 1 = cc in absurd (omega arith))
same_query-is (some s) none = (λ e. absurd (true≢false (sym e)), λ e. let z : ◌≡◌ {A = ℕ} 0 1 = cc in absurd (omega arith))
same_query-is (some s) (some t) = (λ e. ap some ((same-is s t).0 e), λ e. (same-is s t).1 (let x : s ≡ t = cc in x))

pub one-page : (p q : Page) → (same_page p q ≡ true) ↔ (p ≡ q)
one-page p q = (to, of)
  where
    to : same_page p q ≡ true → p ≡ q
    to e =
        let w = both_true (same? p.host q.host) (eqb p.port q.port && (same? p.path q.path && same_query p.query q.query)) e in
        let x = both_true (eqb p.port q.port) (same? p.path q.path && same_query p.query q.query) w.1 in
        let y = both_true (same? p.path q.path) (same_query p.query q.query) x.1 in
        let a = (same-is p.host q.host).0 w.0 in
        let b = eqb-true p.port q.port x.0 in
        let c = (same-is p.path q.path).0 y.0 in
        let d = (same_query-is p.query q.query).0 y.1 in
        ap (λ (h : List ℕ). record { host = h; port = p.port; path = p.path; query = p.query }) a
        ∙ ap (λ (n : ℕ). record { host = q.host; port = n; path = p.path; query = p.query }) b
        ∙ ap (λ (t : List ℕ). record { host = q.host; port = q.port; path = t; query = p.query }) c
        ∙ ap (λ (o : Option (List ℕ)). record { host = q.host; port = q.port; path = q.path; query = o }) d

    of : p ≡ q → same_page p q ≡ true
    of e = subst (λ (r : Page). same_page p r ≡ true) e self
      where
        self : same_page p p ≡ true
        self =
            rw ((same-is p.host p.host).1 refl, eq-eqb p.port p.port refl, (same-is p.path p.path).1 refl, (same_query-is p.query p.query).1 refl)

-- whichever comes first
pub page_either : (p q : Page) → same_page p q ≡ same_page q p
page_either p q = go (same_page p q) (same_page q p) refl refl
  where
    go : (t u : Bool) → same_page p q ≡ t → same_page q p ≡ u → t ≡ u
    go true u e f = sym ((one-page q p).1 (sym ((one-page p q).0 e))) ∙ f
    go false true e f = sym e ∙ (one-page p q).1 (sym ((one-page q p).0 f))
    go false false e f = refl

pub page_chain : (p q r : Page) → same_page p q ≡ true → same_page q r ≡ true → same_page p r ≡ true
page_chain p q r e f = (one-page p r).1 ((one-page p q).0 e ∙ (one-page q r).0 f)
