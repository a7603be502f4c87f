-- What a URL means, from the places that reading gave: each part is the text_at of the text at its place.
use Prim.Native.Nat.{ℕ, ◌≤◌}
use native.Mathlib.Omega.{arith}
use borrow.Author.Tests.{eq-eqb, ne_eqb}
use mathlib.Core.Path.{◌≡◌, refl, sym, ap, ap₂, subst, ◌∙◌}
use mathlib.Core.Bool.{Bool, true, false, cond, ◌&&◌}
use mathlib.Core.List.{List, [], ◌∷◌}
use mathlib.Core.Option.{Option, none, some}
use lib.Dec.{eqb}
use lib.ListN.{length}
use Rattle.grammar.specs.Grammar.{Part, lower}
use Rattle.grammar.specs.Reading.{value, refused}
use Rattle.grammar.specs.helpers.Judge.{header}
use Rattle.grammar.specs.helpers.Slices.{Slice, Slices}
use Rattle.grammar.proofs.Slices.{slices}
use Rattle.grammar.proofs.Pieces.{slice-within, slice_is}
use Rattle.grammar.proofs.Values.{answered-alike}
use Rattle.octets.specs.Case.{alike}
use Rattle.octets.specs.Same.{same?}
use Rattle.http_url.specs.declared.Url.{Url}
use Rattle.http_url.specs.Grammar as G
use Rattle.http_url.specs.Grammar.{Name, url, is_host, is_path, is_query, named, host_span, place, rules}
use Rattle.http_url.proofs.Demands.{one_way}
use Rattle.http_url.specs.Places.{text_at, path_at}
use Rattle.escapes.specs.Resolved.{resolved}
use Rattle.url_equal.specs.Meaning.{lower_all, host_text, path_text, query_text, page, pages, same_query, same_page}
use Rattle.url_equal.specs.Places.{Inside, Within, path_in, query_in, page_in, Placed}

module _ (s : List ℕ) where
  -- a part that stands in the text
  abbrev Stands : Option (Part Name) → Type 0
  Stands none = 0 ≤ length s
  Stands (some c) = Slice 0 s c

  named-stands : (is : Name → Bool) (ps : List (Part Name)) → Slices 0 s ps → Stands (named is ps)
  named-stands is [] w = omega arith
  named-stands is (c ∷ ps) w = go (is c.label) (named-stands is ps w.1)
    where
      go : (t : Bool) → Stands (named is ps) → Stands (cond t (some c) (named is ps))
      go true v = w.0
      go false v = v

  host_there : (o : Option (Part Name)) → Stands o → Inside s (host_span o) × (lower_all (text_at s (host_span o)) ≡ host_text o)
  host_there none w = (omega arith, refl)
  host_there (some c) w = (slice-within s c w, ap lower_all (slice_is s c w))

  path_there : (o : Option (Part Name)) → Stands o → Within s (place o) × (path_in s (place o) ≡ path_text o)
  path_there none w = (omega arith, refl)
  path_there (some c) w = (slice-within s c w, ap resolved (slice_is s c w))

  query_there : (o : Option (Part Name)) → Stands o → Within s (place o) × (query_in s (place o) ≡ query_text o)
  query_there none w = (omega arith, refl)
  query_there (some c) w = (slice-within s c w, ap (λ (t : List ℕ). some (resolved t)) (slice_is s c w))

  there : (ps : List (Part Name)) → Slices 0 s ps → Placed s (G.value ps) × (page_in s (G.value ps) ≡ page ps)
  there ps w =
      let h = host_there (named is_host ps) (named-stands is_host ps w) in
      let p = path_there (named is_path ps) (named-stands is_path ps w) in
      let q = query_there (named is_query ps) (named-stands is_query ps w) in
      (record { host = h.0; path = p.0; query = q.0 }, cc)

  -- A URL that is read stands where reading says, and what it means is found there.
  pub means : (u : Url) → header rules s ≡ value u → Placed s u × (header pages s ≡ value (page_in s u))
  means u e =
      let w = answered-alike rules page tt tt one_way s (value u) e in
      let t = there w.0 (slices url 0 s w.0 tt w.2) in
      (subst (Placed s) w.1 t.0, w.3 ∙ ap value (sym t.1 ∙ ap (page_in s) w.1))

  -- A URL that is refused is refused for what it means.
  pub means-nothing : (n p : ℕ) → header rules s ≡ refused n p → header pages s ≡ refused n p
  means-nothing n p e = answered-alike rules page tt tt one_way s (refused n p) e

-- hosts alike in letter case are the same in lower case
pub alike-lower : (a b : List ℕ) → alike a b ≡ same? (lower_all a) (lower_all b)
alike-lower [] [] = refl
alike-lower [] (y ∷ b) = refl
alike-lower (x ∷ a) [] = refl
alike-lower (x ∷ a) (y ∷ b) = ap (λ (t : Bool). eqb (lower x) (lower y) && t) (alike-lower a b)

-- ## Two URLs, from the places that reading gave

module _ (s t : List ℕ) (u v : Url) where
  abbrev hosts : Bool
  hosts = same? (lower_all (text_at s u.host)) (lower_all (text_at t v.host))

  abbrev paths : Bool
  paths = same? (path_in s u.path) (path_in t v.path)

  abbrev queries : Bool
  queries = same_query (query_in s u.query) (query_in t v.query)

  abbrev equal : Bool
  equal = same_page (page_in s u) (page_in t v)

  pub host-compared : (x y : List ℕ) (b : Bool) → x ≡ text_at s u.host → y ≡ text_at t v.host → b ≡ alike x y → hosts ≡ b
  host-compared x y b e f g = sym (g ∙ ap₂ alike e f ∙ alike-lower (text_at s u.host) (text_at t v.host))

  pub paths-compared : (x y : List ℕ) (b : Bool) → x ≡ path_at s u → y ≡ path_at t v → b ≡ same? (resolved x) (resolved y) → b ≡ paths
  paths-compared x y b e f g = g ∙ ap₂ (λ (p q : List ℕ). same? (resolved p) (resolved q)) e f

  pub by_host : hosts ≡ false → false ≡ equal
  by_host e = rw e

  pub by_port : hosts ≡ true → (u.port ≡ v.port → ⊥) → false ≡ equal
  by_port e f = rw (e, ne_eqb u.port v.port f)

  pub by_path : hosts ≡ true → u.port ≡ v.port → paths ≡ false → false ≡ equal
  by_path e f g = rw (e, eq-eqb u.port v.port f, g)

  pub by_query : hosts ≡ true → u.port ≡ v.port → paths ≡ true → queries ≡ equal
  by_query e f g = rw (e, eq-eqb u.port v.port f, g)
