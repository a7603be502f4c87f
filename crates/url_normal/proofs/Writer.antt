-- How long a normal form is, and what the writer's parts leave in the lent bytes.
use Prim.Native.Nat.{ℕ, zero, suc, ◌+◌, ◌≤◌, ◌<◌}
use native.Mathlib.Omega.{arith}
use borrow.Author.Tests.{eq-eqb, ne_eqb}
use mathlib.Core.Path.{◌≡◌, refl, ap, ◌∙◌}
use mathlib.Core.List.{List, [], ◌∷◌, ◌++◌}
use lib.ListN.{length, get_or, drop, length-append, length-take, length-drop}
use Rattle.grammar.specs.Grammar.{lower}
use Rattle.numerals.specs.Numeral.{numeral}
use Rattle.numerals.proofs.Digits.{numeral-length, width-below}
use Rattle.text.specs.Placing.{placed, behind}
use Rattle.text.proofs.Placing.{placed-front, Put, put-none, put_then, front_fits, front-then, room-behind}
use Rattle.http_url.specs.declared.Span.{Span}
use Rattle.std.specs.Prelude.{Option, Some, None}
use Rattle.http_url.specs.Places.{text_at}
use Rattle.http_url.specs.Grammar.{scheme}
use Rattle.escapes.proofs.Resolved.{resolved-short}
use Rattle.url_equal.specs.Meaning.{lower_all, Page}
use Rattle.url_equal.specs.Places.{path_in, query_in}
use Rattle.url_normal.specs.Normal.{port_form, query_form, normal}

-- ## The host

pub lower-length : (s : List ℕ) → length (lower_all s) ≡ length s
lower-length [] = refl
lower-length (b ∷ s) = ap suc (lower-length s)

pub lower-at : (s : List ℕ) (k : ℕ) → k < length s → get_or (lower_all s) k 0 ≡ lower (get_or s k 0)
lower-at [] k h = absurd (omega arith)
lower-at (b ∷ s) zero h = refl
lower-at (b ∷ s) (suc k) h = lower-at s k (omega arith)

-- ## The port

pub port_default : (n : ℕ) → n ≡ 80 → port_form n ≡ []
port_default n e = rw (eq-eqb n 80 e)

pub port-other : (n : ℕ) → (n ≡ 80 → ⊥) → port_form n ≡ 58 ∷ numeral 10 n
port-other n h = rw (ne_eqb n 80 h)

pub few-digits : (n : ℕ) → n < 65536 → length (numeral 10 n) ≤ 5
few-digits n h = omega (arith, numeral-length 10 n, width-below 4 n (omega arith))

-- ## How long

pub text-short : (s : List ℕ) (x : Span) → length (text_at s x) ≤ length s
text-short s x = omega (arith, length-take x.length (drop x.start s), length-drop x.start s)

pub path-short : (s : List ℕ) (p : Option Span) → length (path_in s p) ≤ length s + 1
path-short s None = omega arith
path-short s (Some x) = omega (arith, resolved-short (text_at s x), text-short s x)

pub query-short : (s : List ℕ) (p : Option Span) → length (query_form (query_in s p)) ≤ length s + 1
query-short s None = omega arith
query-short s (Some x) = omega (arith, resolved-short (text_at s x), text-short s x)

module _ (p : Page) where
  -- the normal form as far as each of its parts but the last
  abbrev to_host : List ℕ
  to_host = scheme ++ p.host

  abbrev to_port : List ℕ
  to_port = to_host ++ port_form p.port

  abbrev to_path : List ℕ
  to_path = to_port ++ p.path

  pub normal-length : length (normal p) ≡ 7 + length p.host + length (port_form p.port) + length p.path + length (query_form p.query)
  normal-length =
      omega (
        arith,
        length-append scheme p.host,
        length-append to_host (port_form p.port),
        length-append to_port p.path,
        length-append to_path (query_form p.query),
      )

-- ## The scheme, the host, the port, the path, the query, one behind the other

module _ (p : Page) (old : List ℕ) (fits : length (normal p) ≤ length old) where
  path_there : length (to_path p) ≤ length old
  path_there = front_fits (to_path p) (query_form p.query) old fits

  port_there : length (to_port p) ≤ length old
  port_there = front_fits (to_port p) p.path old path_there

  host_there : length (to_host p) ≤ length old
  host_there = front_fits (to_host p) (port_form p.port) old port_there

  module _ (l₁ : List ℕ) (p₁ : ℕ) (e₁ : p₁ ≡ behind old 0 scheme) (w₁ : l₁ ≡ placed old 0 scheme) where
    scheme-put : Put old 0 scheme l₁ p₁
    scheme-put =
        let h : 7 ≤ length old = front_fits scheme p.host old host_there in
        put_then old 0 [] old 0 scheme l₁ p₁ (put-none old 0 (omega arith)) (omega arith) e₁ w₁

    pub host-fits : p₁ + length p.host ≤ length l₁
    host-fits = room-behind old scheme l₁ p₁ p.host scheme-put host_there

    module _ (l₂ : List ℕ) (p₂ : ℕ) (e₂ : p₂ ≡ behind l₁ p₁ p.host) (w₂ : l₂ ≡ placed l₁ p₁ p.host) where
      host-put : Put old 0 (to_host p) l₂ p₂
      host-put = front-then old scheme l₁ p₁ p.host l₂ p₂ scheme-put host_there e₂ w₂

      pub port-fits : p₂ + length (port_form p.port) ≤ length l₂
      port-fits = room-behind old (to_host p) l₂ p₂ (port_form p.port) host-put port_there

      module _ (l₃ : List ℕ) (p₃ : ℕ) (e₃ : p₃ ≡ behind l₂ p₂ (port_form p.port)) (w₃ : l₃ ≡ placed l₂ p₂ (port_form p.port))
          (l₄ : List ℕ) (p₄ : ℕ) (e₄ : p₄ ≡ behind l₃ p₃ p.path) (w₄ : l₄ ≡ placed l₃ p₃ p.path) where
        path-put : Put old 0 (to_path p) l₄ p₄
        path-put =
            let port-put = front-then old (to_host p) l₂ p₂ (port_form p.port) l₃ p₃ host-put port_there e₃ w₃ in
            front-then old (to_port p) l₃ p₃ p.path l₄ p₄ port-put path_there e₄ w₄

        pub query-fits : p₄ + length (query_form p.query) ≤ length l₄
        query-fits = room-behind old (to_path p) l₄ p₄ (query_form p.query) path-put fits

        pub normal-put : (l₅ : List ℕ) (p₅ : ℕ) → p₅ ≡ behind l₄ p₄ (query_form p.query) → l₅ ≡ placed l₄ p₄ (query_form p.query)
            → (p₅ ≡ length (normal p)) × (l₅ ≡ normal p ++ drop (length (normal p)) old)
        normal-put l₅ p₅ e₅ w₅ =
            let w = front-then old (to_path p) l₄ p₄ (query_form p.query) l₅ p₅ path-put fits e₅ w₅ in
            (omega (arith, w.ends), w.is ∙ placed-front old (normal p) fits)
