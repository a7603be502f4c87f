-- How much longer a normal form can be than its URL: by the `/` of an absent path.
use Prim.Native.Nat.{ℕ, ◌+◌, ◌≤◌, ◌<◌}
use native.Mathlib.Omega.{arith}
use mathlib.Core.Path.{◌≡◌, refl, sym, ap, ◌∙◌}
use mathlib.Core.Bool.{Bool, true, false, cond}
use mathlib.Core.List.{List, [], ◌∷◌, ◌++◌}
use mathlib.Core.Option.{Option, none, some}
use lib.Dec.{eqb}
use lib.ListN.{length, length-append}
use Rattle.grammar.specs.Grammar.{Part}
use Rattle.grammar.specs.Reading.{value}
use Rattle.grammar.specs.helpers.Judge.{header}
use Rattle.grammar.proofs.Demands.{one_parse}
use Rattle.grammar.proofs.Derivative.{T_true}
use Rattle.grammar.proofs.Texts.{Each}
use Rattle.octets.specs.Bytes.{digit?}
use Rattle.octets.specs.Numbers.{number}
use Rattle.numerals.specs.Numeral.{numeral, every}
use Rattle.numerals.proofs.Reading.{numeral-short}
use Rattle.http_url.specs.Grammar.{Name, is_path, named, rules}
use Rattle.http_url.specs.declared.Url.{Url}
use Rattle.http_url.proofs.Demands.{one_way}
use Rattle.escapes.proofs.Resolved.{resolved-short}
use Rattle.url_equal.specs.Meaning.{Page, page}
use Rattle.url_equal.specs.Equality.{HasParts}
use Rattle.url_equal.specs.Places.{page_in}
use Rattle.url_equal.proofs.Meaning.{means}
use Rattle.url_equal.proofs.Equality.{parts_mean}
use Rattle.url_normal.specs.Normal.{port_form, query_form, normal}
use Rattle.url_normal.proofs.Writer.{lower-length, normal-length}
use Rattle.url_normal.proofs.Spelling.{Rest, Spelling, PortText, port_bytes, rest_bytes, behind_scheme, parts_of}
use Rattle.url_normal.proofs.Spelling.{page_of, port_of, path_of, query_of, resolved_query}
use Rattle.url_normal.proofs.Back.{ReadAs, read_as}

each-every : (p : ℕ → Bool) (s : List ℕ) → Each p s → every p s ≡ true
each-every p [] h = refl
each-every p (b ∷ s) h = rw (T_true (p b) h.0, each-every p s h.1)

port-short : (o : Option (List ℕ)) → PortText o → length (port_form (port_of o)) ≤ length (port_bytes o)
port-short none w = omega arith
port-short (some []) w = omega arith
port-short (some (b ∷ d)) w = go (eqb (number (b ∷ d)) 80)
  where
    go : (t : Bool) → length (cond t [] (58 ∷ numeral 10 (number (b ∷ d)))) ≤ length (58 ∷ b ∷ d)
    go true = omega arith
    go false = omega (arith, numeral-short b d (each-every digit? (b ∷ d) w))

query-short : (q : Option (List ℕ)) → length (query_form (resolved_query q)) ≤ length (query_form q)
query-short none = omega arith
query-short (some q) = omega (arith, resolved-short q)

module _ {s : List ℕ} {p : Page} (r : ReadAs s p) where
  abbrev t : Spelling
  t = r.spelling

  sent_length : length s ≡ 7 + (length t.host + (length (port_bytes t.port) + length (rest_bytes t.rest)))
  sent_length =
      omega (
        arith,
        ap length r.is,
        length-append r.sent (behind_scheme t),
        r.sent_length,
        length-append t.host (port_bytes t.port ++ rest_bytes t.rest),
        length-append (port_bytes t.port) (rest_bytes t.rest),
      )

  form-length : length (normal p)
      ≡ 7 + length t.host + length (port_form (port_of t.port)) + length (path_of t.rest) + length (query_form (query_of t.rest))
  form-length = ap (λ (q : Page). length (normal q)) (sym r.means) ∙ omega (arith, normal-length (page_of t), lower-length t.host)

  pub one-longer : length (normal p) ≤ length s + 1
  one-longer = omega (arith, sent_length, form-length, port-short t.port r.well.port, rest t.rest)
    where
      rest : (o : Option Rest) → length (path_of o) + length (query_form (query_of o)) ≤ length (rest_bytes o) + 1
      rest none = omega arith
      rest (some x) = omega (arith, resolved-short x.path, query-short x.query, length-append x.path (query_form x.query))

  pub longer-bare : length s < length (normal p) → t.rest ≡ none
  longer-bare h = go t.rest (omega (arith, sent_length, form-length, port-short t.port r.well.port))
    where
      go : (o : Option Rest) → length (rest_bytes o) < length (path_of o) + length (query_form (query_of o)) → o ≡ none
      go none k = refl
      go (some x) k =
          absurd (omega (arith, resolved-short x.path, query-short x.query, length-append x.path (query_form x.query)))

pub form-short : (s : List ℕ) (u : Url) → header rules s ≡ value u → length (normal (page_in s u)) ≤ length s + 1
form-short s u e = one-longer (read_as s (page_in s u) (means s u e).1)

pub longer_without_path : (s : List ℕ) (ps : List (Part Name)) → HasParts s ps → length s < length (normal (page ps)) → named is_path ps ≡ none
longer_without_path s ps w h =
    let r = read_as s (page ps) (parts_mean s ps w) in
    let same = one_parse rules tt tt one_way s ps (parts_of r.spelling) w.parts r.parts in
    ap (named is_path) same ∙ bare r.spelling.host r.spelling.port r.spelling.rest (longer-bare r h)
  where
    bare : (h : List ℕ) (o : Option (List ℕ)) (x : Option Rest) → x ≡ none → named is_path (parts_of (record { host = h; port = o; rest = x })) ≡ none
    bare h none x e = rw e
    bare h (some d) x e = rw e
