-- The normal form of a page as a URL taken apart: it is well-formed, and means the page.
use Prim.Native.Nat.{ℕ, ◌+◌, ◌≤◌, ◌<◌}
use native.Mathlib.Omega.{arith}
use borrow.Author.Tests.{eqb-true, le-ltb, ltb-true}
use mathlib.Core.Path.{◌≡◌, refl, sym, ap, ap₂, subst, ◌∙◌}
use mathlib.Core.Bool.{Bool, true, false, cond, not, ◌&&◌, true≢false}
use mathlib.Core.List.{List, [], ◌∷◌, ◌++◌, append_assoc}
use mathlib.Core.Option.{Option, none, some}
use lib.Dec.{T, eqb, ltb}
use lib.ListN.{length}
use Rattle.grammar.specs.Grammar.{lower}
use Rattle.grammar.proofs.Derivative.{T_true}
use Rattle.grammar.proofs.Texts.{Each}
use Rattle.octets.specs.Bytes.{digit?, letter?}
use Rattle.octets.specs.Numbers.{number, above?}
use Rattle.octets.proofs.Spans.{by_range}
use Rattle.numerals.specs.Numeral.{numeral, every}
use Rattle.numerals.proofs.Demands.{some_digit}
use Rattle.numerals.proofs.Reading.{decimal_digits, numeral-number}
use Rattle.http_url.specs.Bytes.{PATH, QUERY, host?, unreserved?, path?, query?, host-below}
use Rattle.http_url.specs.Grammar.{scheme, is_port, port_text, largest_port}
use Rattle.escapes.specs.Resolved.{resolved}
use Rattle.escapes.specs.Symbols.{nothing, a_character}
use Rattle.escapes.proofs.Resolved.{character-first}
use Rattle.escapes.proofs.Escapes.{text-resolved, resolved-again}
use Rattle.url_equal.specs.Meaning.{Page, lower_all}
use Rattle.url_normal.specs.Normal.{port_form, query_form, normal}
use Rattle.url_normal.proofs.Spelling.{Rest, Spelling, port_bytes, behind_scheme, parts_of}
use Rattle.url_normal.proofs.Spelling.{HostText, PortText, PathText, QueryText, RestText, Well, port_of, path_of, query_of, resolved_query, page_of}

abbrev pub normal_port : ℕ → Option (List ℕ)
normal_port n = cond (eqb n 80) none (some (numeral 10 n))

abbrev pub normal_spelling : Page → Spelling
normal_spelling p = record { host = p.host; port = normal_port p.port; rest = some (record { path = p.path; query = p.query }) }

port-is : (n : ℕ) → port_form n ≡ port_bytes (normal_port n)
port-is n = go (eqb n 80)
  where
    go : (t : Bool) → cond t [] (58 ∷ numeral 10 n) ≡ port_bytes (cond t none (some (numeral 10 n)))
    go true = refl
    go false = refl

pub normal-bytes : (p : Page) → normal p ≡ scheme ++ behind_scheme (normal_spelling p)
normal-bytes p =
    append_assoc ((scheme ++ p.host) ++ port_form p.port) p.path (query_form p.query)
    ∙ append_assoc (scheme ++ p.host) (port_form p.port) (p.path ++ query_form p.query)
    ∙ append_assoc scheme p.host (port_form p.port ++ (p.path ++ query_form p.query))
    ∙ ap (λ (t : List ℕ). scheme ++ (p.host ++ (t ++ (p.path ++ query_form p.query)))) (port-is p.port)

-- ## The host

-- the letters of a host in lower case are bytes of a host, and stay as they are
lower-host : (b : ℕ) → T (host? b) → T (host? (lower b)) × (lower (lower b) ≡ lower b)
unfolding host? letter? digit? lower
lower-host b h = (
  kept (host? b) (host? (lower b)) (T_true (host? b) h) (by_range (λ b. host? b && not (host? (lower b))) (λ b. false) 0 256 refl b (omega arith) (byte b h)),
  by_range (λ b. lower (lower b)) lower 0 256 refl b (omega arith) (byte b h),
)
  where
    byte : (b : ℕ) → T (host? b) → b < 0 + 256
    byte b h = omega (arith, ltb-true b 256 (T_true (ltb b 256) (host-below b h)))

    kept : (x y : Bool) → x ≡ true → (x && not y) ≡ false → T y
    kept x true e f = tt
    kept true false e f = absurd (true≢false f)
    kept false false e f = absurd (true≢false (sym e))

each-lower : (s : List ℕ) → Each host? s → Each host? (lower_all s) × (lower_all (lower_all s) ≡ lower_all s)
each-lower [] h = (tt, refl)
each-lower (b ∷ s) h =
    let w = lower-host b h.0 in
    let z = each-lower s h.1 in
    ((w.0, z.0), ap₂ (λ (a : ℕ) (l : List ℕ). a ∷ l) w.1 z.1)

host-normal : (h : List ℕ) → HostText h → HostText (lower_all h)
host-normal h (b, s, e, w) = (lower b, lower_all s, ap lower_all e, (each-lower (b ∷ s) w).0)

pub host-again : (h : List ℕ) → HostText h → lower_all (lower_all h) ≡ lower_all h
host-again h (b, s, e, w) = subst (λ (l : List ℕ). lower_all (lower_all l) ≡ lower_all l) (sym e) (each-lower (b ∷ s) w).1

-- ## The port

every-each : (p : ℕ → Bool) (s : List ℕ) → every p s ≡ true → Each p s
every-each p [] e = tt
every-each p (b ∷ s) e = go (p b) (every p s) e (every-each p s)
  where
    go : (x y : Bool) → (x && y) ≡ true → (y ≡ true → Each p s) → T x × Each p s
    go true y f g = (tt, g f)
    go false y f g = absurd (true≢false (sym f))

port-normal : (n : ℕ) → PortText (normal_port n)
port-normal n = go (eqb n 80)
  where
    go : (t : Bool) → PortText (cond t none (some (numeral 10 n)))
    go true = tt
    go false = every-each digit? (numeral 10 n) (decimal_digits n)

pub numbered : (t : List ℕ) → 0 < length t → port_text t ≡ number t
numbered [] q = absurd (omega arith)
numbered (b ∷ t) q = refl

pub numeral-port : (n : ℕ) → port_text (numeral 10 n) ≡ n
numeral-port n = numbered (numeral 10 n) (some_digit 10 n (omega arith)) ∙ numeral-number n

port_stays : (n : ℕ) → port_of (normal_port n) ≡ n
port_stays n = go (eqb n 80) refl
  where
    go : (t : Bool) → eqb n 80 ≡ t → port_of (cond t none (some (numeral 10 n))) ≡ n
    go true e = sym (eqb-true n 80 e)
    go false e = numeral-port n

-- ## The path and the query

unreserved_path : (b : ℕ) → unreserved? b ≡ true → T (path? b)
unfolding path?
unreserved_path b e = rw e tt

unreserved_query : (b : ℕ) → unreserved? b ≡ true → T (query? b)
unfolding query? path?
unreserved_query b e = rw e tt

slash_first : (u : List ℕ) → resolved (47 ∷ u) ≡ 47 ∷ resolved u
slash_first u = character-first 47 u (λ e. omega arith)

path-normal : (s : List ℕ) → PathText s → PathText (resolved s)
path-normal s (u, e, w) = (resolved u, ap resolved e ∙ slash_first u, text-resolved PATH unreserved_path u w)

path-again : (s : List ℕ) → PathText s → resolved (resolved s) ≡ resolved s
path-again s (u, e, w) =
    subst (λ (l : List ℕ). resolved (resolved l) ≡ resolved l) (sym e) (resolved-again (a_character 47 (λ f. omega arith) w.spelled))

pub rest-path : (o : Option Rest) → RestText o → PathText (path_of o)
rest-path none w = ([], refl, record { symbols = []; spelled = nothing; within = tt })
rest-path (some r) w = path-normal r.path w.0

pub rest-query : (o : Option Rest) → RestText o → QueryText (query_of o)
rest-query none w = tt
rest-query (some r) w = go r.query w.1
  where
    go : (q : Option (List ℕ)) → QueryText q → QueryText (resolved_query q)
    go none v = tt
    go (some q) v = text-resolved QUERY unreserved_query q v

path_stays : (o : Option Rest) → RestText o → resolved (path_of o) ≡ path_of o
path_stays none w = refl
path_stays (some r) w = path-again r.path w.0

query_stays : (o : Option Rest) → RestText o → resolved_query (query_of o) ≡ query_of o
query_stays none w = refl
query_stays (some r) w = go r.query w.1
  where
    go : (q : Option (List ℕ)) → QueryText q → resolved_query (resolved_query q) ≡ resolved_query q
    go none v = refl
    go (some q) v = ap some (resolved-again v.spelled)

-- ## The whole

same_page : {h h' : List ℕ} {n n' : ℕ} {s s' : List ℕ} {q q' : Option (List ℕ)} → h ≡ h' → n ≡ n' → s ≡ s' → q ≡ q'
    → ◌≡◌ {A = Page} (record { host = h; port = n; path = s; query = q }) (record { host = h'; port = n'; path = s'; query = q' })
same_page a b c d = cc

module _ (t : Spelling) (w : Well t) where
  pub normal-well : Well (normal_spelling (page_of t))
  normal-well = record {
    host = host-normal t.host w.host;
    port = port-normal (page_of t).port;
    rest = (rest-path t.rest w.rest, rest-query t.rest w.rest);
  }

  pub normal-page : page_of (normal_spelling (page_of t)) ≡ page_of t
  normal-page =
      same_page (host-again t.host w.host) (port_stays (page_of t).port) (path_stays t.rest w.rest) (query_stays t.rest w.rest)

-- the port of a normal form is at most 65,535 where the page's is
pub normal-above : (p : Page) → p.port ≤ largest_port → above? is_port largest_port (parts_of (normal_spelling p)) ≡ false
normal-above p h = go (eqb p.port 80) p.query
  where
    few : ltb largest_port (number (numeral 10 p.port)) ≡ false
    few = le-ltb largest_port (number (numeral 10 p.port)) (omega (arith, numeral-number p.port))

    go : (x : Bool) (q : Option (List ℕ))
        → above? is_port largest_port (parts_of (record { host = p.host; port = cond x none (some (numeral 10 p.port)); rest = some (record { path = p.path; query = q }) })) ≡ false
    go true none = refl
    go true (some q) = refl
    go false none = rw few
    go false (some q) = rw few
