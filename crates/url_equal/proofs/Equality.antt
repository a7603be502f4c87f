-- Two URLs mean one page just where their parts are equal.
use Prim.Native.Nat.{ℕ, suc}
use native.Mathlib.Omega.{arith}
use mathlib.Core.Path.{◌≡◌, refl, sym, ap, ◌∙◌}
use mathlib.Core.Logic.{inl, inr, ◌↔◌}
use mathlib.Core.Bool.{true, cond}
use mathlib.Core.List.{List, [], ◌∷◌, ◌++◌}
use mathlib.Core.Option.{Option, none, some}
use lib.Dec.{eqb→eq}
use Rattle.grammar.specs.Grammar as Many-of
use Rattle.grammar.specs.Grammar.{Part, Grammar, void, empty, byte, ◌⨾◌, ◌∣◌, star, part, rest, nest, just, Many, Parses, past}
use Rattle.grammar.specs.Comparing.{compare, outcome}
use Rattle.grammar.specs.Reading.{Verdict, value, refused}
use Rattle.grammar.specs.helpers.Judge.{header}
use Rattle.grammar.proofs.Demands.{one_parse}
use Rattle.grammar.proofs.Values.{answered-alike}
use Rattle.octets.specs.Case.{alike}
use Rattle.octets.proofs.SameBytes.{same-is}
use Rattle.http_url.specs.Bytes.{PATH, QUERY}
use Rattle.http_url.specs.Grammar as G
use Rattle.http_url.specs.Grammar.{Name, host, port, path, query, text_of, host_part, url, is_host, is_path, is_query, named, rules}
use Rattle.escapes.specs.Resolved.{resolved}
use Rattle.escapes.specs.Symbols.{Symbol, character, Spelled, nothing, a_character, EqualTexts}
use Rattle.escapes.proofs.Escapes.{equal-spelled, spelled}
use Rattle.url_equal.specs.Meaning.{lower_all, Page, page, pages, host_text, path_text, query_text, same_page}
use Rattle.url_equal.specs.Equality.{text_of_host, text_of_path, EqualQueries, both_absent, both_there, EqualParts, HasParts, EqualUrls}
use Rattle.http_url.proofs.Demands.{one_way}
use Rattle.url_equal.proofs.Meaning.{alike-lower}
use Rattle.http_url.proofs.Scan.{path_no_percent, query_no_percent}
use Rattle.url_equal.proofs.Pages.{one-page}

-- ## Paths and queries are symbols

abbrev Readable : List ℕ → Type 0
Readable s = (us : List Symbol) × Spelled s us

-- what is known of the text of a part
abbrev Known : Name → List ℕ → Type 0
Known host t = Unit {0}
Known port t = Unit {0}
Known path t = Readable t
Known query t = Readable t

abbrev AllKnown : List (Part Name) → Type 0
AllKnown [] = Unit {0}
AllKnown (c ∷ ps) = Known c.label c.text × AllKnown ps

known_append : (ps qs : List (Part Name)) → AllKnown ps → AllKnown qs → AllKnown (ps ++ qs)
known_append [] qs v w = w
known_append (c ∷ ps) qs v w = (v.0, known_append ps qs v.1 w)

-- the texts of each part of a grammar are known
abbrev Knows : Grammar Name → Type 0
Knows void = Unit {0}
Knows empty = Unit {0}
Knows (byte c) = Unit {0}
Knows (g ⨾ h) = Knows g × Knows h
Knows (g ∣ h) = Knows g × Knows h
Knows (star g) = Knows g
Knows (part l g) = ((i : ℕ) (s : List ℕ) (qs : List (Part Name)) → Parses g i s qs → Known l s) × Knows g
Knows (rest c g) = ⊥
Knows (nest o c l m g r n) = ⊥

each-known : (P : ℕ → List ℕ → List (Part Name) → Type 0) → ((i : ℕ) (s : List ℕ) (ps : List (Part Name)) → P i s ps → AllKnown ps)
    → (i : ℕ) (s : List ℕ) (ps : List (Part Name)) → Many P i s ps → AllKnown ps
each-known P f i s ps Many-of.none = tt
each-known P f i s ps (Many-of.more b t u qs rs x y) = known_append qs rs (f i (b ∷ t) qs x) (each-known P f (past (suc i) t) u rs y)

all_known : (g : Grammar Name) → Knows g → (i : ℕ) (s : List ℕ) (ps : List (Part Name)) → Parses g i s ps → AllKnown ps
all_known void k i s ps m = absurd m
all_known empty k i s ps m = rw m.1 tt
all_known (byte c) k i s ps m = rw m.3 tt
all_known (g ⨾ h) k i s ps m =
    rw m.5 (known_append m.2 m.3 (all_known g k.0 i m.0 m.2 m.6) (all_known h k.1 (past i m.0) m.1 m.3 m.7))
all_known (g ∣ h) k i s ps (inl m) = all_known g k.0 i s ps m
all_known (g ∣ h) k i s ps (inr m) = all_known h k.1 i s ps m
all_known (star g) k i s ps m = each-known (Parses g) (λ i s ps. all_known g k i s ps) i s ps m
all_known (part l g) k i s ps m = rw m.1 (k.0 i s m.0 m.2, all_known g k.1 i s m.0 m.2)
all_known (rest c g) k i s ps m = absurd k
all_known (nest o c l m g r n) k i s ps w = absurd k

path_readable : (i : ℕ) (s : List ℕ) (ps : List (Part Name)) → Parses (byte (just 47 tt) ⨾ text_of PATH) i s ps → Readable s
path_readable i s ps m =
    let w = spelled PATH path_no_percent (past i m.0) m.1 m.3 m.7 in
    let e : s ≡ 47 ∷ m.1 = m.4 ∙ ap (λ (t : List ℕ). t ++ m.1) (m.6.1 ∙ ap (λ (b : ℕ). b ∷ []) (eqb→eq m.6.0 47 m.6.2)) in
    rw e (character 47 ∷ w.0, a_character 47 (λ f. absurd (omega arith)) w.1)

host-known : Knows host_part
host-known = ((λ i s qs m. tt, (tt, tt)), ((tt, (tt, (λ i s qs m. tt, tt))), (tt, ((path_readable, (tt, (tt, (tt, (tt, tt))))), (tt, (tt, (spelled QUERY query_no_percent, (tt, (tt, (tt, tt))))))))))

url-known : Knows url
url-known = (tt, (tt, (tt, (tt, (tt, (tt, (tt, host-known)))))))

path-known : (ps : List (Part Name)) → AllKnown ps → Readable (text_of_path (named is_path ps))
path-known [] w = (character 47 ∷ [], a_character 47 (λ f. absurd (omega arith)) nothing)
path-known (c ∷ ps) w = go c.label w.0 (path-known ps w.1)
  where
    go : (l : Name) → Known l c.text → Readable (text_of_path (named is_path ps)) → Readable (text_of_path (cond (is_path l) (some c) (named is_path ps)))
    go host v z = z
    go port v z = z
    go path v z = v
    go query v z = z

abbrev ReadableQuery : Option (Part Name) → Type 0
ReadableQuery none = Unit {0}
ReadableQuery (some c) = Readable c.text

query-known : (ps : List (Part Name)) → AllKnown ps → ReadableQuery (named is_query ps)
query-known [] w = tt
query-known (c ∷ ps) w = go c.label w.0 (query-known ps w.1)
  where
    go : (l : Name) → Known l c.text → ReadableQuery (named is_query ps) → ReadableQuery (cond (is_query l) (some c) (named is_query ps))
    go host v z = z
    go port v z = z
    go path v z = z
    go query v z = v

-- ## Part by part

hosts-equal : (o p : Option (Part Name)) → (host_text o ≡ host_text p) ↔ (alike (text_of_host o) (text_of_host p) ≡ true)
hosts-equal o p = (
  λ e. alike-lower (text_of_host o) (text_of_host p) ∙ (same-is _ _).1 (sym (lowered o) ∙ e ∙ lowered p),
  λ e. lowered o ∙ (same-is _ _).0 (sym (alike-lower (text_of_host o) (text_of_host p)) ∙ e) ∙ sym (lowered p),
)
  where
    lowered : (o : Option (Part Name)) → host_text o ≡ lower_all (text_of_host o)
    lowered none = refl
    lowered (some c) = refl

texts-equal : (s t : List ℕ) → Readable s → Readable t → (resolved s ≡ resolved t) ↔ EqualTexts s t
texts-equal s t v w = (
  λ e. (v.0, w.0, v.1, w.1, (equal-spelled v.1 w.1).0 e),
  λ h. (equal-spelled h.2 h.3).1 h.4,
)

path-resolved : (o : Option (Part Name)) → path_text o ≡ resolved (text_of_path o)
path-resolved none = refl
path-resolved (some c) = refl

queries-equal : (o p : Option (Part Name)) → ReadableQuery o → ReadableQuery p → (query_text o ≡ query_text p) ↔ EqualQueries o p
queries-equal none none v w = (λ e. both_absent, λ h. refl)
queries-equal none (some d) v w = (λ e. let z : ◌≡◌ {A = ℕ} 0 1 = cc in absurd (omega arith), elim [ ])
queries-equal (some c) none v w = (λ e. let z : ◌≡◌ {A = ℕ} 0 1 = cc in absurd (omega arith), elim [ ])
queries-equal (some c) (some d) v w = (
  λ e. let f : resolved c.text ≡ resolved d.text = cc in both_there ((texts-equal c.text d.text v w).0 f),
  of,
)
  where
    of : EqualQueries (some c) (some d) → query_text (some c) ≡ query_text (some d)
    of (both_there h) = ap some ((texts-equal c.text d.text v w).1 h)

parts-equal : (ps qs : List (Part Name)) → AllKnown ps → AllKnown qs → (page ps ≡ page qs) ↔ EqualParts ps qs
parts-equal ps qs v w =
    let hosts = hosts-equal (named is_host ps) (named is_host qs) in
    let paths = texts-equal (text_of_path (named is_path ps)) (text_of_path (named is_path qs)) (path-known ps v) (path-known qs w) in
    let queries = queries-equal (named is_query ps) (named is_query qs) (query-known ps v) (query-known qs w) in (
      λ e. record {
        hosts = hosts.0 (ap (λ (p : Page). p.host) e);
        ports = ap (λ (p : Page). p.port) e;
        paths = paths.0 (sym (path-resolved (named is_path ps)) ∙ ap (λ (p : Page). p.path) e ∙ path-resolved (named is_path qs));
        queries = queries.0 (ap (λ (p : Page). p.query) e);
      },
      λ h.
          let a = hosts.1 h.hosts in
          let b = h.ports in
          let c = path-resolved (named is_path ps) ∙ paths.1 h.paths ∙ sym (path-resolved (named is_path qs)) in
          let d = queries.1 h.queries in
          cc,
    )

-- ## Whole URLs

known-parts : (s : List ℕ) (ps : List (Part Name)) → Parses url 0 s ps → AllKnown ps
known-parts s ps m = all_known url url-known 0 s ps m

has_parts : (s : List ℕ) (p : Page) → header pages s ≡ value p → (ps : List (Part Name)) × HasParts s ps × (page ps ≡ p)
has_parts s p e =
    let w = answered-alike pages G.value tt tt one_way s (value p) e in
    (w.0, record { parts = w.2; is_read = w.3 }, w.1)

pub parts_mean : (s : List ℕ) (ps : List (Part Name)) → HasParts s ps → header pages s ≡ value (page ps)
parts_mean s ps h =
    let w = answered-alike rules page tt tt one_way s (value (G.value ps)) h.is_read in
    w.3 ∙ ap (λ (qs : List (Part Name)). value (page qs)) (one_parse rules tt tt one_way s w.0 ps w.2 h.parts)

pub one-page-compared : (a b : List ℕ) → (compare same_page (header pages a) (header pages b) ≡ outcome true)
    ↔ ((p : Page) × (header pages a ≡ value p) × (header pages b ≡ value p))
one-page-compared a b = (to (header pages a) (header pages b) refl refl, of)
  where
    to : (v w : Verdict Page) → header pages a ≡ v → header pages b ≡ w → compare same_page v w ≡ outcome true
        → (p : Page) × (header pages a ≡ value p) × (header pages b ≡ value p)
    to (refused n p) w e f g = let z : ◌≡◌ {A = ℕ} 0 1 = cc in absurd (omega arith)
    to (value v) (refused n p) e f g = let z : ◌≡◌ {A = ℕ} 0 1 = cc in absurd (omega arith)
    to (value v) (value w) e f g =
        let x : same_page v w ≡ true = cc in
        (v, e, f ∙ ap value (sym ((one-page v w).0 x)))

    of : (p : Page) × (header pages a ≡ value p) × (header pages b ≡ value p) → compare same_page (header pages a) (header pages b) ≡ outcome true
    of (p, e, f) = rw (e, f, (one-page p p).1 refl)

pub equal-compared : (a b : List ℕ) → (compare same_page (header pages a) (header pages b) ≡ outcome true) ↔ EqualUrls a b
equal-compared a b = (to, of)
  where
    to : compare same_page (header pages a) (header pages b) ≡ outcome true → EqualUrls a b
    to e =
        let w = (one-page-compared a b).0 e in
        let x = has_parts a w.0 w.1 in
        let y = has_parts b w.0 w.2 in (
          x.0,
          y.0,
          x.1,
          y.1,
          (parts-equal x.0 y.0 (known-parts a x.0 x.1.parts) (known-parts b y.0 y.1.parts)).0 (x.2 ∙ sym y.2),
        )

    of : EqualUrls a b → compare same_page (header pages a) (header pages b) ≡ outcome true
    of (ps, qs, x, y, h) =
        let e = (parts-equal ps qs (known-parts a ps x.parts) (known-parts b qs y.parts)).1 h in
        (one-page-compared a b).1 (page ps, parts_mean a ps x, parts_mean b qs y ∙ ap value (sym e))
