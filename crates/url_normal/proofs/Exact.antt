-- What is normal about the parts of a normal form, and that a URL with such parts is its own normal form.
use Prim.Native.Nat.{ℕ, suc, ◌≤◌}
use native.Mathlib.Omega.{arith}
use borrow.Author.Tests.{ne_eqb, eqb-false}
use mathlib.Core.Path.{◌≡◌, refl, sym, ap, subst, ◌∙◌}
use mathlib.Core.Logic.{◌↔◌}
use mathlib.Core.Bool.{Bool, true, false, cond}
use mathlib.Core.List.{List, ◌++◌}
use mathlib.Core.Option.{Option, none, some}
use lib.Dec.{eqb}
use lib.ListN.{length, take}
use lib.Seq.{take_at}
use Rattle.grammar.specs.Grammar.{Part, past}
use Rattle.grammar.specs.Reading.{value}
use Rattle.grammar.specs.helpers.Judge.{header}
use Rattle.grammar.proofs.Demands.{one_parse}
use Rattle.octets.specs.Numbers.{number}
use Rattle.numerals.specs.Numeral.{numeral}
use Rattle.numerals.proofs.Demands.{some_digit}
use Rattle.numerals.proofs.Reading.{numeral-number}
use Rattle.http_url.specs.Grammar.{Name, port, path, query, scheme, is_port, is_path, is_query, named, largest_port, port_text, rules}
use Rattle.http_url.proofs.Demands.{one_way}
use Rattle.escapes.specs.Resolved.{resolved}
use Rattle.escapes.specs.Symbols.{NoneUnneeded, nothing, a_character}
use Rattle.escapes.proofs.Escapes.{none_unneeded, already_resolved}
use Rattle.url_equal.specs.Meaning.{Page, page, pages, lower_all}
use Rattle.url_equal.specs.Equality.{EqualUrls}
use Rattle.url_equal.proofs.Equality.{parts_mean}
use Rattle.url_equal.proofs.Demands.{equal, equal-pages}
use Rattle.url_normal.specs.Normal.{normal, normal_form}
use Rattle.url_normal.specs.Parts.{PortNormal, no_port, other_port, PathNormal, a_path, QueryNormal, no_query, a_query, NormalParts, Normal}
use Rattle.url_normal.proofs.Spelling.{Rest, Spelling, Well, PathText, QueryText, RestText, port_bytes, behind_scheme, parts_of, page_of}
use Rattle.url_normal.proofs.Spelling.{port_of, path_of, query_of, resolved_query}
use Rattle.url_normal.proofs.Normal.{normal_port, normal_spelling, normal-bytes, host-again, numbered}
use Rattle.url_normal.proofs.Back.{ReadAs, read_as, form-has-parts, form_of, of-form, form-means}

-- ## The parts by name, where there is a path

abbrev a_port : ℕ → Option (List ℕ) → Option (Part Name)
a_port i none = none
a_port i (some d) = some (record { label = port; start = suc i; text = d })

abbrev query_at : ℕ → Option (List ℕ) → Option (Part Name)
query_at i none = none
query_at i (some q) = some (record { label = query; start = suc i; text = q })

module _ (h s : List ℕ) where
  abbrev spelled : Option (List ℕ) → Option (List ℕ) → Spelling
  spelled o q = record { host = h; port = o; rest = some (record { path = s; query = q }) }

  abbrev path_start : Option (List ℕ) → ℕ
  path_start o = past (past 7 h) (port_bytes o)

  port-named : (o q : Option (List ℕ)) → named is_port (parts_of (spelled o q)) ≡ a_port (past 7 h) o
  port-named none none = refl
  port-named none (some q) = refl
  port-named (some d) none = refl
  port-named (some d) (some q) = refl

  path-named : (o q : Option (List ℕ)) → named is_path (parts_of (spelled o q)) ≡ some (record { label = path; start = path_start o; text = s })
  path-named none none = refl
  path-named none (some q) = refl
  path-named (some d) none = refl
  path-named (some d) (some q) = refl

  query-named : (o q : Option (List ℕ)) → named is_query (parts_of (spelled o q)) ≡ query_at (past (path_start o) s) q
  query-named none none = refl
  query-named none (some q) = refl
  query-named (some d) none = refl
  query-named (some d) (some q) = refl

-- ## A normal form's parts

port-normal : (i n : ℕ) → PortNormal (a_port i (normal_port n))
port-normal i n = go (eqb n 80) refl
  where
    go : (t : Bool) → eqb n 80 ≡ t → PortNormal (a_port i (cond t none (some (numeral 10 n))))
    go true e = no_port
    go false e = other_port (λ f. eqb-false n 80 e (sym (numeral-number n) ∙ f)) (ap (numeral 10) (sym (numeral-number n)))

path_needed : (o : Option Rest) → RestText o → NoneUnneeded (path_of o)
path_needed none w = none_unneeded (a_character 47 (λ f. omega arith) nothing)
path_needed (some r) w = go r.path w.0
  where
    go : (s : List ℕ) → PathText s → NoneUnneeded (resolved s)
    go s (u, e, v) = subst (λ (l : List ℕ). NoneUnneeded (resolved l)) (sym e) (none_unneeded (a_character 47 (λ f. omega arith) v.spelled))

query_needed : (i : ℕ) (o : Option Rest) → RestText o → QueryNormal (query_at i (query_of o))
query_needed i none w = no_query
query_needed i (some r) w = go r.query w.1
  where
    go : (q : Option (List ℕ)) → QueryText q → QueryNormal (query_at i (resolved_query q))
    go none v = no_query
    go (some q) v = a_query (none_unneeded v.spelled)

module _ (t : Spelling) (w : Well t) (small : (page_of t).port ≤ largest_port) (short : length (normal (page_of t)) ≤ 8192) where
  abbrev o : Option (List ℕ)
  o = normal_port (page_of t).port

  form-normal : NormalParts (normal (page_of t)) (parts_of (normal_spelling (page_of t)))
  form-normal =
      let h = lower_all t.host in
      let s = path_of t.rest in
      let q = query_of t.rest in
      record {
        has_parts = form-has-parts t w small short;
        scheme_is = refl;
        host = host-again t.host w.host;
        port = subst PortNormal (sym (port-named h s o q)) (port-normal (past 7 h) (page_of t).port);
        path = subst PathNormal (sym (path-named h s o q)) (a_path (path_needed t.rest w.rest));
        query = subst QueryNormal (sym (query-named h s o q)) (query_needed (past (path_start h s o) s) t.rest w.rest);
      }

pub parts-normal : (s : List ℕ) (p : Page) → ReadAs s p → length (normal p) ≤ 8192 → (ps : List (Part Name)) × NormalParts (normal p) ps
parts-normal s p r h =
    subst (λ (q : Page). q.port ≤ largest_port → length (normal q) ≤ 8192 → (ps : List (Part Name)) × NormalParts (normal q) ps) r.means
    (λ k l. (parts_of (normal_spelling (page_of r.spelling)), form-normal r.spelling r.well k l)) r.small h

-- ## A URL with such parts

port_fixed : (i : ℕ) (o : Option (List ℕ)) → PortNormal (a_port i o) → normal_port (port_of o) ≡ o
port_fixed i none w = refl
port_fixed i (some d) (other_port never e) =
    let n : port_text d ≡ number d = numbered d (omega (arith, ap length e, some_digit 10 (number d) (omega arith))) in
    ap normal_port n ∙ rw (ne_eqb (number d) 80 never) (ap some (sym e))

path_fixed : (i : ℕ) (s : List ℕ) → PathText s → PathNormal (some (record { label = path; start = i; text = s })) → resolved s ≡ s
path_fixed i s (u, e, v) (a_path n) =
    subst (λ (l : List ℕ). NoneUnneeded l → resolved l ≡ l) (sym e) (already_resolved (a_character 47 (λ f. omega arith) v.spelled)) n

query_fixed : (i : ℕ) (q : Option (List ℕ)) → QueryText q → QueryNormal (query_at i q) → resolved_query q ≡ q
query_fixed i none v w = refl
query_fixed i (some q) v (a_query n) = ap some (already_resolved v.spelled n)

same-spelling : {h h' s s' : List ℕ} {o o' q q' : Option (List ℕ)} → h ≡ h' → o ≡ o' → s ≡ s' → q ≡ q'
    → ◌≡◌ {A = Spelling} (record { host = h; port = o; rest = some (record { path = s; query = q }) })
    (record { host = h'; port = o'; rest = some (record { path = s'; query = q' }) })
same-spelling a b c d = cc

spelling_fixed : (n : List ℕ) (t : Spelling) → Well t → NormalParts n (parts_of t) → normal_spelling (page_of t) ≡ t
spelling_fixed n t w p = go t.port t.rest w.rest p.port p.path p.query
  where
    h : List ℕ
    h = t.host

    no_path : (o : Option (List ℕ)) → named is_path (parts_of (record { host = h; port = o; rest = none })) ≡ none
    no_path none = refl
    no_path (some d) = refl

    never : PathNormal none → ⊥
    never x = elim x [ ]

    go : (o : Option (List ℕ)) (r : Option Rest) → RestText r
        → PortNormal (named is_port (parts_of (record { host = h; port = o; rest = r })))
        → PathNormal (named is_path (parts_of (record { host = h; port = o; rest = r })))
        → QueryNormal (named is_query (parts_of (record { host = h; port = o; rest = r })))
        → normal_spelling (page_of (record { host = h; port = o; rest = r })) ≡ record { host = h; port = o; rest = r }
    go o none v a b c = absurd (never (subst PathNormal (no_path o) b))
    go o (some r) v a b c =
        same-spelling p.host (port_fixed (past 7 h) o (subst PortNormal (port-named h r.path o r.query) a))
        (path_fixed (path_start h r.path o) r.path v.0 (subst PathNormal (path-named h r.path o r.query) b))
        (query_fixed (past (path_start h r.path o) r.path) r.query v.1 (subst QueryNormal (query-named h r.path o r.query) c))

pub normal_fixed : (n : List ℕ) (ps : List (Part Name)) → NormalParts n ps → normal (page ps) ≡ n
normal_fixed n ps w =
    let r = read_as n (page ps) (parts_mean n ps w.has_parts) in
    let t = r.spelling in
    let same = one_parse rules tt tt one_way n ps (parts_of t) w.has_parts.parts r.parts in
    let x = subst (NormalParts n) same w in
    let v : r.sent ≡ scheme = sym (take_at r.sent (behind_scheme t) 7 r.sent_length) ∙ ap (take 7) (sym r.is) ∙ x.scheme_is in
    ap normal (sym r.means) ∙ normal-bytes (page_of t) ∙ ap (λ (l : Spelling). scheme ++ behind_scheme l) (spelling_fixed n t r.well x)
    ∙ ap (λ (l : List ℕ). l ++ behind_scheme t) (sym v) ∙ sym r.is

-- whatever it means
pub normal-itself : (n : List ℕ) → Normal n → (q : Page) → header pages n ≡ value q → normal q ≡ n
normal-itself n (ps, w) q e =
    let same : q ≡ page ps = value-is (sym e ∙ parts_mean n ps w.has_parts) in
    ap normal same ∙ normal_fixed n ps w
  where
    value-is : {q r : Page} → value q ≡ value r → q ≡ r
    value-is f = cc

-- ## The one text that is normal and equal to a URL

pub form_exactly : (s n : List ℕ) → (normal_form s ≡ value n) ↔ (Normal n × EqualUrls s n)
form_exactly s n = (to, of)
  where
    to : normal_form s ≡ value n → Normal n × EqualUrls s n
    to e =
        let f = form_of s n e in
        let w = parts-normal s f.page (read_as s f.page f.read) (omega (arith, f.short, ap length f.is)) in (
          (w.0, subst (λ (t : List ℕ). NormalParts t w.0) f.is w.1),
          (equal s n).0 ((equal-pages s n).1 (f.page, f.read, form-means s n e ∙ f.read)),
        )

    of : Normal n × EqualUrls s n → normal_form s ≡ value n
    of (w, h) =
        let p = (equal-pages s n).0 ((equal s n).1 h) in
        of-form s n p.0 p.1 (normal-itself n w p.0 p.2) (read_as n p.0 p.2).short
