-- A URL taken apart into the texts of its parts, and put together again.
use Prim.Native.Nat.{ℕ, suc}
use mathlib.Core.Path.{◌≡◌, refl, sym, ap, ap₂, subst, ◌∙◌}
use mathlib.Core.Logic.{inl, inr}
use mathlib.Core.List.{List, [], ◌∷◌, ◌++◌}
use mathlib.Core.Option.{Option, none, some}
use lib.Dec.{T, ltb, eqb→eq}
use Rattle.grammar.specs.Grammar.{Part, Grammar, byte, ◌⨾◌, star, plus, part, just, Parses, past}
use Rattle.grammar.proofs.Plain.{plain_byte, plain-star, plain-seq, plain-part}
use Rattle.grammar.proofs.Texts.{Each, star-made, star-each, plus-made, plus-each}
use Rattle.octets.specs.Bytes.{digit?}
use Rattle.octets.specs.Classes.{DIGIT}
use Rattle.http_url.specs.Bytes.{HOST, PATH, QUERY, host?}
use Rattle.http_url.specs.Grammar.{Name, host, port, path, query, text_of, query_part, path_part, port_part, host_part}
use Rattle.http_url.specs.Grammar.{default_port, port_text}
use Rattle.http_url.proofs.Scan.{path_no_percent, query_no_percent}
use Rattle.escapes.specs.Resolved.{resolved}
use Rattle.escapes.proofs.Escapes.{Text, text_parsed, parsed_text}
use Rattle.url_equal.specs.Meaning.{Page, page, lower_all}
use Rattle.url_normal.specs.Normal.{query_form}

-- a path, and a query, which needs one
pub record Rest : Type 0 where
  pub path : List ℕ
  pub query : Option (List ℕ)

pub record Spelling : Type 0 where
  pub host : List ℕ
  pub port : Option (List ℕ)
  pub rest : Option Rest

-- ## Its bytes behind the scheme, and its parts

abbrev pub port_bytes : Option (List ℕ) → List ℕ
port_bytes none = []
port_bytes (some d) = 58 ∷ d

abbrev pub rest_bytes : Option Rest → List ℕ
rest_bytes none = []
rest_bytes (some r) = r.path ++ query_form r.query

abbrev pub behind_scheme : Spelling → List ℕ
behind_scheme t = t.host ++ (port_bytes t.port ++ rest_bytes t.rest)

abbrev pub port_parts : ℕ → Option (List ℕ) → List (Part Name)
port_parts i none = []
port_parts i (some d) = record { label = port; start = suc i; text = d } ∷ []

abbrev pub query_parts : ℕ → Option (List ℕ) → List (Part Name)
query_parts i none = []
query_parts i (some q) = record { label = query; start = suc i; text = q } ∷ []

abbrev pub rest_parts : ℕ → Option Rest → List (Part Name)
rest_parts i none = []
rest_parts i (some r) = record { label = path; start = i; text = r.path } ∷ query_parts (past i r.path) r.query

abbrev pub parts_of : Spelling → List (Part Name)
parts_of t =
    record { label = host; start = 7; text = t.host }
    ∷ (port_parts (past 7 t.host) t.port ++ rest_parts (past (past 7 t.host) (port_bytes t.port)) t.rest)

-- ## Well-formed texts

abbrev pub HostText : List ℕ → Type 0
HostText h = (b : ℕ) × (s : List ℕ) × (h ≡ b ∷ s) × Each host? (b ∷ s)

abbrev pub PortText : Option (List ℕ) → Type 0
PortText none = Unit {0}
PortText (some d) = Each digit? d

abbrev pub PathText : List ℕ → Type 0
PathText s = (u : List ℕ) × (s ≡ 47 ∷ u) × Text PATH u

abbrev pub QueryText : Option (List ℕ) → Type 0
QueryText none = Unit {0}
QueryText (some q) = Text QUERY q

abbrev pub RestText : Option Rest → Type 0
RestText none = Unit {0}
RestText (some r) = PathText r.path × QueryText r.query

pub record Well (t : Spelling) : Type 0 where
  pub host : HostText t.host
  pub port : PortText t.port
  pub rest : RestText t.rest

-- ## Put together

one-made : (b : ℕ) (p : T (ltb b 256)) (i : ℕ) → Parses {L = Name} (byte (just b p)) i (b ∷ []) []
one-made b p i = (b, refl, (just b p).holds, refl)

query-made : (i : ℕ) (o : Option (List ℕ)) → QueryText o → Parses query_part i (query_form o) (query_parts i o)
query-made i none w = inl (refl, refl)
query-made i (some q) w =
    inr (63 ∷ [], q, [], query_parts i (some q), refl, refl, one-made 63 tt i, ([], refl, parsed_text QUERY (suc i) q w.symbols w.spelled w.within))

path-made : (i : ℕ) (s : List ℕ) → PathText s → Parses (byte (just 47 tt) ⨾ text_of PATH) i s []
path-made i s w =
    let x = w.2 in
    subst (λ (l : List ℕ). Parses (byte (just 47 tt) ⨾ text_of PATH) i l []) (sym w.1)
    (47 ∷ [], w.0, [], [], refl, refl, one-made 47 tt i, parsed_text PATH (suc i) w.0 x.symbols x.spelled x.within)

rest-made : (i : ℕ) (o : Option Rest) → RestText o → Parses path_part i (rest_bytes o) (rest_parts i o)
rest-made i none w = inl (refl, refl)
rest-made i (some r) w =
    inr (
      r.path,
      query_form r.query,
      record { label = path; start = i; text = r.path } ∷ [],
      query_parts (past i r.path) r.query,
      refl,
      refl,
      ([], refl, path-made i r.path w.0),
      query-made (past i r.path) r.query w.1,
    )

port-made : (i : ℕ) (o : Option (List ℕ)) → PortText o → Parses port_part i (port_bytes o) (port_parts i o)
port-made i none w = inl (refl, refl)
port-made i (some d) w =
    inr (58 ∷ [], d, [], port_parts i (some d), refl, refl, one-made 58 tt i, ([], refl, star-made DIGIT (suc i) d w))

host-made : (i : ℕ) (h : List ℕ) → HostText h → Parses {L = Name} (plus (byte HOST)) i h []
host-made i h w = subst (λ (l : List ℕ). Parses {L = Name} (plus (byte HOST)) i l []) (sym w.2) (plus-made HOST i w.0 w.1 w.3)

pub made : (t : Spelling) → Well t → Parses host_part 7 (behind_scheme t) (parts_of t)
made t w =
    let i = past 7 t.host in
    let j = past i (port_bytes t.port) in (
      t.host,
      port_bytes t.port ++ rest_bytes t.rest,
      record { label = host; start = 7; text = t.host } ∷ [],
      port_parts i t.port ++ rest_parts j t.rest,
      refl,
      refl,
      ([], refl, host-made 7 t.host w.host),
      (
        port_bytes t.port,
        rest_bytes t.rest,
        port_parts i t.port,
        rest_parts j t.rest,
        refl,
        refl,
        port-made i t.port w.port,
        rest-made j t.rest w.rest,
      ),
    )

-- ## Taken apart

-- behind one byte, a part
behind-byte : (b : ℕ) (p : T (ltb b 256)) (l : Name) (g : Grammar Name) → ((i : ℕ) (s : List ℕ) (ps : List (Part Name)) → Parses g i s ps → ps ≡ [])
    → (i : ℕ) (s : List ℕ) (ps : List (Part Name)) → Parses (byte (just b p) ⨾ part l g) i s ps
    → (t : List ℕ) × (s ≡ b ∷ t) × (ps ≡ record { label = l; start = suc i; text = t } ∷ []) × Parses g (suc i) t []
behind-byte b p l g plain i s ps m =
    let a = m.6 in
    let e : m.0 ≡ b ∷ [] = a.1 ∙ ap (λ (x : ℕ). x ∷ []) (eqb→eq a.0 b a.2) in
    let n = subst (λ (t : List ℕ). Parses (part l g) (past i t) m.1 m.3) e m.7 in
    let f = plain (suc i) m.1 n.0 n.2 in (
      m.1,
      m.4 ∙ ap (λ (t : List ℕ). t ++ m.1) e,
      m.5 ∙ ap₂ (λ (x y : List (Part Name)). x ++ y) a.3 (plain-part l g plain (suc i) m.1 m.3 n),
      subst (Parses g (suc i) m.1) f n.2,
    )

query-taken : (i : ℕ) (s : List ℕ) (ps : List (Part Name)) → Parses query_part i s ps
    → (o : Option (List ℕ)) × QueryText o × (s ≡ query_form o) × (ps ≡ query_parts i o)
query-taken i s ps (inl m) = (none, tt, m.0, m.1)
query-taken i s ps (inr m) =
    let w = behind-byte 63 tt query (text_of QUERY) (λ i s ps p. (text_parsed QUERY query_no_percent i s ps p).1) i s ps m in
    (some w.0, (text_parsed QUERY query_no_percent (suc i) w.0 [] w.3).0, w.1, w.2)

path-plain : (i : ℕ) (s : List ℕ) (ps : List (Part Name)) → Parses (byte (just 47 tt) ⨾ text_of PATH) i s ps → ps ≡ []
path-plain = plain-seq (byte (just 47 tt)) (text_of PATH) (plain_byte (just 47 tt)) (λ i s ps p. (text_parsed PATH path_no_percent i s ps p).1)

path-taken : (i : ℕ) (s : List ℕ) (ps : List (Part Name)) → Parses (byte (just 47 tt) ⨾ text_of PATH) i s ps → PathText s
path-taken i s ps m =
    let a = m.6 in
    let e : m.0 ≡ 47 ∷ [] = a.1 ∙ ap (λ (x : ℕ). x ∷ []) (eqb→eq a.0 47 a.2) in
    (m.1, m.4 ∙ ap (λ (t : List ℕ). t ++ m.1) e, (text_parsed PATH path_no_percent (past i m.0) m.1 m.3 m.7).0)

rest-taken : (i : ℕ) (s : List ℕ) (ps : List (Part Name)) → Parses path_part i s ps
    → (o : Option Rest) × RestText o × (s ≡ rest_bytes o) × (ps ≡ rest_parts i o)
rest-taken i s ps (inl m) = (none, tt, m.0, m.1)
rest-taken i s ps (inr m) =
    let n = m.6 in
    let q = query-taken (past i m.0) m.1 m.3 m.7 in (
      some (record { path = m.0; query = q.0 }),
      (path-taken i m.0 n.0 n.2, q.1),
      m.4 ∙ ap (λ (t : List ℕ). m.0 ++ t) q.2,
      m.5 ∙ ap₂ (λ (x y : List (Part Name)). x ++ y) (plain-part path (byte (just 47 tt) ⨾ text_of PATH) path-plain i m.0 m.2 n) q.3,
    )

port-taken : (i : ℕ) (s : List ℕ) (ps : List (Part Name)) → Parses port_part i s ps
    → (o : Option (List ℕ)) × PortText o × (s ≡ port_bytes o) × (ps ≡ port_parts i o)
port-taken i s ps (inl m) = (none, tt, m.0, m.1)
port-taken i s ps (inr m) =
    let w = behind-byte 58 tt port (star (byte DIGIT)) (plain-star (byte DIGIT) (plain_byte DIGIT)) i s ps m in
    (some w.0, star-each DIGIT (suc i) w.0 [] w.3, w.1, w.2)

pub taken : (s : List ℕ) (ps : List (Part Name)) → Parses host_part 7 s ps → (t : Spelling) × Well t × (s ≡ behind_scheme t) × (ps ≡ parts_of t)
taken s ps m =
    let h = m.6 in
    let b = m.7 in
    let o = port-taken (past 7 m.0) b.0 b.2 b.6 in
    let r = rest-taken (past (past 7 m.0) b.0) b.1 b.3 b.7 in
    let plain = plain-seq (byte HOST) (star (byte HOST)) (plain_byte HOST) (plain-star (byte HOST) (plain_byte HOST)) in (
      record { host = m.0; port = o.0; rest = r.0 },
      record { host = plus-each HOST 7 m.0 h.0 h.2; port = o.1; rest = r.1 },
      m.4 ∙ ap (λ (t : List ℕ). m.0 ++ t) (b.4 ∙ ap₂ (λ (x y : List ℕ). x ++ y) o.2 r.2),
      m.5
          ∙ ap₂ (λ (x y : List (Part Name)). x ++ y) (plain-part host (plus (byte HOST)) plain 7 m.0 m.2 h)
          (b.5 ∙ ap₂ (λ (x y : List (Part Name)). x ++ y) o.3 (r.3 ∙ ap (λ (t : List ℕ). rest_parts (past (past 7 m.0) t) r.0) o.2)),
    )

-- ## What it means

abbrev pub port_of : Option (List ℕ) → ℕ
port_of none = default_port
port_of (some d) = port_text d

abbrev pub path_of : Option Rest → List ℕ
path_of none = 47 ∷ []
path_of (some r) = resolved r.path

abbrev pub resolved_query : Option (List ℕ) → Option (List ℕ)
resolved_query none = none
resolved_query (some q) = some (resolved q)

abbrev pub query_of : Option Rest → Option (List ℕ)
query_of none = none
query_of (some r) = resolved_query r.query

abbrev pub page_of : Spelling → Page
page_of t = record { host = lower_all t.host; port = port_of t.port; path = path_of t.rest; query = query_of t.rest }

pub page-is : (t : Spelling) → page (parts_of t) ≡ page_of t
page-is t = go t.port t.rest
  where
    rests : (o : Option (List ℕ)) (p : List ℕ) (q : Option (List ℕ)) (i j : ℕ)
        → page (record { label = host; start = 7; text = t.host } ∷ (port_parts i o ++ rest_parts j (some (record { path = p; query = q }))))
        ≡ page_of (record { host = t.host; port = o; rest = some (record { path = p; query = q }) })
    rests none p none i j = refl
    rests none p (some q) i j = refl
    rests (some d) p none i j = refl
    rests (some d) p (some q) i j = refl

    go : (o : Option (List ℕ)) (r : Option Rest)
        → page (parts_of (record { host = t.host; port = o; rest = r })) ≡ page_of (record { host = t.host; port = o; rest = r })
    go none none = refl
    go (some d) none = refl
    go o (some r) = rests o r.path r.query (past 7 t.host) (past (past 7 t.host) (port_bytes o))
