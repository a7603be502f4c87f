-- A normal form reads, and as the page that it was made of; what is normal about its parts; and that no other text is so.
use Prim.Native.Nat.{ℕ, ◌≤◌}
use native.Mathlib.Omega.{arith}
use borrow.Author.Tests.{ltb-false}
use mathlib.Core.Path.{◌≡◌, refl, sym, ap, subst, ◌∙◌}
use mathlib.Core.Bool.{Bool, true, false, cond}
use mathlib.Core.List.{List, [], ◌++◌}
use lib.Dec.{ltb}
use lib.ListN.{length}
use Rattle.grammar.specs.Grammar.{Part, Parses}
use Rattle.grammar.specs.Reading.{Verdict, value, refused, Answers, reads}
use Rattle.grammar.specs.helpers.Judge.{header}
use Rattle.grammar.proofs.Demands.{answered_exactly}
use Rattle.grammar.proofs.Values.{revalued}
use Rattle.grammar.proofs.Texts.{spell-made, spell-taken}
use Rattle.scans.proofs.Limits.{number-sound, number-within}
use Rattle.http_url.specs.Grammar as G
use Rattle.http_url.specs.Grammar.{Name, scheme, host_part, url, is_port, largest_port, rules}
use Rattle.http_url.proofs.Demands.{one_way}
use Rattle.http_url.proofs.Ports.{named-within}
use Rattle.url_equal.specs.Meaning.{Page, page, pages}
use Rattle.url_equal.specs.Equality.{HasParts}
use Rattle.url_equal.proofs.Demands.{meaning}
use Rattle.url_normal.specs.Normal.{normal, of_page, normal_form}
use Rattle.url_normal.proofs.Answers.{within}
use Rattle.url_normal.proofs.Spelling.{Spelling, Well, behind_scheme, parts_of, made, taken, page_of, page-is}
use Rattle.url_normal.proofs.Normal.{normal_spelling, normal-bytes, normal-well, normal-page, normal-above}

-- ## A URL that reads, taken apart

pub record ReadAs (s : List ℕ) (p : Page) : Type 0 where
  pub spelling : Spelling
  pub well : Well spelling
  pub sent : List ℕ
  pub sent_length : length sent ≡ 7
  pub is : s ≡ sent ++ behind_scheme spelling
  pub parts : Parses url 0 s (parts_of spelling)
  pub means : page_of spelling ≡ p
  pub small : p.port ≤ largest_port
  pub short : length s ≤ 8192

parsed_as : (s : List ℕ) (ps : List (Part Name)) → length s ≤ 8192 → Parses url 0 s ps → (page ps).port ≤ largest_port → ReadAs s (page ps)
parsed_as s ps h m small =
    let w = spell-taken scheme tt host_part 0 s ps m in
    let t = taken w.1 ps w.4 in
    record {
      spelling = t.0;
      well = t.1;
      sent = w.0;
      sent_length = w.3;
      is = w.2 ∙ ap (λ (l : List ℕ). w.0 ++ l) t.2;
      parts = subst (Parses url 0 s) t.3 m;
      means = sym (page-is t.0) ∙ ap page (sym t.3);
      small = small;
      short = h;
    }

pub read_as : (s : List ℕ) (p : Page) → header pages s ≡ value p → ReadAs s p
read_as s p e = by ((meaning s (value p)).0 e)
  where
    by : {q : Page} → Answers pages s (value q) → ReadAs s q
    by (reads {ps = ps} h m sound f) =
        parsed_as s ps h m (named-within ps (number-within is_port largest_port pages tt tt one_way (λ k qs. refl) s ps m sound))

-- ## Its normal form

module _ (t : Spelling) (w : Well t) (small : (page_of t).port ≤ largest_port) (short : length (normal (page_of t)) ≤ 8192) where
  abbrev n : List ℕ
  n = normal (page_of t)

  abbrev form : Spelling
  form = normal_spelling (page_of t)

  pub form_parts : Parses url 0 n (parts_of form)
  form_parts =
      subst (λ (l : List ℕ). Parses url 0 l (parts_of form)) (sym (normal-bytes (page_of t)))
      (spell-made scheme tt host_part 0 (behind_scheme form) (parts_of form) (made form (normal-well t w)))

  form-reads : {A : Type 0} (f : List (Part Name) → A) → Answers (revalued rules f) n (value (f (parts_of form)))
  form-reads f =
      let quiet = normal-above (page_of t) small in
      reads short form_parts (number-sound is_port largest_port (revalued rules f) tt tt one_way (λ k qs. refl) n (parts_of form) form_parts quiet) refl

  pub form-page : header pages n ≡ value (page_of t)
  form-page = (meaning n (value (page (parts_of form)))).1 (form-reads page) ∙ ap value (page-is form ∙ normal-page t w)

  pub form-has-parts : HasParts n (parts_of form)
  form-has-parts = record {
    parts = form_parts;
    is_read = (answered_exactly rules tt tt one_way n (value (G.value (parts_of form)))).1 (form-reads G.value);
  }

pub normal-reads : (s : List ℕ) (p : Page) → header pages s ≡ value p → length (normal p) ≤ 8192 → header pages (normal p) ≡ value p
normal-reads s p e h =
    let r = read_as s p e in
    subst (λ (q : Page). q.port ≤ largest_port → length (normal q) ≤ 8192 → header pages (normal q) ≡ value q) r.means
    (λ k l. form-page r.spelling r.well k l) r.small h

-- ## What the answer says of the URL

pub record FormOf (s n : List ℕ) : Type 0 where
  pub page : Page
  pub read : header pages s ≡ value page
  pub is : normal page ≡ n
  pub short : length n ≤ 8192

pub form_of : (s n : List ℕ) → normal_form s ≡ value n → FormOf s n
form_of s n = go (header pages s) refl
  where
    limited : (p : Page) (x : Bool) → ltb 8192 (length (normal p)) ≡ x → header pages s ≡ value p
        → cond x (refused 13 8192) (value (normal p)) ≡ value n → FormOf s n
    limited p true f e g = let z : ◌≡◌ {A = ℕ} 0 1 = cc in absurd (omega arith)
    limited p false f e g =
        let i : normal p ≡ n = cc in
        record { page = p; read = e; is = i; short = omega (arith, ltb-false 8192 (length (normal p)) f, ap length i) }

    go : (v : Verdict Page) → header pages s ≡ v → of_page v ≡ value n → FormOf s n
    go (value p) e g = limited p (ltb 8192 (length (normal p))) refl e g
    go (refused a b) e g = let z : ◌≡◌ {A = ℕ} 0 1 = cc in absurd (omega arith)

pub of-form : (s n : List ℕ) (p : Page) → header pages s ≡ value p → normal p ≡ n → length n ≤ 8192 → normal_form s ≡ value n
of-form s n p e i h = ap of_page e ∙ within (normal p) [] (omega (arith, ap length i)) ∙ ap value i

pub form-means : (s n : List ℕ) → normal_form s ≡ value n → header pages n ≡ header pages s
form-means s n e =
    let f = form_of s n e in
    ap (header pages) (sym f.is) ∙ normal-reads s f.page f.read (omega (arith, f.short, ap length f.is)) ∙ sym f.read
