-- The theorems of normal forms: what a customer reads. The words quoted are those of request (x) of document 02.
use Prim.Native.Nat.{ℕ, ◌+◌, ◌≤◌, ◌<◌}
use mathlib.Core.Path.{◌≡◌, refl, sym, ap, ◌∙◌}
use mathlib.Core.Logic.{◌↔◌}
use mathlib.Core.Bool.{true, false}
use mathlib.Core.List.{List}
use mathlib.Core.Option.{none}
use lib.ListN.{length, take, drop}
use Rattle.grammar.specs.Grammar.{Part}
use Rattle.grammar.specs.Comparing.{outcome}
use Rattle.grammar.specs.Reading.{value_limit, value, refused}
use Rattle.grammar.specs.Refusals.{OUTPUT_TOO_SHORT, VALUE_TOO_LONG}
use Rattle.grammar.specs.helpers.Judge.{header}
use Rattle.octets.proofs.Writing.{stands_in_front}
use Rattle.octets.proofs.Answers.{rest-kept}
use Rattle.http_url.specs.Grammar.{Name, is_path, named, rules}
use Rattle.url_equal.specs.Meaning.{Page, page, pages, equality}
use Rattle.url_equal.specs.Equality.{HasParts, EqualUrls}
use Rattle.url_equal.proofs.Meaning.{means-nothing}
use Rattle.url_equal.proofs.Demands as E
use Rattle.url_normal.specs.Normal.{normal, of_page, answer_in_room, output_after, normal_form, normal_writing, normal_output}
use Rattle.url_normal.specs.Parts.{Normal}
use Rattle.url_normal.proofs.Back.{read_as, form_of, of-form, form-means}
use Rattle.url_normal.proofs.Exact.{form_exactly, normal-itself}
use Rattle.url_normal.proofs.Lengths as L
use Rattle.url_normal.proofs.Refusals as R

-- ## Which text it is

-- The normal form of a URL is the one text that is normal and equal to it: "lower-case scheme and host, no port 80, other ports without
-- leading zeros, `/` for an absent path, unneeded escapes removed, other escapes as they were".
pub normal_exactly : (s n : List ℕ) → (normal_form s ≡ value n) ↔ (Normal n × EqualUrls s n)
normal_exactly = form_exactly

-- "Two URLs are equal exactly when their normal forms have the same bytes"
pub equal_exactly : (a b m n : List ℕ) → normal_form a ≡ value m → normal_form b ≡ value n → (equality a b ≡ outcome true) ↔ (m ≡ n)
equal_exactly a b m n e f = (λ h. R.same-form a b m n e f h, λ h. R.same_page a b m n e f h)

-- "and normalising twice changes nothing"
pub normal-twice : (s n : List ℕ) → normal_form s ≡ value n → normal_form n ≡ value n
normal-twice s n e = ap of_page (form-means s n e) ∙ e

-- "Demand 2's reading back means an equal URL here": a normal form reads, as the page that its URL names, and so as an equal URL.
pub reads-back : (s n : List ℕ) → normal_form s ≡ value n → (header pages n ≡ header pages s) × (equality n s ≡ outcome true)
reads-back s n e =
    let f = form_of s n e in
    let h = form-means s n e in
    (h, (E.equal-pages n s).1 (f.page, h ∙ f.read, f.read))

-- No two different normal forms are equal.
pub one-normal : (m n : List ℕ) → Normal m → Normal n → equality m n ≡ outcome true → m ≡ n
one-normal m n v w e =
    let p = (E.equal-pages m n).0 e in
    sym (normal-itself m v p.0 p.1) ∙ normal-itself n w p.0 p.2

-- ## When there is one, and when not

-- A URL that reads has one, unless that would be too long.
pub has-form : (s : List ℕ) (p : Page) → header pages s ≡ value p → length (normal p) ≤ value_limit → normal_form s ≡ value (normal p)
has-form s p e = of-form s (normal p) p e refl

-- The refusals of reading come first, with their places.
pub reading-refused : (s : List ℕ) (n p : ℕ) → header rules s ≡ refused n p → normal_form s ≡ refused n p
reading-refused s n p e = ap of_page (means-nothing s n p e)

-- "A normal form of 8,193 bytes is refusal 13 at 8,192": a URL that reads is refused so just there.
pub too_long_exactly : (s : List ℕ) (p : Page) → header pages s ≡ value p
    → (normal_form s ≡ refused VALUE_TOO_LONG value_limit) ↔ (length (normal p) ≡ value_limit + 1)
too_long_exactly = R.too_long_exactly

-- It is at most one byte longer than its URL, and that only by the `/` of an absent path.
pub one-longer : (s : List ℕ) (p : Page) → header pages s ≡ value p → length (normal p) ≤ length s + 1
one-longer s p e = L.one-longer (read_as s p e)

pub longer_without_path : (s : List ℕ) (ps : List (Part Name)) → HasParts s ps → length s < length (normal (page ps))
    → named is_path ps ≡ none
longer_without_path = L.longer_without_path

-- ## What is answered and written

-- Where there is none, the answer is why, in any room.
pub refused_anywhere : (s : List ℕ) (n p room : ℕ) → normal_form s ≡ refused n p → normal_writing s room ≡ refused n p
refused_anywhere s n p room e = ap (λ v. answer_in_room v room) e

-- "A short output is refusal 8, after any other": just where there is a normal form, and it does not fit.
pub short_exactly : (s : List ℕ) (room : ℕ)
    → (normal_writing s room ≡ refused OUTPUT_TOO_SHORT 0) ↔ ((n : List ℕ) × (normal_form s ≡ value n) × (room < length n))
short_exactly = R.short_exactly

-- In room enough the answer is the length of the normal form. That many bytes of the output are it, whatever stood there before, and read
-- as an equal URL; the rest is kept.
pub reads-back-from : (s n old : List ℕ) → normal_form s ≡ value n → length n ≤ length old
    → (normal_writing s (length old) ≡ value (length n))
    × (take (length n) (normal_output s old) ≡ n)
    × (equality (take (length n) (normal_output s old)) s ≡ outcome true)
    × (drop (length n) (normal_output s old) ≡ drop (length n) old)
reads-back-from s n old e h =
    let w = stands_in_front false n old refl h in
    let is = ap (λ v. take (length n) (output_after v old)) e ∙ w.1 in (
      ap (λ v. answer_in_room v (length old)) e ∙ w.0,
      is,
      ap (λ t. equality t s) is ∙ (reads-back s n e).1,
      ap (λ v. drop (length n) (output_after v old)) e ∙ rest-kept false n old refl h,
    )

-- A refusal writes nothing.
pub keeps : (s old : List ℕ) (n p : ℕ) → normal_writing s (length old) ≡ refused n p → normal_output s old ≡ old
keeps s old n p = R.keeps (normal_form s) old n p
