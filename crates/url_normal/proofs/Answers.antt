-- The ways out of the writer of normal forms.
use Prim.Native.Nat.{ℕ, ◌≤◌, ◌<◌}
use borrow.Author.Tests.{lt-ltb, le-ltb}
use mathlib.Core.Path.{◌≡◌, refl, ap}
use mathlib.Core.Bool.{false}
use mathlib.Core.List.{List, ◌++◌}
use lib.ListN.{length, drop}
use Rattle.grammar.specs.Reading.{Verdict, value, refused, Answers, reads}
use Rattle.grammar.specs.helpers.Judge.{header}
use Rattle.std.specs.Prelude.{Result, Ok, Err}
use Rattle.octets.specs.declared.Refusal.{Refusal}
use Rattle.octets.specs.declared.Refusal.TheVariants.{ValueTooLong, OutputTooShort}
use Rattle.octets.specs.Reading.{verdict}
use Rattle.octets.proofs.Writing.{refuses-short, writes-all}
use Rattle.http_url.specs.declared.Url.{Url}
use Rattle.http_url.specs.Grammar.{rules}
use Rattle.http_url.proofs.Demands.{reading}
use Rattle.url_equal.specs.Meaning.{pages}
use Rattle.url_equal.specs.Places.{page_in}
use Rattle.url_equal.proofs.Meaning.{means, means-nothing}
use Rattle.url_normal.specs.Normal.{normal, within_limit, of_page, answer_in_room, output_after}

-- what the promises ask, where this is the normal form
abbrev pub Answered : Verdict (List ℕ) → Result ℕ Refusal → (old new : List ℕ) → Type 0
Answered v r old new = (verdict r ≡ answer_in_room v (length old)) × (new ≡ output_after v old)

-- ## A text within its limit, or not

module _ (t old : List ℕ) where
  pub too_long : 8192 < length t → Answered (within_limit t) (Err ValueTooLong) old old
  too_long h = rw (lt-ltb 8192 (length t) h) (refl, refl)

  pub within : length t ≤ 8192 → within_limit t ≡ value t
  within h = rw (le-ltb 8192 (length t) h)

  pub no_room : length t ≤ 8192 → length old < length t
      → Answered (within_limit t) (Err OutputTooShort) old old
  no_room h k = rw (within h) (refuses-short false t old refl k)

  pub all-put : (n : ℕ) (new : List ℕ) → n ≡ length t → length t ≤ 8192 → length t ≤ length old → new ≡ t ++ drop (length t) old
      → Answered (within_limit t) (Ok n) old new
  all-put n new e h k w = rw (within h) (writes-all false t old n new e refl k w)

-- ## A URL that is read, or not

module _ (s : List ℕ) where
  pub readable_short : (u : Url) → header rules s ≡ value u → length s ≤ 8192
  readable_short u e = by ((reading s (value u)).0 e)
    where
      by : {v : Url} → Answers rules s (value v) → length s ≤ 8192
      by (reads h p sound f) = h

  pub refused_as : (n p : ℕ) → header rules s ≡ refused n p → of_page (header pages s) ≡ refused n p
  refused_as n p e = ap of_page (means-nothing s n p e)

  pub read_as : (u : Url) → header rules s ≡ value u → of_page (header pages s) ≡ within_limit (normal (page_in s u))
  read_as u e = ap of_page (means s u e).1
