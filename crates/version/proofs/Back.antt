-- The text of a version reads back: the name, the major number, the point and the minor number stand where the reader looks for them.
use Prim.Native.Nat.{ℕ, ◌+◌, ◌≤◌}
use Prim.Native.Char.{code}
use native.Mathlib.Omega.{arith}
use mathlib.Core.Path.{◌≡◌, refl, sym, ap, subst, ◌∙◌}
use mathlib.Core.List.{List, [], ◌∷◌, ◌++◌, append_assoc, append-nil}
use lib.ListN.{length, get_or, length-append}
use lib.Seq.{get_or_at}
use Rattle.grammar.specs.Grammar.{lower}
use Rattle.grammar.specs.Reading.{value}
use Rattle.grammar.specs.Text.{bytes}
use Rattle.grammar.specs.helpers.Judge.{header}
use Rattle.octets.specs.Bytes.{digit?}
use Rattle.scans.specs.declared.Decimal.TheVariants.{Number}
use Rattle.scans.specs.helpers.Words.{agreeing}
use Rattle.scans.specs.helpers.Decimals.{decimal_at}
use Rattle.numerals.specs.Numeral.{glyph, digits, width_in, width, numeral}
use Rattle.numerals.proofs.Reading.{Stops, end, other, numeral_reads}
use Rattle.version_writer.proofs.Writer.{text_length, few-digits}
use Rattle.version.specs.declared.Version.{Version}
use Rattle.version.specs.Grammar.{http, largest, rules}
use Rattle.version.specs.Reading.{http_1_1, http_1_0}
use Rattle.version.specs.Writing.{version_text}
use Rattle.version.proofs.Scan.{major-reads, version-reads}

module _ (v : Version) (h : v.major ≤ largest) (k : v.minor ≤ largest) where
  abbrev major : List ℕ
  major = numeral 10 v.major

  abbrev minor : List ℕ
  minor = numeral 10 v.minor

  abbrev point : List ℕ
  point = code "." ∷ []

  -- the place of the point
  abbrev e : ℕ
  e = 5 + length major

  short : length (version_text v) ≤ 8192
  short = omega (arith, text_length v.major v.minor, few-digits v.major h, few-digits v.minor k)

  named : agreeing http (version_text v) ≡ 5
  unfolding lower
  named = refl

  stops : Stops (code "." ∷ minor)
  unfolding digit?
  stops = other refl

  -- the bytes before the point, and before the minor number
  split-point : version_text v ≡ (http ++ major) ++ (code "." ∷ minor)
  split-point = sym (append_assoc http major (code "." ∷ minor))

  before-length : length (http ++ major) ≡ e
  before-length = length-append http major

  pointed : get_or (version_text v) e 0 ≡ code "."
  pointed = ap (λ (t : List ℕ). get_or t e 0) split-point ∙ get_or_at (http ++ major) (code ".") minor 0 e before-length

  front_length : length ((http ++ major) ++ point) ≡ e + 1
  front_length = length-append (http ++ major) point ∙ omega (arith, before-length)

  split-minor : version_text v ≡ ((http ++ major) ++ point) ++ (minor ++ [])
  split-minor =
      split-point ∙ sym (append_assoc (http ++ major) point minor)
      ∙ ap (λ (t : List ℕ). ((http ++ major) ++ point) ++ t) (sym (append-nil minor))

  abbrev MinorAt : ℕ → Type 0
  MinorAt n = decimal_at largest (((http ++ major) ++ point) ++ (minor ++ [])) n ≡ Number v.minor (n + length minor)

  minor_there : decimal_at largest (version_text v) (e + 1) ≡ Number v.minor ((e + 1) + length minor)
  minor_there =
      ap (λ (t : List ℕ). decimal_at largest t (e + 1)) split-minor
      ∙ subst MinorAt front_length (numeral_reads ((http ++ major) ++ point) [] v.minor largest k end)

  pub text-reads : header rules (version_text v) ≡ value v
  text-reads =
      let major-there = numeral_reads http (code "." ∷ minor) v.major largest h stops in
      version-reads (version_text v) v.major e
      (major-reads (version_text v) short named (omega (arith, text_length v.major v.minor)) v.major e major-there)
      (omega (arith, text_length v.major v.minor)) pointed v.minor ((e + 1) + length minor) minor_there (omega (arith, text_length v.major v.minor))

-- the texts of the versions that have names
pub written_1_1 : version_text http_1_1 ≡ bytes "HTTP/1.1"
unfolding glyph digits width_in width numeral
written_1_1 = refl

pub written_1_0 : version_text http_1_0 ≡ bytes "HTTP/1.0"
unfolding glyph digits width_in width numeral
written_1_0 = refl
