-- The theorems of versions: what a customer reads.
use Prim.Native.Nat.{ℕ, ◌≤◌, ◌<◌}
use mathlib.Core.Path.{◌≡◌, sym, ap, ◌∙◌}
use native.Mathlib.Omega.{arith}
use mathlib.Core.Logic.{◌⊎◌, ◌↔◌}
use mathlib.Core.Bool.{true}
use mathlib.Core.List.{List}
use lib.Dec.{T}
use lib.ListN.{length, take}
use Rattle.grammar.specs.Grammar.{lower}
use Rattle.grammar.specs.Reading.{above, Verdict, value, Breaks, Answers}
use Rattle.grammar.specs.Text.{bytes}
use Rattle.grammar.specs.helpers.Judge.{header}
use Rattle.grammar.proofs.Deterministic.{deterministic?}
use Rattle.grammar.proofs.Demands as G
use Rattle.grammar.proofs.Demands.{answered_exactly}
use Rattle.scans.proofs.Limits.{number_stays}
use Rattle.octets.specs.Bytes.{digit?}
use Rattle.octets.proofs.Writing.{stands_in_front}
use Rattle.version_writer.proofs.Writer.{both-within}
use Rattle.version.specs.declared.Version.{Version}
use Rattle.std.specs.declared.cmp.Ordering.TheVariants.{Less, Equal, Greater}
use Rattle.version.specs.Grammar.{version, largest, rules}
use Rattle.version.specs.Reading.{precedence, http_1_1, http_1_0}
use Rattle.version.specs.Writing.{version_text, too_large, version_writing, version_output}
use Rattle.version.proofs.Back.{text-reads, written_1_1, written_1_0}
use Rattle.version.proofs.Ordering.{less_is, equal_is, greater_is}

one_way : T (deterministic? version)
unfolding lower digit?
one_way = tt

-- What `Version::read` answers (its promise is `header rules s`): the value of a well-formed text, or the refusal of the row that
-- applies first, and nothing else.
pub reading : (s : List ℕ) (v : Verdict Version) → (header rules s ≡ v) ↔ Answers rules s v
reading = answered_exactly rules tt tt one_way

-- Row 2 has one place: "the digit that passes it", and no byte behind that digit breaks the limit again.
pub one_place : (s : List ℕ) (j k : ℕ) → Breaks rules s above j → Breaks rules s above k → j ≡ k
one_place = G.one_place rules tt tt one_way above (number_stays (λ l. true) largest)

-- What the writer gives reads back: for every version that it accepts.
module _ (v : Version) (h : v.major ≤ largest) (k : v.minor ≤ largest) where
  pub reads-back : header rules (version_text v) ≡ value v
  reads-back = text-reads v h k

  -- It does so from the lent output: where that holds the text, the answer is the text's length, and that many bytes of the output read as
  -- the version, whatever stood there before.
  pub reads-back-from : (old : List ℕ) → length (version_text v) ≤ length old
      → (version_writing v (length old) ≡ value (length (version_text v)))
      × (header rules (take (length (version_text v)) (version_output v old)) ≡ value v)
  reads-back-from old room =
      let w = stands_in_front (too_large v) (version_text v) old (both-within v.major v.minor h k) room in
      (w.0, ap (header rules) w.1 ∙ reads-back)

-- "Version 1.1 and version 1.0 are named constants of the version itself": each is written as its text, and its text reads as it. That the
-- constants of the code are these versions is a promise of `Version::compare`.
pub version_1_1 : (version_text http_1_1 ≡ bytes "HTTP/1.1") × (header rules (bytes "HTTP/1.1") ≡ value http_1_1)
version_1_1 = (written_1_1, ap (header rules) (sym written_1_1) ∙ reads-back http_1_1 (omega arith) (omega arith))

pub version_1_0 : (version_text http_1_0 ≡ bytes "HTTP/1.0") × (header rules (bytes "HTTP/1.0") ≡ value http_1_0)
version_1_0 = (written_1_0, ap (header rules) (sym written_1_0) ∙ reads-back http_1_0 (omega arith) (omega arith))

-- "Ordered by major, then minor, as numbers."
module _ (v w : Version) where
  pub less : (precedence v w ≡ Less) ↔ ((v.major < w.major) ⊎ ((v.major ≡ w.major) × (v.minor < w.minor)))
  less = less_is v.major v.minor w.major w.minor

  pub equal : (precedence v w ≡ Equal) ↔ ((v.major ≡ w.major) × (v.minor ≡ w.minor))
  equal = equal_is v.major v.minor w.major w.minor

-- one is greater just where the other is less
pub greater : (v w : Version) → (precedence v w ≡ Greater) ↔ (precedence w v ≡ Less)
greater v w =
    let g = greater_is v.major v.minor w.major w.minor in
    let l = less w v in
    (λ e. l.1 (g.0 e), λ e. g.1 (l.0 e))
