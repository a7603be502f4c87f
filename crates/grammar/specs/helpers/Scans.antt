-- For the contracts of readers that are written as scans.
use Rattle.std.specs.Prelude.{ℕ, ◌-◌, List, take, drop}
use Rattle.grammar.specs.Grammar.{Grammar}
use Rattle.grammar.specs.Reading.{Rules, Verdict}
use Rattle.grammar.specs.helpers.Judge.{judge}

-- the bytes of s from i up to e
abbrev pub slice : List ℕ → ℕ → ℕ → List ℕ
slice s i e = take (e - i) (drop i s)

-- the judgement of what stands at i in s, where g is left of the grammar
abbrev pub from : {L A : Type 0} → Rules L A → List ℕ → Grammar L → ℕ → Verdict A
from r s g i = judge r g (drop i s) i
