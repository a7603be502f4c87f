-- The answer.
use Rattle.std.specs.Prelude.{ℕ, cond, List}
use Rattle.grammar.specs.Refusals.{OUT_OF_RANGE}
use Rattle.grammar.specs.Reading as G
use Rattle.grammar.specs.Reading.{Verdict}
use Rattle.grammar.specs.helpers.Judge.{header}
use Rattle.date.specs.declared.Date.{Date}
use Rattle.date.specs.Years.{present_year?}
use Rattle.date.specs.Grammar.{rules}

-- the answer to s in the present year y: "Y is 1632 to 9949, otherwise refusal 9 before anything is read."
abbrev pub reading : (present : ℕ) → List ℕ → Verdict Date
reading y s = cond (present_year? y) (header (rules y) s) (G.refused OUT_OF_RANGE 0)
