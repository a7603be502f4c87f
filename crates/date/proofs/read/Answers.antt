-- `date::read` meets its contract: the present year, the length of the value, then the name of the day.
use mathlib.Core.Path.{◌≡◌, refl, sym, ◌∙◌}
use mathlib.Core.Bool.{true}
use Rattle.std.proofs.Common.{arith}
use Rattle.std.proofs.lemmas.Grind.{common_steps}
use Rattle.date.specs.Years.{present_year?}
use Rattle.date.proofs.Scan.{found-day, missed_day}
use Rattle.date.proofs.Tables.{numbered-none, numbered-some}
use Rattle.date.proofs.Years.{is_present, reading-within}
use Rattle.date.proofs.read.Goals as goal
use Rattle.date.proofs.read.Goals.{Else-not-contains}

-- behind the test of the present year
within : (c : Else-not-contains) → present_year? c.args.present_year ≡ true
within c = grind (arith, common_steps)

pub returns-in_default : goal.returns-in_default
returns-in_default c =
    let a = c.args in
    let y = within ((goal.at.returns-in_default c).Else-not-contains) in
    sym (missed_day a.present_year (is_present a.present_year y) a.s.now c.in_ok-check_length.ensures _ _ refl
    (numbered-none _ c.in_default.ensures) c.longest_at.ensures)
    ∙ reading-within a.present_year a.s.now y

pub read_form-requires : goal.read_form-requires
read_form-requires c =
    let a = c.args in
    let y = within ((goal.at.read_form-requires c).Else-not-contains) in
    let n = numbered-some _ _ c.in-Some.ensures in
    found-day a.present_year (is_present a.present_year y) a.s.now c.in_ok-check_length.ensures _ n.0 n.1
