-- `url_normal::Parsed::write` meets its contract: too long, no room, or all put.
use native.Mathlib.Omega.{arith}
use Rattle.url_equal.specs.Places.{page_in}
use Rattle.url_normal.specs.Normal.{normal}
use Rattle.url_normal.proofs.Answers.{too_long, no_room, all-put}
use Rattle.url_normal.proofs.Parsed.write.Goals as goal

pub returns-then-len-gt-VALUE_LIMIT : goal.returns-then-len-gt-VALUE_LIMIT
returns-then-len-gt-VALUE_LIMIT c =
    let x = c.args in
    let r = too_long (normal (page_in x.self.text.now x.self.url)) x.out.now (omega (arith, c.len_or_bound-len.ensures.exact (omega arith))) in
    record { answers = r.0; writes = r.1 }

pub returns-then-out-len : goal.returns-then-out-len
returns-then-out-len c =
    let x = c.args in
    let l = c.len_or_bound-len.ensures.exact (omega arith) in
    let r = no_room (normal (page_in x.self.text.now x.self.url)) x.out.now (omega (arith, l)) (omega (arith, l)) in
    record { answers = r.0; writes = r.1 }

pub returns : goal.returns
returns c =
    let p = c.put in
    let x = c.args in
    let l = c.len_or_bound-len.ensures.bounds in
    let r = all-put (normal (page_in x.self.text.now x.self.url)) x.out.now p.result p.new.out p.ensures.counts (omega (arith, l)) (omega (arith, l)) p.ensures.writes in
    record { answers = r.0; writes = r.1 }
