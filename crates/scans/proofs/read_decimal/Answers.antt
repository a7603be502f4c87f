-- `scans::read_decimal` meets its contract: with the number read so far in front, what is left reads as the whole does.
use Rattle.std.proofs.Common.{◌≡◌, ℕ, ◌≤◌, Bool, true, false, ltb, List, length, max, get_or, sym, refl, ap, ◌∙◌, arith, eq-eqb, le-ltb, lt-ltb, leb-false, leb-true, ltb-false, ltb-true}
use Rattle.octets.specs.Bytes.{digit?}
use Rattle.octets.specs.Numbers.{grow}
use Rattle.octets.proofs.Bytes.{digit_low, digit_high}
use Rattle.octets.proofs.Tables.{digit_bits}
use Rattle.scans.specs.declared.Decimal.TheVariants.{Above}
use Rattle.scans.specs.helpers.Decimals.{number_from, decimal_at}
use Rattle.scans.proofs.Numbers.{decimal_from, decimal_start, decimal_out, decimal_stop, decimal_above, decimal_next}
use Rattle.scans.proofs.read_decimal.Goals as goal

-- a number is the whole reading where the text ends, behind it or before it
ended : (limit from v : ℕ) (s : List ℕ) (i m : ℕ) → length s ≤ i → (from ≤ length s → i ≤ length s) → m ≡ max from (length s)
    → decimal_from limit from v s i ≡ decimal_at limit s from → number_from v from m ≡ decimal_at limit s from
ended limit from v s i m h k e d = go (ltb (length s) from) refl
  where
    go : (x : Bool) → ltb (length s) from ≡ x → number_from v from m ≡ decimal_at limit s from
    go true f =
        let b = ltb-true (length s) from f in
        let a : m ≡ from = omega arith in
        rw (a, eq-eqb from from refl)
        (rw (eq-eqb from from refl) at (sym (decimal_out limit from 0 s from (omega arith)) ∙ decimal_start limit s from))
    go false f =
        let b = ltb-false (length s) from f in
        let a : m ≡ i = omega arith in
        rw a (sym (decimal_out limit from v s i h) ∙ d)

pub loop-i-init : goal.loop-i-init
loop-i-init c = (omega arith, decimal_start c.args.limit c.args.s.now c.args.from)

pub returns-then-not-is_digit : goal.returns-then-not-is_digit
returns-then-not-is_digit c =
    let l = c.loop-i in
    let x = c.args in
    let e = sym c.is_digit.ensures ∙ c.if-not-is_digit.true in
    c.found.ensures
    ∙ sym (decimal_stop x.limit x.from l.value x.s.now l.i c.loop-i-test.true e) ∙ l.invariant.1

pub overflow_sub-digit : goal.overflow_sub-digit
overflow_sub-digit c = digit_low _ (sym c.is_digit.ensures ∙ c.if-not-is_digit.false)

pub overflow_cast-digit : goal.overflow_cast-digit
overflow_cast-digit c = omega (arith, c.type_inv.s c.loop-i.i)

pub fits-requires : goal.fits-requires
fits-requires c =
    let d = sym c.is_digit.ensures ∙ c.if-not-is_digit.false in
    omega (arith, digit_high _ d)

pub overflow_mul-value : goal.overflow_mul-value
overflow_mul-value c =
    let l = c.loop-i in
    let x = c.args in
    omega (arith, leb-true (grow l.value (get_or x.s.now l.i 0)) x.limit (sym c.fits.ensures ∙ c.if-fits.true))

pub overflow_add-value : goal.overflow_add-value
overflow_add-value c =
    let l = c.loop-i in
    let x = c.args in
    omega (arith, leb-true (grow l.value (get_or x.s.now l.i 0)) x.limit (sym c.fits.ensures ∙ c.if-fits.true))

pub returns-else-fits : goal.returns-else-fits
returns-else-fits c =
    let l = c.loop-i in
    let x = c.args in
    let d = sym c.is_digit.ensures ∙ c.if-not-is_digit.false in
    let a = leb-false (grow l.value (get_or x.s.now l.i 0)) x.limit (sym c.fits.ensures ∙ c.if-fits.false) in
    ap (Above l.i) (c.class_end.ensures digit? digit_bits)
    ∙ sym (decimal_above x.limit x.from l.value x.s.now l.i c.loop-i-test.true d (lt-ltb _ _ a)) ∙ l.invariant.1

pub loop-i-preserved : goal.loop-i-preserved
loop-i-preserved c =
    let l = c.loop-i in
    let x = c.args in
    let d = sym c.is_digit.ensures ∙ c.if-not-is_digit.false in
    let a = leb-true (grow l.value (get_or x.s.now l.i 0)) x.limit (sym c.fits.ensures ∙ c.if-fits.true) in
    (a, decimal_next x.limit x.from l.value x.s.now l.i c.loop-i-test.true d (le-ltb _ _ a) ∙ l.invariant.1)

pub returns : goal.returns
returns c =
    let l = c.loop-i in
    let x = c.args in
    c.found-2.ensures
    ∙ ended x.limit x.from l.value x.s.now l.i c.max.result c.loop-i-test.false l.auto.i-end c.max.ensures l.invariant.1
