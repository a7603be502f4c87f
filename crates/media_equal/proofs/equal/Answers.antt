-- `media_equal::equal` meets its contract: by the two readings, and what each says.
use Rattle.std.proofs.Common.{◌≡◌, Bool, Result, Ok, Err, MatchResult, IsErrAnd, sym, refl, ap, ap₂, ◌∙◌}
use Rattle.octets.specs.Comparing.{comparison}
use Rattle.grammar.specs.Comparing.{compare, outcome}
use Rattle.grammar.specs.helpers.Judge.{header}
use Rattle.octets.specs.declared.Refusal.{Refusal}
use Rattle.octets.specs.declared.PairRefusal.{PairRefusal}
use Rattle.octets.specs.declared.PairRefusal.TheVariants.{First, Second}
use Rattle.media.specs.Reading.{verdict}
use Rattle.media.specs.declared.Media.{Media}
use Rattle.media_equal.specs.Meaning.{same_meaning, meanings}
use Rattle.media_equal.proofs.Places.{read-means, refused-alike}
use Rattle.media_equal.proofs.equal.Goals as goal

-- a reading that was refused, and its refusal as the comparison tells it
mapped : (f : Refusal → PairRefusal) (r : Result Media Refusal) (y : Result Media PairRefusal) (z : PairRefusal)
    → MatchResult r (λ x. y ≡ Ok x) (λ e. IsErrAnd y (λ p. p ≡ f e)) → y ≡ Err z → (e : Refusal) × (r ≡ Err e) × (z ≡ f e)
mapped f (Ok x) y z h k = absurd (let e = sym h ∙ k in cc)
mapped f (Err e) (Ok u) z h k = absurd cc
mapped f (Err e) (Err u) z h k = (e, refl, let g : u ≡ z = cc in sym g ∙ h)

-- a reading that was not
kept : (f : Refusal → PairRefusal) (r : Result Media Refusal) (y : Result Media PairRefusal) (u : Media)
    → MatchResult r (λ x. y ≡ Ok x) (λ e. IsErrAnd y (λ p. p ≡ f e)) → y ≡ Ok u → r ≡ Ok u
kept f (Ok x) y u h k = let e = sym h ∙ k in cc
kept f (Err e) (Ok v) u h k = absurd h
kept f (Err e) (Err v) u h k = absurd cc

-- the error that `?` passes on
passed : (r : Result Bool PairRefusal) (z : PairRefusal) → IsErrAnd r (λ y. y ≡ z) → comparison r ≡ comparison (Err z)
passed (Ok b) z h = absurd h
passed (Err u) z h = ap (λ (y : PairRefusal). comparison {T = Bool} (Err y)) h

pub returns-in_err-m : goal.returns-in_err-m
returns-in_err-m c =
    let x = c.args in
    let m = mapped First c.read.result c.map_err.result c.in_err-m.field-0.0 c.map_err.ensures.cases c.in_err-m.was in
    let r = refused-alike x.a.now m.0 (sym (ap verdict m.1) ∙ c.read.ensures.0) in
    passed c.from_residual.result _ c.from_residual.ensures.1
    ∙ rw m.2 (sym (ap (λ v. compare same_meaning v (header meanings x.b.now)) r))

pub returns-in_err-n : goal.returns-in_err-n
returns-in_err-n c =
    let x = c.args in
    let o = kept First c.read.result c.map_err.result _ c.map_err.ensures.cases c.in_ok-m.was in
    let k = read-means x.a.now c.in_ok-m.m (sym (ap verdict o) ∙ c.read.ensures.0) in
    let m = mapped Second c.read-2.result c.map_err-2.result c.in_err-n.field-0.0 c.map_err-2.ensures.cases c.in_err-n.was in
    let r = refused-alike x.b.now m.0 (sym (ap verdict m.1) ∙ c.read-2.ensures.0) in
    passed c.from_residual-in_err-n.result _ c.from_residual-in_err-n.ensures.1
    ∙ rw m.2 (sym (ap₂ (compare same_meaning) k r))

pub returns : goal.returns
returns c =
    let x = c.args in
    let o = kept First c.read.result c.map_err.result _ c.map_err.ensures.cases c.in_ok-m.was in
    let q = kept Second c.read-2.result c.map_err-2.result _ c.map_err-2.ensures.cases c.in_ok-n.was in
    let k = read-means x.a.now c.in_ok-m.m (sym (ap verdict o) ∙ c.read.ensures.0) in
    let l = read-means x.b.now c.in_ok-n.n (sym (ap verdict q) ∙ c.read-2.ensures.0) in
    ap outcome c.same_media.ensures ∙ sym (ap₂ (compare same_meaning) k l)
