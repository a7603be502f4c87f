-- Equality of parameters, of sets of parameters and of media types.
use Prim.Native.Nat.{ℕ}
use mathlib.Core.Path.{◌≡◌, refl, sym, ap, ◌∙◌}
use mathlib.Core.Logic.{◌↔◌}
use mathlib.Core.Bool.{Bool, true, false, ◌&&◌, ◌||◌, true≢false, and-eq-true_iff}
use mathlib.Core.List.{List, [], ◌∷◌}
use Rattle.grammar.specs.Reading.{value}
use Rattle.grammar.specs.Comparing.{outcome}
use Rattle.grammar.specs.helpers.Judge.{header}
use Rattle.grammar.proofs.Comparing.{compare-read, compare-values}
use Rattle.octets.specs.Case.{alike}
use Rattle.octets.specs.Same.{same?}
use Rattle.octets.proofs.Alike.{alike_self, alike_swap, alike_chain}
use Rattle.octets.proofs.SameBytes.{same_self, same_list, same-is, same_swap}
use Rattle.media_equal.specs.Meaning.{charset_name, Setting, Meaning, same_text, same_setting, has_setting, has_settings, same_set, same_meaning, Agree, meanings}
use Rattle.media_equal.specs.Reading.{equality}

-- two tests of which each gives the other
both_ways : (x y : Bool) → (x ≡ true → y ≡ true) → (y ≡ true → x ≡ true) → x ≡ y
both_ways true y f g = sym (f refl)
both_ways false true f g = g refl
both_ways false false f g = refl

pub or_true : (x y : Bool) → y ≡ true → (x || y) ≡ true
or_true true y e = refl
or_true false y e = e

pub text_self : (i : Bool) (v : List ℕ) → same_text i v v ≡ true
text_self true v = alike_self v
text_self false v = same_self v

text_swap : (i : Bool) (v w : List ℕ) → same_text i v w ≡ true → same_text i w v ≡ true
text_swap true v w e = alike_swap w v ∙ e
text_swap false v w e = same_swap w v ∙ e

text_chain : (i : Bool) (u v w : List ℕ) → same_text i u v ≡ true → same_text i v w ≡ true → same_text i u w ≡ true
text_chain true u v w e f = alike_chain u v w e f
text_chain false u v w e f = ap (λ (t : List ℕ). same? t w) (same_list u v e) ∙ f

-- names that are alike are alike to the same names
alike-to : (a b c : List ℕ) → alike a b ≡ true → alike a c ≡ alike b c
alike-to a b c e = both_ways (alike a c) (alike b c) (alike_chain b a c (alike_swap b a ∙ e)) (alike_chain a b c e)

module _ (p q : Setting) where
  abbrev values : Bool
  values = same_text (alike p.name charset_name) p.value q.value

  parts : same_setting p q ≡ true → (alike p.name q.name ≡ true) × (values ≡ true)
  parts = (and-eq-true_iff (alike p.name q.name) values).0

  joined : alike p.name q.name ≡ true → values ≡ true → same_setting p q ≡ true
  joined e f = (and-eq-true_iff (alike p.name q.name) values).1 (e, f)

-- what the test of two parameters says
pub setting_is : (p q : Setting) → (same_setting p q ≡ true)
    ↔ ((alike p.name q.name ≡ true)
    × (alike p.name charset_name ≡ true → alike p.value q.value ≡ true)
    × (alike p.name charset_name ≡ false → p.value ≡ q.value))
setting_is p q = (
  λ e. ((parts p q e).0, λ f. as_case true f (parts p q e).1, λ f. same_list p.value q.value (as_case false f (parts p q e).1)),
  λ w. joined p q w.0 (go (alike p.name charset_name) w.1 w.2),
)
  where
    as_case : (t : Bool) → alike p.name charset_name ≡ t → values p q ≡ true → same_text t p.value q.value ≡ true
    as_case t f g = ap (λ (i : Bool). same_text i p.value q.value) (sym f) ∙ g

    go : (t : Bool) → (t ≡ true → alike p.value q.value ≡ true) → (t ≡ false → p.value ≡ q.value) → same_text t p.value q.value ≡ true
    go true f g = f refl
    go false f g = (same-is p.value q.value).1 (g refl)

setting_self : (p : Setting) → same_setting p p ≡ true
setting_self p = joined p p (alike_self p.name) (text_self (alike p.name charset_name) p.value)

setting_chain : (p q r : Setting) → same_setting p q ≡ true → same_setting q r ≡ true → same_setting p r ≡ true
setting_chain p q r e f =
    let x = parts p q e in
    let y = parts q r f in
    let i = alike-to p.name q.name charset_name x.0 in
    joined p r (alike_chain p.name q.name r.name x.0 y.0)
    (text_chain (alike p.name charset_name) p.value q.value r.value x.1
    (ap (λ (t : Bool). same_text t q.value r.value) i ∙ y.1))

has_chain : (p q : Setting) (rs : List Setting) → same_setting p q ≡ true → has_setting q rs ≡ true → has_setting p rs ≡ true
has_chain p q [] e f = f
has_chain p q (r ∷ rs) e f = go (same_setting q r) refl f (has_chain p q rs e)
  where
    go : (t : Bool) → same_setting q r ≡ t → (t || has_setting q rs) ≡ true → (has_setting q rs ≡ true → has_setting p rs ≡ true)
        → (same_setting p r || has_setting p rs) ≡ true
    go true g h k = rw (setting_chain p q r e g)
    go false g h k = or_true (same_setting p r) (has_setting p rs) (k h)

setting_in_all : (p : Setting) (qs rs : List Setting) → has_settings qs rs ≡ true → has_setting p qs ≡ true → has_setting p rs ≡ true
setting_in_all p [] rs e f = absurd (true≢false (sym f))
setting_in_all p (q ∷ qs) rs e f =
    let each = (and-eq-true_iff (has_setting q rs) (has_settings qs rs)).0 e in
    go (same_setting p q) refl f each.0 (setting_in_all p qs rs each.1)
  where
    go : (t : Bool) → same_setting p q ≡ t → (t || has_setting p qs) ≡ true → has_setting q rs ≡ true → (has_setting p qs ≡ true → has_setting p rs ≡ true)
        → has_setting p rs ≡ true
    go true g h first others = has_chain p q rs g first
    go false g h first others = others h

all_by : (ps qs : List Setting) → ((p : Setting) → has_setting p ps ≡ true → has_setting p qs ≡ true) → has_settings ps qs ≡ true
all_by [] qs f = refl
all_by (p ∷ ps) qs f =
    (and-eq-true_iff (has_setting p qs) (has_settings ps qs)).1
    (f p (rw (setting_self p)), all_by ps qs (λ r h. f r (or_true (same_setting r p) (has_setting r ps) h)))

-- the sets agree: a parameter is one of these just where it is one of those
pub set_is : (ps qs : List Setting) → (same_set ps qs ≡ true) ↔ ((p : Setting) → has_setting p ps ≡ has_setting p qs)
set_is ps qs = (to, λ f. both.1 (all_by ps qs (λ p h. sym (f p) ∙ h), all_by qs ps (λ p h. f p ∙ h)))
  where
    both : (same_set ps qs ≡ true) ↔ ((has_settings ps qs ≡ true) × (has_settings qs ps ≡ true))
    both = and-eq-true_iff (has_settings ps qs) (has_settings qs ps)

    to : same_set ps qs ≡ true → (p : Setting) → has_setting p ps ≡ has_setting p qs
    to e p = both_ways (has_setting p ps) (has_setting p qs) (setting_in_all p ps qs (both.0 e).0) (setting_in_all p qs ps (both.0 e).1)

module _ (m n : Meaning) where
  abbrev types_alike : Bool
  types_alike = alike m.type n.type

  abbrev subtypes_alike : Bool
  subtypes_alike = alike m.subtype n.subtype

  kinds : ((types_alike && subtypes_alike) ≡ true) ↔ ((types_alike ≡ true) × (subtypes_alike ≡ true))
  kinds = and-eq-true_iff types_alike subtypes_alike

  whole : (same_meaning m n ≡ true) ↔ (((types_alike && subtypes_alike) ≡ true) × (same_set m.settings n.settings ≡ true))
  whole = and-eq-true_iff (types_alike && subtypes_alike) (same_set m.settings n.settings)

  agree : same_meaning m n ≡ true → Agree m n
  agree e =
      let k = whole.0 e in
      let l = kinds.0 k.0 in
      record { types = l.0; subtypes = l.1; sets = (set_is m.settings n.settings).0 k.1 }

  pub meaning-is : (same_meaning m n ≡ true) ↔ Agree m n
  meaning-is = (agree, λ a. whole.1 (kinds.1 (a.types, a.subtypes), (set_is m.settings n.settings).1 a.sets))

-- ## An equivalence

pub meaning_self : (m : Meaning) → same_meaning m m ≡ true
meaning_self m = (meaning-is m m).1 (record { types = alike_self m.type; subtypes = alike_self m.subtype; sets = λ p. refl })

meaning_swap : (m n : Meaning) → same_meaning m n ≡ true → same_meaning n m ≡ true
meaning_swap m n e =
    let a = (meaning-is m n).0 e in
    (meaning-is n m).1 (record {
      types = alike_swap n.type m.type ∙ a.types;
      subtypes = alike_swap n.subtype m.subtype ∙ a.subtypes;
      sets = λ p. sym (a.sets p);
    })

pub meaning_either : (m n : Meaning) → same_meaning m n ≡ same_meaning n m
meaning_either m n = both_ways (same_meaning m n) (same_meaning n m) (meaning_swap m n) (meaning_swap n m)

pub meaning_chain : (l m n : Meaning) → same_meaning l m ≡ true → same_meaning m n ≡ true → same_meaning l n ≡ true
meaning_chain l m n e f =
    let a = (meaning-is l m).0 e in
    let b = (meaning-is m n).0 f in
    (meaning-is l n).1 (record {
      types = alike_chain l.type m.type n.type a.types b.types;
      subtypes = alike_chain l.subtype m.subtype n.subtype a.subtypes b.subtypes;
      sets = λ p. a.sets p ∙ b.sets p;
    })

-- ## Of two texts

module _ (a b : List ℕ) where
  abbrev Equal : Type 0
  Equal = (m : Meaning) × (n : Meaning) × (header meanings a ≡ value m) × (header meanings b ≡ value n) × Agree m n

  pub equality-is : (equality a b ≡ outcome true) ↔ Equal
  equality-is = (to, of)
    where
      to : equality a b ≡ outcome true → Equal
      to e =
          let c = compare-values same_meaning (header meanings a) (header meanings b) true e in
          (c.0, c.1, c.2, c.3, (meaning-is c.0 c.1).0 c.4)

      of : Equal → equality a b ≡ outcome true
      of w =
          compare-read same_meaning (header meanings a) (header meanings b) w.0 w.1 w.2 w.3
          ∙ ap outcome ((meaning-is w.0 w.1).1 w.4)
