-- A well-formed set is read exactly when it has at most 16 elements and no last position is below its first.
use Prim.Native.Nat.{ℕ, zero, suc, ◌-◌, ◌≤◌, ◌<◌}
use native.Mathlib.Omega.{arith}
use borrow.Author.Tests.{le-ltb, ltb-true, ltb-false}
use mathlib.Core.Path.{◌≡◌, refl, sym, ap, subst, ◌∙◌}
use mathlib.Core.Logic.{inl, inr}
use mathlib.Core.Bool.{Bool, true, false, cond, ◌&&◌}
use mathlib.Core.List.{List, [], ◌∷◌, ◌++◌, append_assoc}
use mathlib.Core.Option.{Option, none, some}
use lib.Dec.{T, ltb}
use lib.ListN.{length, take}
use Rattle.grammar.specs.Grammar.{Part, Parses, lower, past}
use Rattle.grammar.specs.Reading.{Limit, unfit, crowded, parts_before, Passes}
use Rattle.grammar.specs.Endings.{ended}
use Rattle.grammar.proofs.Derivative.{past_append}
use Rattle.grammar.proofs.Deterministic.{deterministic?, deterministic_steady}
use Rattle.grammar.proofs.Exact.{Steady}
use Rattle.grammar.proofs.Longest.{past-length}
use Rattle.grammar.proofs.Order.{Laid, ends-inside, passed_with, passes_with, Fits, fits-of, never-unfit}
use Rattle.octets.specs.Bytes.{digit?, blank?}
use Rattle.ranges.specs.Meaning.{Each, Forward}
use Rattle.ranges.specs.Grammar.{Name, opens?, last?, capped, positions, element_of, elements, opened, backward, ends_backward}
use Rattle.ranges.specs.Grammar.{byte_ranges, element_limit, limit, forward, plain_rules, rules}
use Rattle.ranges.specs.Parts.{ElementParts, InTurn}
use Rattle.ranges.proofs.Limits.{backward-last}
use Rattle.ranges.proofs.Parts.{Opened, Standing, standing}

-- no set can be read in two ways
pub one_way : T (deterministic? byte_ranges)
unfolding lower digit? blank?
one_way = tt

-- ## Forward

-- no part with a byte ends backward: each one, once it has ended
abbrev pub AllFit : List (Part Name) → Type 0
AllFit ps = (qs : List (Part Name)) (c : Part Name) (rs : List (Part Name)) → ps ≡ qs ++ c ∷ rs → 0 < length c.text
    → ends_backward (qs ++ c ∷ []) ≡ false

-- an element, by whether its last position is below its first
element-forward : (a b : Part Name) → ElementParts a b → (0 < length b.text → backward a b ≡ false) → Forward (element_of capped a b)
element-forward a b (inl e) f = rw e.0 (go b.text (λ h. ltb-false (capped b.text) (capped a.text) (below (f h))))
  where
    below : backward a b ≡ false → ltb (capped b.text) (capped a.text) ≡ false
    below g = rw e.1 at g

    go : (t : List ℕ) → (0 < length t → capped a.text ≤ capped t) → Forward (positions capped a.text t)
    go [] g = tt
    go (d ∷ t) g = g (omega arith)
element-forward a b (inr e) f = rw e.0 tt

forward-element : (a b : Part Name) → ElementParts a b → 0 < length b.text → Forward (element_of capped a b) → backward a b ≡ false
forward-element a b (inl e) h f = rw e.1 (le-ltb (capped b.text) (capped a.text) (go b.text h (rw e.0 at f)))
  where
    go : (t : List ℕ) → 0 < length t → Forward (positions capped a.text t) → capped a.text ≤ capped t
    go [] k g = absurd (omega arith)
    go (d ∷ t) k g = g
forward-element a b (inr e) h f = rw e.1

pub fit-forward : (qs rs : List (Part Name)) → InTurn rs → AllFit (qs ++ rs) → Each Forward (elements capped rs)
fit-forward qs [] w f = tt
fit-forward qs (a ∷ []) w f = absurd w
fit-forward qs (a ∷ b ∷ rs) w f = (
  element-forward a b w.0 (λ h.
      sym (ap ends_backward (append_assoc qs (a ∷ []) (b ∷ [])) ∙ backward-last qs a b)
      ∙ f (qs ++ a ∷ []) b rs (sym (append_assoc qs (a ∷ []) (b ∷ rs))) h),
  fit-forward (qs ++ a ∷ b ∷ []) rs w.1 (subst AllFit (sym (append_assoc qs (a ∷ b ∷ []) rs)) f),
)

-- a part before two others does not count
ends-behind : (a b c : Part Name) (ps : List (Part Name)) → ends_backward (a ∷ b ∷ (ps ++ c ∷ [])) ≡ ends_backward (b ∷ (ps ++ c ∷ []))
ends-behind a b c [] = refl
ends-behind a b c (d ∷ ps) = refl

pub same_tail : {A : Type 0} (x y : A) (xs ys : List A) → x ∷ xs ≡ y ∷ ys → (x ≡ y) × (xs ≡ ys)
same_tail x y xs ys e = (cc, cc)

pub no_tail : {A : Type 0} (x : A) (xs ys : List A) → [] ≡ xs ++ x ∷ ys → ⊥
no_tail x [] ys e = let z : ◌≡◌ {A = ℕ} 0 1 = cc in omega arith
no_tail x (y ∷ xs) ys e = let z : ◌≡◌ {A = ℕ} 0 1 = cc in omega arith

opener_last : (c d : Part Name) → ElementParts c d → last? c.label ≡ false
opener_last c d (inl e) = rw e.0
opener_last c d (inr e) = rw e.0

pub forward-fit : (ps : List (Part Name)) → InTurn ps → Each Forward (elements capped ps) → AllFit ps
forward-fit [] w f qs c rs e h = absurd (no_tail c qs rs e)
forward-fit (a ∷ []) w f qs c rs e h = absurd w
forward-fit (a ∷ b ∷ ps) w f [] c rs e h = refl
forward-fit (a ∷ b ∷ ps) w f (x ∷ []) c rs e h =
    let s = same_tail a x (b ∷ ps) (c ∷ rs) e in
    let t = same_tail b c ps rs s.1 in
    subst (λ (y : Part Name). backward y c ≡ false) s.0
    (subst (λ (y : Part Name). backward a y ≡ false) t.0 (forward-element a b w.0 (subst (λ (y : Part Name). 0 < length y.text) (sym t.0) h) f.0))
forward-fit (a ∷ b ∷ ps) w f (x ∷ y ∷ qs) c rs e h =
    let s = same_tail a x (b ∷ ps) (y ∷ (qs ++ c ∷ rs)) e in
    let t = same_tail b y ps (qs ++ c ∷ rs) s.1 in
    ends-behind x y c qs ∙ behind qs t.1 (forward-fit ps w.1 f.1 qs c rs t.1 h)
  where
    -- the first part of an element is compared with no other
    behind : (us : List (Part Name)) → ps ≡ us ++ c ∷ rs → ends_backward (us ++ c ∷ []) ≡ false → ends_backward (y ∷ (us ++ c ∷ [])) ≡ false
    behind [] g r = rw (opens ps g w.1)
      where
        opens : (vs : List (Part Name)) → vs ≡ c ∷ rs → InTurn vs → last? c.label ≡ false
        opens [] k i = let z : ◌≡◌ {A = ℕ} 0 1 = cc in absurd (omega arith)
        opens (d ∷ []) k i = absurd i
        opens (d ∷ g ∷ vs) k i = subst (λ (u : Part Name). last? u.label ≡ false) (same_tail d c (g ∷ vs) rs k).0 (opener_last d g i.0)
    behind (u ∷ us) g r = ends-behind y u c us ∙ r

-- ## Few

pub opened-elements : (read : List ℕ → ℕ) (ps : List (Part Name)) → InTurn ps → opened ps ≡ length (elements read ps)
opened-elements read [] w = refl
opened-elements read (a ∷ []) w = absurd w
opened-elements read (a ∷ b ∷ ps) w = go w.0 (opened-elements read ps w.1)
  where
    go : ElementParts a b → opened ps ≡ length (elements read ps) → opened (a ∷ b ∷ ps) ≡ suc (length (elements read ps))
    go (inl e) r = rw (e.0, e.1) (ap suc r)
    go (inr e) r = rw (e.0, e.1) (ap suc r)

-- a part counts or not, whatever of it stands before a place
pub opened_some : (n : ℕ) (ps : List (Part Name)) → opened (parts_before n ps) ≤ opened ps
opened_some n [] = omega arith
opened_some n (c ∷ ps) = go (ltb c.start n) (opens? c.label) refl (opened_some n ps)
  where
    cut : Part Name
    cut = record { label = c.label; start = c.start; text = take (n - c.start) c.text }

    go : (x y : Bool) → opens? c.label ≡ y → opened (parts_before n ps) ≤ opened ps
        → opened (cond x (cut ∷ parts_before n ps) (parts_before n ps)) ≤ cond y (suc (opened ps)) (opened ps)
    go true true f r = rw f (omega arith)
    go true false f r = rw f r
    go false true f r = omega arith
    go false false f r = r

opened-none : (ps : List (Part Name)) → opened (parts_before 0 ps) ≡ 0
opened-none [] = refl
opened-none (c ∷ ps) = rw (le-ltb c.start 0 (omega arith)) (opened-none ps)

-- before the end of the text all have begun
opened-all : (n i : ℕ) (t w : List ℕ) (ps : List (Part Name)) → Laid forward i t w ps → Opened ps → past i t ≤ n
    → opened (parts_before n ps) ≡ opened ps
opened-all n i t w [] h o k = refl
opened-all n i t w (c ∷ ps) h o k =
    go (ltb c.start n) (opens? c.label) refl refl (opened-all n (past c.start c.text) h.1 w ps h.5 o.1 (omega (arith, e)))
  where
    e : past i t ≡ past (past c.start c.text) h.1
    e = ap (past i) h.2 ∙ past_append i h.0 (c.text ++ h.1) ∙ past_append (past i h.0) c.text h.1
        ∙ ap (λ (m : ℕ). past (past m c.text) h.1) h.3

    cut : Part Name
    cut = record { label = c.label; start = c.start; text = take (n - c.start) c.text }

    begun : opens? c.label ≡ true → c.start < n
    begun f = omega (arith, e, k, past-length (past c.start c.text) h.1, past-length c.start c.text, o.0 f)

    go : (x y : Bool) → ltb c.start n ≡ x → opens? c.label ≡ y → opened (parts_before n ps) ≡ opened ps
        → opened (cond x (cut ∷ parts_before n ps) (parts_before n ps)) ≡ cond y (suc (opened ps)) (opened ps)
    go true true f g r = rw g (ap suc r)
    go true false f g r = rw g r
    go false true f g r = absurd (omega (arith, ltb-false c.start n f, begun g))
    go false false f g r = r

-- ## Read

module _ (n : ℕ) (s : List ℕ) (ps : List (Part Name)) (p : Parses byte_ranges 0 s ps) where
  abbrev whole : Standing 0 s [] ps
  whole = standing s ps p

  pub steady : Steady byte_ranges
  steady = deterministic_steady byte_ranges tt one_way

  -- no limit is passed
  module _ (unpassed : (k : ℕ) (l : Limit) → k ≤ length s → Passes (rules n s) s l k → ⊥) where
    pub all-forward : Each Forward (elements capped ps)
    all-forward =
        fit-forward [] ps whole.turns (λ qs c rs e h.
        fits-of forward (plain_rules n) tt steady s ps p whole.laid (λ k a v. unpassed k unfit a v) qs c rs e h
        (omega (arith, ends-inside forward 0 s [] qs c rs (subst (Laid forward 0 s []) e whole.laid), past-length 0 s)))

    pub all-few : length (elements capped ps) ≤ element_limit
    all-few = go (length s) refl (ltb element_limit (opened ps)) refl
      where
        ended-well : (k : ℕ) → suc k ≤ length s → (x : Bool)
            → (ended forward s k (parts_before (suc k) ps) && ends_backward (parts_before (suc k) ps)) ≡ x → x ≡ false
        ended-well k h true f =
            absurd (unpassed (suc k) unfit h (passes_with forward (plain_rules n) tt steady s ps p whole.laid unfit k h (rw f)))
        ended-well k h false f = refl

        go : (m : ℕ) → m ≡ length s → (x : Bool) → ltb element_limit (opened ps) ≡ x → length (elements capped ps) ≤ element_limit
        go m e false f = omega (arith, opened-elements capped ps whole.turns, ltb-false element_limit (opened ps) f)
        go zero e true f =
            let all = opened-all 0 0 s [] ps whole.laid whole.opening (omega (arith, past-length 0 s, e)) in
            absurd (omega (arith, all, opened-none ps, ltb-true element_limit (opened ps) f))
        go (suc k) e true f =
            let all = opened-all (suc k) 0 s [] ps whole.laid whole.opening (omega (arith, past-length 0 s, e)) in
            let well = ended-well k (omega (arith, e)) (ended forward s k (parts_before (suc k) ps) && ends_backward (parts_before (suc k) ps)) refl in
            absurd (unpassed (suc k) crowded (omega (arith, e))
            (passes_with forward (plain_rules n) tt steady s ps p whole.laid crowded k (omega (arith, e)) (rw (well, all, f))))

  -- few elements, and up to the place m none that ends backward
  module _ (few : length (elements capped ps) ≤ element_limit) (m : ℕ) (upto : m ≤ length s)
      (fits : Fits forward (plain_rules n) tt steady s ps p whole.laid m) where
    pub none_passed : (k : ℕ) (l : Limit) → k ≤ m → Passes (rules n s) s l k → ⊥
    none_passed zero l h v = v
    none_passed (suc k) l h v =
        go (ended forward s k (parts_before (suc k) ps) && ends_backward (parts_before (suc k) ps)) refl
        (passed_with forward (plain_rules n) tt steady s ps p whole.laid l k (omega arith) v)
      where
        other : (m : ℕ) (rs : List (Part Name)) → limit m rs ≡ some unfit → ⊥
        other m rs e = no (ltb element_limit (opened rs)) e
          where
            no : (x : Bool) → cond x (some crowded) none ≡ some unfit → ⊥
            no true f = let z : ◌≡◌ {A = ℕ} 0 1 = cc in omega arith
            no false f = let z : ◌≡◌ {A = ℕ} 0 1 = cc in omega arith

        never : Passes (rules n s) s unfit (suc k) → ⊥
        never = never-unfit forward (plain_rules n) tt steady s ps p whole.laid other m upto fits (suc k) h

        few-here : ltb element_limit (opened (parts_before (suc k) ps)) ≡ false
        few-here =
            le-ltb element_limit (opened (parts_before (suc k) ps)) (omega (arith, opened_some (suc k) ps, opened-elements capped ps whole.turns, few))

        go : (x : Bool) → (ended forward s k (parts_before (suc k) ps) && ends_backward (parts_before (suc k) ps)) ≡ x
            → cond x (some unfit) (limit k (parts_before (suc k) ps)) ≡ some l → ⊥
        go true f e = never (passes_with forward (plain_rules n) tt steady s ps p whole.laid unfit k (omega arith) (rw f))
        go false f e = let z : ◌≡◌ {A = ℕ} 0 1 = ap found (sym (rw few-here at e)) in omega arith
          where
            found : Option Limit → ℕ
            found none = 1
            found (some x) = 0

  -- all of them
  pub all_fit : Each Forward (elements capped ps) → Fits forward (plain_rules n) tt steady s ps p whole.laid (length s)
  all_fit all qs c rs e h inside = forward-fit ps whole.turns all qs c rs e h
