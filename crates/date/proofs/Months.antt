-- The months of the grammar are the names of the table.
use Prim.Native.Nat.{ℕ, zero, suc, ◌+◌, ◌-◌, ◌*◌, ◌≤◌}
use native.Mathlib.Omega.{arith}
use mathlib.Core.Path.{◌≡◌, refl, sym, ap, ap₂, subst, ◌∙◌}
use mathlib.Core.Logic.{inl, inr}
use mathlib.Core.Bool.{Bool, true, false, cond, ◌&&◌, true≢false}
use mathlib.Core.List.{List, [], ◌∷◌, ◌++◌}
use lib.Dec.{T, ltb, eqb, eqb_refl, eqb→eq}
use lib.ListN.{length, get_or}
use borrow.Author.Tests.{eqb-true}
use Rattle.grammar.specs.Grammar.{Part, Grammar, Parses, empty, part, lit, past, bytes?, T-right}
use Rattle.grammar.specs.Text.{bytes}
use Rattle.grammar.specs.helpers.Words.{begins}
use Rattle.date.specs.Grammar.{Name, month, months}
use Rattle.date.specs.Names.{month_names, first_name}

-- the text s at i is one of g's, and ps are its parts
pub record Of (g : Grammar Name) (i : ℕ) (s : List ℕ) (ps : List (Part Name)) : Type 0 where
  pub is : Parses g i s ps

abbrev pub mark : Name → ℕ → Part Name
mark l i = record { label = l; start = i; text = [] }

abbrev pub number_part : Name → ℕ → List ℕ → Part Name
number_part l i t = record { label = l; start = i; text = t }

pub lit-of : {g : Grammar Name} {u : List ℕ} {ps : List (Part Name)} (l : List ℕ) (p : T (bytes? l)) (i : ℕ) → Of g (past i l) u ps → Of (lit l p g) i (l ++ u) ps
lit-of {g} {u} {ps} l p i h = record { is = go l p i h.is }
  where
    go : (l : List ℕ) (p : T (bytes? l)) (i : ℕ) → Parses g (past i l) u ps → Parses (lit l p g) i (l ++ u) ps
    go [] p i h = h
    go (b ∷ l) p i h = (b ∷ [], l ++ u, [], ps, refl, refl, (b, refl, eqb_refl b, refl), go l (T-right (ltb b 256) (bytes? l) p) (suc i) h)

-- ## Names

-- the name with the place k in a table, and then the rest
abbrev pub name_of : (names : List ℕ) (k : ℕ) (rest : List ℕ) → List ℕ
name_of names k rest = get_or names (3 * k) 0 ∷ get_or names (3 * k + 1) 0 ∷ get_or names (3 * k + 2) 0 ∷ rest

word : (l : Name) (w : List ℕ) (p : T (bytes? w)) (i : ℕ) → Parses (lit w p (part l empty)) i (w ++ []) (mark l (past i w) ∷ [])
word l w p i = (lit-of {g = part l empty} {u = []} {ps = mark l (past i w) ∷ []} w p i (record { is = ([], refl, (refl, refl)) })).is

pub month-word : (m : ℕ) → 1 ≤ m → m ≤ 12 → (i : ℕ) → Parses months i (name_of month_names (m - 1) []) (mark (month m) (suc (suc (suc i))) ∷ [])
month-word zero a b i = absurd (omega arith)
month-word (suc zero) a b i = inl (word (month 1) (bytes "Jan") tt i)
month-word (suc (suc zero)) a b i = inr (inl (word (month 2) (bytes "Feb") tt i))
month-word (suc (suc (suc zero))) a b i = inr (inr (inl (word (month 3) (bytes "Mar") tt i)))
month-word (suc (suc (suc (suc zero)))) a b i = inr (inr (inr (inl (word (month 4) (bytes "Apr") tt i))))
month-word (suc (suc (suc (suc (suc zero))))) a b i = inr (inr (inr (inr (inl (word (month 5) (bytes "May") tt i)))))
month-word (suc (suc (suc (suc (suc (suc zero)))))) a b i = inr (inr (inr (inr (inr (inl (word (month 6) (bytes "Jun") tt i))))))
month-word (suc (suc (suc (suc (suc (suc (suc zero))))))) a b i = inr (inr (inr (inr (inr (inr (inl (word (month 7) (bytes "Jul") tt i)))))))
month-word (suc (suc (suc (suc (suc (suc (suc (suc zero)))))))) a b i = inr (inr (inr (inr (inr (inr (inr (inl (word (month 8) (bytes "Aug") tt i))))))))
month-word (suc (suc (suc (suc (suc (suc (suc (suc (suc zero))))))))) a b i = inr (inr (inr (inr (inr (inr (inr (inr (inl (word (month 9) (bytes "Sep") tt i)))))))))
month-word (suc (suc (suc (suc (suc (suc (suc (suc (suc (suc zero)))))))))) a b i = inr (inr (inr (inr (inr (inr (inr (inr (inr (inl (word (month 10) (bytes "Oct") tt i))))))))))
month-word (suc (suc (suc (suc (suc (suc (suc (suc (suc (suc (suc zero))))))))))) a b i = inr (inr (inr (inr (inr (inr (inr (inr (inr (inr (inl (word (month 11) (bytes "Nov") tt i)))))))))))
month-word (suc (suc (suc (suc (suc (suc (suc (suc (suc (suc (suc (suc zero)))))))))))) a b i = inr (inr (inr (inr (inr (inr (inr (inr (inr (inr (inr (word (month 12) (bytes "Dec") tt i)))))))))))
month-word (suc (suc (suc (suc (suc (suc (suc (suc (suc (suc (suc (suc (suc n))))))))))))) a b i = absurd (omega arith)

-- and back: a name of a month is the first of the table that agrees
word_back : (l : Name) (w : List ℕ) (p : T (bytes? w)) (i : ℕ) (t : List ℕ) (ps : List (Part Name))
    → Parses (lit w p (part l empty)) i t ps → (t ≡ w) × (ps ≡ mark l (past i w) ∷ [])
word_back l [] p i t ps h =
    (h.2.0, h.1 ∙ ap₂ (λ (x : List ℕ) (qs : List (Part Name)). number_part l i x ∷ qs) h.2.0 h.2.1)
word_back l (b ∷ w) p i t ps h =
    let q = T-right (ltb b 256) (bytes? w) p in
    let f = h.6 in
    let k = word_back l w q (suc i) h.1 h.3 (subst (λ (x : List ℕ). Parses (lit w q (part l empty)) (past i x) h.1 h.3) f.1 h.7) in
    (h.4 ∙ ap (λ (x : List ℕ). x ++ h.1) f.1 ∙ ap₂ ◌∷◌ (eqb→eq f.0 b f.2) k.0, h.5 ∙ ap₂ ◌++◌ f.3 k.1)

-- a text of three bytes is the name with the number that the search finds
begins_three : (a b c : ℕ) (t : List ℕ) → length t ≡ 3 → begins (a ∷ b ∷ c ∷ []) t ≡ true → t ≡ a ∷ b ∷ c ∷ []
begins_three a b c [] l e = absurd (omega arith)
begins_three a b c (x ∷ []) l e = absurd (omega arith)
begins_three a b c (x ∷ y ∷ []) l e = absurd (omega arith)
begins_three a b c (x ∷ y ∷ z ∷ w ∷ t) l e = absurd (omega arith)
begins_three a b c (x ∷ y ∷ z ∷ []) l e =
    let p = both (eqb x a) (eqb y b && (eqb z c && true)) e in
    let q = both (eqb y b) (eqb z c && true) p.1 in
    rw (eqb-true x a p.0, eqb-true y b q.0, eqb-true z c (both (eqb z c) true q.1).0)
  where
    both : (u v : Bool) → u && v ≡ true → (u ≡ true) × (v ≡ true)
    both true v e = (refl, e)
    both false v e = absurd (true≢false (sym e))

abbrev Named : (n : ℕ) (names t : List ℕ) (k : ℕ) → Type 0
Named n names t k = (j : ℕ) × (k ≡ n + j) × (3 * j + 3 ≤ length names) × (t ≡ name_of names j [])

named_there : (n : ℕ) (names t : List ℕ) (k : ℕ) → length t ≡ 3 → first_name (suc n) names t ≡ suc k → Named n names t k
unfolding first_name
named_there n [] t k l e = absurd (omega (arith, e))
named_there n (a ∷ []) t k l e = absurd (omega (arith, e))
named_there n (a ∷ b ∷ []) t k l e = absurd (omega (arith, e))
named_there n (a ∷ b ∷ c ∷ xs) t k l e = go (begins (a ∷ b ∷ c ∷ []) t) refl (first_name (suc (suc n)) xs t) e (named_there (suc n) xs t k l)
  where
    shift : (j : ℕ) → name_of xs j [] ≡ name_of (a ∷ b ∷ c ∷ xs) (suc j) []
    shift j =
        let x : 3 * suc j ≡ suc (suc (suc (3 * j))) = omega arith in
        let y : 3 * suc j + 1 ≡ suc (suc (suc (3 * j + 1))) = omega arith in
        let z : 3 * suc j + 2 ≡ suc (suc (suc (3 * j + 2))) = omega arith in
        rw (z, y, x)

    go : (x : Bool) → begins (a ∷ b ∷ c ∷ []) t ≡ x → (m : ℕ) → cond x (suc n) m ≡ suc k → (m ≡ suc k → Named (suc n) xs t k) → Named n (a ∷ b ∷ c ∷ xs) t k
    go true f m e r = (0, omega (arith, e), omega arith, begins_three a b c t l f)
    go false f m e r =
        let p = r e in
        (suc p.0, omega (arith, p.1), omega (arith, p.2), p.3 ∙ shift p.0)

module _ (i : ℕ) (t : List ℕ) (ps : List (Part Name)) where
  -- the text is of three bytes, and the first name that agrees has the number of the month
  abbrev pub FirstName : Type 0
  FirstName = (k : ℕ) × (length t ≡ 3) × (first_name 1 month_names t ≡ suc k)
      × (ps ≡ record { label = month (suc k); start = suc (suc (suc i)); text = [] } ∷ [])

  by_name : (k : ℕ) (w : List ℕ) (p : T (bytes? w)) → length w ≡ 3 → first_name 1 month_names w ≡ suc k → past i w ≡ suc (suc (suc i))
      → Parses (lit w p (part (month (suc k)) empty)) i t ps → FirstName
  by_name k w p l e n h =
      let q = word_back (month (suc k)) w p i t ps h in
      (k, ap length q.0 ∙ l, ap (first_name 1 month_names) q.0 ∙ e, q.1 ∙ ap (λ (j : ℕ). mark (month (suc k)) j ∷ []) n)

  pub month-first : Parses months i t ps → FirstName
  unfolding first_name
  month-first (inl h) = by_name 0 (bytes "Jan") tt refl refl refl h
  month-first (inr (inl h)) = by_name 1 (bytes "Feb") tt refl refl refl h
  month-first (inr (inr (inl h))) = by_name 2 (bytes "Mar") tt refl refl refl h
  month-first (inr (inr (inr (inl h)))) = by_name 3 (bytes "Apr") tt refl refl refl h
  month-first (inr (inr (inr (inr (inl h))))) = by_name 4 (bytes "May") tt refl refl refl h
  month-first (inr (inr (inr (inr (inr (inl h)))))) = by_name 5 (bytes "Jun") tt refl refl refl h
  month-first (inr (inr (inr (inr (inr (inr (inl h))))))) = by_name 6 (bytes "Jul") tt refl refl refl h
  month-first (inr (inr (inr (inr (inr (inr (inr (inl h)))))))) = by_name 7 (bytes "Aug") tt refl refl refl h
  month-first (inr (inr (inr (inr (inr (inr (inr (inr (inl h))))))))) = by_name 8 (bytes "Sep") tt refl refl refl h
  month-first (inr (inr (inr (inr (inr (inr (inr (inr (inr (inl h)))))))))) = by_name 9 (bytes "Oct") tt refl refl refl h
  month-first (inr (inr (inr (inr (inr (inr (inr (inr (inr (inr (inl h))))))))))) = by_name 10 (bytes "Nov") tt refl refl refl h
  month-first (inr (inr (inr (inr (inr (inr (inr (inr (inr (inr (inr h))))))))))) = by_name 11 (bytes "Dec") tt refl refl refl h

  pub first-month : FirstName → Parses months i t ps
  first-month (k, l, e, q) =
      let p = named_there 0 month_names t k l e in
      let z : suc k - 1 ≡ p.0 = omega (arith, p.1) in
      subst (Parses months i t) (sym q)
      (subst (λ (x : List ℕ). Parses months i x (mark (month (suc k)) (suc (suc (suc i))) ∷ []))
      (ap (λ (j : ℕ). name_of month_names j []) z ∙ sym p.3)
      (month-word (suc k) (omega arith) (omega (arith, p.1, p.2)) i))
