-- Loops that copy a run of bytes to the front of others.
use mathlib.Core.Path.{◌≡◌, refl, sym, ◌∙◌, ap, ap₂}
use mathlib.Core.List.{List, [], ◌∷◌, ◌++◌, append_assoc, append-nil}
use Prim.Native.Nat.{ℕ, suc, ◌+◌, ◌-◌, ◌*◌, ◌<◌, ◌≤◌, min}
use native.Mathlib.Numerals.{add-one}
use native.Mathlib.Omega.{arith}
use lib.ListN.{length, get_or, take, drop, set, length-append, length-drop}
use lib.Seq.{take-add, drop_at, take-take, take-append-le, drop-drop}
use lib.Seq.{drop-append-add, take-suc, drop-cons, set_at, take_all, length-take-le}
use lib.ListN.{drop_of_length-le}
use Rattle.numerals.specs.Numeral.{put}
use Rattle.numerals.proofs.Digits.{put-fits}
use Rattle.copying.specs.helpers.Runs.{Front, block_at}

module _ {old src new : List ℕ} {k : ℕ} (fits : length src ≤ length old) (h : Front old src new k) where
  pub front_length : length new ≡ length old
  front_length =
      omega (
        arith,
        ap length h.is,
        length-append (take k src) (drop k old),
        length-take-le k src h.within,
        length-drop k old,
      )

  pub front-on : k < length src → Front old src (set new k (get_or src k 0)) (k + 1)
  front-on lt = record {
    is = ap (λ (z : List ℕ). set z k (get_or src k 0)) (h.is ∙ ap (λ (z : List ℕ). take k src ++ z) (drop-cons old k 0 (omega arith)))
        ∙ set_at (take k src) (get_or old k 0) (drop (suc k) old) (get_or src k 0) k (length-take-le k src h.within)
        ∙ sym (append_assoc (take k src) (get_or src k 0 ∷ []) (drop (suc k) old))
        ∙ ap (λ (z : List ℕ). z ++ drop (suc k) old) (sym (take-suc src k 0 lt))
        ∙ ap (λ (n : ℕ). take n src ++ drop n old) (sym (add-one k));
    within = omega arith;
  }

  pub front-all : length src ≤ k → new ≡ src ++ drop (length src) old
  front-all ge =
      let e : k ≡ length src = omega (arith, h.within) in
      h.is ∙ ap₂ (λ (y : List ℕ) (n : ℕ). y ++ drop n old) (take_all k src ge) e

module _ {old src new : List ℕ} {k : ℕ} (h : Front old src new k) where
  short-front : length (take k src) ≡ k
  short-front = length-take-le k src h.within

  -- what is copied goes on from there
  pub front-from : Front new src new k
  front-from = record {
    is = h.is
        ∙ ap (λ (z : List ℕ). take k src ++ z)
        (sym (drop_at (take k src) (drop k old) k short-front) ∙ ap (drop k) (sym h.is));
    within = h.within;
  }

  -- what stands behind is as it was
  pub front-behind : drop (length src) new ≡ drop (length src) old
  front-behind =
      let r : ℕ = length src - k in
      let e : length src ≡ length (take k src) + r = omega (arith, short-front, h.within) in
      let f : k + r ≡ length src = omega (arith, h.within) in
      ap (drop (length src)) h.is
      ∙ ap (λ (n : ℕ). drop n (take k src ++ drop k old)) e
      ∙ drop-append-add (take k src) (drop k old) r
      ∙ drop-drop r k old
      ∙ ap (λ (n : ℕ). drop n old) f

-- bytes of one length are replaced
pub replaced : (old src : List ℕ) → length old ≡ length src → src ++ drop (length src) old ≡ src
replaced old src e =
    ap (λ (z : List ℕ). src ++ z) (drop_of_length-le old {i = length src} (omega arith)) ∙ append-nil src

pub put_all : (old src : List ℕ) → length old ≡ length src → put src old ≡ src
put_all old src e = put-fits src old (omega arith) ∙ replaced old src e

pub front-even : {old src new : List ℕ} {k : ℕ} → length old ≡ length src → Front old src new k → length src ≤ k → new ≡ src
front-even {old} {src} {new} {k} e h ge = front-all (omega arith) h ge ∙ replaced old src e

-- the length of a part
part_length : (l : List ℕ) (a v : ℕ) → a + v ≤ length l → length (take (a + v - a) (drop a l)) ≡ v
part_length l a v h =
    let e : a + v - a ≡ v = omega arith in
    ap (λ (k : ℕ). length (take k (drop a l))) e ∙ length-take-le v (drop a l) (omega (arith, length-drop a l))

-- a part is replaced by a part of its length
pub put-part : (l m : List ℕ) (a b v : ℕ) → a + v ≤ length l → b + v ≤ length m
    → put (take (b + v - b) (drop b m)) (take (a + v - a) (drop a l)) ≡ take (b + v - b) (drop b m)
put-part l m a b v h k =
    put_all (take (a + v - a) (drop a l)) (take (b + v - b) (drop b m)) (part_length l a v h ∙ sym (part_length m b v k))

-- ## By blocks of n bytes
pub none_copied : {old src : List ℕ} → Front old src old 0
none_copied = record { is = refl; within = omega arith }

module _ (n : ℕ) {old src new : List ℕ} {k : ℕ} (h : Front old src new k) where
  -- the block at m, which may overlap the k bytes that are there
  pub front-over : {new' : List ℕ} (m : ℕ) → m ≤ k → k ≤ m + n → m + n ≤ length src → new' ≡ block_at n src new m
      → Front old src new' (m + n)
  front-over {new'} m low high le e = record {
    is = e
        ∙ ap₂ (λ (y z : List ℕ). y ++ (take n (drop m src) ++ z)) front behind
        ∙ sym (append_assoc (take m src) (take n (drop m src)) (drop (m + n) old))
        ∙ ap (λ (z : List ℕ). z ++ drop (m + n) old) (sym (take-add m n src));
    within = le;
  }
    where
      short : length (take k src) ≡ k
      short = length-take-le k src h.within

      front : take m new ≡ take m src
      front = ap (take m) h.is ∙ take-append-le m (take k src) (drop k old) (omega (arith, short)) ∙ take-take m k src low

      rest : ℕ
      rest = m + n - k

      reach : m + n ≡ length (take k src) + rest
      reach = omega (arith, short)

      whole : k + rest ≡ m + n
      whole = omega arith

      behind : drop n (drop m new) ≡ drop (m + n) old
      behind = drop-drop n m new ∙ ap (drop (m + n)) h.is ∙ ap (λ (i : ℕ). drop i (take k src ++ drop k old)) reach
          ∙ drop-append-add (take k src) (drop k old) rest ∙ drop-drop rest k old
          ∙ ap (λ (i : ℕ). drop i old) whole

  -- the next block
  pub front_block : {new' : List ℕ} → k + n ≤ length src → new' ≡ block_at n src new k → Front old src new' (k + n)
  front_block le e = front-over k (omega arith) (omega arith) le e

  -- the last block
  pub front-last : {new' : List ℕ} (m : ℕ) → length src ≤ length old → m ≤ k → m + n ≡ length src → new' ≡ block_at n src new m
      → new' ≡ src ++ drop (length src) old
  front-last m fits low l e = front-all fits (front-over m low (omega (arith, h.within)) (omega arith) e) (omega arith)

-- one to four blocks, by their places
pub four_blocks : (n : ℕ) (old src : List ℕ) {l₁ l₂ l₃ l₄ : List ℕ} {a b : ℕ} → length src ≤ length old → n ≤ length src
    → length src ≤ 4 * n → l₁ ≡ block_at n src old 0 → a ≡ min n (length src - n) → l₂ ≡ block_at n src l₁ a
    → b ≡ min (2 * n) (length src - n) → l₃ ≡ block_at n src l₂ b → l₄ ≡ block_at n src l₃ (length src - n)
    → l₄ ≡ src ++ drop (length src) old
four_blocks n old src {a = a} {b = b} fits few many e₁ f e₂ g e₃ e₄ =
    let h₁ = front-over n (none_copied {old = old} {src = src}) 0 (omega arith) (omega arith) (omega arith) e₁ in
    let h₂ = front-over n h₁ a (omega arith) (omega arith) (omega arith) e₂ in
    let h₃ = front-over n h₂ b (omega arith) (omega arith) (omega arith) e₃ in
    front-last n h₃ (length src - n) fits (omega arith) (omega arith) e₄

pub block_at_lem : (n : ℕ) (src l y : List ℕ) (k : ℕ) → y ≡ take (k + n - k) (drop k src)
    → take k l ++ (y ++ drop (k + n - k) (drop k l)) ≡ block_at n src l k
block_at_lem n src l y k e =
    let f : k + n - k ≡ n = omega arith in
    ap₂ (λ (z : List ℕ) (m : ℕ). take k l ++ (z ++ drop m (drop k l))) (e ∙ ap (λ (m : ℕ). take m (drop k src)) f) f
