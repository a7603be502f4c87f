-- What the second pass has written, and that a whole answer leaves nothing out.
use Rattle.std.proofs.Common.{◌≡◌, ℕ, zero, suc, ◌+◌, ◌-◌, ◌<◌, ◌≤◌, List, [], ◌∷◌, ◌++◌, length, get_or, take, drop, sym, refl, ap, ◌∙◌}
use Rattle.std.proofs.Common.{subst, ap₂, append-nil, arith, length-append, length-drop, take-append-drop, length-take-le, get_or-drop}
use Rattle.std.proofs.Common.{take-take, drop-drop, take-add, le-leb}
use mathlib.Core.Option.{none, some}
use native.Mathlib.Decide.{dec_le}
use lib.Seq.{take-append-le, take-append-add, drop-append-add}
use Rattle.octets.specs.Bytes.{octet?}
use Rattle.numerals.specs.Numeral.{put}
use Rattle.copying.proofs.Runs.{put-part}
use Rattle.framing.specs.Answer as Framing
use Rattle.framing.specs.Grammar as G
use Rattle.framing.specs.Grammar.{Many}
use Rattle.framing.specs.declared.LinePos.TheVariants.{First}
use Rattle.framing.specs.declared.State.{State}
use Rattle.framing.specs.declared.State.TheVariants.{Line, Data, DataCr}
use Rattle.framing.specs.declared.Whole.{Whole}
use Rattle.framing.specs.helpers.Machine.{End, step, emit, start, tell}
use Rattle.framing.specs.helpers.Scan.{Verdict, ended, Found, stop, nothing, out, written}
use Rattle.framing.specs.Reading.{judge, found, decode, decoded, decode_output}
use Rattle.framing.proofs.Scanning.{out_append, Stops, stop-stops}
use Rattle.framing.proofs.Machines.{whole_of}
use Rattle.framing.proofs.Goes.{goes_data}
use Rattle.framing.proofs.Past.{Past, past}
use Rattle.framing.proofs.Demands.{demands}
use Rattle.octets.specs.declared.Refusal.{Refusal}
use Rattle.octets.specs.Reading.{number_of, place_of}
use Rattle.chunked.specs.declared.Answer.{Answer}
use Rattle.chunked.specs.declared.Answer.TheVariants.{More, Refused}
use Rattle.chunked.specs.Verdict.{verdict}
use Rattle.chunked.specs.helpers.Passes.{At, data_to, Copied, Laid, ChunkAt}
use Rattle.chunked.proofs.Passes.{begins, at-start}
use Rattle.chunked.proofs.Chunks.{line_on, data_on, chunk-on}

no_length : (l : List ℕ) → length l ≡ 0 → l ≡ []
no_length [] e = refl
no_length (b ∷ l) e = absurd (omega arith)

bytes_of : (v : ℕ) (l : List ℕ) → ((k : ℕ) → get_or l k 0 < 256) → Many octet? (take v l)
bytes_of zero l h = G.none
bytes_of (suc v) [] h = G.none
bytes_of (suc v) (b ∷ l) h = G.more (le-leb b 255 (omega (arith, h 0))) (bytes_of v l (λ k. h (suc k)))

module _ {room : ℕ} {xs : List ℕ} where
  behind : {s : State} {i : ℕ} → At room xs s i → Past s (take i xs) (data_to xs i)
  behind {s} {i} at = subst (λ (z : State). Past z (take i xs) (data_to xs i)) at.reached (past (take i xs))

  -- ## The data so far is what the state counts
  pub line-total : {t i : ℕ} → At room xs (Line First 0 t) i → t ≡ length (data_to xs i)
  line-total at = (behind at).total

  data_total : {m u j : ℕ} → At room xs (Data m u) j → u ≡ length (data_to xs j) + (m + 1)
  data_total {m} {u} {j} at =
      let h : Past (Data m u) (take j xs) (data_to xs j) = behind at in
      omega (arith, h.left, h.inside.total, ap length h.inside.out_is, length-append h.inside.done h.inside.part)

  cr-total : {t e : ℕ} → At room xs (DataCr t) e → t ≡ length (data_to xs e)
  cr-total {t} {e} at =
      let h : Past (DataCr t) (take e xs) (data_to xs e) = behind at in
      omega (arith, h.left, h.inside.total, ap length h.inside.out_is, length-append h.inside.done h.inside.part)

  -- ## The data of some bytes more
  data_add : {s : State} {i : ℕ} (n : ℕ) → At room xs s i → data_to xs (i + n) ≡ data_to xs i ++ out step emit s (take n (drop i xs))
  data_add {s} {i} n at =
      ap (out step emit start) (take-add i n xs)
      ∙ out_append step emit start (take i xs) (take n (drop i xs))
      ∙ ap (λ (z : State). data_to xs i ++ out step emit z (take n (drop i xs))) at.reached

  data_to_lem : {s : State} {i : ℕ} (j : ℕ) → At room xs s i → i ≤ j → data_to xs j ≡ data_to xs i ++ out step emit s (take (j - i) (drop i xs))
  data_to_lem {s} {i} j at h =
      let k : j ≡ i + (j - i) = omega arith in
      ap (λ (n : ℕ). data_to xs n) k ∙ data_add (j - i) at

  -- data that is no longer is the same
  no_new : {s : State} {i : ℕ} (j : ℕ) → At room xs s i → i ≤ j → length (data_to xs j) ≤ length (data_to xs i) → data_to xs j ≡ data_to xs i
  no_new {s} {i} j at h e =
      let r : data_to xs j ≡ data_to xs i ++ out step emit s (take (j - i) (drop i xs)) = data_to_lem j at h in
      let z : length (out step emit s (take (j - i) (drop i xs))) ≡ 0
      = omega (arith, ap length r, length-append (data_to xs i) (out step emit s (take (j - i) (drop i xs)))) in
      r ∙ ap (λ (l : List ℕ). data_to xs i ++ l) (no_length (out step emit s (take (j - i) (drop i xs))) z) ∙ append-nil (data_to xs i)

  module _ (bytes : (k : ℕ) → get_or xs k 0 < 256) where
    run_data : {v t j : ℕ} → 0 < v → At room xs (Data (v - 1) t) j → j + v ≤ length xs
        → data_to xs (j + v) ≡ data_to xs j ++ take v (drop j xs)
    run_data {v} {t} {j} pos at h =
        data_add v at
        ∙ ap (λ (z : List ℕ). data_to xs j ++ z)
        (goes_data (v - 1) t (bytes_of v (drop j xs) (λ k. subst (λ (z : ℕ). z < 256) (sym (get_or-drop j xs k 0)) (bytes (j + k))))
        (length-take-le v (drop j xs) (omega (arith, length-drop j xs)) ∙ pred)).gives
      where
        pred : v ≡ suc (v - 1)
        pred = omega arith

    -- the data of a chunk, from the place of its line to behind its CR LF
    chunk_data : {v t i j : ℕ} → At room xs (Line First 0 t) i → 0 < v → i ≤ j → At room xs (Data (v - 1) (t + v)) j → j + v ≤ length xs
        → At room xs (Line First 0 (t + v)) (j + v + 2) → data_to xs (j + v + 2) ≡ data_to xs i ++ take v (drop j xs)
    chunk_data {v} {t} {i} {j} at pos le here h end =
        no_new (j + v + 2) (data_on bytes pos here h) (omega arith)
        (omega (arith, line-total end, cr-total (data_on bytes pos here h)))
        ∙ run_data pos here h
        ∙ ap (λ (z : List ℕ). z ++ take v (drop j xs)) (no_new j at le (omega (arith, line-total at, data_total here)))

-- ## Where the answer is whole
module _ (room : ℕ) (xs : List ℕ) {w : Whole} (e : decode room xs ≡ Framing.whole w) where
  whole_length : length (decoded room xs) ≡ w.length
  whole_length =
      let b = (demands.whole room xs w).0 e in
      ap length (demands.writes room xs w b.0 b.1) ∙ sym b.1.tells.joined

  -- the byte that ended the body
  last_byte : (i : ℕ) × (end : End) × (found room xs ≡ stop i (ended end)) × (w ≡ tell (suc i) end)
  unfolding found decode
  last_byte = whole_of tell (found room xs) w e

  taken : w.taken ≡ suc last_byte.0
  taken = ap (λ (z : Whole). z.taken) last_byte.3

  whole_data : decoded room xs ≡ data_to xs w.taken
  unfolding found decoded written
  whole_data =
      ap (λ (z : Found (Verdict End)). written nothing (out step emit start) z xs) last_byte.2
      ∙ ap (λ (n : ℕ). data_to xs n) (sym taken)

  reach : {s : State} {i : ℕ} → At room xs s i → i ≤ w.taken
  unfolding judge found
  reach {s} {i} at = go last_byte.0 last_byte.1 taken
      (stop-stops step (judge room) start xs (begins room) last_byte.0 (ended last_byte.1) last_byte.2) (dec_le (suc last_byte.0) i)
    where
      go : (k : ℕ) (end : End) → w.taken ≡ suc k → Stops step (judge room) start xs k (ended end) → Dec (suc k ≤ i) → i ≤ w.taken
      go k end e t (yes h) = let q : none ≡ some (ended end) = sym (at.quiet (suc k) h) ∙ t.verdict in
          let z : ◌≡◌ {A = ℕ} 0 1 = cc in absurd (omega arith)
      go k end e t (no h) = omega arith

  all_data : {t i : ℕ} → At room xs (Line First 0 t) i → w.length ≤ t → decoded room xs ≡ data_to xs i
  all_data {t} {i} at h =
      whole_data ∙ no_new w.taken at (reach at) (omega (arith, line-total at, whole_length, ap length whole_data))

-- ## The lent bytes

-- k bytes put at o, of which the first v are data: what later chunks write stands before len
pub lay : (xs old y : List ℕ) (j o v k len : ℕ) → v ≤ k → j + k ≤ length xs → o + k ≤ len → len ≤ length old
    → y ≡ put (take (j + k - j) (drop j xs)) (take (o + k - o) (drop o old))
    → Laid xs old (take o old ++ (y ++ drop (o + k - o) (drop o old))) j o v len
lay xs old y j o v k len few inside before lent e =
    let a : j + k - j ≡ k = omega arith in
    let b : o + k - o ≡ k = omega arith in
    let d : y ≡ take k (drop j xs)
    = e ∙ put-part old xs o j k (omega arith) inside ∙ ap (λ (n : ℕ). take n (drop j xs)) a in
    let n : length (take o old) ≡ o = length-take-le o old (omega arith) in
    let m : length (take k (drop j xs)) ≡ k = length-take-le k (drop j xs) (omega (arith, length-drop j xs)) in
    let r : List ℕ = drop (o + k) old in
    let z : take o old ++ (y ++ drop (o + k - o) (drop o old)) ≡ take o old ++ (take k (drop j xs) ++ r)
    = ap₂ (λ (x w : List ℕ). take o old ++ (x ++ w)) d (ap (λ (i : ℕ). drop i (drop o old)) b ∙ drop-drop k o old) in
    let f : len ≡ length (take o old) + (length (take k (drop j xs)) + (len - (o + k))) = omega (arith, n, m) in
    let g : len ≡ o + k + (len - (o + k)) = omega arith in
    record {
      front = ap (take (o + v)) z
          ∙ ap (λ (i : ℕ). take (i + v) (take o old ++ (take k (drop j xs) ++ r))) (sym n)
          ∙ take-append-add (take o old) (take k (drop j xs) ++ r) v
          ∙ ap (λ (x : List ℕ). take o old ++ x)
          (take-append-le v (take k (drop j xs)) r (omega (arith, m)) ∙ take-take v k (drop j xs) few);
      behind = ap (drop len) z
          ∙ ap (λ (i : ℕ). drop i (take o old ++ (take k (drop j xs) ++ r))) f
          ∙ drop-append-add (take o old) (take k (drop j xs) ++ r) (length (take k (drop j xs)) + (len - (o + k)))
          ∙ drop-append-add (take k (drop j xs)) r (len - (o + k))
          ∙ drop-drop (len - (o + k)) (o + k) old
          ∙ ap (λ (i : ℕ). drop i old) (sym g);
      lent = ap length z
          ∙ length-append (take o old) (take k (drop j xs) ++ r)
          ∙ omega (arith, n, m, length-append (take k (drop j xs)) r, length-drop (o + k) old);
    }

module _ {xs old : List ℕ} {len : ℕ} where
  pub copied_start : Copied xs old old len 0 0
  copied_start = record { at = at-start; wrote = refl; behind = refl; lent = refl }

  -- a chunk's data put behind what is there
  pub copied_on : ((k : ℕ) → get_or xs k 0 < 256) → {new next : List ℕ} {i o w v : ℕ} → Copied xs old new len i o → ChunkAt xs i w v
      → o + v ≤ length old → Laid xs new next (i + w) o v len → Copied xs old next len (i + w + v + 2) (o + v)
  copied_on bytes {new} {next} {i} {o} {w} {v} h c fits l =
      let end : At (length old) xs (Line First 0 (o + v)) (i + w + v + 2) = chunk-on bytes h.at c fits in
      record {
        at = end;
        wrote = l.front
            ∙ ap (λ (x : List ℕ). x ++ take v (drop (i + w) xs)) h.wrote
            ∙ sym (chunk_data bytes h.at c.some (omega arith) (line_on h.at c.some c.line fits)
            (omega (arith, c.end.inside)) end);
        behind = l.behind ∙ h.behind;
        lent = l.lent ∙ h.lent;
      }

  module _ {w : Whole} (e : decode (length old) xs ≡ Framing.whole w) where
    pub copied_all : {new : List ℕ} {i o : ℕ} → w.length ≡ len → Copied xs old new len i o → len ≤ o → new ≡ decode_output xs old
    unfolding decode_output
    copied_all {new} {i} {o} told h le =
        let d : decoded (length old) xs ≡ data_to xs i = all_data (length old) xs e h.at (omega (arith, told)) in
        let n : length (data_to xs i) ≡ len = ap length (sym d) ∙ whole_length (length old) xs e ∙ told in
        let o-len : o ≡ len = line-total h.at ∙ n in
        sym (take-append-drop len new)
        ∙ ap₂ (λ (x y : List ℕ). x ++ y) (ap (λ (k : ℕ). take k new) (sym o-len) ∙ h.wrote) h.behind
        ∙ ap (λ (k : ℕ). data_to xs i ++ drop k old) (sym n)
        ∙ ap (λ (z : List ℕ). z ++ drop (length z) old) (sym d)

module _ (xs old : List ℕ) where
  -- any other answer leaves them
  module _ {a : Answer} (e : verdict a ≡ decode (length old) xs) where
    pub kept_more : a ≡ More → old ≡ decode_output xs old
    unfolding decode_output
    kept_more f =
        ap (λ (z : List ℕ). z ++ drop (length z) old) (sym (demands.keeps_more (length old) xs (sym e ∙ ap verdict f)))

    pub kept-refused : {r : Refusal} → a ≡ Refused r → old ≡ decode_output xs old
    unfolding decode_output
    kept-refused {r} f =
        ap (λ (z : List ℕ). z ++ drop (length z) old)
        (sym (demands.keeps_refused (length old) xs (number_of r) (place_of r) (sym e ∙ ap verdict f)))

  pub kept-other : (a : Answer) → verdict a ≡ decode (length old) xs → ((w : Whole) → a ≡ Answer.Whole w → ⊥) → old ≡ decode_output xs old
  kept-other (Answer.Whole w) e other = absurd (other w refl)
  kept-other More e other = kept_more e refl
  kept-other (Refused r) e other = kept-refused e refl
