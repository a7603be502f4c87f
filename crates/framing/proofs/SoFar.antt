-- The chunk data that stands in a beginning of a body: it is what the machine gives on the way, so that there is one.
use mathlib.Core.Path.{◌≡◌, refl, sym, ◌∙◌, ap, ap₂, subst, subst₂}
use mathlib.Core.Bool.{true}
use mathlib.Core.List.{List, [], ◌∷◌, ◌++◌, append_assoc, append-nil, head-eq_of_cons-eq, tail-eq_of_cons-eq}
use Prim.Native.Nat.{ℕ, zero, suc, ◌+◌, ◌-◌, ◌<◌, ◌≤◌}
use native.Mathlib.Decide.{dec_le}
use native.Mathlib.Omega.{arith}
use lib.ListN.{length, length-append, take, replicate, length-replicate}
use lib.Seq.{take_all, take_at, take-append-add}
use Rattle.octets.specs.Bytes.{octet?, hex?}
use Rattle.framing.specs.declared.LinePos.TheVariants.{First}
use Rattle.framing.specs.declared.State.{State}
use Rattle.framing.specs.declared.State.TheVariants.{Line, LineFeed, Data, DataCr, DataLf, Trail, EndLf, Done, Dead}
use Rattle.framing.specs.Demand.{Live}
use Rattle.framing.specs.Grammar as G
use Rattle.framing.specs.Grammar.{crlf, Many, Trailer, Chunk, Chunks, Body, SoFar, chunked}
use Rattle.framing.specs.helpers.Machine.{trailer, enter_chunk, step, emit, live, line_live, line_ends, next_line_pos, start, machine, tell}
use Rattle.framing.specs.helpers.Scan.{run, out}
use Rattle.framing.proofs.Cases.{false-true}
use Rattle.framing.proofs.Scanning.{out-nothing}
use Rattle.framing.proofs.Machines.{live-from}
use Rattle.framing.proofs.Parts.{alive-begun}
use Rattle.framing.proofs.Lines.{line-begun, line-complete}
use Rattle.framing.proofs.Trails.{trailer-read}
use Rattle.framing.proofs.Goes.{Goes, gives_then, goes-whole-line, goes_data, gives-begun, goes-crlf, goes-chunks, goes_last, zeros}
use Rattle.framing.proofs.Past.{InData, Past, past, many_append}
use Rattle.framing.proofs.Judging.{laws}

-- ## From the machine to the grammar

-- in a line, its CR and LF: no data stands there
line_so_far : (v : ℕ) {c d l : List ℕ} (q u : List ℕ) → Chunks c d → G.Line l v → q ++ u ≡ l ++ crlf → SoFar (c ++ q) d
line_so_far zero {l = l} q u cs h e =
    G.in_last q (u ++ crlf) cs h G.none (sym (append_assoc q u crlf) ∙ ap (λ (z : List ℕ). z ++ crlf) e ∙ append_assoc l crlf crlf)
line_so_far (suc m) {c} {d} {l} q u cs h e =
    let x : List ℕ = replicate (suc m) 0 in
    let k : Chunk (q ++ (u ++ (x ++ crlf))) x
    = subst (λ (z : List ℕ). Chunk z x)
    (sym (append_assoc l crlf (x ++ crlf)) ∙ ap (λ (z : List ℕ). z ++ (x ++ crlf)) (sym e) ∙ append_assoc q u (x ++ crlf))
    (G.chunk (subst (G.Line l) (sym (length-replicate (suc m) 0)) h) (omega arith) (zeros (suc m))) in
    let n : length x + 2 - length (u ++ (x ++ crlf)) ≡ 0 = omega (arith, length-append u (x ++ crlf), length-append x crlf) in
    subst (SoFar (c ++ q)) (ap (λ (i : ℕ). d ++ take i x) n ∙ append-nil d) (G.in_chunk q (u ++ (x ++ crlf)) cs k)

-- in data, of which y is missing, or behind it: z of its CR LF
data_so_far : {c d l : List ℕ} (x y z u : List ℕ) → Chunks c d → G.Line l (length (x ++ y)) → 0 < length (x ++ y) → Many octet? (x ++ y)
    → z ++ u ≡ y ++ crlf → take (length z) y ≡ [] → SoFar (c ++ (l ++ (crlf ++ (x ++ z)))) (d ++ x)
data_so_far {c} {d} {l} x y z u cs h above k e f =
    let w : Chunk ((l ++ (crlf ++ (x ++ z))) ++ u) (x ++ y)
    = subst (λ (a : List ℕ). Chunk a (x ++ y))
    (ap (λ (a : List ℕ). l ++ (crlf ++ a)) (append_assoc x y crlf ∙ ap (λ (a : List ℕ). x ++ a) (sym e) ∙ sym (append_assoc x z u))
    ∙ sym (append_assoc l (crlf ++ (x ++ z)) u))
    (G.chunk h above k) in
    subst (λ (a : List ℕ). SoFar (c ++ (l ++ (crlf ++ (x ++ z)))) (d ++ a))
    (ap (λ (n : ℕ). take n (x ++ y)) count ∙ take-append-add x y (length z) ∙ ap (λ (a : List ℕ). x ++ a) f ∙ append-nil x)
    (G.in_chunk (l ++ (crlf ++ (x ++ z))) u cs w)
  where
    count : length (x ++ y) + 2 - length u ≡ length x + length z
    count = omega (arith, length-append x y, length-append z u, length-append y crlf, ap length e)

-- in the trailer, or in what closes it
trailer_so_far : {c d l t : List ℕ} (y u : List ℕ) → Chunks c d → G.Line l 0 → Trailer t → y ++ u ≡ t ++ crlf
    → SoFar (c ++ (l ++ (crlf ++ y))) d
trailer_so_far {l = l} y u cs h k e =
    G.in_last (l ++ (crlf ++ y)) u cs h k (append_assoc l (crlf ++ y) u ∙ ap (λ (z : List ℕ). l ++ (crlf ++ z)) e)

parts_so_far : {c d l t : List ℕ} → Chunks c d → G.Line l 0 → Trailer t → SoFar (c ++ (l ++ (crlf ++ (t ++ crlf)))) d
parts_so_far {l = l} {t = t} cs h y =
    G.in_last (l ++ (crlf ++ (t ++ crlf))) [] cs h y (append-nil (l ++ (crlf ++ (t ++ crlf))))

-- the same of what stands behind a state in data
inside_so_far : {v t : ℕ} {p d : List ℕ} (y z u : List ℕ) (h : InData v z t p d) → v ≡ length (h.part ++ y) → Many octet? y
    → z ++ u ≡ y ++ crlf → take (length z) y ≡ [] → SoFar p d
inside_so_far y z u h e k f g =
    subst₂ SoFar (sym h.split) (sym h.out_is)
    (data_so_far h.part y z u h.are (subst (G.Line h.line) e h.is) (omega (arith, h.some, e)) (many_append h.bytes k) f g)

-- by the state that the machine has reached; what is missing is completed as Goes completes it
behind : (s : State) (p d : List ℕ) → live s ≡ true → Past s p d → SoFar p d
unfolding live
behind (Line x k t) p d a h =
    let f : (u : List ℕ) × (v : ℕ) × G.Line (h.part ++ u) v = line-begun h.part (ap line_live h.at ∙ a) in
    subst (λ (z : List ℕ). SoFar z d) (sym h.split)
    (line_so_far f.1 h.part (f.0 ++ crlf) h.are f.2 (sym (append_assoc h.part f.0 crlf)))
behind (LineFeed v t) p d a h =
    subst (λ (z : List ℕ). SoFar z d) (sym h.split)
    (line_so_far v (h.line ++ (13 ∷ [])) (10 ∷ []) h.are h.is (append_assoc h.line (13 ∷ []) (10 ∷ [])))
behind (Data m t) p d a h =
    let y : List ℕ = replicate (suc m) 0 in
    let n : length y ≡ suc m = length-replicate (suc m) 0 in
    inside_so_far y [] (y ++ crlf) h.inside (omega (arith, h.left, length-append h.inside.part y, n)) (zeros (suc m)) refl refl
behind (DataCr t) p d a h =
    inside_so_far [] [] crlf h.inside (h.left ∙ ap length (sym (append-nil h.inside.part))) G.none refl refl
behind (DataLf t) p d a h =
    inside_so_far [] (13 ∷ []) (10 ∷ []) h.inside (h.left ∙ ap length (sym (append-nil h.inside.part))) G.none refl refl
behind (Trail x k t) p d a h =
    let f : (u : List ℕ) × Trailer (h.part ++ u) = alive-begun trailer trailer-read h.part (ap trailer.alive h.at ∙ a) in
    subst (λ (z : List ℕ). SoFar z d) (sym h.split)
    (trailer_so_far (h.part ++ []) (f.0 ++ crlf) h.are h.is f.1 (simp (append_assoc, append-nil)))
behind (EndLf t n) p d a h =
    let i = h.inside in
    subst (λ (z : List ℕ). SoFar z d) (sym i.split)
    (trailer_so_far (i.part ++ (13 ∷ [])) (10 ∷ []) i.are i.is
    (trailer-read.complete i.part (ap trailer.ends i.at ∙ h.ends)) (append_assoc i.part (13 ∷ []) (10 ∷ [])))
behind (Done t n) p d a h = subst (λ (z : List ℕ). SoFar z d) (sym h.split) (parts_so_far h.are h.is h.trails)
behind Dead p d a h = false-true a

-- what the machine gives on the way is the data so far
pub so_far : (p : List ℕ) → Live Body p → SoFar p (out step emit start p)
so_far p l =
    behind (run step start p) p (out step emit start p) (live-from (chunked []) machine tell 0 (laws [] 0 (λ a. omega arith)) p l) (past p)

-- ## From the grammar to the machine

-- of two fronts of one list the shorter begins the other
parted : (q u a b : List ℕ) → q ++ u ≡ a ++ b → length q ≤ length a → (r : List ℕ) × (a ≡ q ++ r) × (u ≡ r ++ b)
parted [] u a b e h = (a, refl, e)
parted (x ∷ q) u [] b e h = absurd (omega arith)
parted (x ∷ q) u (y ∷ a) b e h =
    let w = parted q u a b (tail-eq_of_cons-eq e) (omega arith) in
    (w.0, ap₂ (λ (z : ℕ) (zs : List ℕ). z ∷ zs) (sym (head-eq_of_cons-eq e)) w.1, w.2)

-- behind a chunk's line, where the data and CR LF are parted
gives_data : (v t : ℕ) (x q u : List ℕ) → 0 < v → length x ≡ v → Many octet? x → q ++ u ≡ x ++ crlf
    → out step emit (enter_chunk v t) q ≡ take (length x + 2 - length u) x
unfolding enter_chunk
gives_data zero t x q u above n k e = absurd (omega arith)
gives_data (suc m) t x q u above n k e = go (dec_le (length q) (length x))
  where
    sum : length q + length u ≡ length x + 2
    sum = sym (length-append q u) ∙ ap length e ∙ length-append x crlf

    go : Dec (length q ≤ length x) → out step emit (Data m (t + suc m)) q ≡ take (length x + 2 - length u) x
    go (yes h) =
        let w : (r : List ℕ) × (x ≡ q ++ r) × (u ≡ r ++ crlf) = parted q u x crlf e h in
        gives-begun m (t + suc m) q w.0 (subst (Many octet?) w.1 k) (ap length (sym w.1) ∙ n)
        ∙ sym (ap (take (length x + 2 - length u)) w.1 ∙ take_at q w.0 (length x + 2 - length u) (omega (arith, sum)))
    go (no h) =
        let w : (r : List ℕ) × (q ≡ x ++ r) × (crlf ≡ r ++ u) = parted x crlf q u (sym e) (omega arith) in
        let g : Goes (Data m (t + suc m)) x x (DataCr (t + suc m)) = goes_data m (t + suc m) k n in
        ap (out step emit (Data m (t + suc m))) w.1
        ∙ gives_then g w.0
        ∙ ap (λ (z : List ℕ). x ++ z) (out-nothing step emit (DataCr (t + suc m)) w.0 u
        (ap (out step emit (DataCr (t + suc m))) (sym w.2) ∙ (goes-crlf (t + suc m)).gives))
        ∙ append-nil x
        ∙ sym (take_all (length x + 2 - length u) x (omega (arith, sum)))

gives-chunk : {e x : List ℕ} (t : ℕ) (q u : List ℕ) → Chunk e x → q ++ u ≡ e
    → out step emit (Line First 0 t) q ≡ take (length x + 2 - length u) x
gives-chunk t q u (G.chunk {l = l} {x = x} h above k) e = go (dec_le (length q) (length (l ++ crlf)))
  where
    parts : q ++ u ≡ (l ++ crlf) ++ (x ++ crlf)
    parts = e ∙ sym (append_assoc l crlf (x ++ crlf))

    go : Dec (length q ≤ length (l ++ crlf)) → out step emit (Line First 0 t) q ≡ take (length x + 2 - length u) x
    go (yes n) =
        let w : (r : List ℕ) × (l ++ crlf ≡ q ++ r) × (u ≡ r ++ (x ++ crlf)) = parted q u (l ++ crlf) (x ++ crlf) parts n in
        let z : 0 ≡ length x + 2 - length u = omega (arith, ap length w.2, length-append w.0 (x ++ crlf), length-append x crlf) in
        out-nothing step emit (Line First 0 t) q w.0 (ap (out step emit (Line First 0 t)) (sym w.1) ∙ (goes-whole-line t h).gives)
        ∙ ap (λ (i : ℕ). take i x) z
    go (no n) =
        let w : (r : List ℕ) × (q ≡ (l ++ crlf) ++ r) × (x ++ crlf ≡ r ++ u)
        = parted (l ++ crlf) (x ++ crlf) q u (sym parts) (omega arith) in
        ap (out step emit (Line First 0 t)) w.1
        ∙ gives_then (goes-whole-line t h) w.0
        ∙ gives_data (length x) t x w.0 u above refl k (sym w.2)

pub so_far_is : {p d : List ℕ} → SoFar p d → out step emit start p ≡ d
so_far_is (G.in_chunk {d = d} q u cs k) =
    gives_then (goes-chunks cs) q ∙ ap (λ (z : List ℕ). d ++ z) (gives-chunk (length d) q u k refl)
so_far_is (G.in_last {d = d} q u cs h y e) =
    gives_then (goes-chunks cs) q
    ∙ ap (λ (z : List ℕ). d ++ z)
    (out-nothing step emit (Line First 0 (length d)) q u (ap (out step emit (Line First 0 (length d))) e ∙ (goes_last (length d) h y).gives))
    ∙ append-nil d

pub one_so_far : {p d e : List ℕ} → SoFar p d → SoFar p e → d ≡ e
one_so_far x y = sym (so_far_is x) ∙ so_far_is y

-- ## It begins a body
zero-line : G.Line (48 ∷ []) 0
zero-line = line-complete (48 ∷ []) 0 (unfold line_ends next_line_pos hex? in refl)

pub so_far_live : {p d : List ℕ} → SoFar p d → Live Body p
so_far_live (G.in_chunk {c = c} {d = d} {x = x} q u cs k) = (
  u ++ (48 ∷ (crlf ++ crlf)),
  d ++ x,
  subst (λ (z : List ℕ). Body z (d ++ x))
      (append_assoc c (q ++ u) (48 ∷ (crlf ++ crlf))
      ∙ ap (λ (z : List ℕ). c ++ z) (append_assoc q u (48 ∷ (crlf ++ crlf)))
      ∙ sym (append_assoc c q (u ++ (48 ∷ (crlf ++ crlf)))))
      (G.body (G.more cs k) zero-line G.none),
)
so_far_live (G.in_last {c = c} {d = d} q u cs h y e) =
    (u, d, subst (λ (z : List ℕ). Body z d) (sym (append_assoc c q u ∙ ap (λ (z : List ℕ). c ++ z) e)) (G.body cs h y))
