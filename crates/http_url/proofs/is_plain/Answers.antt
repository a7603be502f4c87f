-- `http_url::is_plain` meets its contract: computed over all bytes, one that becomes one of a to z is in a path.
use Rattle.std.proofs.Common.{◌≡◌, ℕ, ◌<◌, ◌≤◌, Bool, true, cond, leb, refl, ap, ◌∙◌, arith, le-leb, ltb-true}
use Rattle.grammar.specs.Grammar.{lower}
use Rattle.octets.specs.Bytes.{within, digit?, letter?}
use Rattle.octets.proofs.Spans.{by_range}
use Rattle.http_url.specs.Bytes.{path?, unreserved?}
use Rattle.http_url.proofs.is_plain.Goals as goal

small-letter : ℕ → ℕ
small-letter b = lower (cond (within 38 59 b) 97 b)

in_path : ℕ → Bool
in_path b = cond (leb 97 (small-letter b)) (cond (leb (small-letter b) 122) (path? b) true) true

chosen : (n : ℕ) (x : Bool) → cond (leb 97 n) (cond (leb n 122) x true) true ≡ true → 97 ≤ n → n ≤ 122 → x ≡ true
chosen n x e h k = rw (le-leb 97 n h, le-leb n 122 k) at e

plain-path : (b n : ℕ) → b < 256 → n ≡ small-letter b → 97 ≤ n → n ≤ 122 → path? b ≡ true
unfolding lower path? unreserved? digit? letter? small-letter in_path
plain-path b n s z h k =
    chosen n (path? b) (ap (λ (m : ℕ). cond (leb 97 m) (cond (leb m 122) (path? b) true) true) z
    ∙ by_range in_path (λ (m : ℕ). true) 0 256 refl b (omega arith) (omega arith)) h k

pub returns : goal.returns
unfolding small-letter
returns c e =
    let l = c.lower_case in
    let h = ltb-true _ _ e in
    plain-path c.args.b l.result (omega arith) (l.ensures ∙ ap lower c.folded.ensures) (omega arith) (omega arith)
