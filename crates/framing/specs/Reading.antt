-- What the reader of a chunked body answers in a room, and which bytes it writes: definitions that compute, by a machine.
-- Nothing of the machine has to be believed: `demands` in proofs/Demands.antt shows of `decode` and `decoded`, in every room and on every
-- input, what specs/Demand.antt asks over specs/Grammar.antt; and `written` there shows the same of `decode_output`.
use Rattle.std.specs.Prelude.{List, ◌++◌, ℕ, length, drop}
use Rattle.std.proofs.Math.Option.{Option}
use Rattle.framing.specs.declared.Whole.{Whole}
use Rattle.framing.specs.declared.State.{State}
use Rattle.framing.specs.Answer.{Answer}
use Rattle.framing.specs.Grammar.{limits}
use Rattle.framing.specs.helpers.Scan.{Verdict, Found, nothing, judge_by, find_by, decode_by, decoded_by}
use Rattle.framing.specs.helpers.Machine.{End, machine, tell}

-- the verdict on the byte that led to a state
unfoldable pub judge : ℕ → State → Option (Verdict End)
judge room s = judge_by machine tell limits room s

-- the first verdict on these bytes
unfoldable pub found : ℕ → List ℕ → Found (Verdict End)
found room xs = find_by machine tell limits room xs

-- the answer
unfoldable pub decode : ℕ → List ℕ → Answer Whole
decode room xs = decode_by machine tell limits room xs

-- the data that it writes
unfoldable pub decoded : ℕ → List ℕ → List ℕ
decoded room xs = decoded_by machine tell limits room nothing xs

-- the lent bytes after the answer: the data at the front, then what stood there
unfoldable pub decode_output : List ℕ → List ℕ → List ℕ
decode_output xs old = decoded (length old) xs ++ drop (length (decoded (length old) xs)) old
