-- Turns and answers as calls and replies, by contents.
use Rattle.std.specs.Prelude.{◌≡◌, ℕ, List, [], ◌∷◌, map, take as first, drop, vec_items}
use Rattle.runs.specs.Calls.{Call, Reply}
use Rattle.runs.specs.Calls.Call.{take, feed, relate, reach, horizon, heard, cluster}
use Rattle.runs.specs.Calls.Reply.{took, fed, related, reached, wrote, heard_of, clustered}
use Rattle.runs.specs.declared.turns.Answer.{Answer}
use Rattle.runs.specs.declared.turns.Answer.TheVariants.{Took, Fed, Related, Reached, Wrote, Heard as HeardOf, Clustered}
use Rattle.runs.specs.declared.turns.Turn.{Turn}
use Rattle.runs.specs.declared.turns.Turn.TheVariants.{Take, Feed, Relate, Reach, Horizon, Heard, Cluster}

-- the call that a turn makes
abbrev pub call_of : Turn → Call
call_of (Take bytes) = take (vec_items bytes)
call_of (Feed bytes) = feed (vec_items bytes)
call_of (Relate e f) = relate e f
call_of (Reach e p) = reach e p
call_of (Horizon es slice) = horizon (vec_items es) (vec_items slice)
call_of (Heard es) = heard (vec_items es)
call_of (Cluster p) = cluster p

-- horizon's slice
abbrev pub slice_of : Turn → List ℕ
slice_of (Take bytes) = []
slice_of (Feed bytes) = []
slice_of (Relate e f) = []
slice_of (Reach e p) = []
slice_of (Horizon es slice) = vec_items slice
slice_of (Heard es) = []
slice_of (Cluster p) = []

-- a call with another slice for horizon
abbrev pub with_slice : Call → List ℕ → Call
with_slice (take r) s = take r
with_slice (feed bytes) s = feed bytes
with_slice (relate e f) s = relate e f
with_slice (reach e p) s = reach e p
with_slice (horizon es slice) s = horizon es s
with_slice (heard es) s = heard es
with_slice (cluster p) s = cluster p

-- what was answered, with the slice from the turn afterwards
abbrev pub reply_of : Turn → Answer → Reply
reply_of turn (Took a) = took a
reply_of turn (Fed a) = fed a
reply_of turn (Related a) = related a
reply_of turn (Reached a) = reached a
reply_of turn (Wrote a) = wrote a (slice_of turn)
reply_of turn (HeardOf a) = heard_of a
reply_of turn (Clustered a) = clustered a

-- the calls of the first k turns
abbrev pub calls : ℕ → List Turn → List Call
calls k turns = map call_of (first k turns)

-- what was answered turn by turn
abbrev pub paired : List Turn → List Answer → List Reply
paired [] answers = []
paired (t ∷ ts) [] = []
paired (t ∷ ts) (a ∷ answers) = reply_of t a ∷ paired ts answers

-- what was answered to the first k turns
abbrev pub replies : ℕ → List Turn → List Answer → List Reply
replies k turns answers = paired (first k turns) (first k answers)

-- calls with the slices of turns
abbrev pub with_slices : List Call → List Turn → List Call
with_slices [] turns = []
with_slices (c ∷ cs) [] = []
with_slices (c ∷ cs) (t ∷ ts) = with_slice c (slice_of t) ∷ with_slices cs ts

-- past the first k, turns and answers are as they were
abbrev pub RestKept : ℕ → List Turn → List Turn → List Answer → List Answer → Type 0
RestKept k turns later answers written = (drop k later ≡ drop k turns) × (drop k written ≡ drop k answers)
