-- A list of calls made of one station, from its opening: every answer is worked out from the number of posts, the
-- calls up to it, the policy's meaning and, for want of space alone, the pile's space at each record.
use Rattle.std.specs.Prelude.{◌≡◌, ℕ, ◌%◌, ◌<◌, ◌≤◌, true, List, [], ◌∷◌, length, Err, Result, ◌≢◌}
use Rattle.cluster.specs.Clusters.{cluster as cluster_of}
use Rattle.cluster.specs.Rules.{Rule}
use Rattle.order.specs.History.{History}
use Rattle.order.specs.Posts.{has, size}
use Rattle.order.specs.Records.{Bytes, post}
use Rattle.order.specs.declared.event.Event.{Event}
use Rattle.runs.specs.Calls.{Call, Reply, after}
use Rattle.runs.specs.Calls.Call.{take, feed, relate, reach, horizon, heard, cluster}
use Rattle.runs.specs.Calls.Reply.{took, fed, related, reached, wrote, heard_of, clustered}
use Rattle.station.specs.Asks.{relates, reaches, horizons, horizon_slice, hears, clusters_at}
use Rattle.station.specs.Feeds.{Feeds, feed_records}
use Rattle.station.specs.Takes.{takes, Moves}
use Rattle.station.specs.declared.faults.FeedFault.{FeedFault}
use Rattle.station.specs.declared.faults.FeedFault.TheVariants.{Ragged}

-- What a station of n posts with this history and this space answers to a call, and how its space moves.
pub data Says (P : Rule) (n : ℕ) (h : History) (was : ℕ → ℕ) : Call → Reply → (ℕ → ℕ) → Type 0 where
  takes_it : {r : Bytes} {is : ℕ → ℕ} → Moves (post r) was (takes P n h (was (post r)) r) is
      → Says P n h was (take r) (took (takes P n h (was (post r)) r)) is
  ragged : {bytes : Bytes} → (length bytes % 8 ≢ 0) → Says P n h was (feed bytes) (fed (Err Ragged)) was
  feeds_it : {bytes : Bytes} {a : Result ℕ FeedFault} {is : ℕ → ℕ} → length bytes % 8 ≡ 0 → Feeds P n (feed_records bytes) 0 h was a is
      → Says P n h was (feed bytes) (fed a) is
  relates_them : {e f : Event} → Says P n h was (relate e f) (related (relates n h e f)) was
  reaches_it : {f : Event} {p : ℕ} → Says P n h was (reach f p) (reached (reaches n h f p)) was
  writes_it : {es : List Event} {slice : List ℕ}
      → Says P n h was (horizon es slice) (wrote (horizons n h es (length slice)) (horizon_slice n h es (horizons n h es (length slice)) slice)) was
  hears_them : {es : List Event} → Says P n h was (heard es) (heard_of (hears n h es)) was
  clusters_it : {p : ℕ} → Says P n h was (cluster p) (clustered (clusters_at P n h p)) was

-- After a call no cluster has more posts than the limit, and two posts that shared one before still do.
pub record ClustersKept (P : Rule) (n : ℕ) (h later : History) : Type 0 where
  pub small : (p : ℕ) → p < n → size (cluster_of P later p) ≤ P.limit
  pub together : (p q : ℕ) → p < n → has (cluster_of P h p) q ≡ true → has (cluster_of P later p) q ≡ true

-- The calls made one after the other, from a history and a space on.
pub data Run (P : Rule) (n : ℕ) : History → (ℕ → ℕ) → List Call → List Reply → Type 0 where
  end : {h : History} {was : ℕ → ℕ} → Run P n h was [] []
  turn : {h : History} {was is : ℕ → ℕ} {c : Call} {cs : List Call} {a : Reply} {xs : List Reply}
      → Says P n h was c a is → ClustersKept P n h (after c a h) → Run P n (after c a h) is cs xs → Run P n h was (c ∷ cs) (a ∷ xs)

-- In a list of calls made from h on, c was answered by a when the history was g.
pub data Asked (c : Call) (a : Reply) (g : History) : History → List Call → List Reply → Type 0 where
  here : {cs : List Call} {xs : List Reply} → Asked c a g g (c ∷ cs) (a ∷ xs)
  later : {h : History} {d : Call} {cs : List Call} {b : Reply} {xs : List Reply} → Asked c a g (after d b h) cs xs → Asked c a g h (d ∷ cs) (b ∷ xs)
