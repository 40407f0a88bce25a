-- What the questions answer, by the history.
use Rattle.std.specs.Prelude.{◌≡◌, ℕ, zero, suc, ◌+◌, ◌^◌, Bool, cond, not, ◌&&◌, ltb, List, [], ◌∷◌, map, Some, None, Ok, Err, Option, Result, ◌==◌, nat_le, nat_lt}
use Rattle.cluster.specs.Clusters.{cluster}
use Rattle.cluster.specs.Kept.{largest}
use Rattle.cluster.specs.Rules.{Rule}
use Rattle.join.specs.Folds.{SameValues}
use Rattle.order.specs.History.{History, held}
use Rattle.order.specs.Vectors.{vec}
use Rattle.order.specs.declared.event.Event.{Event}
use Rattle.order.specs.declared.posts.PostSet.{PostSet}
use Rattle.std.specs.List.{range_with_len}
use Rattle.station.specs.declared.asks.AskFault.{AskFault}
use Rattle.station.specs.declared.asks.AskFault.TheVariants.{SliceLength, NoEvents, NotHeld, UnknownPost}
use Rattle.station.specs.declared.asks.Relation.{Relation}
use Rattle.station.specs.declared.asks.Relation.TheVariants.{Before, After, Concurrent}

-- whether a station of n posts holds an event
abbrev pub knows : ℕ → History → Event → Bool
knows n h e = nat_lt e.post n && held h e.post e.number

-- the first of some named events that is not held, by its place from i on
abbrev pub missing : ℕ → History → List Event → ℕ → Option ℕ
missing n h [] i = None
missing n h (e ∷ es) i = let later = missing n h es (i + 1) in cond (knows n h e) later (Some i)

-- an answer about named events, unless one is not held
abbrev pub of_events : {A : Type 0} → ℕ → History → List Event → Result A AskFault → Result A AskFault
of_events n h es answer = elim (missing n h es 0) [ None ↦ answer | Some place ↦ Err (NotHeld place) ]

-- f's entry for post p
abbrev pub entry : History → Event → ℕ → ℕ
entry h f p = vec h f.post f.number p

-- e is another event than f, and its number is at most f's entry for its post
abbrev pub precedes : History → Event → Event → Bool
precedes h e f = not (e.post == f.post && e.number == f.number) && nat_le e.number (entry h f e.post)

abbrev pub relation : History → Event → Event → Relation
relation h e f = cond (precedes h e f) Before (cond (precedes h f e) After Concurrent)

abbrev pub relates : ℕ → History → Event → Event → Result Relation AskFault
relates n h e f = of_events n h (e ∷ f ∷ []) (Ok (relation h e f))

abbrev pub reaches : ℕ → History → Event → ℕ → Result ℕ AskFault
reaches n h f p = of_events n h (f ∷ []) (cond (nat_lt p n) (Ok (entry h f p)) (Err UnknownPost))

-- the largest entry for post q among some events
abbrev pub farthest : History → List Event → ℕ → ℕ
farthest h es q = largest (map (λ e. entry h e q) es)

-- an answer about a list of events
abbrev pub of_list : {A : Type 0} → ℕ → History → List Event → Result A AskFault → Result A AskFault
of_list n h [] answer = Err NoEvents
of_list n h (e ∷ es) answer = of_events n h (e ∷ es) answer

abbrev pub horizons : ℕ → History → List Event → ℕ → Result (Unit {0}) AskFault
horizons n h es places = cond (places == n) (of_list n h es (Ok tt)) (Err SliceLength)

-- horizon's slice afterwards
abbrev pub horizon_slice : ℕ → History → List Event → Result (Unit {0}) AskFault → List ℕ → List ℕ
horizon_slice n h es (Ok _) slice = map (farthest h es) (range_with_len 0 n)
horizon_slice n h es (Err f) slice = slice

-- the set of the posts below n that pass a test, as bits
unfoldable pub gathered : ℕ → (ℕ → Bool) → ℕ
gathered zero test = 0
gathered (suc n) test = gathered n test + cond (test n) (2 ^ n) 0

-- why an answer about a list is refused, if it is
abbrev pub listed : {A : Type 0} → Result A AskFault → Option AskFault
listed (Ok _) = None
listed (Err f) = Some f

abbrev pub hears : ℕ → History → List Event → Result PostSet AskFault
hears n h es = of_list n h es (Ok (record { bits = gathered n (λ q. ltb 0 (farthest h es q)) }))

abbrev pub clusters_at : Rule → ℕ → History → ℕ → Result PostSet AskFault
clusters_at P n h p = cond (nat_lt p n) (Ok (record { bits = cluster P h p })) (Err UnknownPost)

-- Lists of the same events, in whatever order and however often each is named, have one answer.
pub record SameAnswers (n : ℕ) (h : History) (es fs : List Event) : Type 0 where
  pub reach : (q : ℕ) → farthest h es q ≡ farthest h fs q
  pub horizon : (places : ℕ) → horizons n h es places ≡ Ok tt → horizons n h fs places ≡ Ok tt
  pub slice : (was : List ℕ) → horizon_slice n h es (Ok tt) was ≡ horizon_slice n h fs (Ok tt) was
  pub heard : (s : PostSet) → hears n h es ≡ Ok s → hears n h fs ≡ Ok s

abbrev pub OrderFreeAnswers : Type 0
OrderFreeAnswers = (n : ℕ) (h : History) (es fs : List Event) → SameValues es fs → SameAnswers n h es fs
