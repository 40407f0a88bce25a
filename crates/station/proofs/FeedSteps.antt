-- A feed, record by record.
use Rattle.std.proofs.Common.{add-one, [], ◌≡◌, ℕ, zero, suc, ◌+◌, ◌-◌, ◌*◌, ◌/◌, ◌<◌, List, ◌∷◌, length, get_or, take, drop, Ok, Err, Result, sym, refl, ap, ◌∙◌, arith}
use Rattle.cluster.specs.declared.policy.Policy.{Ghosts as OfPolicy}
use Rattle.keeper.specs.declared.Keeper.{Ghosts as OfKeeper}
use Rattle.order.specs.History.{History}
use Rattle.order.specs.Records.{Bytes, post}
use Rattle.std.proofs.lemmas.List.{drop-drop}
use Rattle.std.specs.Result.{IsErrAnd, MatchResult}
use Rattle.std.specs.Simd.{first_chunks}
use Rattle.station.specs.Feeds.{Feeds, records, fed}
use Rattle.station.specs.Feeds.Feeds.{done, stops, goes}
use Rattle.station.specs.Stands.{Stands, Took, Fed}
use Rattle.station.specs.Takes.{takes}
use Rattle.station.specs.declared.state.Station.{Station}
use Rattle.station.specs.declared.faults.FeedFault.{FeedFault}
use Rattle.station.specs.declared.faults.FeedFault.TheVariants.{Take}
use Rattle.station.specs.declared.faults.TakeFault.{TakeFault}
use Rattle.station.specs.declared.faults.Taken.{Taken}

-- Records.

drop_next : (k : ℕ) (b : Bytes) → drop (8 * k) (drop 8 b) ≡ drop (8 * suc k) b
drop_next k b = drop-drop (8 * k) 8 b ∙ ap (λ (m : ℕ). drop m b) (omega arith)

next-drop : (k : ℕ) (b : Bytes) → drop 8 (drop (8 * k) b) ≡ drop (8 * suc k) b
next-drop k b = drop-drop 8 (8 * k) b ∙ ap (λ (m : ℕ). drop m b) (omega arith)

-- the record at place k of those that a feed is cut into
record_at : (n k : ℕ) (b : Bytes) → k < n → get_or (first_chunks 8 n b) k [] ≡ take 8 (drop (8 * k) b)
record_at zero k b l = absurd (omega arith)
record_at (suc n) zero b l = refl
record_at (suc n) (suc k) b l = record_at n k (drop 8 b) (omega arith) ∙ ap (take 8) (drop_next k b)

-- the record after k others is the newest
pub fed_more : (k : ℕ) (h : History) (b : Bytes) → fed h (records (suc k) b) ≡ take 8 (drop (8 * k) b) ∷ fed h (records k b)
fed_more zero h b = refl
fed_more (suc k) h b = fed_more k (take 8 b ∷ h) (drop 8 b) ∙ ap (λ (x : Bytes). take 8 x ∷ fed h (records (suc k) b)) (drop_next k b)

left_over : (n k : ℕ) (b : Bytes) → k < n → records (suc (n - suc k)) b ≡ records (n - k) b
left_over n k b l = let same : suc (n - suc k) ≡ n - k = omega arith in ap (λ (m : ℕ). records m b) same

-- what a take answered, by that answer with its error given a place
answered_ok : (r : Result Taken TakeFault) (Placed : TakeFault → FeedFault → Type 0) (a : Result Taken FeedFault) → MatchResult r (λ t. a ≡ Ok t) (λ f. IsErrAnd a (Placed f))
    → (t : Taken) → a ≡ Ok t → r ≡ Ok t
answered_ok (Ok x) Placed a same t is = (cc)
answered_ok (Err f) Placed a same t is = absurd (rw is at same)

answered_err : (r : Result Taken TakeFault) (Placed : TakeFault → FeedFault → Type 0) (a : Result Taken FeedFault) → MatchResult r (λ t. a ≡ Ok t) (λ f. IsErrAnd a (Placed f))
    → (e : FeedFault) → a ≡ Err e → (f : TakeFault) × (r ≡ Err f) × Placed f e
answered_err (Ok x) Placed a same e is = absurd (cc)
answered_err (Err f) Placed a same e is = (f, refl, rw is at same)

-- k of the n records of a feed are taken: whatever comes of the rest, comes of the whole.
pub record Going {P K : Type 0} (policy : OfPolicy P) (keeper : OfKeeper K) (was is : Station P K) (h : History) (bytes : Bytes) (n k : ℕ) : Type 0 where
  pub stands : Stands policy keeper is (fed h (records k bytes))
  pub same_policy : is.policy ≡ was.policy
  pub same_posts : (keeper.meaning is.keeper).posts ≡ (keeper.meaning was.keeper).posts
  pub rest : (a : Result ℕ FeedFault) (left : ℕ → ℕ)
      → Feeds (policy.rule was.policy) (keeper.meaning was.keeper).posts (records (n - k) (drop (8 * k) bytes)) k (fed h (records k bytes)) (keeper.meaning is.keeper).space a left
      → Feeds (policy.rule was.policy) (keeper.meaning was.keeper).posts (records n bytes) 0 h (keeper.meaning was.keeper).space a left

module _ {P K : Type 0} (policy : OfPolicy P) (keeper : OfKeeper K) (was : Station P K) (h : History) (bytes : Bytes) (n : ℕ) where
  pub going_done : (is : Station P K) (k m : ℕ) → k ≡ m → m ≡ n → n ≡ length bytes / 8 → Going policy keeper was is h bytes n k → Fed policy keeper was is h bytes (Ok m)
  going_done is k m all same size g = let none : n - k ≡ 0 = omega arith in rw (← all) (record {
    feeds = rw (← size) (g.rest (Ok k) (keeper.meaning is.keeper).space (rw none done));
    stands = g.stands;
    same_policy = g.same_policy;
    same_posts = g.same_posts;
  })

  module _ (is now : Station P K) (k : ℕ) (rs : List Bytes) (cut : rs ≡ first_chunks 8 n bytes) (many : length rs ≡ n) (inside : k < length rs)
      (g : Going policy keeper was is h bytes n k) where
    abbrev b : Bytes
    b = get_or rs k []

    more : k < n
    more = omega arith

    next : b ≡ take 8 (drop (8 * k) bytes)
    next = ap (λ (xs : List Bytes). get_or xs k []) cut ∙ record_at n k bytes more

    -- a take of the next record, said of the station as the feed found it
    answered : (r : Result Taken TakeFault) → Took policy keeper is now (fed h (records k bytes)) b r
        → takes (policy.rule was.policy) (keeper.meaning was.keeper).posts (fed h (records k bytes)) ((keeper.meaning is.keeper).space (post b)) b ≡ r
    answered r took = sym (rw (g.same_policy, g.same_posts) at took.answer)

    rest_of : (a : Result ℕ FeedFault) (left : ℕ → ℕ)
        → Feeds (policy.rule was.policy) (keeper.meaning was.keeper).posts (b ∷ records (n - suc k) (drop 8 (drop (8 * k) bytes))) k (fed h (records k bytes)) (keeper.meaning is.keeper).space a left
        → Feeds (policy.rule was.policy) (keeper.meaning was.keeper).posts (records n bytes) 0 h (keeper.meaning was.keeper).space a left
    rest_of a left f = g.rest a left (rw (← left_over n k (drop (8 * k) bytes) more, ← next) f)

    going_on : (t : Taken) → Took policy keeper is now (fed h (records k bytes)) b (Ok t) → Going policy keeper was now h bytes n (suc k)
    going_on t took =
        let newer : fed h (records (suc k) bytes) ≡ b ∷ fed h (records k bytes) = fed_more k h bytes ∙ ap (λ (x : Bytes). x ∷ fed h (records k bytes)) (sym next) in
        record {
          stands = rw newer took.stands;
          same_policy = took.same_policy ∙ g.same_policy;
          same_posts = took.same_posts ∙ g.same_posts;
          rest = λ a left f. rest_of a left (goes (answered (Ok t) took) took.moves (rw (next-drop k bytes, ← newer) f));
        }

    going_stops : n ≡ length bytes / 8 → (f : TakeFault) → Took policy keeper is now (fed h (records k bytes)) b (Err f) → Fed policy keeper was now h bytes (Err (Take (8 * k) f))
    going_stops size f took = let taken : 8 * k / 8 ≡ k = omega arith in record {
      feeds = rw (← size, took.moves) (rest_of (Err (Take (8 * k) f)) (keeper.meaning is.keeper).space (stops (answered (Err f) took)));
      stands = rw taken took.stands;
      same_policy = took.same_policy ∙ g.same_policy;
      same_posts = took.same_posts ∙ g.same_posts;
    }

    -- By what became of the answer when an error was given its place.
    module _ (r : Result Taken TakeFault) (took : Took policy keeper is now (fed h (records k bytes)) b r)
        (Placed : TakeFault → FeedFault → Type 0) (a : Result Taken FeedFault) (same : MatchResult r (λ t. a ≡ Ok t) (λ f. IsErrAnd a (Placed f))) where
      pub placed_on : (t : Taken) → a ≡ Ok t → Going policy keeper was now h bytes n (k + 1)
      placed_on t e = rw add-one (going_on t (rw (answered_ok r Placed a same t e) at took))

      pub placed_stops : n ≡ length bytes / 8 → ((f : TakeFault) (e : FeedFault) → Placed f e → e ≡ Take (8 * k) f) → (e : FeedFault) → a ≡ Err e → Fed policy keeper was now h bytes (Err e)
      placed_stops size at e refused =
          let p = answered_err r Placed a same e refused in
          rw (at p.0 e p.2) (going_stops size p.0 (rw p.1 at took))
