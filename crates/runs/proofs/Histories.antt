-- The histories of a run: each is valid, and each turn keeps clusters.
use Rattle.std.proofs.Common.{◌≡◌, ℕ, zero, suc, ◌+◌, ◌/◌, ◌<◌, ◌≤◌, Bool, true, false, eqb, leb, List, [], ◌∷◌, length, take as first, drop, Ok, Err, Result, refl, ap, arith}
use Rattle.std.proofs.lemmas.Bool.{eqb-true, eqb-false, leb-true, leb-false}
use Rattle.cluster.specs.Clusters.{cluster as cluster_of, outcome, cover}
use Rattle.cluster.specs.Laws.{LimitKept, TogetherStays}
use Rattle.cluster.specs.Rules.{Rule}
use Rattle.keeper.specs.Piles.{price}
use Rattle.keeper.specs.declared.fault.KeeperFault.TheVariants.{NoSpace}
use Rattle.order.specs.History.{History, Valid, ground}
use Rattle.order.specs.History.Valid.{taken}
use Rattle.order.specs.Posts.{has, size}
use Rattle.order.specs.Records.{Bytes, post}
use Rattle.station.specs.Feeds.{Feeds, records, feed_records, taken_of, fed, after_feed}
use Rattle.station.specs.Feeds.Feeds.{done, stops, goes}
use Rattle.station.specs.Takes.{takes, after_take, refusal}
use Rattle.station.specs.declared.faults.FeedFault.{FeedFault}
use Rattle.station.specs.declared.faults.TakeFault.{TakeFault}
use Rattle.station.specs.declared.faults.TakeFault.TheVariants.{Keeper}
use Rattle.station.specs.declared.faults.Taken.{Taken}
use Rattle.runs.specs.Calls.{Call, Reply, after}
use Rattle.runs.specs.Runs.{Says, ClustersKept, Run, Asked}
use Rattle.runs.specs.Runs.Says.{takes_it, ragged, feeds_it, relates_them, reaches_it, writes_it, hears_them, clusters_it}
use Rattle.runs.specs.Runs.Run.{end, turn}
use Rattle.runs.specs.Runs.Asked.{here, later}

-- The three ways in which a take ends.
pub data Found (P : Rule) (n : ℕ) (h : History) (space : ℕ) (r : Bytes) : Result Taken TakeFault → Type 0 where
  refused : (ground n h r ≡ 0 → ⊥) → Found P n h space r (Err (refusal (ground n h r)))
  lacking : ground n h r ≡ 0 → space < price (size (cover P n h r)) → Found P n h space r (Err (Keeper (NoSpace (price (size (cover P n h r))) space)))
  entered : ground n h r ≡ 0 → price (size (cover P n h r)) ≤ space → Found P n h space r (Ok (record { outcome = outcome P h r; entries = size (cover P n h r) }))

pub found : (P : Rule) (n : ℕ) (h : History) (space : ℕ) (r : Bytes) → Found P n h space r (takes P n h space r)
found P n h space r = go _ _ refl refl
  where
    entries : ℕ
    entries = size (cover P n h r)

    go : (b d : Bool) → eqb (ground n h r) 0 ≡ b → leb (price entries) space ≡ d
        → Found P n h space r
        (elim b as (λ _. Result Taken TakeFault) [
          | true ↦ elim d as (λ _. Result Taken TakeFault) [ true ↦ Ok (record { outcome = outcome P h r; entries = entries }) | false ↦ Err (Keeper (NoSpace (price entries) space)) ]
          | false ↦ Err (refusal (ground n h r))
        ])
    go true true e l = entered (eqb-true _ _ e) (leb-true _ _ l)
    go true false e l = lacking (eqb-true _ _ e) (leb-false _ _ l)
    go false d e l = refused (eqb-false _ _ e)

-- what is taken was refused on no ground
pub found_ground : {P : Rule} {n : ℕ} {h : History} {space : ℕ} {r : Bytes} {t : Taken} → Found P n h space r (Ok t) → ground n h r ≡ 0
found_ground (entered g l) = g

taken_ground : (P : Rule) (n : ℕ) (h : History) (space : ℕ) (r : Bytes) (t : Taken) → takes P n h space r ≡ Ok t → ground n h r ≡ 0
taken_ground P n h space r t e = found_ground (rw e at (found P n h space r))

found_valid : {P : Rule} {n : ℕ} {h : History} {space : ℕ} {r : Bytes} {a : Result Taken TakeFault} → Valid n h → Found P n h space r a → Valid n (after_take h r a)
found_valid v (refused ne) = v
found_valid v (lacking g l) = v
found_valid v (entered g l) = taken v g

-- How many of the records that are left a feed takes.
pub record Took (n : ℕ) (rs : List Bytes) (k : ℕ) (h : History) (a : Result ℕ FeedFault) : Type 0 where
  pub more : ℕ
  pub total : taken_of a ≡ k + more
  pub within : more ≤ length rs
  pub valid : Valid n (fed h (first more rs))

pub feeds_took : {P : Rule} {n : ℕ} {rs : List Bytes} {k : ℕ} {h : History} {was : ℕ → ℕ} {a : Result ℕ FeedFault} {is : ℕ → ℕ}
    → Valid n h → Feeds P n rs k h was a is → Took n rs k h a
feeds_took v done = record { more = 0; total = omega arith; within = omega arith; valid = v }
feeds_took v (stops e) = record { more = 0; total = omega arith; within = omega arith; valid = v }
feeds_took {P} {n} v (goes {h = h} {was = was} {r = r} {t = t} e p rest) =
    let on = feeds_took (taken v (taken_ground P n h (was (post r)) r t e)) rest in
    record { more = suc on.more; total = omega (arith, on.total); within = omega (arith, on.within); valid = on.valid }

-- the first j of m records are the first j records
first_records : (j m : ℕ) (bytes : Bytes) → j ≤ m → first j (records m bytes) ≡ records j bytes
first_records zero m bytes l = refl
first_records (suc j) zero bytes l = absurd (omega arith)
first_records (suc j) (suc m) bytes l = rw (first_records j m (drop 8 bytes) (omega arith))

records-length : (m : ℕ) (bytes : Bytes) → length (records m bytes) ≡ m
records-length zero bytes = refl
records-length (suc m) bytes = ap suc (records-length m (drop 8 bytes))

feed_valid : {P : Rule} {n : ℕ} (bytes : Bytes) {h : History} {was : ℕ → ℕ} {a : Result ℕ FeedFault} {is : ℕ → ℕ}
    → Valid n h → Feeds P n (feed_records bytes) 0 h was a is → Valid n (after_feed h bytes a)
feed_valid bytes {a = a} v f =
    let w = feeds_took v f in
    let all = length bytes / 8 in
    let same : w.more ≡ taken_of a = omega (arith, w.total) in
    rw (first_records w.more all bytes (omega (arith, w.within, records-length all bytes)), same) at w.valid

-- Every turn leads from a valid history to a valid one.
pub says_valid : {P : Rule} {n : ℕ} {h : History} {was : ℕ → ℕ} {c : Call} {a : Reply} {is : ℕ → ℕ} → Valid n h → Says P n h was c a is → Valid n (after c a h)
says_valid {P} {n} {h} {was} v (takes_it {r = r} m) = found_valid v (found P n h (was (post r)) r)
says_valid v (ragged ne) = v
says_valid v (feeds_it {bytes = bytes} e f) = feed_valid bytes v f
says_valid v relates_them = v
says_valid v reaches_it = v
says_valid v writes_it = v
says_valid v hears_them = v
says_valid v clusters_it = v

-- What is known where a call was answered.
pub record Turn (P : Rule) (n : ℕ) (c : Call) (a : Reply) (g : History) : Type 0 where
  pub was : ℕ → ℕ
  pub is : ℕ → ℕ
  pub says : Says P n g was c a is
  pub valid : Valid n g

pub asked_turn : {P : Rule} {n : ℕ} {c : Call} {a : Reply} {g : History} {h : History} {was : ℕ → ℕ} {cs : List Call} {xs : List Reply}
    → Valid n h → Run P n h was cs xs → Asked c a g h cs xs → Turn P n c a g
asked_turn v end at = elim at [ ]
asked_turn v (turn {was = was} {is = is} s k rest) here = record { was = was; is = is; says = s; valid = v }
asked_turn v (turn s k rest) (later at) = asked_turn (says_valid v s) rest at

-- A history that a turn leaves is the one before with further records.
pub record Grown (h later : History) : Type 0 where
  pub further : List Bytes
  pub same : fed h further ≡ later

same_history : {h : History} → Grown h h
same_history = record { further = []; same = refl }

pub says_grown : {P : Rule} {n : ℕ} {h : History} {was : ℕ → ℕ} {c : Call} {a : Reply} {is : ℕ → ℕ} → Says P n h was c a is → Grown h (after c a h)
says_grown {P} {n} {h} {was} (takes_it {r = r} m) = go (found P n h (was (post r)) r)
  where
    go : {a : Result Taken TakeFault} → Found P n h (was (post r)) r a → Grown h (after_take h r a)
    go (refused ne) = same_history
    go (lacking g l) = same_history
    go (entered g l) = record { further = r ∷ []; same = refl }
says_grown (ragged ne) = same_history
says_grown (feeds_it {bytes = bytes} {a = a} e f) = record { further = records (taken_of a) bytes; same = refl }
says_grown relates_them = same_history
says_grown reaches_it = same_history
says_grown writes_it = same_history
says_grown hears_them = same_history
says_grown clusters_it = same_history

valid_before : {n : ℕ} {r : Bytes} {h : History} → Valid n (r ∷ h) → Valid n h
valid_before (taken v g) = v

fed_before : {n : ℕ} (h : History) (rs : List Bytes) → Valid n (fed h rs) → Valid n h
fed_before h [] v = v
fed_before h (r ∷ rs) v = valid_before (fed_before (r ∷ h) rs v)

-- Posts together stay together in every longer history.
pub together_longer : TogetherStays → (P : Rule) (n : ℕ) (h : History) (rs : List Bytes) → n ≤ 64 → Valid n (fed h rs)
    → (p q : ℕ) → p < n → has (cluster_of P h p) q ≡ true → has (cluster_of P (fed h rs) p) q ≡ true
together_longer stays P n h [] most v p q l t = t
together_longer stays P n h (r ∷ rs) most v p q l t =
    together_longer stays P n (r ∷ h) rs most v p q l (stays P n h r most (fed_before (r ∷ h) rs v) p q l t)

-- Each turn keeps clusters, by the laws of clusters.
pub says_clusters : LimitKept → TogetherStays
    → {P : Rule} {n : ℕ} {h : History} {was : ℕ → ℕ} {c : Call} {a : Reply} {is : ℕ → ℕ} → n ≤ 64 → Valid n h → Says P n h was c a is → ClustersKept P n h (after c a h)
says_clusters kept stays {P} {n} {h} {c = c} {a = a} most v s =
    let w = says_grown s in
    let valid = says_valid v s in
    record {
      small = kept P n (after c a h) most valid;
      together = rw w.same at (together_longer stays P n h w.further most (rw (← w.same) at valid));
    }
