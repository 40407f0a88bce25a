-- What the entry of a stamp answers and leaves.
use Rattle.std.specs.Prelude.{◌≡◌, ℕ, ◌<◌, ◌≤◌, cond, ◌∷◌, Ok, Err, Result, nat_le}
use Rattle.cluster.specs.Clusters.{cluster, cover}
use Rattle.cluster.specs.Kept.{kept}
use Rattle.cluster.specs.Partitions.{clusters}
use Rattle.cluster.specs.Rules.{Rule}
use Rattle.cluster.specs.Counts.{Tells}
use Rattle.cluster.specs.declared.exchanges.Exchanges.{Exchanges}
use Rattle.cluster.specs.declared.partition.Partition.{Partition}
use Rattle.keeper.specs.Piles.{Pile, held_count, price, stamp_of}
use Rattle.keeper.specs.declared.fault.KeeperFault.{KeeperFault}
use Rattle.keeper.specs.declared.fault.KeeperFault.TheVariants.{NoSpace}
use Rattle.order.specs.History.{History, count}
use Rattle.order.specs.Posts.{size}
use Rattle.order.specs.Records.{Bytes, post}
use Rattle.station.specs.Takes.{Pays}

-- the stamps of the posts below n are those of the history
pub record Holds (P : Rule) (n : ℕ) (m : Pile) (h : History) : Type 0 where
  pub counts : (p : ℕ) → p < n → held_count m p ≡ count h p
  pub stamps : (p k : ℕ) → p < n → 0 < k → k ≤ count h p → stamp_of m p k ≡ kept P n h p k

-- whether there is space for the stamp of a record
unfoldable pub room_for : Rule → ℕ → History → Bytes → ℕ → Result (Unit {0}) KeeperFault
room_for P n h b space = let wanted = price (size (cover P n h b)) in cond (nat_le wanted space) (Ok tt) (Err (NoSpace wanted space))

-- the pile and the exchanges after the stamp of a record went in
pub record Stamped (P : Rule) (n : ℕ) (h : History) (b : Bytes) (was is : Pile) (table : Exchanges) : Type 0 where
  pub same_posts : is.posts ≡ was.posts
  pub holds : Holds P n is (b ∷ h)
  pub tells : Tells table (b ∷ h)
  pub pays : Pays (post b) (price (size (cover P n h b))) was.space is.space

-- the partition has the clusters of a history
pub record Groups (P : Rule) (n : ℕ) (h : History) (partition : Partition) : Type 0 where
  pub parts : partition.posts ≡ n
  pub grouped : (p : ℕ) → p < n → clusters partition p ≡ cluster P h p
