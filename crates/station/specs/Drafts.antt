-- What is decided of a record that no ground on its form, number or partner refuses.
use Rattle.std.specs.Prelude.{◌≡◌, ℕ, max, cond, ◌∷◌, map, slice_index}
use Rattle.cluster.specs.Clusters.{outcome, cover, latest_full}
use Rattle.cluster.specs.Rules.{Rule}
use Rattle.join.specs.declared.vector.Vector.{Vector}
use Rattle.order.specs.History.{History, count, ground}
use Rattle.order.specs.Posts.{members}
use Rattle.order.specs.Reads.{record_of}
use Rattle.order.specs.Records.{Bytes, post, number, kind, kind_named, receives, partner_post, partner_number}
use Rattle.order.specs.Vectors.{vec}
use Rattle.order.specs.declared.«record».Record.{Record}
use Rattle.station.specs.declared.drafts.Draft.{Draft}
use Rattle.station.specs.declared.drafts.Ruling.{Ruling}

-- the entry of a vector for a post
abbrev pub at : Vector → ℕ → ℕ
at v q = slice_index v.entries q

-- what the event of a record that comes after h knows of post q, but for itself: all that its post's preceding event
-- and its send know
abbrev pub known_before : History → Bytes → ℕ → ℕ
known_before h b q = max (vec h (post b) (count h (post b)) q) (cond (receives b) (vec h (partner_post b) (partner_number b) q) 0)

-- what the bytes say of a record that no ground on its form, number or partner refuses
pub record Due (n : ℕ) (h : History) (b : Bytes) (r : Record) : Type 0 where
  pub fine : ground n h b ≡ 0
  pub is : r ≡ record_of b

-- the outcome and the cover are those that the cluster rule gives
pub record Ruled (P : Rule) (n : ℕ) (h : History) (b : Bytes) (r : Ruling) : Type 0 where
  pub outcome_is : r.outcome ≡ outcome P h b
  pub cover_is : r.cover.bits ≡ cover P n h b

-- the stamp that the record is to have
pub record Drafted (P : Rule) (n : ℕ) (h : History) (b : Bytes) (d : Draft) : Type 0 where
  pub due : Due n h b d.«record»
  pub outcome_is : d.outcome ≡ outcome P h b
  pub kind_is : d.header.kind ≡ kind_named (kind b)
  pub cover_is : d.header.cover.bits ≡ cover P n h b
  pub full_is : d.header.full ≡ latest_full P n (b ∷ h) (post b) (number b)
  pub entries_are : map (at d.vector) (members d.header.cover.bits) ≡ map (vec (b ∷ h) (post b) (number b)) (members (cover P n h b))
