-- What is kept of each event, and how every entry comes back from what is kept.
use Rattle.std.specs.Prelude.{ℕ, max, true, false, List, [], ◌∷◌, map, ◌==◌}
use Rattle.keeper.specs.Piles.{Stamp, entry_of}
use Rattle.order.specs.History.{History, kind_at, received}
use Rattle.order.specs.Posts.{has, members}
use Rattle.order.specs.Records.{kind_named}
use Rattle.order.specs.Vectors.{vec}
use Rattle.cluster.specs.Clusters.{cover_at, latest_full}
use Rattle.cluster.specs.Rules.{Rule}

-- the stamp of event k of post p: its vector cut to its cover
unfoldable pub kept : Rule → ℕ → History → ℕ → ℕ → Stamp
kept P n h p k = record {
  kind = kind_named (kind_at h p k);
  marked = received h p k;
  cover = cover_at P n h p k;
  full = latest_full P n h p k;
  entries = map (vec h p k) (members (cover_at P n h p k));
}

abbrev pub largest : List ℕ → ℕ
largest [] = 0
largest (x ∷ xs) = max x (largest xs)

-- what the latest full event of post x up to its event m says of post q; nothing where there is none
abbrev pub told : (ℕ → ℕ → Stamp) → ℕ → ℕ → ℕ → ℕ
told stamps x m q =
    elim (m == 0) [
      | true ↦ 0
      | false ↦ let f = (stamps x m).full in elim (f == 0) [ true ↦ 0 | false ↦ entry_of (stamps x f) q ]
    ]

-- The entry for post q of event k of post p, from stamps alone: the kept one if q is covered, else the largest that
-- is told by the latest full events, up to the kept entries, of the covered posts.
abbrev pub recovered : (ℕ → ℕ → Stamp) → ℕ → ℕ → ℕ → ℕ
recovered stamps p k q =
    let s = stamps p k in
    elim (has s.cover q) [
      | true ↦ entry_of s q
      | false ↦ largest (map (λ x. told stamps x (entry_of s x) q) (members s.cover))
    ]
