-- A post's count, a stamp's entries, and room for a stamp.
use Rattle.std.proofs.Common.{◌≡◌, ℕ, ◌+◌, ◌-◌, ◌*◌, ◌^◌, ◌<◌, ◌≤◌, true, List, length, get_or, drop, Ok, sym, ◌∙◌, arith}
use Rattle.std.proofs.lemmas.List.{length-map, get_or-take, get_or-drop}
use Rattle.std.proofs.lemmas.List.Elements.{All-from_get_or}
use Rattle.std.proofs.lemmas.List.Sums.{sum_by-le}
use Rattle.std.proofs.lemmas.Bool.Decides.{nat_tests}
use Rattle.order.specs.Posts.{has, below, size}
use Rattle.order.proofs.PostSets.{has_bound, rank_below}
use Rattle.keeper.specs.Answers.{admission}
use Rattle.keeper.proofs.Admitted.{admitted}
use Rattle.pool.specs.Layout.{cover_at, entries_at, stamp_at}
use Rattle.pool.specs.Stack.{latest_of, none, places_of, total, pile, Sound}
use Rattle.pool.specs.declared.Index.{Index}
use Rattle.pool.specs.declared.Latest.{Latest}
use Rattle.pool.proofs.Stacks.{start_less}

-- the count of a post, by its stamps
pub count_is : {ix : Index} {cells : List ℕ} → Sound ix cells → (p : ℕ) → (latest_of ix.latest p).count ≡ length ((pile ix cells).stamps p)
count_is {ix} {cells} s p = sym (length-map (places_of ix cells p) (stamp_at cells) ∙ s.laid.counted p)

-- the entry for a covered post
pub entry_is
    : (cells : List ℕ) (a q cover : ℕ) → cover ≡ cover_at cells a → cover < 2 ^ 64 → has cover q ≡ true
    → get_or (entries_at cells a) (length (below q cover)) 0 ≡ get_or cells (a + 8 + length (below q cover)) 0
unfolding entries_at
entry_is cells a q cover e b h =
    rw (← e) (get_or-take (size cover) (drop (a + 8) cells) (length (below q cover)) 0 (rank_below q 64 cover (has_bound cover q b h) h)
    ∙ get_or-drop (a + 8) cells (length (below q cover)) 0)

total_less : {ix : Index} {cells : List ℕ} → Sound ix cells → total ix ≤ 64 * 65535
total_less {ix} s =
    omega (arith, sum_by-le (λ (t : Latest). t.count) 65535 ix.latest (All-from_get_or (λ (t : Latest). t.count ≤ 65535) ix.latest none (λ i _. s.few i)), s.slots)

-- a stamp that is admitted has a slot, and ends within the cells and 32 bits
pub record Fits (ix : Index) (cells : List ℕ) (p n : ℕ) : Type 0 where
  pub slot : p < 64
  pub inside : ix.used + 8 + n ≤ length cells
  pub within : ix.used + 8 + n ≤ 4294967295

pub roomy
    : {ix : Index} {cells : List ℕ} (p cover n : ℕ) → Sound ix cells → Ok tt ≡ admission ix.posts (latest_of ix.latest p).count (length cells - ix.used) p cover n
    → Fits ix cells p n
roomy {ix} {cells} p cover n s e =
    let a = admitted ix.posts (latest_of ix.latest p).count (length cells - ix.used) p cover n e in
    let holds : n + 8 ≤ length cells - ix.used = grind (arith, nat_tests) in
    record {
      slot = omega (arith, s.few_posts, a.known);
      inside = omega (arith, s.within);
      within = omega (arith, s.laid.ends, start_less cells (total ix), total_less s, a.few);
    }
