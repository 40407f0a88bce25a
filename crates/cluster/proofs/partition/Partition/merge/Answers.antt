use Rattle.std.proofs.Common.{◌≡◌, refl, ◌∙◌}
use lib.Bits.{bit_or}
use Rattle.cluster.specs.Partitions.{clusters}
use Rattle.cluster.proofs.Partitions.{merged_parted, merged_clusters, merged_unknown}
use Rattle.cluster.proofs.partition.Partition.merge.Goals as goal

pub invariant_of-result : goal.invariant_of-result
invariant_of-result c =
    let s = c.args.self.now in
    let a = c.args.a in
    let b = c.args.b in
    let j : c.union-both.result.bits ≡ bit_or (clusters s a) (clusters s b) = cc in
    record { few = s.few; parted = ∣ merged_parted s a b _ c.with_cluster.result j c.with_cluster.ensures ∣₁ }

pub returns : goal.returns
returns c =
    let s = c.args.self.now in
    let a = c.args.a in
    let b = c.args.b in
    let j : c.union-both.result.bits ≡ bit_or (clusters s a) (clusters s b) = cc in
    let e = merged_clusters s a b _ c.with_cluster.result j c.with_cluster.ensures in
    record { posts = refl; clusters = e; unknown = λ u q. e q ∙ merged_unknown s a b u q }
