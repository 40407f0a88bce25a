use Rattle.std.proofs.Common.{◌≡◌, [], ◌++◌, length, take as first, drop, refl, ap, ◌∙◌, ap₂}
use Rattle.std.proofs.lemmas.List.{take_at}
use Rattle.runs.specs.Calls.Reply.{related, reached, wrote, heard_of, clustered}
use Rattle.runs.specs.Runs.Says.{relates_them, reaches_it, writes_it, hears_them, clusters_it}
use Rattle.runs.proofs.Turned.{plays_take, plays_feed, plays_question}
use Rattle.runs.proofs.playing.play.Goals as goal

pub returns-in-Take : goal.returns-in-Take
returns-in-Take g c =
    rw (c.in-Take.is, ← c.deref.ensures.value)
    (plays_take c.take.ensures.barred c.take.ensures.took)

pub returns-in-Feed : goal.returns-in-Feed
returns-in-Feed g c =
    rw (c.in-Feed.is, ← c.deref-in-Feed.ensures.value)
    (plays_feed c.feed.ensures.barred c.feed.ensures.ragged c.feed.ensures.fed)

pub returns-in-Relate : goal.returns-in-Relate
returns-in-Relate g c =
    let q = c.relate.ensures in
    rw c.in-Relate.is (plays_question _ _ _ _ _ _ [] (λ b. ap related (q.barred b)) (λ h s. rw (q.answer h s) relates_them) (λ h. refl) refl)

pub returns-in-Reach : goal.returns-in-Reach
returns-in-Reach g c =
    let q = c.reach.ensures in
    rw c.in-Reach.is (plays_question _ _ _ _ _ _ [] (λ b. ap reached (q.barred b)) (λ h s. rw (q.answer h s) reaches_it) (λ h. refl) refl)

pub returns-in-Horizon : goal.returns-in-Horizon
returns-in-Horizon g c =
    let q = c.horizon.ensures in
    let later = first c.in-Horizon.slice.len (c.horizon.new.slice ++ drop (length c.horizon.new.slice) c.in-Horizon.slice.items) in
    let whole : later ≡ c.horizon.new.slice = take_at c.horizon.new.slice _ _ (c.horizon.auto.slice ∙ c.deref_mut.ensures.len) in
    rw (c.in-Horizon.is, whole, ← c.deref-in-Horizon.ensures.value, ← c.deref_mut.ensures.value)
    (plays_question _ _ _ _ _ _ _ (λ b. ap₂ wrote (q.barred b).0 (q.barred b).1) (λ h s. rw ((q.answer h s).1, (q.answer h s).0) writes_it) (λ h. refl) refl)

pub returns-in-Heard : goal.returns-in-Heard
returns-in-Heard g c =
    let q = c.heard.ensures in
    rw (c.in-Heard.is, ← c.deref-in-Heard.ensures.value)
    (plays_question _ _ _ _ _ _ [] (λ b. ap heard_of (q.barred b)) (λ h s. rw (q.answer h s) hears_them) (λ h. refl) refl)

pub returns-in-Cluster : goal.returns-in-Cluster
returns-in-Cluster g c =
    let q = c.cluster.ensures in
    rw c.in-Cluster.is (plays_question _ _ _ _ _ _ [] (λ b. ap clustered (q.barred b)) (λ h s. rw (q.answer h s) clusters_it) (λ h. refl) refl)
