-- Turns played one after the other: what holds of the first k.
use Rattle.std.proofs.Common.{◌≡◌, ℕ, ◌+◌, ◌<◌, true, List, [], ◌∷◌, ◌++◌, map, length, get_or, take, drop, set, refl, ap, ◌∙◌, sym, add-zero, arith}
use lib.Seq.{append_snoc}
use Rattle.std.proofs.lemmas.List.{append-nil, length-map, length_push, length-set, length-take, map_more, map_push, take_more_set, drop-drop, drop-set-lt, get_or-drop}
use Rattle.cluster.proofs.Clusters.{limit_kept, together_stays}
use Rattle.cluster.specs.declared.policy.Policy.{Ghosts as OfPolicy}
use Rattle.keeper.specs.declared.Keeper.{Ghosts as OfKeeper}
use Rattle.order.specs.History.{History}
use Rattle.station.specs.Stands.{Stands}
use Rattle.station.specs.declared.state.Station.{Station}
use Rattle.runs.specs.Calls.{Call, Reply, after, barred as refusal}
use Rattle.runs.specs.Played.{Played, Replayed, after_all}
use Rattle.runs.specs.Runs.{Says, Run, ClustersKept}
use Rattle.runs.specs.Runs.Run.{end, turn}
use Rattle.runs.specs.Views.{call_of, reply_of, slice_of, with_slice, with_slices, calls, paired, replies}
use Rattle.runs.specs.declared.turns.Answer.{Answer}
use Rattle.runs.specs.declared.turns.Turn.{Turn}
use Rattle.runs.proofs.Histories.{says_clusters}
use Rattle.runs.proofs.Turned.{Plays}

-- Some calls were answered: whatever more would be answered from there on, the whole is a run.
pub record Goes {P K : Type 0} (policy : OfPolicy P) (keeper : OfKeeper K) (was is : Station P K) (h : History) (cs : List Call) (xs : List Reply) : Type 0 where
  pub even : length cs ≡ length xs
  pub stands : Stands policy keeper is (after_all cs xs h)
  pub same_policy : is.policy ≡ was.policy
  pub same_posts : (keeper.meaning is.keeper).posts ≡ (keeper.meaning was.keeper).posts
  pub whole : (ds : List Call) (ys : List Reply)
      → Run (policy.rule was.policy) (keeper.meaning was.keeper).posts (after_all cs xs h) (keeper.meaning is.keeper).space ds ys
      → Run (policy.rule was.policy) (keeper.meaning was.keeper).posts h (keeper.meaning was.keeper).space (cs ++ ds) (xs ++ ys)

after_all_more : (cs : List Call) (xs : List Reply) (h : History) (c : Call) (a : Reply) → length cs ≡ length xs
    → after_all (cs ++ c ∷ []) (xs ++ a ∷ []) h ≡ after c a (after_all cs xs h)
after_all_more [] [] h c a e = refl
after_all_more [] (b ∷ xs) h c a e = absurd (omega arith)
after_all_more (d ∷ cs) [] h c a e = absurd (omega arith)
after_all_more (d ∷ cs) (b ∷ xs) h c a e = after_all_more cs xs (after d b h) c a (omega arith)

-- one more call
goes_more : {P K : Type 0} (policy : OfPolicy P) (keeper : OfKeeper K) (was mid is : Station P K) (h : History) (cs : List Call) (xs : List Reply) (c : Call) (a : Reply)
    → Goes policy keeper was mid h cs xs → Played policy keeper mid is (after_all cs xs h) c a
    → Goes policy keeper was is h (cs ++ c ∷ []) (xs ++ a ∷ [])
goes_more policy keeper was mid is h cs xs c a g p = record {
  even = simp length_push (ap (λ (n : ℕ). n + 1) g.even);
  stands = rw next p.stands;
  same_policy = p.same_policy ∙ g.same_policy;
  same_posts = p.same_posts ∙ g.same_posts;
  whole = λ ds ys rest. rw (append_snoc cs c ds, append_snoc xs a ys) (g.whole (c ∷ ds) (a ∷ ys) (turn says kept (rw next at rest)));
}
  where
    next : after_all (cs ++ c ∷ []) (xs ++ a ∷ []) h ≡ after c a (after_all cs xs h)
    next = after_all_more cs xs h c a g.even

    says : Says (policy.rule was.policy) (keeper.meaning was.keeper).posts (after_all cs xs h) (keeper.meaning mid.keeper).space c a (keeper.meaning is.keeper).space
    says = rw (g.same_policy, g.same_posts) at p.says

    kept : ClustersKept (policy.rule was.policy) (keeper.meaning was.keeper).posts (after_all cs xs h) (after c a (after_all cs xs h))
    kept = rw (g.same_policy, g.same_posts) at (says_clusters limit_kept together_stays g.stands.few g.stands.valid p.says)

-- What holds after the first k turns.
pub record Sofar {P K : Type 0} (policy : OfPolicy P) (keeper : OfKeeper K) (was is : Station P K) (k : ℕ) (turns later : List Turn) (answers written : List Answer) : Type 0 where
  pub turns_kept : length later ≡ length turns
  pub turns_rest : drop k later ≡ drop k turns
  pub answers_rest : drop k written ≡ drop k answers
  pub arguments : calls k later ≡ with_slices (calls k turns) (take k later)
  pub barred : was.barred ≡ true → (replies k later written ≡ map refusal (calls k turns)) × (is ≡ was)
  pub goes : (h : History) → Stands policy keeper was h → Goes policy keeper was is h (calls k turns) (replies k later written)

same_at : {X : Type 0} (k : ℕ) (xs ys : List X) (d : X) → drop k xs ≡ drop k ys → get_or xs k d ≡ get_or ys k d
same_at k xs ys d e = sym (rw (add-zero, e) at (get_or-drop k xs 0 d)) ∙ (rw add-zero at (get_or-drop k ys 0 d))

rest_more : {X : Type 0} (k : ℕ) (xs ys : List X) (y : X) → drop k xs ≡ drop k ys → drop (k + 1) (set xs k y) ≡ drop (k + 1) ys
rest_more k xs ys y e = rw (drop-set-lt (k + 1) xs k y (omega arith), ← drop-drop 1 k xs, e, drop-drop 1 k ys)

paired_push : (ts : List Turn) (as' : List Answer) (t : Turn) (a : Answer) → length ts ≡ length as'
    → paired (ts ++ t ∷ []) (as' ++ a ∷ []) ≡ paired ts as' ++ reply_of t a ∷ []
paired_push [] [] t a e = refl
paired_push [] (b ∷ as') t a e = absurd (omega arith)
paired_push (u ∷ ts) [] t a e = absurd (omega arith)
paired_push (u ∷ ts) (b ∷ as') t a e = rw (paired_push ts as' t a (omega arith))

with_slices_push : (cs : List Call) (ts : List Turn) (c : Call) (t : Turn) → length cs ≡ length ts
    → with_slices (cs ++ c ∷ []) (ts ++ t ∷ []) ≡ with_slices cs ts ++ with_slice c (slice_of t) ∷ []
with_slices_push [] [] c t e = refl
with_slices_push [] (u ∷ ts) c t e = absurd (omega arith)
with_slices_push (d ∷ cs) [] c t e = absurd (omega arith)
with_slices_push (d ∷ cs) (u ∷ ts) c t e = rw (with_slices_push cs ts c t (omega arith))

-- the next turn: u is what the turn at place k is afterwards
pub sofar_more : {P K : Type 0} (policy : OfPolicy P) (keeper : OfKeeper K) (was mid is : Station P K) (k : ℕ) (turns later : List Turn) (answers written : List Answer)
    (d u : Turn) (a : Answer)
    → Sofar policy keeper was mid k turns later answers written → k < length later → k < length written
    → Plays policy keeper mid is (call_of (get_or later k d)) (reply_of u a) (call_of u) (slice_of u)
    → Sofar policy keeper was is (k + 1) turns (set later k u) answers (set written k a)
sofar_more {P} {K} policy keeper was mid is k turns later answers written d u a s lt la p = record {
  turns_kept = length-set later k u ∙ s.turns_kept;
  turns_rest = rest_more k later turns u s.turns_rest;
  answers_rest = rest_more k written answers a s.answers_rest;
  arguments =
      rw (turns_more, calls_more, map_push call_of (take k later) u, with_slices_push (calls k turns) (take k later) (call_of (get_or later k d)) u even, ← s.arguments, p.arguments);
  barred = λ e.
      let w = s.barred e in
      let q = p.barred (ap (λ (x : Station P K). x.barred) w.1 ∙ e) in
      (rw (replies_more, calls_more, map_push refusal (calls k turns) (call_of (get_or later k d)), w.0, q.0), q.1 ∙ w.1);
  goes = λ h st.
      let g = s.goes h st in
      rw (calls_more, replies_more)
      (goes_more policy keeper was mid is h (calls k turns) (replies k later written) (call_of (get_or later k d)) (reply_of u a) g (p.played _ g.stands));
}
  where
    turns_more : take (k + 1) (set later k u) ≡ take k later ++ u ∷ []
    turns_more = take_more_set later k u lt

    calls_more : calls (k + 1) turns ≡ calls k turns ++ call_of (get_or later k d) ∷ []
    calls_more = rw (same_at k later turns d s.turns_rest) (map_more call_of turns k d (omega (arith, s.turns_kept)))

    replies_more : replies (k + 1) (set later k u) (set written k a) ≡ replies k later written ++ reply_of u a ∷ []
    replies_more =
        rw (turns_more, take_more_set written k a la)
        (paired_push (take k later) (take k written) u a (simp length-take (omega arith)))

    even : length (calls k turns) ≡ length (take k later)
    even = simp (length-map, length-take) (omega (arith, s.turns_kept))

-- the run, once no more is played
pub goes_run : {P K : Type 0} {policy : OfPolicy P} {keeper : OfKeeper K} {was is : Station P K} {h : History} {cs : List Call} {xs : List Reply}
    → Goes policy keeper was is h cs xs → Replayed policy keeper was is h cs xs
goes_run g = record {
  run = simp append-nil at (g.whole [] [] end);
  stands = g.stands;
  same_policy = g.same_policy;
  same_posts = g.same_posts;
}
