-- Equal turns are answered alike, up to the first refusal for space.
use Rattle.std.proofs.Common.{◌≡◌, ℕ, ◌*◌, ◌⊎◌, List, [], ◌∷◌, Ok, Err, Result, sym, refl, inl, inr}
use Rattle.cluster.proofs.Clusters.{same_rule}
use Rattle.cluster.specs.Rules.{Rule, SameRule}
use Rattle.order.specs.History.{History}
use Rattle.order.specs.Records.{Bytes, post}
use Rattle.station.specs.Feeds.{Feeds}
use Rattle.station.specs.Feeds.Feeds.{done, stops, goes}
use Rattle.station.specs.Takes.{takes}
use Rattle.station.specs.declared.faults.FeedFault.{FeedFault}
use Rattle.station.specs.declared.faults.FeedFault.TheVariants.{Take}
use Rattle.station.specs.declared.faults.TakeFault.{TakeFault}
use Rattle.station.specs.declared.faults.Taken.{Taken}
use Rattle.runs.specs.Calls.{Call, Reply, ForSpace, after}
use Rattle.runs.specs.Calls.ForSpace.{in_take, in_feed}
use Rattle.runs.specs.Calls.Reply.{took, fed}
use Rattle.runs.specs.Comparison.{AlikeUntilSpace}
use Rattle.runs.specs.Comparison.AlikeUntilSpace.{end as all_Alike, space, alike}
use Rattle.runs.specs.Runs.{Says, Run}
use Rattle.runs.specs.Runs.Says.{takes_it, ragged, feeds_it, relates_them, reaches_it, writes_it, hears_them, clusters_it}
use Rattle.runs.specs.Runs.Run.{end, turn}
use Rattle.runs.proofs.Histories.{Found, found}
use Rattle.runs.proofs.Histories.Found.{refused, lacking, entered}

-- two answers that are equal, or one of which refuses for space
abbrev Same : Reply → Reply → Type 0
Same a b = (a ≡ b) ⊎ (ForSpace a ⊎ ForSpace b)

-- Two takes at one history differ only by space.
found_same : {P : Rule} {n : ℕ} {h : History} {s t : ℕ} {r : Bytes} {a b : Result Taken TakeFault} → Found P n h s r a → Found P n h t r b → Same (took a) (took b)
found_same (refused ne) (refused me) = inl refl
found_same (refused ne) (lacking g l) = absurd (ne g)
found_same (refused ne) (entered g l) = absurd (ne g)
found_same (lacking g l) y = inr (inl (in_take refl))
found_same (entered g l) (refused ne) = absurd (ne g)
found_same (entered g l) (lacking f m) = inr (inr (in_take refl))
found_same (entered g l) (entered f m) = inl refl

takes_same : (P : Rule) (n : ℕ) (h : History) (s t : ℕ) (r : Bytes) {a b : Result Taken TakeFault} → takes P n h s r ≡ a → takes P n h t r ≡ b → Same (took a) (took b)
takes_same P n h s t r d e = rw (d, e) at (found_same (found P n h s r) (found P n h t r))

-- Two feeds at one record: where both stop, where only the first does, where only the second does.

both_stop : (k : ℕ) {f g : TakeFault} → Same (took (Err f)) (took (Err g)) → Same (fed (Err (Take k f))) (fed (Err (Take k g)))
both_stop k (inl e) = inl (cc)
both_stop k (inr (inl (in_take e))) = inr (inl (in_feed e))
both_stop k (inr (inr (in_take e))) = inr (inr (in_feed e))

first_stops : (k : ℕ) {f : TakeFault} {t : Taken} {b : Reply} → Same (took (Err f)) (took (Ok t)) → Same (fed (Err (Take k f))) b
first_stops k (inl e) = cc
first_stops k (inr (inl (in_take e))) = inr (inl (in_feed e))
first_stops k (inr (inr l)) = elim l [ ]

turned : {a b : Reply} → Same a b → Same b a
turned (inl e) = inl (sym e)
turned (inr (inl l)) = inr (inr l)
turned (inr (inr l)) = inr (inl l)

feeds_same : {P : Rule} {n : ℕ} {rs : List Bytes} {k : ℕ} {h : History} {s t : ℕ → ℕ} {a b : Result ℕ FeedFault} {i j : ℕ → ℕ}
    → Feeds P n rs k h s a i → Feeds P n rs k h t b j → Same (fed a) (fed b)
feeds_same done done = inl refl
feeds_same (stops {k = k} e) (stops d) = both_stop (8 * k) (takes_same _ _ _ _ _ _ e d)
feeds_same (stops {k = k} e) (goes d p y) = first_stops (8 * k) (takes_same _ _ _ _ _ _ e d)
feeds_same (goes {k = k} e p x) (stops d) = turned (first_stops (8 * k) (takes_same _ _ _ _ _ _ d e))
feeds_same (goes e p x) (goes d q y) = feeds_same x y

says_same : {P : Rule} {n : ℕ} {h : History} {s t : ℕ → ℕ} {c : Call} {a b : Reply} {i j : ℕ → ℕ} → Says P n h s c a i → Says P n h t c b j → Same a b
says_same {P} {n} {h} {s} {t} (takes_it {r = r} m) (takes_it k) = found_same (found P n h (s (post r)) r) (found P n h (t (post r)) r)
says_same (ragged ne) (ragged me) = inl refl
says_same (ragged ne) (feeds_it e y) = absurd (ne e)
says_same (feeds_it e x) (ragged ne) = absurd (ne e)
says_same (feeds_it e x) (feeds_it d y) = feeds_same x y
says_same relates_them relates_them = inl refl
says_same reaches_it reaches_it = inl refl
says_same writes_it writes_it = inl refl
says_same hears_them hears_them = inl refl
says_same clusters_it clusters_it = inl refl

one_rule : {P : Rule} {n : ℕ} {h : History} {s t : ℕ → ℕ} {cs : List Call} {xs ys : List Reply} → Run P n h s cs xs → Run P n h t cs ys → AlikeUntilSpace xs ys
one_rule end end = all_Alike
one_rule {P} {n} (turn {h = h} {c = c} {cs = cs} {a = a} {xs = xs} s k x) (turn {is = is} {a = b} {xs = ys} t l y) = go (says_same s t) (λ z. one_rule x z)
  where
    go : Same a b → (Run P n (after c a h) is cs ys → AlikeUntilSpace xs ys) → AlikeUntilSpace (a ∷ xs) (b ∷ ys)
    go (inl e) ih = alike e (ih (rw e y))
    go (inr l) ih = space l

-- Two stations of one rule, asked the same, answer alike until either lacks space.
pub equal_turns : {P Q : Rule} {n : ℕ} {h : History} {s t : ℕ → ℕ} {cs : List Call} {xs ys : List Reply}
    → Run P n h s cs xs → Run Q n h t cs ys → SameRule P Q → AlikeUntilSpace xs ys
equal_turns {P} {Q} x y same = one_rule x (rw (← same_rule P Q same) at y)

-- answers are alike to themselves, as those of two used stations are
pub alike_self : (xs : List Reply) → AlikeUntilSpace xs xs
alike_self [] = all_Alike
alike_self (a ∷ xs) = alike refl (alike_self xs)
