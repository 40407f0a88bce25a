-- What an append leaves.
use Rattle.std.proofs.Common.{◌≡◌, ℕ, suc, ◌+◌, ◌<◌, ◌≤◌, List, map, length, get_or, Ok, sym, refl, ap, ◌∙◌, inl, inr, arith}
use Rattle.std.proofs.lemmas.List.{map_push, length-set}
use Rattle.std.proofs.lemmas.List.Sums.{sum_by-set}
use Rattle.std.proofs.lemmas.Bool.{cases_eq}
use Rattle.keeper.specs.Moves.{Appends}
use Rattle.keeper.specs.declared.admit.Header.{Header}
use Rattle.pool.specs.Layout.{stamp_at, past, Packs, with_stamp}
use Rattle.pool.specs.Room.{Room}
use Rattle.pool.specs.Stack.{none, latest_of, start, places, total, pile, Sound}
use Rattle.pool.specs.declared.Index.{Index}
use Rattle.pool.specs.declared.Latest.{Latest}
use Rattle.pool.proofs.Cells.{stamp_alike, length_written, below_written, Written, written}
use Rattle.keeper.proofs.Admitted.{admitted}
use Rattle.pool.proofs.Stacks.{start_past, place_starts, below_keeps, Pushed, own_places, other_places, one_more, with_latest, own_latest, other_latest, laid_push, map_same}

-- the index after an append
abbrev pub next_index : Index → ℕ → ℕ → Index
next_index ix p end = record { posts = ix.posts; used = end; latest = with_latest ix.latest p ix.used }

total_next : (ix : Index) (p end : ℕ) → p < length ix.latest → total (next_index ix p end) ≡ suc (total ix)
total_next ix p end h = omega (arith, sum_by-set (λ (t : Latest). t.count) ix.latest p (one_more ix.latest p ix.used) none h)

-- a stamp that is admitted, written at the end
pub append_done
    : {ix : Index} {xs : List ℕ} {p : ℕ} {header : Header} {hs es : List ℕ} {end : ℕ} → Sound ix xs → Room ix xs p header.cover.bits (length es) end
    → Packs hs p header (latest_of ix.latest p).newest
    → Sound (next_index ix p end) (with_stamp xs ix.used hs es)
    × Appends (pile ix xs) (pile (next_index ix p end) (with_stamp xs ix.used hs es)) p header es (Ok tt)
append_done {ix} {xs} {p} {header} {hs} {es} {end} s room packs = (
  record {
    few_posts = s.few_posts;
    slots = length-set ix.latest p _ ∙ s.slots;
    few = few;
    within = omega (arith, long, room.holds);
    laid = rw more (laid_push s.laid pushed wrote.linked (wrote.ends ∙ sym room.is) slot);
  },
  record {
    answer = room.admitted;
    leaves =
        record {
          same_posts = refl;
          own = rw (more, own_places pushed, map_push (stamp_at ys) (places xs p n) ix.used, kept p, wrote.stamp) refl;
          others = λ q ne. rw (more, other_places pushed q ne) (kept q);
          paid = omega (arith, long, room.holds, room.is, s.within);
          falls = λ q. omega (arith, long, room.is);
          at_most = λ q. omega (arith, long, room.is);
        };
  },
)
  where
    slot : p < length ix.latest
    slot = omega (arith, room.known, s.slots)

    n : ℕ
    n = total ix

    ys : List ℕ
    ys = with_stamp xs ix.used hs es

    next : Index
    next = next_index ix p end

    fits : ix.used + 8 + length es ≤ length xs
    fits = omega (arith, room.is, room.holds)

    long : length ys ≡ length xs
    long = length_written xs ix.used hs es packs.long fits

    more : total next ≡ suc n
    more = total_next ix p end slot

    few : (q : ℕ) → (latest_of next.latest q).count ≤ 65535
    few q =
        elim (cases_eq q p)
        [ inl e ↦ rw (e, own_latest ix.latest p ix.used slot) (omega (arith, room.numbers)) | inr ne ↦ rw (other_latest ix.latest p ix.used q ne) (s.few q) ]

    same : (k : ℕ) → k < start xs n → get_or ys k 0 ≡ get_or xs k 0
    same k h = below_written xs ix.used hs es s.within k (omega (arith, s.laid.ends))

    wrote : Written xs ix.used hs es p header (latest_of ix.latest p).newest
    wrote = written xs ix.used hs es p header (latest_of ix.latest p).newest packs s.within (admitted _ _ _ _ _ _ room.admitted).sized

    pushed : Pushed ys xs n p ix.used
    pushed = record { keeps = below_keeps ys xs n long same; at = s.laid.ends; posted = wrote.posted }

    kept : (q : ℕ) → map (stamp_at ys) (places xs q n) ≡ map (stamp_at xs) (places xs q n)
    kept q =
        map_same (stamp_at ys) (stamp_at xs) (places xs q n)
        (λ k d h.
        let t = place_starts xs q n k d h in
        stamp_alike ys xs (get_or (places xs q n) k d) long (λ j _ m. same j (omega (arith, start_past xs t.after n t.before, ap (past xs) t.is))))
