-- What a pile holds for a history, before and after an append and a mark.
use Rattle.std.proofs.Common.{◌≡◌, ℕ, suc, ◌-◌, ◌<◌, ◌≤◌, ◌≢◌, List, [], ◌∷◌, ◌++◌, length, get_or, set, sym, refl, ap, ◌∙◌, subst, subst₂, inl, inr, arith, length-append, length-set, get_or-set_other, get_or-set_same}
use Rattle.cluster.proofs.Kept.{Names, kept_same, kept_marked}
use Rattle.cluster.specs.Kept.{kept}
use Rattle.cluster.specs.Rules.{Rule}
use Rattle.keeper.specs.Moves.{Appended, Marked}
use Rattle.keeper.specs.Piles.{Pile, Stamp, no_stamp, held_count, stamp_of, with_mark}
use Rattle.order.proofs.Held.{passed, count_own, count_other, count_grows}
use Rattle.order.proofs.Vectors.{At, at}
use Rattle.order.proofs.Vectors.At.{new, old}
use Rattle.order.specs.History.{History, Valid, count, ground}
use Rattle.order.specs.Records.{Bytes, post, kind, partner_post, partner_number}
use Rattle.station.specs.Entries.{Holds}
use Rattle.std.proofs.lemmas.List.{get_or_append_left, get_or_push}
use Rattle.std.proofs.lemmas.Bool.{cases_eq}

module _ (P : Rule) (n : ℕ) (h : History) (b : Bytes) (v : Valid n h) (g : ground n h b ≡ 0) (m is : Pile) (held : Holds P n m h) where
  own_post : post b < n
  own_post = (passed n h b g).inside

  module _ (s : Stamp) (fresh : s ≡ kept P n (b ∷ h) (post b) (suc (count h (post b)))) (a : Appended m is (post b) s) where
    pub grown_counts : (p : ℕ) → p < n → held_count is p ≡ count (b ∷ h) p
    grown_counts p inside = elim (cases_eq (post b) p) [
      | inl same ↦ subst (λ (x : ℕ). held_count is x ≡ count (b ∷ h) x) same
          (ap length a.own ∙ length-append (m.stamps (post b)) (s ∷ []) ∙ omega (arith, held.counts (post b) own_post, count_own b h))
      | inr ne ↦ ap length (a.others p (λ e. ne (sym e))) ∙ held.counts p inside ∙ sym (count_other b h p ne)
    ]

    newest_stamp : stamp_of is (post b) (suc (count h (post b))) ≡ s
    newest_stamp =
        ap (λ (xs : List Stamp). get_or xs (suc (count h (post b)) - 1) no_stamp) a.own
        ∙ get_or_push (m.stamps (post b)) s no_stamp (suc (count h (post b)) - 1) (omega (arith, held.counts (post b) own_post))

    older_stamp : (p k : ℕ) → p < n → 0 < k → k ≤ count h p → stamp_of is p k ≡ kept P n h p k
    older_stamp p k inside some most = elim (cases_eq p (post b)) [
      | inl same ↦
          ap (λ (xs : List Stamp). get_or xs (k - 1) no_stamp) (subst (λ (x : ℕ). is.stamps x ≡ m.stamps x ++ s ∷ []) (sym same) a.own)
          ∙ get_or_append_left (m.stamps p) (s ∷ []) no_stamp (k - 1) (omega (arith, held.counts p inside))
          ∙ held.stamps p k inside some most
      | inr ne ↦ ap (λ (xs : List Stamp). get_or xs (k - 1) no_stamp) (a.others p ne) ∙ held.stamps p k inside some most
    ]

    -- a record that is no receive leaves every mark
    pub holds_plain : (kind b ≡ 2 → ⊥) → Holds P n is (b ∷ h)
    holds_plain ne = record { counts = grown_counts; stamps = λ p k inside some most. go p k inside some (at b h p k most) }
      where
        go : (p k : ℕ) → p < n → 0 < k → At b h p k → stamp_of is p k ≡ kept P n (b ∷ h) p k
        go _ _ inside some new = newest_stamp ∙ fresh
        go p k inside some (old most) = older_stamp p k inside some most ∙ sym (kept_same P n b h g p k most (λ names. ne names.0))

    -- a receive marks its partner
    module _ (two : kind b ≡ 2) (last : Pile) (mark : Marked is last (partner_post b) (partner_number b)) where
      pub marked_counts : (p : ℕ) → p < n → held_count last p ≡ count (b ∷ h) p
      marked_counts p inside = elim (cases_eq p (partner_post b)) [
        | inl same ↦ ap length (subst (λ (x : ℕ). last.stamps x ≡ set (is.stamps x) (partner_number b - 1) (with_mark (stamp_of is (partner_post b) (partner_number b)))) (sym same) mark.own)
            ∙ length-set (is.stamps p) _ _ ∙ grown_counts p inside
        | inr ne ↦ ap length (mark.others p ne) ∙ grown_counts p inside
      ]

      pair_most : partner_number b ≤ count h (partner_post b)
      pair_most = ((passed n h b g).pair two).most

      pair_some : 0 < partner_number b
      pair_some = ((passed n h b g).pair two).some

      pair_inside : partner_post b < n
      pair_inside = ((passed n h b g).pair two).inside

      -- every stamp but the partner's is as it was
      left : (p k : ℕ) → (Names b p k → ⊥) → 0 < k → stamp_of last p k ≡ stamp_of is p k
      left p k other some = elim (cases_eq p (partner_post b)) [
        | inl same ↦
            let ne : k - 1 ≢ partner_number b - 1 = λ e. other (two, (sym same, omega (arith, e, pair_some))) in
            ap (λ (xs : List Stamp). get_or xs (k - 1) no_stamp) (subst (λ (x : ℕ). last.stamps x ≡ set (is.stamps x) (partner_number b - 1) (with_mark (stamp_of is (partner_post b) (partner_number b)))) (sym same) mark.own)
            ∙ get_or-set_other (is.stamps p) (partner_number b - 1) (k - 1) _ no_stamp ne
        | inr ne ↦ ap (λ (xs : List Stamp). get_or xs (k - 1) no_stamp) (mark.others p ne)
      ]

      partner_marked : stamp_of last (partner_post b) (partner_number b) ≡ with_mark (kept P n h (partner_post b) (partner_number b))
      partner_marked =
          ap (λ (xs : List Stamp). get_or xs (partner_number b - 1) no_stamp) mark.own
          ∙ get_or-set_same (is.stamps (partner_post b)) (partner_number b - 1) _ no_stamp (omega (arith, pair_some, pair_most, grown_counts (partner_post b) pair_inside, count_grows b h (partner_post b)))
          ∙ ap with_mark (older_stamp (partner_post b) (partner_number b) pair_inside pair_some pair_most)

      pub holds_receive : Holds P n last (b ∷ h)
      holds_receive = record { counts = marked_counts; stamps = λ p k inside some most. go p k inside some (at b h p k most) }
        where
          go : (p k : ℕ) → p < n → 0 < k → At b h p k → stamp_of last p k ≡ kept P n (b ∷ h) p k
          go _ _ inside some new =
              left (post b) (suc (count h (post b))) (λ names. ((passed n h b g).pair two).apart names.1.0) some ∙ newest_stamp ∙ fresh
          go p k inside some (old most) = elim (cases_eq (partner_post b) p) [
            | inl same ↦ elim (cases_eq (partner_number b) k) [
              | inl also ↦ subst₂ (λ (x y : ℕ). stamp_of last x y ≡ kept P n (b ∷ h) x y) same also
                  (partner_marked ∙ sym (kept_marked P n b h g (partner_post b) (partner_number b) pair_most (two, (refl, refl))))
              | inr ne ↦ left p k (λ names. ne names.1.1) some ∙ older_stamp p k inside some most ∙ sym (kept_same P n b h g p k most (λ names. ne names.1.1))
            ]
            | inr ne ↦ left p k (λ names. ne names.1.0) some ∙ older_stamp p k inside some most ∙ sym (kept_same P n b h g p k most (λ names. ne names.1.0))
          ]
