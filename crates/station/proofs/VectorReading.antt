-- Full vectors, read back from what a station keeps.
use Rattle.std.proofs.Common.{◌≡◌, ℕ, zero, suc, ◌-◌, ◌<◌, ◌≤◌, max, true, false, cond, ◌&&◌, ltb, ◌⊎◌, List, [], ◌∷◌, ◌++◌, length, get_or, set, replicate, Ok, Err, Result, sym, refl, ap, ◌∙◌, subst, ap₂, inl, inr, arith}
use Rattle.cluster.proofs.Covers.{cover_at_posts, latest_full_most, latest_full_covers, latest_full_last, has_each, source}
use Rattle.cluster.proofs.Kept.{kept-cover, kept_entry}
use Rattle.cluster.specs.Clusters.{cover_at, latest_full}
use Rattle.cluster.specs.Kept.{kept}
use Rattle.cluster.specs.Rules.{Rule}
use Rattle.cluster.specs.declared.policy.Policy.{Ghosts as OfPolicy}
use Rattle.keeper.specs.Answers.{ask_stamp, ask_cover, ask_entry}
use Rattle.keeper.specs.Piles.{Stamp, entry_of}
use Rattle.keeper.specs.declared.fault.KeeperFault.{KeeperFault}
use Rattle.keeper.specs.declared.fault.KeeperFault.TheVariants.{NotCovered, NotHeld}
use Rattle.keeper.specs.declared.Keeper.{Ghosts as OfKeeper}
use Rattle.order.proofs.Held.{passed, count_none, count_other}
use Rattle.order.proofs.Vectors.{vec_none, vec_self, vec-count, vec_closed, vec_own, vec_other, brought, brought_by, brought_none}
use Rattle.order.specs.History.{History, Valid, count, ground}
use Rattle.order.specs.History.Valid.{start, taken}
use Rattle.order.specs.Posts.{has, below, members, size}
use Rattle.order.proofs.PostSets.{get_or_rank, length_below_le, placed, rank_below, walked_turn}
use Rattle.order.specs.Records.{Bytes, post, kind, kind_named, number, partner_post, partner_number, receives}
use Rattle.order.specs.Vectors.{vec}
use Rattle.order.specs.Walk.{Steps, rest}
use Rattle.order.specs.declared.posts.Members.{Members}
use Rattle.std.specs.Iterator.{Yields}
use Rattle.order.specs.declared.event.Event.{Event}
use Rattle.order.specs.declared.event.Kind.TheVariants.{Receive}
use Rattle.order.specs.declared.«record».Record.{Record}
use Rattle.std.proofs.lemmas.List.{get_or-set_same, get_or-set_other, get_or_append_left, get_or_at, length_push}
use Rattle.std.proofs.lemmas.Bool.{and_from, and_left, cond-true, cond-false, cases_Bool, cases_eq, cases_lt, lt-ltb, le-ltb, eq-eqb, ne_eqb, both_ways}
use Rattle.station.proofs.Judged.{receive_code}
use Rattle.station.proofs.Reading.{Known, asked}
use Rattle.station.specs.Drafts.{Due, known_before}
use Rattle.station.specs.Stands.{Stands}
use Rattle.station.specs.declared.state.Station.{Station}

-- ---- posts that are not a kiln's

count_past : {n : ℕ} {h : History} → Valid n h → (q : ℕ) → n ≤ q → count h q ≡ 0
count_past start q past = count_none q
count_past {n} (taken {r = r} {h = h} v g) q past = count_other r h q (λ e. omega (arith, (passed n h r g).inside)) ∙ count_past v q past

pub vec_past : {n : ℕ} {h : History} → Valid n h → (p k q : ℕ) → k ≤ count h p → n ≤ q → vec h p k q ≡ 0
vec_past v p k q held past = omega (arith, vec-count v p k q held, count_past v q past)

-- ---- a loop over the members of a set

-- the one that comes is a member, and fewer than 64 came before
pub came : (xs : List ℕ) (s t u : Members) (b p : ℕ) → rest s ≡ members b → Yields Steps s xs t → rest t ≡ p ∷ rest u → (has b p ≡ true) × (length xs < 64)
came xs s t u b p first y now =
    let turn = walked_turn xs s t u b p first y now in
    (subst (λ q. has b q ≡ true) turn.2 (placed 64 b (length xs) 0 turn.1).member, omega (arith, turn.1, length_below_le 64 b))

-- what holds of each that has come, and of the one that comes
pub each_more : (P : ℕ → Type 0) (xs : List ℕ) (p : ℕ) → ((i : ℕ) → i < length xs → P (get_or xs i 0)) → P p → (i : ℕ) → i < length (xs ++ p ∷ []) → P (get_or (xs ++ p ∷ []) i 0)
each_more P xs p all here i l = elim (cases_lt i (length xs)) [
  | inl before ↦ subst P (sym (get_or_append_left xs (p ∷ []) 0 i before)) (all i before)
  | inr past ↦ subst P (sym (get_or_at xs p [] 0 i (omega (arith, length_push xs p)))) here
]

-- what holds of each of the members, at its place
pub each_member : (P : ℕ → Type 0) (b : ℕ) → ((i : ℕ) → i < size b → P (get_or (members b) i 0)) → (q : ℕ) → q < 64 → has b q ≡ true → P q
each_member P b all q l t = subst P (get_or_rank q 64 b 0 l t) (all (length (below q b)) (rank_below q 64 b l t))

-- ---- the entries for a set's posts

pub zeros : (n q : ℕ) → ◌≡◌ {A = ℕ} (get_or (replicate n 0) q 0) 0
zeros zero q = refl
zeros (suc n) zero = refl
zeros (suc n) (suc q) = zeros n q

-- the posts that have come have their entries by f, and a post that is no member has 0
pub record Placed (b : ℕ) (f : ℕ → ℕ) (xs entries : List ℕ) : Type 0 where
  pub told : (i : ℕ) → i < length xs → get_or entries (get_or xs i 0) 0 ≡ f (get_or xs i 0)
  pub others : (q : ℕ) → has b q ≡ false → get_or entries q 0 ≡ 0

pub placed_none : (b : ℕ) (f : ℕ → ℕ) (entries : List ℕ) → ((q : ℕ) → get_or entries q 0 ≡ 0) → Placed b f [] entries
placed_none b f entries z = record { told = λ i l. absurd (omega arith); others = λ q _. z q }

pub placed_more : (b : ℕ) (f : ℕ → ℕ) (xs entries : List ℕ) (p : ℕ) → p < length entries → has b p ≡ true → Placed b f xs entries → Placed b f (xs ++ p ∷ []) (set entries p (f p))
placed_more b f xs entries p inside t s = record {
  told = each_more (λ x. get_or (set entries p (f p)) x 0 ≡ f x) xs p
      (λ i l. elim (cases_eq (get_or xs i 0) p) [
        | inl e ↦ subst (λ x. get_or (set entries p (f p)) x 0 ≡ f x) (sym e) (get_or-set_same entries p (f p) 0 inside)
        | inr ne ↦ get_or-set_other entries p (get_or xs i 0) (f p) 0 ne ∙ s.told i l
      ])
      (get_or-set_same entries p (f p) 0 inside);
  others = λ q out. get_or-set_other entries p q (f p) 0 (λ e. both_ways _ out (ap (has b) e ∙ t)) ∙ s.others q out;
}

pub placed_all : (b : ℕ) (f g : ℕ → ℕ) (entries : List ℕ) → ((q : ℕ) → has b q ≡ true → q < 64) → Placed b f (members b) entries
    → ((q : ℕ) → has b q ≡ true → f q ≡ g q) → (q : ℕ) → get_or entries q 0 ≡ cond (has b q) (g q) 0
placed_all b f g entries inside s same q = elim (cases_Bool (has b q)) [
  | inl t ↦ each_member (λ x. get_or entries x 0 ≡ f x) b s.told q (inside q t) t ∙ same q t ∙ sym (cond-true _ _ _ t)
  | inr out ↦ s.others q out ∙ sym (cond-false _ _ _ out)
]

-- ---- what full events tell

-- f has all that the latest full event of post x knows, of those that event k of post p knows
abbrev pub Told : Rule → ℕ → History → ℕ → ℕ → (ℕ → ℕ) → ℕ → Type 0
Told R n h p k f x = (q : ℕ) → vec h x (latest_full R n h x (vec h p k x)) q ≤ f q

-- what event k of post p knows of each post bounds f, which has the entries of its cover and all that the latest full
-- events of the posts that have come know
pub record Gathers (R : Rule) (n : ℕ) (h : History) (p k : ℕ) (xs : List ℕ) (f : ℕ → ℕ) : Type 0 where
  pub most : (q : ℕ) → f q ≤ vec h p k q
  pub own : (q : ℕ) → has (cover_at R n h p k) q ≡ true → vec h p k q ≤ f q
  pub told : (i : ℕ) → i < length xs → Told R n h p k f (get_or xs i 0)

module _ (R : Rule) {n : ℕ} {h : History} (v : Valid n h) (p k : ℕ) (held : k ≤ count h p) where
  pub gathers_none : (f : ℕ → ℕ) → ((q : ℕ) → f q ≡ cond (has (cover_at R n h p k) q) (vec h p k q) 0) → Gathers R n h p k [] f
  gathers_none f e = record {
    most = λ q. elim (cases_Bool (has (cover_at R n h p k) q)) [
      | inl t ↦ omega (arith, e q ∙ cond-true _ _ _ t)
      | inr out ↦ omega (arith, e q ∙ cond-false _ _ _ out)
    ];
    own = λ q t. omega (arith, e q ∙ cond-true _ _ _ t);
    told = λ i l. absurd (omega arith);
  }

  pub gathers_more : (xs : List ℕ) (x : ℕ) (f g told : ℕ → ℕ) → ((q : ℕ) → told q ≡ vec h x (latest_full R n h x (vec h p k x)) q) → ((q : ℕ) → g q ≡ max (f q) (told q))
      → Gathers R n h p k xs f → Gathers R n h p k (xs ++ x ∷ []) g
  gathers_more xs x f g told is joined s =
      let m = vec h p k x in
      let l = latest_full_most R n h x m (vec-count v p k x held) in
      record {
        most = λ q. omega (arith, joined q, is q, s.most q, vec_closed v p k x (latest_full R n h x m) q held l);
        own = λ q t. omega (arith, joined q, s.own q t);
        told = each_more (Told R n h p k g) xs x (λ i l q. omega (arith, joined q, s.told i l q)) (λ q. omega (arith, joined q, is q));
      }

  -- an entry that is not covered is one that a full event of a covered post has
  pub gathers_all : n ≤ 64 → (f : ℕ → ℕ) → Gathers R n h p k (members (cover_at R n h p k)) f → (q : ℕ) → f q ≡ vec h p k q
  gathers_all few f s q = elim (cases_Bool (has (cover_at R n h p k) q)) [
    | inl t ↦ omega (arith, s.most q, s.own q t)
    | inr out ↦ elim (source R v p k q held out) [
      | inl z ↦ omega (arith, s.most q)
      | inr src ↦
          let x = src.teller in
          let e = src.at_event in
          let m = vec h p k x in
          let last = latest_full R n h x m in
          let m_held = vec-count v p k x held in
          let l_held : last ≤ count h x = omega (arith, latest_full_most R n h x m m_held) in
          let later = latest_full_last R n h x m e m_held src.some src.known src.full in
          let knows = vec_closed v x last x e q l_held (omega (arith, vec_self h x last l_held)) in
          let told = each_member (Told R n h p k f) _ s.told x (omega (arith, few, cover_at_posts R v p k x held src.covered)) src.covered in
          omega (arith, src.value, s.most q, told q)
    ]
  ]

-- ---- the next event

-- what is asked of an event is what the history has of event k of post p
pub record Same (n : ℕ) (h : History) (e : Event) (p k : ℕ) : Type 0 where
  pub inside : e.post < n
  pub most : e.number ≤ count h e.post
  pub entry : (q : ℕ) → vec h e.post e.number q ≡ vec h p k q

same : (n : ℕ) (h : History) (e : Event) (p k : ℕ) → e.post ≡ p → e.number ≡ k → p < n → k ≤ count h p → Same n h e p k
same n h e p k a b inside most = record { inside = omega arith; most = omega (arith, ap (count h) a); entry = λ q. ap₂ (λ (x y : ℕ). vec h x y q) a b }

module _ {n : ℕ} {h : History} {b : Bytes} {r : Record} (due : Due n h b r) where
  pub same_previous : (k : ℕ) → k ≡ r.event.number - 1 → Same n h (record { post = r.event.post; number = k }) (post b) (count h (post b))
  same_previous k less =
      let facts = passed n h b due.fine in
      let number_is = ap (λ (r : Record). r.event.number) due.is in
      same n h (record { post = r.event.post; number = k }) (post b) (count h (post b)) (ap (λ (r : Record). r.event.post) due.is) (omega (arith, facts.next)) facts.inside (omega arith)

  pub receives_by : r.kind ≡ Receive → kind b ≡ 2
  receives_by receive = receive_code (kind b) (passed n h b due.fine).known (sym (ap (λ (r : Record). r.kind) due.is) ∙ receive)

  pub kind_by : kind b ≡ 2 → r.kind ≡ Receive
  kind_by two = ap (λ (r : Record). r.kind) due.is ∙ ap kind_named two

  pub same_partner : kind b ≡ 2 → Same n h r.partner (partner_post b) (partner_number b)
  same_partner two =
      let pair = (passed n h b due.fine).pair two in
      same n h r.partner (partner_post b) (partner_number b) (ap (λ (r : Record). r.partner.post) due.is) (ap (λ (r : Record). r.partner.number) due.is) pair.inside pair.most

brought_is : (b : Bytes) (h : History) (q : ℕ) → cond (receives b) (vec h (partner_post b) (partner_number b) q) 0 ≡ brought b h q
brought_is b h q = elim (cases_eq (kind b) 2) [
  | inl two ↦ cond-true _ _ _ (eq-eqb (kind b) 2 two) ∙ sym (brought_by b h q two)
  | inr ne ↦ cond-false _ _ _ (ne_eqb (kind b) 2 ne) ∙ sym (brought_none b h q ne)
]

-- what it knows before, and itself
pub next_entry : (n : ℕ) (h : History) (b : Bytes) → n ≤ 64 → ground n h b ≡ 0 → (xs : List ℕ) → length xs ≡ 64 → ((q : ℕ) → get_or xs q 0 ≡ known_before h b q)
    → (q : ℕ) → get_or (set xs (post b) (number b)) q 0 ≡ vec (b ∷ h) (post b) (number b) q
next_entry n h b few g xs size known q =
    let next = (passed n h b g).next in
    elim (cases_eq (post b) q) [
      | inl e ↦ subst (λ (x : ℕ). get_or (set xs (post b) (number b)) x 0 ≡ vec (b ∷ h) (post b) (number b) x) e
          (get_or-set_same xs (post b) (number b) 0 (omega (arith, (passed n h b g).inside)) ∙ next ∙ sym (ap (λ (k : ℕ). vec (b ∷ h) (post b) k (post b)) next ∙ vec_own b h))
      | inr ne ↦
          get_or-set_other xs (post b) q (number b) 0 (λ e. ne (sym e)) ∙ known q
          ∙ ap (max (vec h (post b) (count h (post b)) q)) (brought_is b h q)
          ∙ sym (ap (λ (k : ℕ). vec (b ∷ h) (post b) k q) next ∙ vec_other b h q ne)
    ]

-- ---- the latest full event

module _ (R : Rule) {n : ℕ} {h : History} (v : Valid n h) (p k f : ℕ) (held : k ≤ count h p) (is : f ≡ latest_full R n h p k) where
  pub full_held : f ≤ count h p
  full_held = omega (arith, latest_full_most R n h p k held)

  -- every post is covered
  pub full_covers : 0 < f → (q : ℕ) → q < n → has (cover_at R n h p f) q ≡ true
  full_covers some q inside =
      let full = latest_full_covers R n h p k held (omega arith) in
      ap (λ (m : ℕ). has (cover_at R n h p m) q) is ∙ ap (λ (c : ℕ). has c q) full ∙ has_each n q inside

  -- so its entries for all posts are its vector
  pub full_entry : (bits q : ℕ) → has bits q ≡ (ltb q n && ltb q 64) → n ≤ 64 → cond (has bits q) (vec h p f q) 0 ≡ vec h p (latest_full R n h p k) q
  full_entry bits q first few = elim (cases_lt q n) [
    | inl l ↦ cond-true _ _ _ (first ∙ and_from _ _ (lt-ltb q n l) (lt-ltb q 64 (omega arith))) ∙ ap (λ (m : ℕ). vec h p m q) is
    | inr past ↦ cond-false _ _ _ (first ∙ and_left _ _ (le-ltb q n past)) ∙ sym (vec_past v p f q full_held past) ∙ ap (λ (m : ℕ). vec h p m q) is
  ]

  pub none_full : f ≡ 0 → (q : ℕ) → vec h p (latest_full R n h p k) q ≡ 0
  none_full z q = ap (λ (m : ℕ). vec h p m q) (sym is ∙ z) ∙ vec_none h p q

-- ---- what is read

-- an event up to a post's count is held, or before the post's first
pub first_or_held : (n : ℕ) (h : History) (e : Event) → e.post < n → e.number ≤ count h e.post → (e.number ≡ 0) ⊎ Known n h e
first_or_held n h e inside most = elim (cases_eq e.number 0) [
  | inl z ↦ inl z
  | inr some ↦ inr (record { inside = inside; some = omega arith; most = most })
]

module _ {P K : Type 0} (policy : OfPolicy P) (keeper : OfKeeper K) (s : Station P K) (h : History) (st : Stands policy keeper s h) where
  pub read_cover : (e : Event) → Known (keeper.meaning s.keeper).posts h e
      → ask_cover (keeper.meaning s.keeper) e ≡ Ok (record { bits = cover_at (policy.rule s.policy) (keeper.meaning s.keeper).posts h e.post e.number })
  unfolding kept
  read_cover e k = asked policy keeper s h st e (λ t. Ok (record { bits = t.cover })) k

  -- event 0 of a post is asked for in vain
  pub unheld : {A : Type 0} (e : Event) (field : Stamp → Result A KeeperFault) → e.post < (keeper.meaning s.keeper).posts → e.number ≡ 0 → ask_stamp (keeper.meaning s.keeper) e field ≡ Err NotHeld
  unheld e field inside z = cond-true _ _ _ (lt-ltb e.post _ inside) ∙ cond-false _ _ _ (and_left _ _ (le-ltb 0 e.number (omega arith)))

  pub covered_below : (e : Event) (q : ℕ) → e.number ≤ count h e.post → has (cover_at (policy.rule s.policy) (keeper.meaning s.keeper).posts h e.post e.number) q ≡ true → q < 64
  covered_below e q held t = omega (arith, st.few, cover_at_posts (policy.rule s.policy) st.valid e.post e.number q held t)

  pub read_entry : (e : Event) (q : ℕ) → Known (keeper.meaning s.keeper).posts h e → has (cover_at (policy.rule s.policy) (keeper.meaning s.keeper).posts h e.post e.number) q ≡ true
      → ask_entry (keeper.meaning s.keeper) e q ≡ Ok (vec h e.post e.number q)
  read_entry e q k t =
      let n = (keeper.meaning s.keeper).posts in
      let R = policy.rule s.policy in
      asked policy keeper s h st e (λ t. cond (has t.cover q) (Ok (entry_of t q)) (Err NotCovered)) k
      ∙ cond-true _ _ _ (ap (λ (c : ℕ). has c q) (kept-cover R n h e.post e.number) ∙ t)
      ∙ ap Ok (kept_entry R n h e.post e.number q (covered_below e q k.most t) t)
