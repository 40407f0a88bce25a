-- The seven-event shift, by computing.
use Rattle.std.proofs.Common.{ℕ, ◌+◌, ◌≤◌, [], ◌∷◌, sym, refl, subst, arith}
use Rattle.std.proofs.lemmas.Bool.{leb-true}
use Rattle.cluster.proofs.Clusters.{same_rule}
use Rattle.cluster.specs.Clusters.{exchanges, cluster, cover_at, latest_full}
use Rattle.cluster.specs.Kept.{kept}
use Rattle.cluster.specs.Rules.{Rule, fit}
use Rattle.cluster.specs.declared.outcome.Outcome.TheVariants.{Merged}
use Rattle.order.specs.History.{count, kind_at, received, partner_ground, ground}
use Rattle.order.specs.History.Valid.{start, taken}
use Rattle.order.specs.Posts.{has, below}
use Rattle.order.specs.Records.{post, kind, number, partner_post, spare, partner_number, form}
use Rattle.order.specs.Vectors.{vec}
use Rattle.station.specs.Asks.{gathered}
use Rattle.station.specs.declared.faults.TakeFault.TheVariants.{AlreadyReceived, PartnerNotSend}
use Rattle.runs.specs.Shift.{FirstContact, GoesIn, Shift, Questions, SevenEventShift}

-- every definition that the shift computes with
unfoldable opened : Unit {0}
unfolding exchanges cluster cover_at latest_full kept count kind_at received partner_ground ground has below post kind number partner_post spare partner_number form vec gathered
opened = tt

contact : (limit : ℕ) → 1 ≤ limit → limit ≤ 64 → Rule
contact limit least most = record {
  limit = limit;
  says = λ a b _. fit limit a b;
  least = least;
  most = most;
  keeps = λ a b _ e. leb-true (a + b) limit e;
}

-- a statement about a policy's meaning holds of every policy that means first contact if it holds of one
by_contact : (F : Rule → Type 0) (limit : ℕ) (least : 1 ≤ limit) (most : limit ≤ 64) → F (contact limit least most) → (P : Rule) → FirstContact limit P → F P
unfolding contact
by_contact F limit least most t P c = subst F (sym (same_rule P (contact limit least most) (record { limit = c.limits; says = c.answers }))) t

shift : (least : 1 ≤ 2) (most : 2 ≤ 64) → Shift (contact 2 least most)
unfolding opened contact
shift least most = record {
  record_1 = record { answer = refl; keeps = refl };
  record_2 = record { answer = refl; keeps = refl };
  record_3 = record { answer = refl; keeps = refl };
  record_4 = record { answer = refl; keeps = refl };
  record_5 = record { answer = refl; keeps = refl };
  record_6 = record { answer = refl; keeps = refl };
  record_7 = record { answer = refl; keeps = refl };
  full = refl;
  cluster_3 = refl;
  short = refl;
  received_before = record { fault = AlreadyReceived; answer = λ _. refl; on = refl };
  no_send = record { fault = PartnerNotSend; answer = λ _. refl; on = refl };
}

questions : Questions
unfolding opened
questions = record {
  valid = taken (taken (taken (taken (taken (taken (taken start refl) refl) refl) refl) refl) refl) refl;
  reach_0 = refl;
  reach_1 = refl;
  before = refl;
  after = refl;
  concurrent = refl;
  itself = refl;
  horizon = refl;
  horizon_writes = λ _. refl;
  heard = refl;
}

limit_3 : (least : 1 ≤ 3) (most : 3 ≤ 64) → GoesIn (contact 3 least most) 70 3 Merged (1 ∷ 2 ∷ 1 ∷ [])
unfolding opened contact
limit_3 least most = record { answer = refl; keeps = refl }

pub seven_event_shift : SevenEventShift
unfolding contact
seven_event_shift = record {
  shift = by_contact Shift 2 (omega arith) (omega arith) (shift (omega arith) (omega arith));
  questions = questions;
  limit_3 = by_contact (λ P. GoesIn P 70 3 Merged (1 ∷ 2 ∷ 1 ∷ [])) 3 (omega arith) (omega arith) (limit_3 (omega arith) (omega arith));
  contact = λ limit least most. (contact limit least most, record { limits = refl; answers = λ a b x. refl });
}
