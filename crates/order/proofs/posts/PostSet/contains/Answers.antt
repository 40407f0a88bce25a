use Rattle.std.proofs.Common.{sym, ◌∙◌, arith}
use Rattle.std.proofs.lemmas.Bool.{le-ltb, ltb-true}
use Rattle.order.proofs.PostSets.{has_masked, has_past}
use Rattle.order.proofs.posts.PostSet.contains.Goals as goal

pub returns-then-post-lt-MAX_POSTS : goal.returns-then-post-lt-MAX_POSTS
returns-then-post-lt-MAX_POSTS c = record { value = has_masked c.args.self.bits c.args.post; bound = λ _. omega arith }

pub returns-else-post-lt-MAX_POSTS : goal.returns-else-post-lt-MAX_POSTS
returns-else-post-lt-MAX_POSTS c =
    record {
      value = le-ltb c.args.post 64 (omega arith) ∙ sym (has_past c.args.self.bits 64 c.args.post (omega arith) (omega arith));
      bound = ltb-true c.args.post 64;
    }
