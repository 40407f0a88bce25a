use Rattle.std.proofs.Common.{rules}
use Rattle.cluster.specs.Counts.{told}
use Rattle.cluster.proofs.Counts.{tells_noted}
use Rattle.cluster.proofs.exchanges.Exchanges.note.Goals as goal

pub returns-then-sender-lt-MAX_POSTS-clause-tells : goal.returns-then-sender-lt-MAX_POSTS-clause-tells
returns-then-sender-lt-MAX_POSTS-clause-tells c = tells_noted (told c.args.self.now) _ c.args.receiver c.args.sender (search rules)
