-- What a report tells of a feed.
use Rattle.std.specs.Prelude.{◌≡◌, ℕ, ◌-◌, ◌*◌, ◌%◌, ◌^◌, min, List, length, sum_by, Some, None, vec_items, vec_len, Option, ◌≢◌}
use Rattle.keeper.specs.Piles.{price}
use Rattle.order.specs.Records.{Bytes}
use Rattle.report.specs.declared.Line.{Line}
use Rattle.report.specs.declared.Report.{Report}
use Rattle.station.specs.declared.faults.FeedFault.{FeedFault}
use Rattle.station.specs.declared.faults.FeedFault.TheVariants.{Ragged, Take}

-- the cells that the stamps of some events cost
abbrev pub cost : List Line → ℕ
cost ls = sum_by (λ l. price l.taken.entries) ls

-- where a report of so many lines on a feed of so many bytes stops
abbrev pub Stops : Option FeedFault → ℕ → ℕ → Type 0
Stops None lines bytes = 8 * lines ≡ bytes
Stops (Some Ragged) lines bytes = (lines ≡ 0) × (bytes % 8 ≢ 0)
Stops (Some (Take place fault)) lines bytes = place ≡ 8 * lines

pub record Reported (feed : Bytes) (r : Report) : Type 0 where
  pub stops : Stops r.refusal (vec_len r.lines) (length feed)
  -- as far as a number of 64 bits holds it
  pub prices : r.prices ≡ min (cost (vec_items r.lines)) (2 ^ 64 - 1)
