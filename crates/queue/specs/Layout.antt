-- How a queue's memory says what it keeps, and what always holds of it.
use Rattle.std.specs.Prelude.{◌≡◌, ◌≤◌, List, length}
use Rattle.heads.specs.Limits.{most, capacity}
use Rattle.heads.specs.Heads.{total}
use Rattle.heads.specs.Kept.{Kept}
use Rattle.heads.specs.Laid.{laid}
use Rattle.queue.specs.declared.queue.Queue.TheInside.{Inside}

-- the requests, the oldest first
abbrev pub requests : Inside → List Kept
requests q = laid q.heads.items q.payloads

-- neither the heads nor the bytes of the payloads are too many, and the heads account for all of those bytes
pub record Whole (q : Inside) : Type 0 where
  pub few : length q.heads.items ≤ most
  pub small : length q.payloads ≤ capacity
  pub sizes : total q.heads.items ≡ length q.payloads
