-- What a driver means.
use Rattle.std.specs.Prelude.{ℕ, ◌^◌, Bool, true, false, cond, List, [], ◌==◌}
use Rattle.compaction.specs.Tally.{tally}
use Rattle.model.specs.Requests.{Request, Contents}
use Rattle.model.specs.Rules.{Rules, initial}

-- the tables of names that a driver remembers: a setting has a key and a value, a membership a name and 1 where
-- it is joined, else 0
pub data Table : Type 0 where
  setting : Table
  membership : Table

-- the content that each name of a table has at first
abbrev pub default : Rules → Table → ℕ → ℕ
default u setting n = initial u n
default u membership n = 0

-- the state of a driver: up or down, its reach, the content of each name of each table, the requests that wait,
-- oldest first, and the contents of its device
pub record State : Type 0 where
  pub up : Bool
  pub reach : ℕ
  pub content : Table → ℕ → ℕ
  pub waiting : List Request
  pub contents : Contents

-- the level at which the device works: the value of setting 0
abbrev pub level : State → ℕ
level s = s.content setting 0

-- how many names are joined
abbrev pub joined_count : State → ℕ
joined_count s = tally (λ _. 0) (s.content membership) (2 ^ 32)

-- whether two tables are one
abbrev pub same_table : Table → Table → Bool
same_table setting setting = true
same_table setting membership = false
same_table membership setting = false
same_table membership membership = true

-- one name of one table has another content
abbrev pub put : (Table → ℕ → ℕ) → Table → ℕ → ℕ → Table → ℕ → ℕ
put f k n v l m = cond (same_table k l) (cond (n == m) v (f l m)) (f l m)

-- a driver with nothing set, joined or waiting
abbrev pub bare : Rules → Bool → ℕ → Contents → State
bare u b reach x = record { up = b; reach = reach; content = default u; waiting = []; contents = x }

-- the state after one name of a table got a content
abbrev pub noted : State → Table → ℕ → ℕ → State
noted s k n v = record { up = s.up; reach = s.reach; content = put s.content k n v; waiting = s.waiting; contents = s.contents }

-- the state with other requests waiting and other contents
abbrev pub holding : State → List Request → Contents → State
holding s qs x = record { up = s.up; reach = s.reach; content = s.content; waiting = qs; contents = x }
