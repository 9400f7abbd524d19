-- What a base driver holds, as lists.
use Rattle.std.specs.Prelude.{◌≡◌, ℕ, ◌^◌, ◌<◌, ◌≤◌, Bool, true, false, List, [], length}
use Rattle.std.specs.List.{AllByRecursion}
use Rattle.model.specs.Requests.{Request, Contents}
use Rattle.model.specs.Rules.{Rules, greatest}
use Rattle.compaction.specs.declared.entry.Entry.{Entry}
use Rattle.compaction.specs.Compaction.{Apart}
use Rattle.compaction.specs.Replay.{replay}
use Rattle.kinds.specs.Kinds.{setting_kind, membership_kind}
use Rattle.driver.specs.States.{State, Table, setting, membership}

-- a base driver: up or down, the reach and the contents of its device, the entries of its two logs, and the
-- requests that wait
pub record View : Type 0 where
  pub up : Bool
  pub reach : ℕ
  pub settings : List Entry
  pub roll : List Entry
  pub waiting : List Request
  pub contents : Contents

-- the content of each name, by the entries of settings and of the roll
abbrev pub remembered : Rules → List Entry → List Entry → Table → ℕ → ℕ
remembered u settings roll setting n = replay (setting_kind u) settings n
remembered u settings roll membership n = replay membership_kind roll n

-- the state that a base driver means
abbrev pub meaning : Rules → View → State
meaning u v = record { up = v.up; reach = v.reach; content = remembered u v.settings v.roll; waiting = v.waiting; contents = v.contents }

abbrev pub with_settings : View → List Entry → View
with_settings v es = record { up = v.up; reach = v.reach; settings = es; roll = v.roll; waiting = v.waiting; contents = v.contents }

abbrev pub with_roll : View → List Entry → View
with_roll v es = record { up = v.up; reach = v.reach; settings = v.settings; roll = es; waiting = v.waiting; contents = v.contents }

abbrev pub with_waiting : View → List Request → Contents → View
with_waiting v qs x = record { up = v.up; reach = v.reach; settings = v.settings; roll = v.roll; waiting = qs; contents = x }

-- with nothing set, joined or waiting
abbrev pub cleared : View → Bool → View
cleared v b = record { up = b; reach = v.reach; settings = []; roll = []; waiting = []; contents = v.contents }

-- what was tested when a request was taken
pub record Fine (u : Rules) (reach : ℕ) (q : Request) : Type 0 where
  pub kind : u.kind q.kind ≡ true
  pub address : q.address < reach
  pub payload : u.takes q.kind (length q.payload) ≡ true

-- what was tested when a setting was taken
pub record Within (u : Rules) (e : Entry) : Type 0 where
  pub key : e.name < length u.settings
  pub value : e.content ≤ greatest u e.name

-- a base driver that is well formed
pub record Ok (u : Rules) (v : View) : Type 0 where
  pub settings : Apart (setting_kind u) v.settings
  pub keys : AllByRecursion (Within u) v.settings
  pub roll : Apart membership_kind v.roll
  pub names : AllByRecursion (λ e. e.name < 2 ^ 32) v.roll
  pub few : length v.roll ≤ u.limit
  pub fine : AllByRecursion (Fine u v.reach) v.waiting
  pub empty : v.up ≡ false → v ≡ cleared v false
