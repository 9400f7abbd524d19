-- What a class of devices fixes, the bounds that every class keeps, and the law of a class.
use Rattle.std.specs.Prelude.{◌≡◌, ℕ, ◌^◌, ◌<◌, ◌≤◌, Bool, true, ◌&&◌, List, length, nat_le, nat_lt, slice_index_or}
use Rattle.model.specs.Requests.{Contents, Outcome}
use Rattle.model.specs.declared.setting.SettingRange.{SettingRange}

-- the rules of a class
pub record Rules : Type 0 where
  -- the settings, by key from 0: the value each has at first, and the greatest it may have
  pub settings : List SettingRange
  -- the names that a roll may have
  pub name : ℕ → Bool
  -- how many names may be joined at once
  pub limit : ℕ
  -- the longest answer, in bytes
  pub longest : ℕ
  -- the kinds of requests
  pub kind : ℕ → Bool
  -- the payload lengths of each kind
  pub takes : ℕ → ℕ → Bool
  -- the declared kinds: performing such a request twice is as performing it once
  pub declared : ℕ → Bool
  -- what a device of a given reach may hold
  pub holds : ℕ → Contents → Bool
  -- what performing comes to: contents, level, kind, address and payload; no device sees a tag
  pub perform : Contents → ℕ → ℕ → ℕ → List ℕ → Outcome

-- the names from one to another
abbrev pub between : ℕ → ℕ → ℕ → Bool
between first last n = nat_le first n && nat_le n last

-- the row of a key that a class does not have
abbrev pub no_range : SettingRange
no_range = record { initial = 0; greatest = 0 }

-- whether a class has a setting of this key
abbrev pub has_setting : Rules → ℕ → Bool
has_setting u k = nat_lt k (length u.settings)

-- the row of a key
abbrev pub range_of : Rules → ℕ → SettingRange
range_of u k = slice_index_or u.settings k no_range

-- what a setting holds at first, and 0 where there is none
abbrev pub initial : Rules → ℕ → ℕ
initial u k = (range_of u k).initial

-- the greatest value of a setting, and 0 where there is none
abbrev pub greatest : Rules → ℕ → ℕ
greatest u k = (range_of u k).greatest

-- what every class keeps
pub record Bounds (u : Rules) : Type 0 where
  pub some_setting : 1 ≤ length u.settings
  pub few_settings : length u.settings ≤ 3
  pub initials : (k : ℕ) → initial u k ≤ greatest u k
  pub values : (k : ℕ) → greatest u k < 2 ^ 32
  pub names : (n : ℕ) → u.name n ≡ true → n < 2 ^ 32
  pub few_joined : u.limit ≤ 24
  pub short_answers : u.longest ≤ 1514

-- the law of a class: performing a declared request at one level, and again at the same or another,
-- leaves and answers what performing it once at the second does
abbrev pub Repeatable : Rules → Type 0
Repeatable u = (x : Contents) (level again kind address : ℕ) (payload : List ℕ)
    → u.declared kind ≡ true
    → u.perform (u.perform x level kind address payload).contents again kind address payload
    ≡ u.perform x again kind address payload
