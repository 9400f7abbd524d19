-- The kinds of entries that a driver has, by the rules of a class.
use Rattle.model.specs.Rules.{Rules, initial}
use Rattle.compaction.specs.Kinds.{Kind, by_number}

-- settings: each key has its initial value by default
abbrev pub setting_kind : Rules → Kind
setting_kind u = by_number (initial u)

-- memberships: by default no name is joined
abbrev pub membership_kind : Kind
membership_kind = by_number (λ _. 0)
