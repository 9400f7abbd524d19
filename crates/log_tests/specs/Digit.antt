-- The kind of the examples in which many numbers are one name.
use Rattle.std.specs.Prelude.{◌%◌, ◌==◌}
use Rattle.compaction.specs.Kinds.{Kind}

-- names are the same where their last digits are, and hold it by default
abbrev pub last_digit : Kind
last_digit = record { same = λ a b. (a % 10 == b % 10); default = λ n. n % 10 }
