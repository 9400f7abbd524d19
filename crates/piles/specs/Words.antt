-- What a word of a program's arguments says.
use Rattle.std.specs.Prelude.{◌≡◌, ℕ, Ok, None, Some, Option, Result, String, string_bytes}
use Rattle.std.specs.declared.num.ParseIntError.{ParseIntError}
use Rattle.std.specs.Str.Parse.{ParsesUnsigned}

-- a missing word says 0, and another the number that its digits write, where that is one of 32 bits
abbrev pub Says : {A : Type 0} → Option (String A) → Result ℕ ParseIntError → Type 0
Says None r = r ≡ Ok 0
Says (Some w) r = ParsesUnsigned 32 10 (string_bytes w) r
