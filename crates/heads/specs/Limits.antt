-- The limits of a queue.
use Rattle.std.specs.Prelude.{ℕ}

-- how many requests it keeps at most
abbrev pub most : ℕ
most = 16

-- how many payload bytes they have at most, in all
abbrev pub capacity : ℕ
capacity = 8192
