-- The blocks of a memory of any length.
use Rattle.std.specs.Prelude.{ℕ, ◌*◌, ◌/◌, min, List, [], length, take, drop}
use Rattle.model.specs.Requests.{Contents}

-- the whole blocks of a memory of n bytes, at most 1024
abbrev pub reach_of : ℕ → ℕ
reach_of n = min (n / 512) 1024

-- what a disk over this memory holds: the bytes of its whole blocks
abbrev pub blocks_of : List ℕ → Contents
blocks_of xs = record { counters = []; memory = take (reach_of (length xs) * 512) xs }

-- the bytes beyond its reach
abbrev pub beyond : List ℕ → List ℕ
beyond xs = drop (reach_of (length xs) * 512) xs
