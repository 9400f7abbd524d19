-- Frames as records of whole blocks.
use Rattle.std.specs.Prelude.{ℕ, ◌+◌, ◌-◌, ◌*◌, ◌/◌, ◌%◌, List, [], ◌∷◌, ◌++◌, length, take, replicate}
use Rattle.std.specs.Simd.{first_chunks}

-- a length below 2^16 as two bytes, the higher first
abbrev pub be2 : ℕ → List ℕ
be2 n = (n / 256) ∷ (n % 256) ∷ []

-- the whole blocks that a frame of n bytes takes, with its two length bytes
abbrev pub blocks_for : ℕ → ℕ
blocks_for n = (n + 513) / 512

-- the longest record: the length of a frame, the frame, and zeros up to three blocks
abbrev pub padded : List ℕ → List ℕ
padded frame = be2 (length frame) ++ (frame ++ replicate (1534 - length frame) 0)

-- the record of a frame: as many of these blocks as it takes
abbrev pub record_of : List ℕ → List ℕ
record_of frame = take (blocks_for (length frame) * 512) (padded frame)

-- the first blocks of three
abbrev pub blocks_of : ℕ → List ℕ → List (List ℕ)
blocks_of count bytes = take count (first_chunks 512 3 bytes)
