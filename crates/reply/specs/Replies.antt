-- What is sent back for a frame, and counters as bytes.
use Rattle.std.specs.Prelude.{ℕ, ◌+◌, ◌*◌, cond, List, [], ◌∷◌, length, Some, None, Option, nat_le, slice_index}

-- a header of 14 bytes: destination and source change places, and the type stays
abbrev pub reply_to : List ℕ → Option (List ℕ)
reply_to xs =
    cond (nat_le 14 (length xs))
    (Some (slice_index xs 6 ∷ slice_index xs 7 ∷ slice_index xs 8 ∷ slice_index xs 9 ∷ slice_index xs 10 ∷ slice_index xs 11 ∷ slice_index xs 0 ∷ slice_index xs 1 ∷ slice_index xs 2 ∷ slice_index xs 3 ∷ slice_index xs 4 ∷ slice_index xs 5 ∷ slice_index xs 12 ∷ slice_index xs 13 ∷ []))
    None

-- a number of four bytes from a place on, the least first; 0 in an answer of fewer than eight bytes
abbrev pub le_at : List ℕ → ℕ → ℕ
le_at xs i = cond (nat_le 8 (length xs)) (slice_index xs i + slice_index xs (i + 1) * 256 + slice_index xs (i + 2) * 65536 + slice_index xs (i + 3) * 16777216) 0
