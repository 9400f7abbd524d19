-- Arrivals: frames one after the other, each behind its length in two bytes, the higher first.
use Rattle.std.specs.Prelude.{ℕ, zero, suc, ◌+◌, ◌*◌, ◌%◌, Bool, cond, ◌&&◌, List, [], ◌∷◌, length, take, drop, Some, None, Option, ◌==◌, nat_le, slice_index}

-- how many bytes the place moves, and the frame that is answered
pub record Found : Type 0 where
  pub moved : ℕ
  pub frame : List ℕ

-- the end of the arrivals: the answer is empty, and the place rests
abbrev pub ended : Found
ended = record { moved = 0; frame = [] }

-- whether a frame may have n bytes, where m follow its length
abbrev pub usable : ℕ → ℕ → Bool
usable n m = nat_le 14 n && (nat_le n 1514 && nat_le n m)

-- the first frame of these bytes, to a group or not, and what follows it
abbrev pub split : List ℕ → Option (List ℕ × List ℕ)
split [] = None
split (high ∷ []) = None
split (high ∷ (low ∷ rest)) =
    cond (usable (high * 256 + low) (length rest)) (Some (take (high * 256 + low) rest, drop (high * 256 + low) rest)) None

-- whether the frame that begins these bytes goes to a group: its first byte is odd
abbrev pub to_group : List ℕ → Bool
to_group bytes = slice_index bytes 0 % 2 == 1

-- whether level 0 passes over that frame
abbrev pub passes : ℕ → List ℕ → Bool
passes level bytes = level == 0 && to_group bytes

-- what comes of an arrival of n bytes, where `next` comes of what follows it
abbrev pub arrival : ℕ → ℕ → List ℕ → Found → Found
arrival level n bytes next =
    cond (usable n (length bytes))
    (cond (passes level bytes) (record { moved = 2 + n + next.moved; frame = next.frame }) (record { moved = 2 + n; frame = take n bytes }))
    ended

-- the next frame past the first k bytes
abbrev pub seek : ℕ → ℕ → List ℕ → Found
seek level (suc k) [] = ended
seek level (suc k) (x ∷ xs) = seek level k xs
seek level zero [] = ended
seek level zero (high ∷ []) = ended
seek level zero (high ∷ (low ∷ rest)) = arrival level (high * 256 + low) rest (seek level (high * 256 + low) rest)

-- the next frame of these bytes
abbrev pub next_frame : ℕ → List ℕ → Found
next_frame level bytes = seek level 0 bytes
