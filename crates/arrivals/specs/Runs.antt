-- All frames of a run of arrivals.
use Rattle.std.specs.Prelude.{ℕ, zero, suc, ◌+◌, ◌*◌, cond, not, List, [], ◌∷◌, length, take, filter}
use Rattle.arrivals.specs.Frames.{usable, passes}
use Rattle.arrivals.specs.declared.runs.Frames.{Frames}

-- the frames past the first k bytes, up to where the arrivals end
abbrev pub frames_from : ℕ → List ℕ → List (List ℕ)
frames_from (suc k) [] = []
frames_from (suc k) (x ∷ xs) = frames_from k xs
frames_from zero [] = []
frames_from zero (high ∷ []) = []
frames_from zero (high ∷ (low ∷ rest)) =
    cond (usable (high * 256 + low) (length rest)) (take (high * 256 + low) rest ∷ frames_from (high * 256 + low) rest) []

abbrev pub frames_of : List ℕ → List (List ℕ)
frames_of bytes = frames_from 0 bytes

-- those that a level takes: level 0 passes over frames to a group
abbrev pub taken : ℕ → List (List ℕ) → List (List ℕ)
taken level frames = filter (λ frame. not (passes level frame)) frames

-- the frames that are still to come
abbrev pub frames_left : Frames → List (List ℕ)
frames_left run = frames_of run.left.now
