-- The frames of a run of arrivals, counted up to where the arrivals end.
use Rattle.std.specs.Prelude.{ℕ, zero, suc, ◌+◌, ◌*◌, Bool, cond, List, [], ◌∷◌, length}
use Rattle.arrivals.specs.Frames.{usable, passes, to_group}
use Rattle.arrivals.specs.declared.survey.Survey.{Survey}

abbrev pub nothing : Survey
nothing = record { frames = 0; groups = 0; used = 0 }

-- one frame of n bytes more, to a group or not
abbrev pub counted : Bool → ℕ → Survey → Survey
counted group n s = record { frames = 1 + s.frames; groups = cond group 1 0 + s.groups; used = 2 + n + s.used }

-- what stands past the first k bytes; a group frame is one that level 0 passes
abbrev pub survey_from : ℕ → List ℕ → Survey
survey_from (suc k) [] = nothing
survey_from (suc k) (x ∷ xs) = survey_from k xs
survey_from zero [] = nothing
survey_from zero (high ∷ []) = nothing
survey_from zero (high ∷ (low ∷ rest)) =
    cond (usable (high * 256 + low) (length rest)) (counted (passes 0 rest) (high * 256 + low) (survey_from (high * 256 + low) rest)) nothing

abbrev pub survey_of : List ℕ → Survey
survey_of bytes = survey_from 0 bytes

-- the same of a list of frames
abbrev pub survey_frames : List (List ℕ) → Survey
survey_frames [] = nothing
survey_frames (frame ∷ frames) = counted (to_group frame) (length frame) (survey_frames frames)
