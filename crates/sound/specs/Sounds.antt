-- The sound class: what its requests do to a count of samples and their total.
use Rattle.std.specs.Prelude.{ℕ, ◌+◌, ◌/◌, ◌%◌, ◌^◌, Bool, true, false, cond, ◌&&◌, List, [], ◌∷◌, length, is_some, Some, None, Option, ◌==◌, nat_le, slice_index}
use Rattle.model.specs.Requests.{Contents, Outcome, untouched, counts}
use Rattle.model.specs.Kinds.{takes_of, declared_of}
use Rattle.model.specs.Rules.{Rules, between}
use Rattle.model.specs.declared.setting.SettingRange.{SettingRange}
use Rattle.sound.specs.declared.op.SoundOp.{SoundOp}
use Rattle.sound.specs.declared.op.SoundOp.TheVariants.{Play, Counters}
use Rattle.sound.specs.Samples.{played}

-- the number of each kind of request
abbrev pub kind_of : SoundOp → ℕ
kind_of Play = 1
kind_of Counters = 2

-- the kind of request that a number stands for
abbrev pub op_of : ℕ → Option SoundOp
op_of k = cond (k == 1) (Some Play) (cond (k == 2) (Some Counters) None)

-- the payload lengths of each kind: whole samples, 1 to 512 of them, or nothing
abbrev pub takes : SoundOp → ℕ → Bool
takes Play n = n % 2 == 0 && (nat_le 2 n && nat_le n 1024)
takes Counters n = n == 0

-- only the counters can be asked for twice to the same effect
abbrev pub declared : SoundOp → Bool
declared Play = false
declared Counters = true

-- n samples played, with total t
abbrev pub sound_of : ℕ → ℕ → Contents
sound_of n t = record { counters = n ∷ t ∷ []; memory = [] }

-- the number of samples played, and their total
abbrev pub samples_in : Contents → ℕ
samples_in x = slice_index x.counters 0

abbrev pub total_in : Contents → ℕ
total_in x = slice_index x.counters 1

-- what each kind of request comes to
abbrev pub act : Option SoundOp → Contents → ℕ → List ℕ → Outcome
act None x level payload = untouched x
act (Some Play) x level payload =
    record { contents = sound_of ((samples_in x + length payload / 2) % 2 ^ 32) (played level (total_in x) payload); answer = [] }
act (Some Counters) x level payload = record { contents = x; answer = counts (samples_in x) (total_in x) }

-- volume, rate code and balance
abbrev pub sound_settings : List SettingRange
sound_settings = record { initial = 256; greatest = 256 } ∷ record { initial = 2; greatest = 3 } ∷ record { initial = 100; greatest = 200 } ∷ []

abbrev pub sound_rules : Rules
sound_rules = record {
  settings = sound_settings;
  name = between 0 7;
  limit = 8;
  longest = 8;
  kind = λ k. is_some (op_of k);
  takes = λ k n. takes_of takes (op_of k) n;
  declared = λ k. declared_of declared (op_of k);
  holds = λ reach x. (reach == 1) && (length x.counters == 2);
  perform = λ x level k a payload. act (op_of k) x level payload;
}
