-- Counting what becomes of frames.
use Rattle.std.specs.Prelude.{ℕ, ◌+◌, ◌-◌, ◌^◌, min}
use Rattle.intake.specs.declared.event.Event.{Event}
use Rattle.intake.specs.declared.event.Event.TheVariants.{Ended, Silent, NotStored, Stored, Unacknowledged}
use Rattle.burst.specs.declared.tally.Tally.{Tally}

-- a sum that stops at the greatest number of 64 bits
abbrev pub capped : ℕ → ℕ
capped n = min n (2 ^ 64 - 1)

abbrev pub none_yet : Tally
none_yet = record { stored = 0; refused = 0; bytes = 0 }

-- one stored frame more, of so many bytes
abbrev pub added : Tally → ℕ → Tally
added t size = record { stored = capped (t.stored + 1); refused = t.refused; bytes = capped (t.bytes + size) }

-- one frame more, by what became of it
abbrev pub counted : Tally → Event → Tally
counted t Ended = t
counted t (Silent e) = t
counted t (NotStored size error) = record { stored = t.stored; refused = capped (t.refused + 1); bytes = t.bytes }
counted t (Stored first size) = added t size
counted t (Unacknowledged first size e) = added t size
