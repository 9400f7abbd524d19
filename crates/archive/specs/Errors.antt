-- Errors of a store by those that they come from, and their text.
use Rattle.std.specs.Prelude.{ℕ, List, codes}
use Rattle.exchange.specs.declared.silence.Silence.{Silence}
use Rattle.exchange.specs.declared.silence.Silence.TheVariants as heard
use Rattle.store.specs.declared.store.StoreError.{StoreError as BelowError}
use Rattle.store.specs.declared.store.StoreError.TheVariants as below
use Rattle.archive.specs.declared.archive.StoreError.{StoreError}
use Rattle.archive.specs.declared.archive.StoreError.TheVariants.{TooLong, Full, Busy, Refused, Unanswered, Damaged}

-- why a request got no answer
abbrev pub from_silence : Silence → StoreError
from_silence (heard.Refused x) = Refused x
from_silence heard.Unanswered = Unanswered

-- why a frame has no room, or was not found as it was written
abbrev pub from_store : BelowError → StoreError
from_store below.TooLong = TooLong
from_store below.Full = Full
from_store below.Damaged = Damaged

-- the reason that is printed
abbrev pub text_of : StoreError → List ℕ
text_of TooLong = codes "longer than any frame"
text_of Full = codes "the disk is full"
text_of Busy = codes "the disk's driver has other requests waiting"
text_of (Refused x) = codes "the disk's driver refused"
text_of Unanswered = codes "the disk's driver did not answer"
text_of Damaged = codes "it did not read back"
