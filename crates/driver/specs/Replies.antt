-- What each answer of a driver's calls stands for: its number, and its values.
use Rattle.std.specs.Prelude.{◌≡◌, ℕ, Bool, cond, List, [], take, Some, None, Ok, Err, Option, Result, ◌==◌}
use Rattle.model.specs.Requests.{onto}
use Rattle.model.specs.Rules.{Rules, has_setting}
use Rattle.model.specs.Refusals.{code}
use Rattle.model.specs.declared.refusal.Fault.{Fault}
use Rattle.model.specs.declared.refusal.Refusal.{Refusal}
use Rattle.model.specs.declared.refusal.Refusal.TheVariants.{Failed, Setting, Value, Name, Kind, Address, Payload, Answer, Roll, Full, Room, Phase, Unfinished}
use Rattle.driver.specs.States.{State, setting, membership}
use Rattle.driver.specs.Calls.{Reply, accepted, done, lost, idle, notyet, failed, refused}
use Rattle.driver.specs.declared.answers.Collected.{Collected}
use Rattle.driver.specs.declared.answers.Collected.TheVariants.{Done, Lost, Idle, NotYet}

-- a refusal as a reply: FAILED with its pair, any other by its number
abbrev pub refusal : Refusal → Reply
refusal (Failed f) = failed f.layer f.place
refusal Setting = refused (code Setting).number
refusal Value = refused (code Value).number
refusal Name = refused (code Name).number
refusal Kind = refused (code Kind).number
refusal Address = refused (code Address).number
refusal Payload = refused (code Payload).number
refusal Answer = refused (code Answer).number
refusal Roll = refused (code Roll).number
refusal Full = refused (code Full).number
refusal Room = refused (code Room).number
refusal Phase = refused (code Phase).number
refusal (Unfinished n) = refused (code (Unfinished n)).number

-- what set, join, leave, submit and restart answered
abbrev pub plain : {A : Type 0} → Result A Refusal → Reply
plain (Ok _) = accepted
plain (Err f) = refusal f

-- what collect answered, with the bytes that stand in the buffer
abbrev pub got : List ℕ → Result Collected Refusal → Reply
got buffer (Ok (Done tag n)) = done tag (take n buffer)
got buffer (Ok (Lost tag)) = lost tag
got buffer (Ok Idle) = idle
got buffer (Ok NotYet) = notyet
got buffer (Err f) = refusal f

-- the bytes that a reply answers
abbrev pub bytes_of : Reply → List ℕ
bytes_of accepted = []
bytes_of (done n xs) = xs
bytes_of (lost n) = []
bytes_of idle = []
bytes_of notyet = []
bytes_of (failed a b) = []
bytes_of (refused n) = []

-- the buffer after a collect: at done the answer's bytes, and then those that were there; else all as it was
abbrev pub Framed : List ℕ → List ℕ → Result Collected Refusal → Type 0
Framed buffer buffer' r = buffer' ≡ onto (bytes_of (got buffer' r)) buffer

-- a reply that refuses
abbrev pub Refuses : Reply → Type 0
Refuses accepted = ⊥
Refuses (done n x) = ⊥
Refuses (lost n) = ⊥
Refuses idle = ⊥
Refuses notyet = ⊥
Refuses (failed a b) = Unit {0}
Refuses (refused n) = Unit {0}

abbrev pub pair : ℕ → ℕ → Fault
pair a b = record { layer = a; place = b }

-- the pair of a failure
abbrev pub pair_of : Reply → Option Fault
pair_of accepted = None
pair_of (done n x) = None
pair_of (lost n) = None
pair_of idle = None
pair_of notyet = None
pair_of (failed a b) = Some (pair a b)
pair_of (refused n) = None

-- what get answers, where f is the pair of a driver that is down
abbrev pub value_of : Rules → State → Fault → ℕ → Result ℕ Refusal
value_of u s f k = cond s.up (cond (has_setting u k) (Ok (s.content setting k)) (Err Setting)) (Err (Failed f))

-- what joined answers
abbrev pub member_of : Rules → State → Fault → ℕ → Result Bool Refusal
member_of u s f n = cond s.up (cond (u.name n) (Ok (s.content membership n == 1)) (Err Name)) (Err (Failed f))
