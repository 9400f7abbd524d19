-- The number and the values of each refusal.
use Rattle.std.specs.Prelude.{ℕ, List, [], ◌∷◌, Some, None, Option}
use Rattle.model.specs.declared.refusal.Fault.{Fault}
use Rattle.model.specs.declared.refusal.Refusal.{Refusal}
use Rattle.model.specs.declared.refusal.Refusal.TheVariants.{Failed, Setting, Value, Name, Kind, Address, Payload, Answer, Roll, Full, Room, Phase, Unfinished}

-- a refusal as its number and the values that it carries
pub record Coded : Type 0 where
  pub number : ℕ
  pub values : List ℕ

abbrev pub bare : ℕ → Coded
bare n = record { number = n; values = [] }

abbrev pub code : Refusal → Coded
code (Failed f) = record { number = 1; values = f.layer ∷ f.place ∷ [] }
code Setting = bare 2
code Value = bare 3
code Name = bare 4
code Kind = bare 5
code Address = bare 6
code Payload = bare 7
code Answer = bare 8
code Roll = bare 9
code Full = bare 10
code Room = bare 11
code Phase = bare 12
code (Unfinished left) = record { number = 13; values = left ∷ [] }

-- the pair of a failure
abbrev pub fault_of : Refusal → Option Fault
fault_of (Failed f) = Some f
fault_of Setting = None
fault_of Value = None
fault_of Name = None
fault_of Kind = None
fault_of Address = None
fault_of Payload = None
fault_of Answer = None
fault_of Roll = None
fault_of Full = None
fault_of Room = None
fault_of Phase = None
fault_of (Unfinished left) = None
