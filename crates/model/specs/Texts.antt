-- The name of each refusal as it is printed, with its values.
use Rattle.std.specs.Prelude.{ℕ, List, ◌++◌, codes}
use Rattle.std.specs.Fmt.{decimal}
use Rattle.model.specs.declared.refusal.Fault.{Fault}
use Rattle.model.specs.declared.refusal.Refusal.{Refusal}
use Rattle.model.specs.declared.refusal.Refusal.TheVariants.{Failed, Setting, Value, Name, Kind, Address, Payload, Answer, Roll, Full, Room, Phase, Unfinished}

abbrev pub pair_text : Fault → List ℕ
pair_text f = codes "(" ++ decimal f.layer ++ codes ", " ++ decimal f.place ++ codes ")"

abbrev pub text_of : Refusal → List ℕ
text_of (Failed f) = codes "FAILED " ++ pair_text f
text_of Setting = codes "SETTING"
text_of Value = codes "VALUE"
text_of Name = codes "NAME"
text_of Kind = codes "KIND"
text_of Address = codes "ADDRESS"
text_of Payload = codes "PAYLOAD"
text_of Answer = codes "ANSWER"
text_of Roll = codes "ROLL"
text_of Full = codes "FULL"
text_of Room = codes "ROOM"
text_of Phase = codes "PHASE"
text_of (Unfinished left) = codes "UNFINISHED " ++ decimal left
