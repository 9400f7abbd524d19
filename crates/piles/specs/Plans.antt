-- The plan of a pile whose call of a number fails in a way.
use Rattle.fault.specs.declared.parts.Plan.{Plan}
use Rattle.fault.specs.Plans.{way_of}
use Rattle.piles.specs.declared.failure.Failure.{Failure}

-- with no call counted yet
abbrev pub plan_of : Failure → Plan
plan_of f = record { made = 0; number = f.number; way = way_of f.way }

-- no call fails, since none gets the number 0
abbrev pub never : Failure
never = record { number = 0; way = 0 }
