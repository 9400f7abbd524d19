-- What a base driver holds, by its parts.
use Rattle.std.specs.Prelude.{ℕ, true, false, List, [], map, Some, None, Option}
use Rattle.model.specs.Requests.{Request, Contents}
use Rattle.device.specs.declared.device.Device.{Ghosts}
use Rattle.entry_log.specs.Items.{entries_of}
use Rattle.queue.specs.Kept.{Kept}
use Rattle.basis.specs.Views.{View}
use Rattle.base.specs.declared.parts.Running.{Running}
use Rattle.base.specs.declared.parts.BaseDriver.{BaseDriver}

-- the requests of a queue, without their marks
abbrev pub requests : List Kept → List Request
requests ks = map (λ k. k.request) ks

module _ {C : Type 0} where
  -- what a driver holds over a device of this reach and these contents: nothing while it is down
  abbrev pub holding : ℕ → Contents → Option (Running C) → View
  holding reach contents None = record { up = false; reach = reach; settings = []; roll = []; waiting = []; contents = contents }
  holding reach contents (Some kept) =
      record { up = true; reach = reach; settings = entries_of kept.settings; roll = entries_of kept.roll; waiting = requests kept.queue; contents = contents }

module _ {V C O : Type 0} (device : Ghosts V C O) where
  -- what a driver holds, by what its device says of itself
  abbrev pub view : BaseDriver V C O → View
  view s = holding (device.reach s.device) (device.contents s.device) s.running
