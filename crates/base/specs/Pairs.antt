-- The pair of a base driver that failed.
use Rattle.std.specs.Prelude.{◌≡◌, ℕ, refl}
use Rattle.model.specs.Rules.{Rules}
use Rattle.driver.specs.Calls.{Call, failed}
use Rattle.driver.specs.Replies.{pair}
use Rattle.basis.specs.Views.{View}
use Rattle.basis.specs.Steps.{Step, down}

pub paired : (u : Rules) (s : View) (c : Call) (a b : ℕ) (t : View) → Step u s c (failed a b) t → pair 1 0 ≡ pair a b
paired u s c a b t (down f h e) = refl
