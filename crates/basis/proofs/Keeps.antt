-- A base driver's steps keep the driver rules.
use Rattle.std.proofs.Common.{◌≡◌, ℕ, Bool, true, false, List, [], refl, ap, ◌∙◌}
use mathlib.Core.Path.{fun_ext}
use Rattle.model.specs.Rules.{Rules, Bounds, initial}
use Rattle.driver.specs.States.{State, Table, setting, membership, default, put, bare}
use Rattle.driver.specs.Calls.{Call, Reply}
use Rattle.driver.specs.Rules.{Rule}
use Rattle.driver.specs.Rules as R
use Rattle.compaction.specs.declared.entry.Entry.{Entry}
use Rattle.compaction.specs.Compaction.{update, entry_of}
use Rattle.compaction.proofs.Sameness.{by_number_lawful}
use Rattle.compaction.proofs.Replaying.{update_replay}
use Rattle.kinds.specs.Kinds.{setting_kind, membership_kind}
use Rattle.basis.specs.Views.{View, Ok, meaning, remembered, cleared}
use Rattle.basis.specs.Steps.{Step, down, refuses, sets, joins, leaves, submits, idles, does, stops, restarts}

-- one more entry is one content more
set_content : (u : Rules) (a b : List Entry) (k v : ℕ) → remembered u (update (setting_kind u) a (entry_of k v)) b ≡ put (remembered u a b) setting k v
set_content u a b k v = fun_ext at
  where
    at : (l : Table) → remembered u (update (setting_kind u) a (entry_of k v)) b l ≡ put (remembered u a b) setting k v l
    at setting = fun_ext (λ m. update_replay (setting_kind u) (by_number_lawful (initial u)) a (entry_of k v) m)
    at membership = refl

roll_content : (u : Rules) (a b : List Entry) (k v : ℕ) → remembered u a (update membership_kind b (entry_of k v)) ≡ put (remembered u a b) membership k v
roll_content u a b k v = fun_ext at
  where
    at : (l : Table) → remembered u a (update membership_kind b (entry_of k v)) l ≡ put (remembered u a b) membership k v l
    at setting = refl
    at membership = fun_ext (λ m. update_replay membership_kind (by_number_lawful (λ _. 0)) b (entry_of k v) m)

bare_content : (u : Rules) → remembered u [] [] ≡ default u
bare_content u = fun_ext at
  where
    at : (l : Table) → remembered u [] [] l ≡ default u l
    at setting = refl
    at membership = refl

abbrev with_content : State → (Table → ℕ → ℕ) → State
with_content s f = record { up = s.up; reach = s.reach; content = f; waiting = s.waiting; contents = s.contents }

bared : (u : Rules) (s : View) (b : Bool) → meaning u (cleared s b) ≡ bare u b s.reach s.contents
bared u s b = ap (with_content (meaning u (cleared s b))) (bare_content u)

pub law : (u : Rules) → Bounds u → (s : View) (c : Call) (r : Reply) (t : View) → Ok u s → Step u s c r t → Rule u (meaning u s) c r (meaning u t)
law u b s c r t o (down f h e) = R.is_down 1 0 f h (ap (meaning u) e)
law u b s c r t o (refuses n h p e) = R.refuses n h p (ap (meaning u) e)
law u b s c r t o (sets {k = k} {v = v} h p e) = R.sets h p (ap (meaning u) e ∙ ap (with_content (meaning u s)) (set_content u s.settings s.roll k v))
law u b s c r t o (joins {n = n} h p e) = R.joins h p (ap (meaning u) e ∙ ap (with_content (meaning u s)) (roll_content u s.settings s.roll n 1))
law u b s c r t o (leaves {n = n} h p e) = R.leaves h p (ap (meaning u) e ∙ ap (with_content (meaning u s)) (roll_content u s.settings s.roll n 0))
law u b s c r t o (submits h p e) = R.submits h p (ap (meaning u) e)
law u b s c r t o (idles h p w e) = R.collects h p (R.finds_none w (ap (meaning u) e))
law u b s c r t o (does q qs h p w n a e) = R.collects h p (R.finds_done q qs w n a (ap (meaning u) e))
law u b s c r t o (stops e) = R.stops (ap (meaning u) e ∙ bared u s false)
law u b s c r t o (restarts e) = R.restarts (ap (meaning u) e ∙ bared u s true)

pub empties : (u : Rules) (s : View) → Ok u s → s.up ≡ false → meaning u s ≡ bare u false s.reach s.contents
empties u s o h = ap (meaning u) (o.empty h) ∙ bared u s false
