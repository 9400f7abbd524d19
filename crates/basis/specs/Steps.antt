-- The steps of a base driver: it fails only while it is down, with the pair (1, 0), and answers neither lost nor not yet.
use Rattle.std.specs.Prelude.{◌≡◌, ℕ, true, false, List, [], ◌∷◌, ◌++◌, Some, None}
use Rattle.model.specs.Requests.{Request}
use Rattle.model.specs.Rules.{Rules, Bounds}
use Rattle.compaction.specs.Compaction.{update, entry_of}
use Rattle.kinds.specs.Kinds.{setting_kind, membership_kind}
use Rattle.driver.specs.Calls.{Call, Reply, set, join, leave, submit, collect, stop, restart, accepted, done, idle, failed, refused, Fallible}
use Rattle.driver.specs.Rules.{Rule, tests, first, after}
use Rattle.basis.specs.Views.{View, Ok, meaning, with_settings, with_roll, with_waiting, cleared}

pub data Step (u : Rules) : View → Call → Reply → View → Type 0 where
  down : {s t : View} {k : Call} → Fallible k → s.up ≡ false → t ≡ s → Step u s k (failed 1 0) t
  refuses : {s t : View} {k : Call} (n : ℕ) → s.up ≡ true → first (tests u (meaning u s) k) ≡ Some n → t ≡ s → Step u s k (refused n) t
  sets : {s t : View} {k v : ℕ} → s.up ≡ true → first (tests u (meaning u s) (set k v)) ≡ None
      → t ≡ with_settings s (update (setting_kind u) s.settings (entry_of k v)) → Step u s (set k v) accepted t
  joins : {s t : View} {n : ℕ} → s.up ≡ true → first (tests u (meaning u s) (join n)) ≡ None
      → t ≡ with_roll s (update membership_kind s.roll (entry_of n 1)) → Step u s (join n) accepted t
  leaves : {s t : View} {n : ℕ} → s.up ≡ true → first (tests u (meaning u s) (leave n)) ≡ None
      → t ≡ with_roll s (update membership_kind s.roll (entry_of n 0)) → Step u s (leave n) accepted t
  submits : {s t : View} {q : Request} → s.up ≡ true → first (tests u (meaning u s) (submit q)) ≡ None
      → t ≡ with_waiting s (s.waiting ++ (q ∷ [])) s.contents → Step u s (submit q) accepted t
  idles : {s t : View} {room : ℕ} → s.up ≡ true → first (tests u (meaning u s) (collect room)) ≡ None
      → s.waiting ≡ [] → t ≡ s → Step u s (collect room) idle t
  does : {s t : View} {room n : ℕ} {bytes : List ℕ} (q : Request) (qs : List Request) → s.up ≡ true
      → first (tests u (meaning u s) (collect room)) ≡ None → s.waiting ≡ q ∷ qs → n ≡ q.tag
      → bytes ≡ (after u (meaning u s) q).answer → t ≡ with_waiting s qs (after u (meaning u s) q).contents
      → Step u s (collect room) (done n bytes) t
  stops : {s t : View} → t ≡ cleared s false → Step u s stop accepted t
  restarts : {s t : View} → t ≡ cleared s true → Step u s restart accepted t

-- such steps keep the driver rules, and keep a driver well formed
abbrev pub KeepRules : Type 0
KeepRules = (u : Rules) → Bounds u → (s : View) (c : Call) (r : Reply) (t : View) → Ok u s → Step u s c r t
    → Rule u (meaning u s) c r (meaning u t) × Ok u t
