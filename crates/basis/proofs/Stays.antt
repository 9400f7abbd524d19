-- A base driver's steps keep it well formed, and what follows from that.
use Rattle.std.proofs.Common.{◌≡◌, ℕ, suc, ◌^◌, ◌<◌, ◌≤◌, Bool, true, false, cond, not, eqb, leb, List, [], ◌∷◌, length, Some, None, Option, sym, refl, ap, ◌∙◌, subst, inl, inr, arith}
use mathlib.Core.Path.{fun_ext}
use Rattle.std.specs.List.{AllByRecursion}
use Rattle.std.proofs.lemmas.List.{append-nil, length_push}
use Rattle.std.proofs.ByRecursion.{All-push, All-weaker}
use Rattle.std.proofs.lemmas.List.Sums.{length-filter, count_by-le-length}
use Rattle.std.proofs.lemmas.Bool.{cases_Bool, cond-true, cond-false, eqb-true, leb-false, ltb-false, ltb-true, not-false, both_ways, true≢false, and_from, lt-ltb, le-leb}
use Rattle.device.specs.Performing.{allowed}
use Rattle.model.specs.Requests.{Request}
use Rattle.model.specs.Rules.{Rules, Bounds, initial, greatest}
use Rattle.driver.specs.States.{level, joined_count}
use Rattle.driver.specs.Rules.{tests, first}
use Rattle.driver.specs.Calls.{Call, Reply, set, join, collect, accepted}
use Rattle.compaction.specs.declared.entry.Entry.{Entry}
use Rattle.compaction.specs.Kinds.{Kind, by_number}
use Rattle.compaction.specs.Compaction.{update, others, holds_default, Apart, entry_of}
use Rattle.compaction.specs.Replay.{replay, content_after}
use Rattle.compaction.specs.Tally.{tally}
use Rattle.compaction.proofs.Sameness.{by_number_lawful, by_number_exact}
use Rattle.compaction.proofs.Compacting.{all_update}
use Rattle.compaction.proofs.Standing.{apart_update}
use Rattle.compaction.proofs.Counting.{tallied, apart_few}
use Rattle.compaction.proofs.Replaying.{update_replay}
use Rattle.kinds.specs.Kinds.{setting_kind, membership_kind}
use Rattle.basis.specs.Views.{View, Ok, Fine, Within, meaning, with_settings, cleared}
use Rattle.basis.specs.Steps.{Step, down, refuses, sets, joins, leaves, submits, idles, does, stops, restarts}

-- a test that did not hold, and the tests after it
pub passed : (b : Bool) (n : ℕ) (y : Option ℕ) → cond b (Some n) y ≡ None → (b ≡ false) × (y ≡ None)
passed true n y e = let z : ◌≡◌ {A = ℕ} 0 1 = cc in absurd (omega arith)
passed false n y e = (refl, e)

module _ (i : ℕ → ℕ) where
  abbrev k : Kind
  k = by_number i

  others_length : (c : List Entry) (e : Entry) → length (others k e.name c) ≤ length c
  others_length c e =
      let a = length-filter (λ (x : Entry). not (eqb x.name e.name)) c in
      let b = count_by-le-length (λ (x : Entry). not (eqb x.name e.name)) c in
      omega arith

  -- one more entry lengthens a list by one at most
  length_update : (c : List Entry) (e : Entry) → length (update k c e) ≤ suc (length c)
  length_update c e =
      let a = others_length c e in
      elim (cases_Bool (holds_default k e)) [
        | inl h ↦ simp (h, append-nil) (omega arith)
        | inr h ↦ simp h (let p = length_push (others k e.name c) e in omega arith)
      ]

  -- a default lengthens nothing
  length_default : (c : List Entry) (e : Entry) → holds_default k e ≡ true → length (update k c e) ≤ length c
  length_default c e h = let a = others_length c e in simp (h, append-nil) (omega arith)

  -- a name that has the content already: no entry more
  length_again : (c : List Entry) (e : Entry) (n : ℕ) → Apart k c → AllByRecursion (λ e. e.name < n) c → e.name < n → replay k c e.name ≡ e.content → length (update k c e) ≡ length c
  length_again c e n p q l h =
      sym (tallied k (by_number_lawful i) (by_number_exact i) (update k c e) n (apart_update k (by_number_lawful i) c e p) (all_update (λ (x : Entry). x.name < n) k c e q l))
      ∙ (ap (λ f. tally i f n) (fun_ext same) ∙ tallied k (by_number_lawful i) (by_number_exact i) c n p q)
    where
      same : (m : ℕ) → replay k (update k c e) m ≡ replay k c m
      same m =
          update_replay k (by_number_lawful i) c e m
          ∙ elim (cases_Bool (eqb e.name m)) [
            | inl a ↦ cond-true _ e.content (replay k c m) a ∙ (sym h ∙ ap (replay k c) (eqb-true e.name m a))
            | inr a ↦ cond-false _ e.content (replay k c m) a
          ]

-- the settings that are noted are few
pub few_settings : (u : Rules) (v : View) → Bounds u → Ok u v → length v.settings ≤ 3
few_settings u v b o =
    let a = apart_few (setting_kind u) (by_number_lawful (initial u)) (by_number_exact (initial u)) v.settings (length u.settings) o.settings (All-weaker (Within u) (λ (e : Entry). e.name < length u.settings) (λ e w. w.key) v.settings o.keys) in
    let m = b.few_settings in
    omega arith

-- how many are joined is the length of the roll
pub joined_length : (u : Rules) (s : View) → Ok u s → joined_count (meaning u s) ≡ length s.roll
joined_length u s o = tallied membership_kind (by_number_lawful (λ _. 0)) (by_number_exact (λ _. 0)) s.roll (2 ^ 32) o.roll o.names

-- joining one name more leaves the roll within its limit
few_joined : (u : Rules) (s : View) (n : ℕ) → Bounds u → Ok u s → first (tests u (meaning u s) (join n)) ≡ None → length (update membership_kind s.roll (entry_of n 1)) ≤ u.limit
few_joined u s n b o p =
    let q = passed _ _ _ p in
    let named = b.names n (not-false _ q.0) in
    let w : cond (eqb (replay membership_kind s.roll n) 1) false (leb u.limit (joined_count (meaning u s))) ≡ false = (passed _ _ _ q.1).0 in
    let f = o.few in
    elim (cases_Bool (eqb (replay membership_kind s.roll n) 1)) [
      | inl a ↦ let l = length_again (λ _. 0) s.roll (entry_of n 1) (2 ^ 32) o.roll o.names named (eqb-true _ 1 a) in omega arith
      | inr a ↦ let x = sym (cond-false _ false _ a) ∙ w in
          let y : joined_count (meaning u s) < u.limit = leb-false u.limit _ x in
          let z = joined_length u s o in
          let l = length_update (λ _. 0) s.roll (entry_of n 1) in
          omega arith
    ]

up_not : (b : Bool) → b ≡ true → b ≡ false → ⊥
up_not b p q = both_ways b q p

pub stay : (u : Rules) → Bounds u → (s : View) (c : Call) (r : Reply) (t : View) → Ok u s → Step u s c r t → Ok u t
stay u b s c r t o (down f h e) = subst (Ok u) (sym e) o
stay u b s c r t o (refuses n h p e) = subst (Ok u) (sym e) o
stay u b s c r t o (sets {k = k} {v = v} h p e) =
    let q = passed _ _ _ p in
    let a = ltb-true _ _ (not-false _ q.0) in
    let l = ltb-false _ _ (passed _ _ _ q.1).0 in
    subst (Ok u) (sym e) (record {
      settings = apart_update (setting_kind u) (by_number_lawful (initial u)) s.settings (entry_of k v) o.settings;
      keys = all_update (Within u) (setting_kind u) s.settings (entry_of k v) o.keys (record { key = a; value = l });
      roll = o.roll;
      names = o.names;
      few = o.few;
      fine = o.fine;
      empty = λ z. absurd (up_not _ h z);
    })
stay u b s c r t o (joins {n = n} h p e) =
    subst (Ok u) (sym e) (record {
      settings = o.settings;
      keys = o.keys;
      roll = apart_update membership_kind (by_number_lawful (λ _. 0)) s.roll (entry_of n 1) o.roll;
      names = all_update (λ (e : Entry). e.name < 2 ^ 32) membership_kind s.roll (entry_of n 1) o.names (b.names n (not-false _ (passed _ _ _ p).0));
      few = few_joined u s n b o p;
      fine = o.fine;
      empty = λ z. absurd (up_not _ h z);
    })
stay u b s c r t o (leaves {n = n} h p e) =
    subst (Ok u) (sym e) (record {
      settings = o.settings;
      keys = o.keys;
      roll = apart_update membership_kind (by_number_lawful (λ _. 0)) s.roll (entry_of n 0) o.roll;
      names = all_update (λ (e : Entry). e.name < 2 ^ 32) membership_kind s.roll (entry_of n 0) o.names (b.names n (not-false _ (passed _ _ _ p).0));
      few = (let l = length_default (λ _. 0) s.roll (entry_of n 0) refl in let m = o.few in omega arith);
      fine = o.fine;
      empty = λ z. absurd (up_not _ h z);
    })
stay u b s c r t o (submits {q = q} h p e) =
    let a = passed _ _ _ p in
    let d = passed _ _ _ a.1 in
    let f = passed _ _ _ d.1 in
    subst (Ok u) (sym e) (record {
      settings = o.settings;
      keys = o.keys;
      roll = o.roll;
      names = o.names;
      few = o.few;
      fine = All-push (Fine u s.reach) s.waiting q o.fine (record { kind = not-false _ a.0; address = leb-false _ _ d.0; payload = not-false _ f.0 });
      empty = λ z. absurd (up_not _ h z);
    })
stay u b s c r t o (idles h p w e) = subst (Ok u) (sym e) o
stay u b s c r t o (does q qs h p w n a e) =
    let f : AllByRecursion (Fine u s.reach) (q ∷ qs) = subst (AllByRecursion (Fine u s.reach)) w o.fine in
    subst (Ok u) (sym e) (record {
      settings = o.settings;
      keys = o.keys;
      roll = o.roll;
      names = o.names;
      few = o.few;
      fine = f.1;
      empty = λ z. absurd (up_not _ h z);
    })
stay u b s c r t o (stops e) = subst (Ok u) (sym e) (record { settings = tt; keys = tt; roll = tt; names = tt; few = omega arith; fine = tt; empty = λ z. refl })
stay u b s c r t o (restarts e) = subst (Ok u) (sym e) (record { settings = tt; keys = tt; roll = tt; names = tt; few = omega arith; fine = tt; empty = λ z. absurd (true≢false z) })

-- noting never meets the end of the table
pub set_room : (u : Rules) (s : View) (k v : ℕ) → Bounds u → Ok u s → s.up ≡ true → first (tests u (meaning u s) (set k v)) ≡ None → length (update (setting_kind u) s.settings (entry_of k v)) ≤ 24
set_room u s k v b o h p =
    let x : View = with_settings s (update (setting_kind u) s.settings (entry_of k v)) in
    let l = few_settings u x b (stay u b s (set k v) accepted x o (sets h p refl)) in
    omega arith

pub join_room : (u : Rules) (s : View) (n : ℕ) → Bounds u → Ok u s → first (tests u (meaning u s) (join n)) ≡ None → length (update membership_kind s.roll (entry_of n 1)) ≤ 24
join_room u s n b o p = let l = few_joined u s n b o p in let m = b.few_joined in omega arith

pub leave_room : (u : Rules) (s : View) (n : ℕ) → Bounds u → Ok u s → length (update membership_kind s.roll (entry_of n 0)) ≤ 24
leave_room u s n b o = let l = length_default (λ _. 0) s.roll (entry_of n 0) refl in let k = o.few in let m = b.few_joined in omega arith

within : (u : Rules) (n d : ℕ) (h : List Entry) → AllByRecursion (Within u) h → d ≤ greatest u n → content_after (setting_kind u) n d h ≤ greatest u n
within u n d [] p l = l
within u n d (e ∷ h) p l =
    within u n (cond (eqb e.name n) e.content d) h p.1 (elim (cases_Bool (eqb e.name n)) [
      | inl a ↦ let x = cond-true (eqb e.name n) e.content d a in let y = ap (greatest u) (eqb-true e.name n a) in let z = p.0.value in omega arith
      | inr a ↦ let x = cond-false (eqb e.name n) e.content d a in omega arith
    ])

-- no setting is above its greatest value
pub value_fits : (u : Rules) (s : View) (k : ℕ) → Bounds u → Ok u s → replay (setting_kind u) s.settings k ≤ greatest u k
value_fits u s k b o = within u k (initial u k) s.settings o.keys (b.initials k)

-- the oldest request is one that its device performs
pub front_allowed : (u : Rules) (s : View) (q : Request) (qs : List Request) (room : ℕ) → Bounds u → Ok u s → s.waiting ≡ q ∷ qs → first (tests u (meaning u s) (collect room)) ≡ None
    → allowed u s.reach (level (meaning u s)) q.kind q.address (length q.payload) room ≡ true
front_allowed u s q qs room b o w p =
    let f : AllByRecursion (Fine u s.reach) (q ∷ qs) = subst (AllByRecursion (Fine u s.reach)) w o.fine in
    and_from _ _ (le-leb _ _ (value_fits u s 0 b o)) (and_from _ _ f.0.kind (and_from _ _ (lt-ltb _ _ f.0.address) (and_from _ _ f.0.payload (le-leb _ _ (ltb-false _ _ (passed _ _ _ p).0)))))

-- a driver as it is made
pub made_ok : (u : Rules) (v : View) → v ≡ cleared v false → Ok u v
made_ok u v e = subst (Ok u) (sym e) (record { settings = tt; keys = tt; roll = tt; names = tt; few = omega arith; fine = tt; empty = λ z. refl })
