-- From what the parts of a base driver promise to its steps.
use Rattle.std.proofs.Common.{◌≡◌, ℕ, ◌+◌, ◌<◌, ◌≤◌, Bool, true, false, cond, not, ltb, leb, ◌⊎◌, List, [], ◌∷◌, ◌++◌, length, take, drop, is_ok, Some, None, Ok, Err, fold, Result, Option, sym, refl, ap, ◌∙◌, subst, inl, inr, arith}
use lib.ListN.{length-map}
use lib.Seq.{take-append_seam}
use Rattle.std.specs.List.{slice_get}
use Rattle.std.specs.Borrow.{Bor}
use Rattle.std.specs.Option.{option_map, unwrap_or}
use Rattle.std.proofs.lemmas.Option.{none-some, same_Some}
use Rattle.std.proofs.lemmas.List.{map-append}
use Rattle.std.proofs.lemmas.Bool.{cond-true, cond-false, both_ways, le-leb, lt-leb, lt-ltb, eq-eqb, ne_eqb, le-ltb}
use Rattle.model.specs.Requests.{Request, Contents, Outcome, onto}
use Rattle.model.specs.Rules.{Rules, Bounds, has_setting, greatest}
use Rattle.model.specs.declared.refusal.Refusal.{Refusal}
use Rattle.model.specs.declared.refusal.Refusal.TheVariants.{Failed, Full, Room}
use Rattle.device.specs.Performing.{outcome, Performed}
use Rattle.compaction.specs.Kinds.{by_number}
use Rattle.compaction.specs.Compaction.{update, entry_of}
use Rattle.compaction.specs.Replay.{replay}
use Rattle.entries.specs.declared.item.Item.{Item}
use Rattle.entry_log.specs.Kinds.{membership_kind}
use Rattle.entry_log.specs.Items.{noted, entries_of}
use Rattle.entries.proofs.Updates.{entries_noted}
use Rattle.model.specs.Headers.{header_of}
use Rattle.heads.specs.Kept.{Kept, verdict, head_of, payload_of, fresh, weight as kept_weight}
use Rattle.heads.specs.declared.head.Head.{Head}
use Rattle.driver.specs.States.{level, joined_count}
use Rattle.driver.specs.Calls.{Call, Fallible, set, join, submit, collect, done}
use Rattle.driver.specs.Rules.{tests, first, after, weight}
use Rattle.driver.specs.Replies.{plain, pair}
use Rattle.basis.specs.Views.{View, Ok as Fit, meaning, with_waiting, cleared}
use Rattle.basis.specs.Steps.{Step, down, does, refuses, submits}
use Rattle.basis.proofs.Stays.{joined_length, front_allowed}
use Rattle.base.specs.Held.{requests, holding}
use Rattle.base.specs.declared.parts.Running.{Running}

pub noting : (i : ℕ → ℕ) (k v : ℕ) (is js : List Item) → js ≡ noted (by_number i) (entry_of k v) is → entries_of js ≡ update (by_number i) (entries_of is) (entry_of k v)
noting i k v is js e = ap entries_of e ∙ entries_noted (by_number i) (entry_of k v) is

pub never_full : (i : ℕ → ℕ) (k v : ℕ) (is : List Item) → length (update (by_number i) (entries_of is) (entry_of k v)) ≤ 24 → false ≡ leb (length (noted (by_number i) (entry_of k v) is)) 24 → ⊥
never_full i k v is l e =
    let a = ap length (entries_noted (by_number i) (entry_of k v) is) in
    let b = length-map (noted (by_number i) (entry_of k v) is) (λ (x : Item). x.entry) in
    both_ways _ (sym e) (le-leb (length (noted (by_number i) (entry_of k v) is)) 24 (omega arith))

-- a note that always has room is taken, and the entries follow it
pub taken : (i : ℕ → ℕ) (k v : ℕ) (is js : List Item) (r : Result Unit Refusal) → length (update (by_number i) (entries_of is) (entry_of k v)) ≤ 24
    → is_ok r ≡ leb (length (noted (by_number i) (entry_of k v) is)) 24 → js ≡ cond (is_ok r) (noted (by_number i) (entry_of k v) is) is
    → (r ≡ Ok tt) × (entries_of js ≡ update (by_number i) (entries_of is) (entry_of k v))
taken i k v is js (Ok x) l t e = (refl, noting i k v is js e)
taken i k v is js (Err x) l t e = absurd (never_full i k v is l t)

-- a call of a driver that is down
pub shut_down : {C : Type 0} (u : Rules) (n : ℕ) (x : Contents) (w : Option (Running C)) (k : Call) (r : Result Unit Refusal) → Fallible k
    → w ≡ None → r ≡ Err (Failed (pair 1 0)) → Step u (holding n x w) k (plain r) (holding n x w)
shut_down u n x w k r f e d = rw (e, d) (down f refl refl)

-- a driver with nothing set, joined or waiting, whatever it held
pub cleared_any : {C : Type 0} (n : ℕ) (x : Contents) (w : Option (Running C)) (up : Bool)
    → record { up = up; reach = n; settings = []; roll = []; waiting = []; contents = x } ≡ cleared (holding n x w) up
cleared_any n x None up = refl
cleared_any n x (Some kept) up = refl

weight_requests : (ks : List Kept) → weight (requests ks) ≡ kept_weight ks
weight_requests ks = from 0 ks
  where
    from : (n : ℕ) (ks : List Kept) → fold (λ a (q : Request). a + length q.payload) n (requests ks) ≡ fold (λ a (k : Kept). a + length (payload_of k)) n ks
    from n [] = refl
    from n (k ∷ ks) = from (n + length (payload_of k)) ks

module _ (u : Rules) (s : View) where
  pub set_open : (k v : ℕ) → has_setting u k ≡ true → v ≤ greatest u k → first (tests u (meaning u s) (set k v)) ≡ None
  set_open k v a b = cond-false _ _ _ (ap not a) ∙ cond-false _ _ _ (le-ltb _ _ b)

  pub setting_shut : (k v : ℕ) → has_setting u k ≡ false → first (tests u (meaning u s) (set k v)) ≡ Some 2
  setting_shut k v a = cond-true _ _ _ (ap not a)

  pub value_shut : (k v : ℕ) → has_setting u k ≡ true → greatest u k < v → first (tests u (meaning u s) (set k v)) ≡ Some 3
  value_shut k v a b = cond-false _ _ _ (ap not a) ∙ cond-true _ _ _ (lt-ltb _ _ b)

  pub join_open : (n : ℕ) → Fit u s → u.name n ≡ true → (replay membership_kind s.roll n ≡ 1) ⊎ (length s.roll < u.limit) → first (tests u (meaning u s) (join n)) ≡ None
  join_open n o a (inl e) = cond-false _ _ _ (ap not a) ∙ cond-false _ _ _ (cond-true _ _ _ (eq-eqb _ 1 e))
  join_open n o a (inr l) =
      let j = joined_length u s o in
      let f : leb u.limit (joined_count (meaning u s)) ≡ false = lt-leb _ _ (omega arith) in
      cond-false _ _ _ (ap not a) ∙ cond-false _ _ _ (either _ _ f)
    where
      either : (b c : Bool) → c ≡ false → cond b false c ≡ false
      either true c e = refl
      either false c e = e

  pub join_shut : (n : ℕ) → Fit u s → u.name n ≡ true → (replay membership_kind s.roll n ≡ 1 → ⊥) → u.limit ≤ length s.roll → first (tests u (meaning u s) (join n)) ≡ Some 9
  join_shut n o a e l =
      let j = joined_length u s o in
      let f : leb u.limit (joined_count (meaning u s)) ≡ true = le-leb _ _ (omega arith) in
      cond-false _ _ _ (ap not a) ∙ cond-true _ _ _ (cond-false _ false _ (ne_eqb _ 1 e) ∙ f)

  -- the tests of submit: those of the class, then those of the queue
  pub kind_shut : (q : Request) → u.kind q.kind ≡ false → first (tests u (meaning u s) (submit q)) ≡ Some 5
  kind_shut q a = cond-true _ _ _ (ap not a)

  pub address_shut : (q : Request) → u.kind q.kind ≡ true → s.reach ≤ q.address → first (tests u (meaning u s) (submit q)) ≡ Some 6
  address_shut q a b = cond-false _ _ _ (ap not a) ∙ cond-true _ _ _ (le-leb _ _ b)

  pub payload_shut : (q : Request) → u.kind q.kind ≡ true → q.address < s.reach → u.takes q.kind (length q.payload) ≡ false → first (tests u (meaning u s) (submit q)) ≡ Some 7
  payload_shut q a b e = cond-false _ _ _ (ap not a) ∙ (cond-false _ _ _ (lt-leb _ _ b) ∙ cond-true _ _ _ (ap not e))

  -- what a submit is to be, where the queue answered x
  abbrev Submit : Request → List Kept → Result Unit Refusal → Type 0
  Submit q ks x = Step u s (submit q) (plain x) (with_waiting s (requests (cond (is_ok x) (ks ++ fresh (header_of q) q.payload ∷ []) ks)) s.contents)

  by_cases : (q : Request) (ks : List Kept) (x y : Bool) → s.up ≡ true → s.waiting ≡ requests ks
      → first (tests u (meaning u s) (submit q)) ≡ cond x (Some 10) (cond y (Some 11) None) → Submit q ks (cond x (Err Full) (cond y (Err Room) (Ok tt)))
  by_cases q ks true y up w e = refuses 10 up e (ap (λ (l : List Request). with_waiting s l s.contents) (sym w))
  by_cases q ks false true up w e = refuses 11 up e (ap (λ (l : List Request). with_waiting s l s.contents) (sym w))
  by_cases q ks false false up w e =
      submits up e
      (ap (λ (l : List Request). with_waiting s l s.contents) (map-append (λ (x : Kept). x.request) ks (fresh (header_of q) q.payload ∷ []) ∙ ap (λ (l : List Request). l ++ (q ∷ [])) (sym w)))

  -- a request that passes the class's tests, and what the queue made of it
  pub submitted : (q : Request) (ks ks' : List Kept) (r : Result Unit Refusal) → s.up ≡ true → u.kind q.kind ≡ true → q.address < s.reach → u.takes q.kind (length q.payload) ≡ true
      → s.waiting ≡ requests ks → r ≡ verdict ks (length q.payload) → ks' ≡ cond (is_ok r) (ks ++ fresh (header_of q) q.payload ∷ []) ks
      → Step u s (submit q) (plain r) (with_waiting s (requests ks') s.contents)
  submitted q ks ks' r up k a p w e e' =
      let told : first (tests u (meaning u s) (submit q)) ≡ cond (leb 16 (length ks)) (Some 10) (cond (ltb 8192 (kept_weight ks + length q.payload)) (Some 11) None) =
      cond-false _ _ _ (ap not k) ∙ (cond-false _ _ _ (lt-leb _ _ a) ∙ (cond-false _ _ _ (ap not p)
      ∙ (ap (λ (l : List Request). cond (leb 16 (length l)) (Some 10) (cond (ltb 8192 (weight l + length q.payload)) (Some 11) None)) w
      ∙ (λ i. cond (leb 16 (length-map ks (λ (x : Kept). x.request) i)) (Some 10) (cond (ltb 8192 (weight_requests ks i + length q.payload)) (Some 11) None))))) in
      subst (λ (l : List Kept). Step u s (submit q) (plain r) (with_waiting s (requests l) s.contents)) (sym e')
      (subst (Submit q ks) (sym e) (by_cases q ks (leb 16 (length ks)) (ltb 8192 (kept_weight ks + length q.payload)) up w told))

pub none_of : (ks : List Kept) → None ≡ option_map head_of (slice_get ks 0) → requests ks ≡ []
none_of [] e = refl
none_of (k ∷ rest) e = let z : ◌≡◌ {A = ℕ} 0 1 = cc in absurd (omega arith)

-- the payload of the oldest request, where there is one
pub oldest_payload : (p : Option (Bor (List ℕ))) (bytes d : Bor (List ℕ)) (ys : List ℕ) → bytes ≡ unwrap_or p d → option_map (λ b. b.now) p ≡ Some ys → bytes.now ≡ ys
oldest_payload None bytes d ys e f = absurd (none-some ys f)
oldest_payload (Some b) bytes d ys e f = ap (λ (x : Bor (List ℕ)). x.now) e ∙ same_Some b.now ys f

-- the answer is what stands at the front of the buffer
answer_is : (a buffer buffer' : List ℕ) (n : ℕ) → buffer' ≡ onto a buffer → n ≡ length a → take n buffer' ≡ a
answer_is a buffer buffer' n e l = (λ i. take (l i) (e i)) ∙ take-append_seam a (drop (length a) buffer)

pub framed : (a buffer buffer' : List ℕ) (n : ℕ) → buffer' ≡ onto a buffer → n ≡ length a → buffer' ≡ onto (take n buffer') buffer
framed a buffer buffer' n e l = e ∙ ap (λ (x : List ℕ). onto x buffer) (sym (answer_is a buffer buffer' n e l))

pub collected : (u : Rules) (s : View) (ks rest : List Kept) (h : Head) (l : ℕ) (p buffer buffer' : List ℕ) (n reach' : ℕ) (x' : Contents)
    → Bounds u → Fit u s → s.up ≡ true → u.longest ≤ length buffer → s.waiting ≡ requests ks → Some h ≡ option_map head_of (slice_get ks 0) → rest ≡ drop 1 ks
    → l ≡ level (meaning u s) → ((ys : List ℕ) → option_map payload_of (slice_get ks 0) ≡ Some ys → p ≡ ys)
    → Performed s.reach buffer (outcome u s.reach s.contents l h.header.kind h.header.address p (length buffer)) reach' x' buffer' n
    → Step u s (collect (length buffer)) (done h.header.tag (take n buffer')) (record { up = s.up; reach = reach'; settings = s.settings; roll = s.roll; waiting = requests rest; contents = x' })
collected u s [] rest h l p buffer buffer' n reach' x' b o up room w f d lv pe m = let z : ◌≡◌ {A = ℕ} 0 1 = cc in absurd (omega arith)
collected u s (k ∷ ks) rest h l p buffer buffer' n reach' x' b o up room w f d lv pe m =
    let q : Request = k.request in
    let open' : first (tests u (meaning u s) (collect (length buffer))) ≡ None = cond-false _ _ _ (le-ltb _ _ room) in
    let eh : h ≡ head_of k = cc in
    let ep : p ≡ q.payload = pe q.payload refl in
    let out : outcome u s.reach s.contents l h.header.kind h.header.address p (length buffer) ≡ after u (meaning u s) q =
    (λ i. outcome u s.reach s.contents (lv i) (eh i).header.kind (eh i).header.address (ep i) (length buffer))
    ∙ cond-true _ _ _ (front_allowed u s q (requests ks) (length buffer) b o w open') in
    does q (requests ks) up open' w (ap (λ (x : Head). x.header.tag) eh)
    (answer_is _ buffer buffer' n m.buffer m.count ∙ ap (λ (z : Outcome). z.answer) out)
    (λ i. record { up = s.up; reach = m.reach i; settings = s.settings; roll = s.roll; waiting = requests (d i); contents = (m.contents ∙ ap (λ (z : Outcome). z.contents) out) i })
