-- What heads and the bytes of their payloads come to, as a list of requests.
use Rattle.std.proofs.Common.{◌≡◌, ℕ, zero, suc, ◌+◌, ◌-◌, ◌<◌, ◌≤◌, true, false, cond, not, List, [], ◌∷◌, ◌++◌, map, length, get_or, take, drop, set, Some, count_by, sym, refl, ap, ◌∙◌, arith}
use Rattle.std.specs.List.{slice_get, remove}
use Rattle.std.specs.Option.{option_map}
use Rattle.std.proofs.lemmas.List.{take-take, drop-take, drop-drop, take_at, drop_at, take_all, length-append, length-take-le, length-drop}
use Rattle.std.proofs.lemmas.List.Sums.{sum_by-cons}
use Rattle.marks.specs.First.{firstFrom}
use Rattle.heads.specs.declared.head.Head.{Head}
use Rattle.heads.specs.Heads.{total, remark}
use Rattle.heads.specs.Kept.{Kept, fresh, marked, head_of, payload_of, weight, handed_at}
use Rattle.heads.specs.Laid.{laid}
pub use Rattle.heads.specs.Laid.{kept_as}

pub total_cons : (h : Head) (hs : List Head) → total (h ∷ hs) ≡ h.size + total hs
total_cons h hs = sum_by-cons (λ x. x.size) h hs

pub length_laid : (hs : List Head) (b : List ℕ) → length (laid hs b) ≡ length hs
length_laid [] b = refl
length_laid (h ∷ hs) b = ap suc (length_laid hs (drop h.size b))

pub weight_laid : (hs : List Head) (b : List ℕ) → total hs ≤ length b → weight (laid hs b) ≡ total hs
weight_laid [] b le = refl
weight_laid (h ∷ hs) b le =
    let e = total_cons h hs in
    let w = sum_by-cons (λ k. length (payload_of k)) (kept_as h b) (laid hs (drop h.size b)) in
    let d = length-drop h.size b in
    let t = length-take-le h.size b (omega arith) in
    let i = weight_laid hs (drop h.size b) (omega arith) in
    omega arith

-- only the bytes that the heads account for matter
laid_take : (hs : List Head) (b : List ℕ) (n : ℕ) → total hs ≤ n → laid hs (take n b) ≡ laid hs b
laid_take [] b n le = refl
laid_take (h ∷ hs) b n le =
    let e = total_cons h hs in
    let m : n ≡ h.size + (n - h.size) = omega arith in
    let t = take-take h.size n b (omega arith) in
    let d : drop h.size (take n b) ≡ take (n - h.size) (drop h.size b) = ap (λ k. drop h.size (take k b)) m ∙ drop-take h.size (n - h.size) b in
    let i = laid_take hs (drop h.size b) (n - h.size) (omega arith) in
    cc

pub laid_same : (hs : List Head) (b c : List ℕ) (n : ℕ) → total hs ≤ n → take n b ≡ take n c → laid hs b ≡ laid hs c
laid_same hs b c n le e = sym (laid_take hs b n le) ∙ (ap (laid hs) e ∙ laid_take hs c n le)

-- one more head: its payload comes after those of the others
laid_more : (hs : List Head) (h : Head) (b : List ℕ) → laid (hs ++ h ∷ []) b ≡ laid hs b ++ kept_as h (drop (total hs) b) ∷ []
laid_more [] h b = refl
laid_more (x ∷ hs) h b =
    let i = laid_more hs h (drop x.size b) in
    let d = drop-drop (total hs) x.size b in
    let e = total_cons x hs in
    cc

pub laid_push : (hs : List Head) (h : Head) (b c p : List ℕ) → total hs ≤ length b → h.size ≡ length p → h.handed ≡ false
    → take (total hs + length p) c ≡ take (total hs) b ++ p
    → laid (hs ++ h ∷ []) c ≡ laid hs b ++ fresh h.header p ∷ []
laid_push hs h b c p le size unmarked written =
    let u = total hs in
    let long = length-take-le u b le in
    let a : take u c ≡ take u b = sym (take-take u (u + length p) c (omega arith)) ∙ (ap (take u) written ∙ take_at (take u b) p u long) in
    let front = laid_same hs c b u (omega arith) a in
    let back : take (length p) (drop u c) ≡ p = sym (drop-take u (length p) c) ∙ (ap (drop u) written ∙ drop_at (take u b) p u long) in
    let g = laid_more hs h c in
    cc

-- where the bytes are no more than the payloads
pub laid_behind : (hs : List Head) (h : Head) (b p : List ℕ) → total hs ≡ length b → h.size ≡ length p → h.handed ≡ false
    → laid (hs ++ h ∷ []) (b ++ p) ≡ laid hs b ++ fresh h.header p ∷ []
laid_behind hs h b p e size unmarked =
    let l = length-append b p in
    laid_push hs h b (b ++ p) p (omega arith) size unmarked (take_all (total hs + length p) (b ++ p) (omega arith) ∙ ap (λ x. x ++ p) (sym (take_all (total hs) b (omega arith))))

-- the i-th request
pub nth_laid : (hs : List Head) (i : ℕ) (d : Head) (b : List ℕ) → i < length hs
    → slice_get (laid hs b) i ≡ Some (kept_as (get_or hs i d) (drop (total (take i hs)) b))
nth_laid [] i d b lt = absurd (omega arith)
nth_laid (h ∷ hs) zero d b lt = refl
nth_laid (h ∷ hs) (suc i) d b lt =
    let t = total_cons h (take i hs) in
    let k = drop-drop (total (take i hs)) h.size b in
    let j = nth_laid hs i d (drop h.size b) (omega arith) in
    cc

-- its head, and its payload after those of the older ones
pub head_at : (hs : List Head) (i : ℕ) (b : List ℕ) → total hs ≤ length b → option_map head_of (slice_get (laid hs b) i) ≡ slice_get hs i
head_at [] i b le = refl
head_at (h ∷ hs) zero b le =
    let c = total_cons h hs in
    let l = length-take-le h.size b (omega arith) in
    ap (λ n. Some (record { header = h.header; size = n; handed = h.handed })) l
head_at (h ∷ hs) (suc i) b le =
    let c = total_cons h hs in
    let d = length-drop h.size b in
    head_at hs i (drop h.size b) (omega arith)

pub payload_at : (hs : List Head) (i : ℕ) (b : List ℕ)
    → option_map payload_of (slice_get (laid hs b) i) ≡ option_map (λ h. take h.size (drop (total (take i hs)) b)) (slice_get hs i)
payload_at [] i b = refl
payload_at (h ∷ hs) zero b = refl
payload_at (h ∷ hs) (suc i) b =
    let t = total_cons h (take i hs) in
    let k = drop-drop (total (take i hs)) h.size b in
    payload_at hs i (drop h.size b) ∙ ap (λ c. option_map (λ x. take x.size c) (slice_get hs i)) (k ∙ ap (λ n. drop n b) (sym t))

-- the oldest request is removed
pub total_oldest : (hs : List Head) (h : Head) → slice_get hs 0 ≡ Some h → h.size + total (remove hs 0) ≡ total hs
total_oldest [] h e = cc
total_oldest (x ∷ hs) h e = let c = total_cons x hs in cc

pub laid_oldest : (hs : List Head) (h : Head) (b : List ℕ) → slice_get hs 0 ≡ Some h → laid (remove hs 0) (drop h.size b) ≡ drop 1 (laid hs b)
laid_oldest [] h b e = cc
laid_oldest (x ∷ hs) h b e = cc

-- marks
pub laid_handed : (hs : List Head) (i : ℕ) (d : Head) (b : List ℕ) → laid (set hs i (remark true (get_or hs i d))) b ≡ handed_at i (laid hs b)
laid_handed [] i d b = refl
laid_handed (h ∷ hs) zero d b = refl
laid_handed (h ∷ hs) (suc i) d b = let j = laid_handed hs i d (drop h.size b) in cc

pub laid_unmarked : (hs : List Head) (b : List ℕ) → laid (map (remark false) hs) b ≡ map (marked false) (laid hs b)
laid_unmarked [] b = refl
laid_unmarked (h ∷ hs) b = let j = laid_unmarked hs (drop h.size b) in cc

pub first_laid : (n : ℕ) (hs : List Head) (b : List ℕ) → firstFrom (λ k. k.handed) n (laid hs b) ≡ firstFrom (λ h. h.handed) n hs
first_laid n [] b = refl
first_laid n (h ∷ hs) b = ap (λ o. cond h.handed o (Some n)) (first_laid (n + 1) hs (drop h.size b))

pub count_laid : (hs : List Head) (b : List ℕ) → count_by (λ k. not k.handed) (laid hs b) ≡ count_by (λ h. not h.handed) hs
count_laid [] b = refl
count_laid (h ∷ hs) b =
    sum_by-cons (λ k. cond (not k.handed) 1 0) (kept_as h b) (laid hs (drop h.size b))
    ∙ (ap (λ n. cond (not h.handed) 1 0 + n) (count_laid hs (drop h.size b))
    ∙ sym (sum_by-cons (λ x. cond (not x.handed) 1 0) h hs))

-- past the end nothing changes
pub handed_past : (ks : List Kept) (i : ℕ) → length ks ≤ i → ks ≡ handed_at i ks
handed_past [] i le = refl
handed_past (k ∷ ks) zero le = absurd (omega arith)
handed_past (k ∷ ks) (suc i) le = ap (λ l. k ∷ l) (handed_past ks i (omega arith))

pub laid_past : (hs : List Head) (i : ℕ) (b : List ℕ) → length hs ≤ i → handed_at i (laid hs b) ≡ laid hs b
laid_past hs i b le = let l = length_laid hs b in sym (handed_past (laid hs b) i (omega arith))
