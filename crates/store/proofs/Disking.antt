-- What blocks that are written to a bare disk, or looked for there, come to.
use Rattle.std.proofs.Common.{◌≡◌, ℕ, zero, suc, ◌+◌, ◌*◌, ◌≤◌, Bool, true, false, List, length, take, drop, Ok, Err, Decides, Result, refl, sym, ap, ◌∙◌, arith, length-take, length-drop}
use lib.Seq.{paste}
use Rattle.std.proofs.lemmas.Bool.{false≢true}
use Rattle.std.proofs.lemmas.List.Edits.{paste_none}
use Rattle.std.specs.Simd.{first_chunks}
use Rattle.std.specs.declared.vec.Vec.{Vec}
use Rattle.block.specs.declared.disk.Disk.{Disk}
use Rattle.block.specs.Disks.{reach_of}
use Rattle.block.specs.Memories.{memory_of}
use Rattle.store.specs.declared.store.StoreError.{StoreError}
use Rattle.store.specs.Disks.{DiskPuts, DiskLooks}
use Rattle.store.specs.Media.{Puts, all_put, next_put, not_put, Finds, all_found, next_found, other_found, not_found}
use Rattle.store.proofs.Turns.{same_length, written_on, Same, more_same, first_same, rest_same}

abbrev reach : {Z : Type 0} → Disk (Vec ℕ Z) → ℕ
reach s = reach_of (length (memory_of s))

not_err : {A : Type 0} {x : A} {e : StoreError} → ◌≡◌ {A = Result A StoreError} (Err e) (Ok x) → ⊥
not_err q = let z : ◌≡◌ {A = ℕ} 0 1 = cc in omega arith

pub disk_puts : {Z : Type 0} (k : ℕ) (s t : Disk (Vec ℕ Z)) (a : ℕ) (xs : List ℕ) (r : Result Unit StoreError) → k * 512 ≤ length xs → a + k ≤ reach s → Puts DiskPuts s a (first_chunks 512 k xs) r t
    → (r ≡ Ok tt) × (memory_of t ≡ paste (memory_of s) (a * 512) xs (k * 512))
disk_puts {Z = Z} zero s t a xs r l h (all_put e) = (refl, ap memory_of e ∙ paste_none (memory_of s) (a * 512) xs)
disk_puts {Z = Z} (suc k) s t a xs r l h (next_put {m} p q) =
    let w = (p.0 (omega arith)).1 in
    let one = length-take 512 xs in
    let same : length (memory_of m) ≡ length (memory_of s) = same_length (memory_of s) (take 512 xs) (memory_of m) a 1 w (omega arith) (omega arith) in
    let left = length-drop 512 xs in
    let rest = disk_puts {Z = Z} k m t (a + 1) (drop 512 xs) r (omega arith) (omega (arith, ap reach_of same)) q in
    (rest.0, rest.1 ∙ written_on (memory_of s) xs (memory_of m) a k (omega arith) l w)
disk_puts {Z = Z} (suc k) s t a xs r l h (not_put p) = absurd (not_err (p.0 (omega arith)).0)

pub record DiskFound {Z : Type 0} (k : ℕ) (s t : Disk (Vec ℕ Z)) (a : ℕ) (xs : List ℕ) (r : Result Bool StoreError) : Type 0 where
  pub answer : Bool
  pub is : r ≡ Ok answer
  pub same : memory_of t ≡ memory_of s
  pub found : Decides answer (Same k a (memory_of s) xs)

pub disk_finds : {Z : Type 0} (k : ℕ) (s t : Disk (Vec ℕ Z)) (a : ℕ) (xs : List ℕ) (r : Result Bool StoreError) → k * 512 ≤ length xs → a + k ≤ reach s → Finds DiskLooks s a (first_chunks 512 k xs) r t
    → DiskFound k s t a xs r
disk_finds {Z = Z} zero s t a xs r l h (all_found e) = record { answer = true; is = refl; same = ap memory_of e; found = ((λ z. refl), (λ z. refl)) }
disk_finds {Z = Z} (suc k) s t a xs r l h (next_found {m} p q) =
    let w = p.0 (omega arith) in
    let left = length-drop 512 xs in
    let d = disk_finds {Z = Z} k m t (a + 1) (drop 512 xs) r (omega arith) (omega (arith, ap (λ (ys : List ℕ). reach_of (length ys)) w.2)) q in
    let yes : w.0 ≡ true = cc in
    let here = w.3.0 yes in
    record {
      answer = d.answer;
      is = d.is;
      same = d.same ∙ w.2;
      found = (
        (λ z. more_same k a (memory_of s) xs here (ap (λ (ys : List ℕ). take (k * 512) (drop ((a + 1) * 512) ys)) (sym w.2) ∙ d.found.0 z)),
        (λ e. d.found.1 (ap (λ (ys : List ℕ). take (k * 512) (drop ((a + 1) * 512) ys)) w.2 ∙ rest_same k a (memory_of s) xs e)),
      );
    }
disk_finds {Z = Z} (suc k) s t a xs r l h (other_found p) =
    let w = p.0 (omega arith) in
    let no : false ≡ w.0 = cc in
    record { answer = false; is = refl; same = w.2; found = ((λ z. absurd (false≢true z)), (λ e. no ∙ w.3.1 (first_same k a (memory_of s) xs e))) }
disk_finds {Z = Z} (suc k) s t a xs r l h (not_found p) = absurd (not_err (p.0 (omega arith)).1)
