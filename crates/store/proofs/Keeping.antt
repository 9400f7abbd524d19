-- What a store holds after the record of a frame was written.
use Rattle.std.proofs.Common.{◌≡◌, ℕ, ◌+◌, ◌*◌, ◌<◌, ◌≤◌, Bool, List, ◌++◌, length, take, drop, Ok, Decides, Result, sym, ap, ◌∙◌, subst, arith}
use lib.Seq.{paste}
use Rattle.std.proofs.lemmas.List.{take-take}
use Rattle.block.specs.Disks.{reach_of}
use Rattle.store.specs.declared.records.Record.{Record}
use Rattle.store.specs.declared.store.Store.{Store}
use Rattle.store.specs.declared.store.StoreError.{StoreError}
use Rattle.store.specs.Disks.{DiskPuts, DiskLooks}
use Rattle.store.specs.Media.{Puts, Finds}
use Rattle.store.specs.Records.{blocks_for, padded, blocks_of}
use Rattle.store.specs.Stores.{bytes_of, blocks_in, with_record, Holds, Keeps}
use Rattle.store.proofs.Disking.{disk_puts, disk_finds}
use Rattle.store.proofs.Recorded.{Fits, its_blocks, so_many}
use Rattle.store.proofs.Turns.{there_after, before_same, padded_length, same_length}

-- the record of a frame has been written from the first free block on
pub record Wrote (s t : Store) (frame : List ℕ) : Type 0 where
  pub short : length frame ≤ 1514
  pub within : s.next + blocks_for (length frame) ≤ blocks_in s
  pub bytes : bytes_of t ≡ paste (bytes_of s) (s.next * 512) (padded frame) (blocks_for (length frame) * 512)

-- the blocks of its record were written
pub wrote : (s t : Store) (frame : List ℕ) (x : Record) (bs : List (List ℕ)) (r : Result Unit StoreError) → Fits frame s.next (blocks_in s) x → bs ≡ blocks_of x.count x.bytes
    → (s.next + length bs < 4294967296 → Puts DiskPuts s.disk s.next bs r t.disk) → (r ≡ Ok tt) × Wrote s t frame
wrote s t frame x bs r w e p =
    let h = w.short in
    let i = w.within in
    let n = so_many frame s.next (blocks_in s) x bs w e in
    let l = padded_length frame h in
    let q = subst (λ (bs : List (List ℕ)). Puts DiskPuts s.disk s.next bs r t.disk) (e ∙ its_blocks frame s.next (blocks_in s) x w) (p (omega arith)) in
    let d = disk_puts (blocks_for (length frame)) s.disk t.disk s.next (padded frame) r (omega arith) i q in
    (d.0, record { short = h; within = i; bytes = d.1 })

-- the blocks that it took are there in both
pub wrote_bytes : (s t : Store) (frame : List ℕ) → Wrote s t frame → bytes_of t ≡ with_record s.next frame (bytes_of s)
wrote_bytes s t frame w =
    w.bytes
    ∙ ap (λ (r : List ℕ). take (s.next * 512) (bytes_of s) ++ r ++ drop (s.next * 512 + blocks_for (length frame) * 512) (bytes_of s)) (sym (take-take (blocks_for (length frame) * 512) (blocks_for (length frame) * 512) (padded frame) (omega arith)))

wrote_blocks : (s t : Store) (frame : List ℕ) → Wrote s t frame → blocks_in t ≡ blocks_in s
wrote_blocks s t frame w =
    let h = w.short in
    let l = padded_length frame h in
    let i = w.within in
    ap reach_of (same_length (bytes_of s) (padded frame) (bytes_of t) s.next (blocks_for (length frame)) w.bytes (omega arith) (omega arith))

pub added : (s t : Store) (frame : List ℕ) → Wrote s t frame → Holds t s.next frame
added s t frame w =
    let h = w.short in
    let l = padded_length frame h in
    let i = w.within in
    record {
      short = h;
      within = omega (arith, wrote_blocks s t frame w);
      there = ap (λ (xs : List ℕ). take (blocks_for (length frame) * 512) (drop (s.next * 512) xs)) w.bytes
          ∙ there_after (bytes_of s) (padded frame) (s.next * 512) (blocks_for (length frame) * 512) (omega arith) (omega arith);
    }

pub kept : (s t : Store) (frame : List ℕ) → Wrote s t frame → Keeps s t
kept s t frame w first other before h =
    let k = w.short in
    let l = padded_length frame k in
    let i = w.within in
    record {
      short = h.short;
      within = omega (arith, wrote_blocks s t frame w, h.within);
      there = ap (λ (xs : List ℕ). take (blocks_for (length other) * 512) (drop (first * 512) xs)) w.bytes
          ∙ (before_same (bytes_of s) (padded frame) (s.next * 512) (blocks_for (length frame) * 512) (first * 512) (blocks_for (length other) * 512) (omega arith) (omega arith) (omega arith) ∙ h.there);
    }

-- the blocks of the record of a frame were looked for
pub record Looked (s t : Store) (first : ℕ) (frame : List ℕ) (r : Result Bool StoreError) : Type 0 where
  pub answer : Bool
  pub is : r ≡ Ok answer
  pub same : bytes_of t ≡ bytes_of s
  pub found : Decides answer (Holds s first frame)

pub looked : (s t : Store) (first : ℕ) (frame : List ℕ) (x : Record) (bs : List (List ℕ)) (r : Result Bool StoreError) → Fits frame first (blocks_in s) x → bs ≡ blocks_of x.count x.bytes
    → (first + length bs < 4294967296 → Finds DiskLooks s.disk first bs r t.disk) → Looked s t first frame r
looked s t first frame x bs r w e p =
    let h = w.short in
    let i = w.within in
    let n = so_many frame first (blocks_in s) x bs w e in
    let l = padded_length frame h in
    let q = subst (λ (bs : List (List ℕ)). Finds DiskLooks s.disk first bs r t.disk) (e ∙ its_blocks frame first (blocks_in s) x w) (p (omega arith)) in
    let d = disk_finds (blocks_for (length frame)) s.disk t.disk first (padded frame) r (omega arith) i q in
    record {
      answer = d.answer;
      is = d.is;
      same = d.same;
      found = ((λ z. record { short = h; within = i; there = d.found.0 z }), (λ z. d.found.1 z.there));
    }
