-- The payloads of the first heads of a list, and bytes behind others, seen from a place on.
use Rattle.std.proofs.Common.{◌≡◌, ℕ, ◌+◌, ◌<◌, ◌≤◌, false, List, ◌++◌, length, get_or, take, drop, ap, arith}
use Rattle.std.proofs.lemmas.List.{take-take, drop-take, drop-append-le, length-take-le}
use Rattle.std.proofs.lemmas.List.Sums.{sum_by-take-le, sum_by_more}
use Rattle.heads.specs.declared.head.Head.{Head}
use Rattle.heads.specs.Heads.{total}

-- what stands at a place that was never used
abbrev pub unused : Head
unused = record { header = record { tag = 0; kind = 0; address = 0 }; size = 0; handed = false }

-- one of the first n heads accounts for no more than what all of them do
pub part_total : (hs : List Head) (i n : ℕ) → i < n → n ≤ length hs → total (take i hs) + (get_or hs i unused).size ≤ total (take n hs)
part_total hs i n lt le =
    let a = sum_by_more (λ h. h.size) hs i unused (omega arith) in
    let b = sum_by-take-le (λ h. h.size) (take n hs) (i + 1) in
    let e = ap total (take-take (i + 1) n hs (omega arith)) in
    omega arith

pub more_total : (hs : List Head) (i : ℕ) → i < length hs → total (take i hs) + (get_or hs i unused).size ≡ total (take (i + 1) hs)
more_total hs i lt = let a = sum_by_more (λ h. h.size) hs i unused lt in omega arith

-- a write past what is kept, seen from the start of what is kept
pub seen_from : (b c p : List ℕ) (s u : ℕ) → s + u ≤ length b → take (s + u + length p) c ≡ take (s + u) b ++ p → take (u + length p) (drop s c) ≡ take u (drop s b) ++ p
seen_from b c p s u le e =
    let z : s + u + length p ≡ s + (u + length p) = omega arith in
    let l = length-take-le (s + u) b le in
    let a = drop-take s (u + length p) c in
    let d = drop-take s u b in
    let f = drop-append-le s (take (s + u) b) p (omega arith) in
    cc
