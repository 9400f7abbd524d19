-- The bytes that stand in a list from a place on.
use Rattle.std.proofs.Common.{◌≡◌, ℕ, ◌+◌, ◌-◌, ◌≤◌, List, ◌++◌, length, take, drop, sym, ap, ◌∙◌, arith}
use Rattle.std.specs.List.{copy_within}
use Rattle.std.proofs.lemmas.List.{take-take, drop-take, drop-drop, length-take, length-drop}
use Rattle.std.proofs.lemmas.List.Edits.{take-paste}
use Rattle.std.proofs.lemmas.Slice.{take-put_mid}
use lib.Seq.{paste}
use borrow.Rule.Slice.PartMut.{put_mid}
use Rattle.heads.proofs.Steps.{seen_from}

-- all but the first n of them
pub rest_is : (s : List ℕ) (start len n : ℕ) → n ≤ length (take len (drop start s)) → take (len - n) (drop (start + n) s) ≡ drop n (take len (drop start s))
rest_is s start len n le =
    let l = length-take len (drop start s) in
    let m : n + (len - n) ≡ len = omega arith in
    sym (drop-take n (len - n) (drop start s) ∙ ap (take (len - n)) (drop-drop n start s)) ∙ ap (λ k. drop n (take k (drop start s))) m

-- n of them
pub part_is : (s : List ℕ) (start len at n : ℕ) → at + n ≤ length (take len (drop start s))
    → take (start + at + n - (start + at)) (drop (start + at) s) ≡ take n (drop at (take len (drop start s)))
part_is s start len at n le =
    let l = length-take len (drop start s) in
    let k : start + at + n - (start + at) ≡ n = omega arith in
    ap (λ m. take m (drop (start + at) s)) k
    ∙ (sym (take-take n (len - at) (drop (start + at) s) (omega arith)) ∙ ap (take n) (rest_is s start len at (omega arith)))

-- more bytes are written behind them
pub added : (s : List ℕ) (start len k : ℕ) (bytes : List ℕ) → start + len ≤ length s
    → take (len + length bytes) (drop start (put_mid (start + len) k s bytes)) ≡ take len (drop start s) ++ bytes
added s start len k bytes le =
    seen_from s (put_mid (start + len) k s bytes) bytes start len le (take-put_mid (start + len) k s bytes (start + len + length bytes) (omega arith) le)

-- they are moved to the front
pub moved : (s : List ℕ) (start len : ℕ) → start + len ≤ length s → take len (copy_within s start (start + len) 0) ≡ take len (drop start s)
moved s start len le =
    let k : start + len - start ≡ len = omega arith in
    let d = length-drop start s in
    let p = take-paste s 0 (drop start s) len (omega arith) (omega arith) in
    let z : 0 + len ≡ len = omega arith in
    ap (λ n. take len (paste s 0 (drop start s) n)) k ∙ (ap (λ n. take n (paste s 0 (drop start s) len)) (sym z) ∙ p)
