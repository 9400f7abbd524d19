use Rattle.std.proofs.Common.{◌≡◌, ◌-◌, ◌≤◌, take}
use Rattle.std.specs.Slice.Iter.{iter_rest}
use Rattle.store.proofs.InTurn.{Left_has}
use Rattle.store.proofs.medium.has_blocks.Given as goal

-- what is left of the addresses and of the blocks is what is left to do
abbrev pub invariant-loop-address : goal.invariant-loop-address
invariant-loop-address g l =
    let range = l.address-iterator.a in
    let rest = iter_rest l.address-iterator.b in
    (range.end ≡ 4294967295) × (range.start ≤ 4294967295) × Left_has g.M.Medium.looks l.initial.medium l.first (take (4294967295 - l.first) l.blocks) l.medium range.start (take (4294967295 - range.start) rest)
