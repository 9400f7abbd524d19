use Rattle.std.proofs.Common.{◌≡◌, ◌-◌, ◌∷◌, take, inl, inr, arith}
use Rattle.std.proofs.lemmas.Result.{err_from_is_err_and}
use Rattle.std.specs.Slice.Iter.{iter_rest}
use Rattle.store.proofs.InTurn.{has_turn, has_fails, has_ends, taken_turn, taken_end, has_other}
use Rattle.store.proofs.medium.has_blocks.Goals as goal

pub loop-address-preserved : goal.loop-address-preserved
loop-address-preserved g c =
    let i = c.loop-address.invariant in
    let s = c.in-Some.ensures.steps in
    let start = c.loop-address.address-iterator.a.start in
    let near = taken_turn 4294967295 start s.1 (omega arith) in
    let next : take (4294967295 - start) (iter_rest c.loop-address.address-iterator.b) ≡ c.in-Some.block.now ∷ take (4294967295 - c.next.new.self.a.start) (iter_rest c.next.new.self.b) = rw s.0.1.2 near in
    (omega arith, omega arith, has_turn g.M.Medium.looks i.2 next s.0.1.1 s.0.1.2 c.if-not-branch.false c.in_ok-has_block.ensures)

pub returns-in_err-has_block : goal.returns-in_err-has_block
returns-in_err-has_block g c =
    let i = c.loop-address.invariant in
    let s = c.in-Some.ensures.steps in
    let start = c.loop-address.address-iterator.a.start in
    let near = taken_turn 4294967295 start s.1 (omega arith) in
    let p = err_from_is_err_and c.from_residual.result c.from_residual.ensures.1 in
    rw (p.1, p.2) (has_fails g.M.Medium.looks i.2 near s.0.1.1 c.in_err-has_block.ensures)

pub returns-then-not-branch : goal.returns-then-not-branch
returns-then-not-branch g c =
    let i = c.loop-address.invariant in
    let s = c.in-Some.ensures.steps in
    let start = c.loop-address.address-iterator.a.start in
    let near = taken_turn 4294967295 start s.1 (omega arith) in
    has_other g.M.Medium.looks i.2 near s.0.1.1 c.if-not-branch.true c.in_ok-has_block.ensures

pub returns : goal.returns
returns g c =
    let i = c.loop-address.invariant in
    let start = c.loop-address.address-iterator.a.start in
    let rest = iter_rest c.loop-address.address-iterator.b in
    has_ends g.M.Medium.looks (take (4294967295 - start) rest) i.2 (taken_end 4294967295 start rest (elim c.in-None.ensures.steps [ inl h ↦ let r = h.1 in inl (omega arith) | inr h ↦ inr h.1.0 ]))
