use Rattle.std.proofs.Common.{◌≡◌, ◌-◌, ◌∷◌, take, inl, inr, arith}
use Rattle.std.proofs.lemmas.Result.{err_from_is_err_and}
use Rattle.std.specs.Slice.Iter.{iter_rest}
use Rattle.store.proofs.InTurn.{put_turn, put_fails, put_ends, taken_turn, taken_end}
use Rattle.store.proofs.medium.put_blocks.Goals as goal

pub loop-address-preserved : goal.loop-address-preserved
loop-address-preserved g c =
    let i = c.loop-address.invariant in
    let s = c.in-Some.ensures.steps in
    let start = c.loop-address.address-iterator.a.start in
    let near = taken_turn 4294967295 start s.1 (omega arith) in
    let next : take (4294967295 - start) (iter_rest c.loop-address.address-iterator.b) ≡ c.in-Some.block.now ∷ take (4294967295 - c.next.new.self.a.start) (iter_rest c.next.new.self.b) = rw s.0.1.2 near in
    (omega arith, omega arith, put_turn g.M.Medium.puts i.2 next s.0.1.1 s.0.1.2 c.in_ok-put_block.ensures)

pub returns-in_err-put_block : goal.returns-in_err-put_block
returns-in_err-put_block g c =
    let i = c.loop-address.invariant in
    let s = c.in-Some.ensures.steps in
    let start = c.loop-address.address-iterator.a.start in
    let near = taken_turn 4294967295 start s.1 (omega arith) in
    let p = err_from_is_err_and c.from_residual.result c.from_residual.ensures.1 in
    rw (p.1, p.2) (put_fails g.M.Medium.puts i.2 near s.0.1.1 c.in_err-put_block.ensures)

pub returns : goal.returns
returns g c =
    let i = c.loop-address.invariant in
    let start = c.loop-address.address-iterator.a.start in
    let rest = iter_rest c.loop-address.address-iterator.b in
    put_ends g.M.Medium.puts (take (4294967295 - start) rest) i.2 (taken_end 4294967295 start rest (elim c.in-None.ensures.steps [ inl h ↦ let r = h.1 in inl (omega arith) | inr h ↦ inr h.1.0 ]))
