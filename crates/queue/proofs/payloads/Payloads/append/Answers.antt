-- The new bytes stand behind the others, which may have moved to the front.
use Rattle.queue.proofs.payloads.Payloads.append.Goals as goal
use Rattle.std.proofs.Common.{◌≡◌, ◌+◌, ◌-◌, ◌≤◌, ◌++◌, take, drop, length, subst, sym, ap, ◌∙◌, arith}
use Rattle.queue.specs.declared.payloads.Payloads.TheInside.{Inside}
use borrow.Rule.Slice.PartMut.{put_mid}
use Rattle.queue.proofs.Bytes.{added, moved}
use Rattle.queue.proofs.payloads.Payloads.append.Goals.{then-bytes-self, else-bytes-self}

pub returns : goal.returns
returns c =
    let o = c.self.inside in
    let p = c.if-bytes-self.self-inside in
    let bytes = c.args.bytes.now in
    let Same : Inside → Type 0 = λ x. (x.start + x.len ≤ length x.store) × (take x.len (drop x.start x.store) ≡ c.args.self.now) in
    let same : Same p = elim c.if-bytes-self.branch [
      | then-bytes-self w ↦
          let f = w.copy_within.ensures in
          let m = moved o.store o.start o.len (omega arith) in
          subst Same (sym w.self-inside-is) (omega (arith, f.len), ap (take o.len) f.after ∙ (m ∙ c.self.view_is))
      | else-bytes-self w ↦ subst Same (sym w.self-inside-is) (omega arith, c.self.view_is)
    ] in
    let k = p.start + p.len + length bytes - (p.start + p.len) in
    ap (λ b. take (p.len + length bytes) (drop p.start (put_mid (p.start + p.len) k p.store b))) c.copy_from_slice.ensures.after
    ∙ (added p.store p.start p.len k bytes same.0 ∙ ap (λ b. b ++ bytes) same.1)
