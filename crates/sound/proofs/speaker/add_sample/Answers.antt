use Rattle.std.proofs.Common.{◌<◌, ◌∙◌, arith, w16}
use lib.Signed.{mag}
use Rattle.std.proofs.lemmas.Int.{to_z-of_z}
use Rattle.sound.proofs.Totals.{landed}
use Rattle.sound.proofs.speaker.add_sample.Goals as goal

pub returns : goal.returns
returns c =
    let b : mag c.from_le_bytes.result < 32768 = omega arith in
    let e = c.from-s.ensures ∙ (to_z-of_z w16 _ (record { sfits = b }) ∙ c.from_le_bytes.ensures) in
    c.wrapping_add_signed.ensures ∙ landed c.args.total c.args.level _ _ e (rw c.from_le_bytes.ensures at b) c.requires
