use Rattle.std.proofs.Common.{◌≡◌, ◌-◌, length, drop, rules}
use Rattle.blocks.specs.Octets.{xor_each}
use Rattle.modes.specs.Wrapping.{step_number}
use Rattle.modes.proofs.WrapInPlace.{wrapped-in-place}
use Rattle.modes.proofs.wrap.wrap_step.Goals as goal

pub returns-clause-text : goal.returns-clause-text
unfolding step_number
returns-clause-text g c =
    let f = (g.B.Block.meaning c.args.block.now).image in
    let r = c.args.text.now in
    let before : c.unwrap-last.result.now ≡ drop (length r - 16) r = search rules in
    let last-is : c.xor-2.result ≡ xor_each (drop (length r - 16) r) (xor_each (f c.mix-s.result) (step_number c.args.i)) = cc in
    wrapped-in-place f c.args.i r _ c.mix-s.result c.xor-2.result c.requires c.mix-s.ensures (search rules) last-is c.rotate_left.ensures.after
