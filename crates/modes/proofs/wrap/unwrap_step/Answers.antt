use Rattle.std.proofs.Common.{◌≡◌, ◌-◌, length, take, drop, rules}
use Rattle.blocks.specs.Octets.{xor_each}
use Rattle.modes.specs.Wrapping.{step_number}
use Rattle.modes.proofs.WrapInPlace.{unwrapped-in-place}
use Rattle.modes.proofs.wrap.unwrap_step.Goals as goal

pub returns-clause-text : goal.returns-clause-text
unfolding step_number
returns-clause-text g c =
    let f = (g.B.Block.meaning c.args.block.now).image in
    let r = c.args.text.now in
    let r₁ = c.rotate_right.new.self in
    let s-is : c.unwrap-s.result.now ≡ take 16 r₁ = search rules in
    let before : c.unwrap-last.result.now ≡ drop (length r₁ - 16) r₁ = search rules in
    let last-is : c.xor-2.result ≡ xor_each (drop (length r₁ - 16) r₁) (xor_each (f c.unwrap-s.result.now) (step_number c.args.i)) = cc in
    unwrapped-in-place f c.args.i r r₁ c.unwrap-s.result.now c.xor-2.result c.requires (search rules) c.mix-first.result (search rules)
    c.rotate_right.ensures.after s-is last-is c.mix-first.ensures
