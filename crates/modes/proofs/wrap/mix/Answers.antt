use Rattle.std.proofs.Common.{◌-◌, length, take, replicate, fold, refl, ap, ◌∙◌, arith, rules}
use Rattle.std.proofs.lemmas.List.{take_all}
use Rattle.blocks.specs.Octets.{xor_each}
use Rattle.modes.proofs.WrapInPlace.{mix_all}
use Rattle.modes.proofs.wrap.mix.Goals as goal

pub returns : goal.returns
returns c =
    let x = c.args.text.now in
    c.loop-p.invariant
    ∙ ap (fold xor_each (replicate 16 0)) (take_all c.loop-p.p-index c.whole_pieces-p-items.result.now (omega arith) ∙ c.whole_pieces-p-items.ensures.pieces)
    ∙ mix_all x (take (length x - 1) x) (omega arith) (search rules) refl
