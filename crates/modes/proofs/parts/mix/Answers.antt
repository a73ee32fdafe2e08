use Rattle.std.proofs.Common.{◌≡◌, length, sym, ◌∙◌, arith, rules}
use Rattle.std.proofs.lemmas.List.{ext_get_or}
use Rattle.blocks.specs.Octets.{xor_each}
use Rattle.blocks.specs.Octetwise.{length-xor_each-front, get_or-xor_each-front}
use Rattle.modes.proofs.parts.mix.Goals as goal

pub returns : goal.returns
returns c =
    let x = c.args.text.now in
    let key = c.args.key in
    let size : length key ≡ 16 = search rules in
    let long = length-xor_each-front x key (omega arith) in
    ext_get_or 0 c.loop-j.out (xor_each x key) (omega arith)
    (λ i h. c.loop-j.invariant i (omega arith) ∙ sym (get_or-xor_each-front x key i (omega arith) (omega arith)))
