use Rattle.std.proofs.Common.{rules, ◌≡◌, sym, refl, ◌∙◌, arith, get_or}
use lib.Bits.{bit_xor}
use Rattle.std.proofs.lemmas.List.{ext_get_or}
use Rattle.blocks.specs.Octets.{xor_each}
use Rattle.blocks.specs.Octetwise.{length-xor_each, get_or-xor_each}
use Rattle.blocks.proofs.FromFn.{made}
use Rattle.blocks.proofs.octets.xor.Goals as goal

pub returns : goal.returns
returns c =
    let a = c.args.a in
    let b = c.args.b in
    let each = made _ (λ p. (p.0.now ≡ a) × (p.1.now ≡ b)) (λ i. bit_xor (get_or a i 0) (get_or b i 0)) (λ p i y q k d. search rules) 16 _ c.from_fn.result (refl, refl) c.from_fn.ensures.items in
    ext_get_or 0 c.from_fn.result (xor_each a b)
    (omega (arith, length-xor_each a b (omega arith)))
    (λ i h. each i (omega arith) ∙ sym (get_or-xor_each a b i (omega arith)))
