use Rattle.std.proofs.Common.{◌≡◌, ◌++◌, length, take, drop, ap, ◌∙◌, ap₂, rules}
use Rattle.blocks.specs.Octets.{xor_each}
use Rattle.blocks.specs.Steps.{Step}
use Rattle.modes.specs.Modes.{cbc_back, zeroed}
use Rattle.modes.proofs.Rows.{steal-written}
use Rattle.modes.proofs.Mixes.{zero-filled}
use Rattle.modes.proofs.cbc.DecryptionMode.finish.Goals as goal

pub returns-clause-text : goal.returns-clause-text
returns-clause-text g c =
    let x = c.args.rest.now in
    let q = drop 16 x in
    let back = (g.B.Block.meaning c.args.block.now).preimage in
    let before = c.args.self.now.before in
    let first : c.unwrap.result.0.now ≡ take 16 x = search rules in
    let rest : c.unwrap.result.1.now ≡ q = search rules in
    let w-is : c.xor-w.result ≡ xor_each (back (take 16 x)) (zeroed q) =
    c.xor-w.ensures
    ∙ ap₂ xor_each (c.backward.ensures.answer ∙ ap back first) (c.filled.ensures ∙ zero-filled c.unwrap.result.1.now ∙ ap zeroed rest) in
    let d-is : c.xor-d.result ≡ (cbc_back back).full before (take 16 x) q =
    c.xor-d.ensures
    ∙ ap (λ z. xor_each z before)
    (c.backward-2.ensures.answer ∙ ap (λ (m : Step). m.preimage c.filled-2.result) c.backward.ensures.same
    ∙ ap back (c.filled-2.ensures ∙ ap₂ (λ a z. a ++ drop (length a) z) rest w-is)) in
    steal-written (cbc_back back) before x _ c.xor-w.result _ (length c.args.out.now) c.requires.0 c.requires.1 c.requires.2 d-is (ap (take (length q)) w-is) c.store_two.ensures
