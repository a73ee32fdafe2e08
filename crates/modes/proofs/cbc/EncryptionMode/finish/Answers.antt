use Rattle.std.proofs.Common.{◌≡◌, ◌-◌, ◌++◌, length, take, drop, ap, ◌∙◌, arith, rules}
use Rattle.std.proofs.lemmas.List.{length-drop}
use Rattle.blocks.specs.Octets.{xor_each}
use Rattle.blocks.specs.Steps.{Step}
use Rattle.modes.specs.Modes.{cbc_forth, zeroed}
use Rattle.modes.proofs.Rows.{steal-written}
use Rattle.modes.proofs.Mixes.{zero-filled, xor-filled}
use Rattle.modes.proofs.cbc.EncryptionMode.finish.Goals as goal

pub returns-clause-text : goal.returns-clause-text
returns-clause-text g c =
    let x = c.args.rest.now in
    let q = drop 16 x in
    let image = (g.B.Block.meaning c.args.block.now).image in
    let before = c.args.self.now.before in
    let e = c.forward-c.result in
    let size : length e ≡ 16 = search rules in
    let first : c.unwrap.result.0.now ≡ take 16 x = search rules in
    let rest : c.unwrap.result.1.now ≡ q = search rules in
    let e-is : e ≡ image (xor_each (take 16 x) before) =
    c.forward-c.ensures.answer ∙ ap image (c.xor.ensures ∙ ap (λ z. xor_each z before) first) in
    let filled-is : c.filled.result ≡ zeroed q = c.filled.ensures ∙ zero-filled c.unwrap.result.1.now ∙ ap zeroed rest in
    let d-is : c.forward-d.result ≡ (cbc_forth image).full before (take 16 x) q =
    c.forward-d.ensures.answer ∙ ap (λ (m : Step). m.image c.xor-2.result) c.forward-c.ensures.same
    ∙ ap image
    (c.xor-2.ensures ∙ ap (λ z. xor_each z e) filled-is ∙ xor-filled q e (16 - length q) (omega (arith, length-drop 16 x))
    ∙ ap (λ z. xor_each q (take (length q) z) ++ drop (length q) z) e-is) in
    steal-written (cbc_forth image) before x _ e _ (length c.args.out.now) c.requires.0 c.requires.1 c.requires.2 d-is (ap (take (length q)) e-is) c.store_two.ensures
