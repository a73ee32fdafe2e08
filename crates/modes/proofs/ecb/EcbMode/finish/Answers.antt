use Rattle.std.proofs.Common.{◌≡◌, [], ◌++◌, length, take, drop, ap, ◌∙◌, ap₂, rules}
use Rattle.modes.specs.Modes.{ecb_row}
use Rattle.modes.proofs.Rows.{steal-written}
use Rattle.modes.proofs.ecb.EcbMode.finish.Goals as goal

pub returns-clause-text : goal.returns-clause-text
returns-clause-text g c =
    let x = c.args.rest.now in
    let f = g.W.Way.way (g.B.Block.meaning c.args.block.now) in
    let first : c.unwrap.result.0.now ≡ take 16 x = search rules in
    let rest : c.unwrap.result.1.now ≡ drop 16 x = search rules in
    let e-is : c.step-c.result ≡ f (take 16 x) = c.step-c.ensures.answer ∙ ap f first in
    let d-is : c.step-d.result ≡ (ecb_row f).full [] (take 16 x) (drop 16 x) =
    c.step-d.ensures.answer
    ∙ ap₂ g.W.Way.way c.step-c.ensures.same (c.filled.ensures ∙ ap₂ (λ q e. q ++ drop (length q) e) rest e-is) in
    steal-written (ecb_row f) [] x _ c.step-c.result _ (length c.args.out.now) c.requires.0 c.requires.1 c.requires.2 d-is
    (ap (take (length (drop 16 x))) e-is) c.store_two.ensures
