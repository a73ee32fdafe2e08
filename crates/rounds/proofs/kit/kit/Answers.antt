use Rattle.std.proofs.Common.{rules}
use Rattle.rounds.proofs.Kitted.{kit-exact}
use Rattle.rounds.proofs.kit.kit.Goals as goal

pub returns-clause-exact : goal.returns-clause-exact
returns-clause-exact g c =
    kit-exact _ (g.met.B.Block.reversible c.args.block.now).forth _ _ _ _ _ _ _ (search rules) (λ k. (c.type_inv.text k).fits)
    c.kit_in.ensures.answer c.kit_in.ensures.text
