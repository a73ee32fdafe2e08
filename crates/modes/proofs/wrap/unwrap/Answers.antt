use Rattle.std.proofs.Common.{rules}
use Rattle.modes.proofs.WrapAnswered.{exactly}
use Rattle.modes.proofs.wrap.unwrap.Goals as goal

pub returns-clause-exact : goal.returns-clause-exact
returns-clause-exact g c =
    exactly _ (g.met.B.Block.reversible c.args.block.now).forth _ _ _ _ _ _ (search rules) (search rules)
    c.unwrap_in.ensures.answer c.unwrap_in.ensures.text
