use Rattle.std.proofs.Common.{rules}
use Rattle.modes.specs.Modes.{cbc_back}
use Rattle.modes.proofs.Rows.{steal-turn-two}
use Rattle.modes.proofs.cbc.DecryptionMode.turn_two.Goals as goal

pub returns-clause-answer : goal.returns-clause-answer
returns-clause-answer g c =
    steal-turn-two (cbc_back (g.B.Block.meaning c.args.block.now).preimage) c.args.self.now.before c.args.p c.args.q _ _ _ (search rules) (search rules) (cc) (cc) (cc)
