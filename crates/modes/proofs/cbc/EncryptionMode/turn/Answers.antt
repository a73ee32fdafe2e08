use Rattle.std.proofs.Common.{rules}
use Rattle.modes.specs.Modes.{cbc_forth}
use Rattle.modes.proofs.Rows.{steal-turn}
use Rattle.modes.proofs.cbc.EncryptionMode.turn.Goals as goal

pub returns-clause-answer : goal.returns-clause-answer
returns-clause-answer g c =
    steal-turn (cbc_forth (g.B.Block.meaning c.args.block.now).image) c.args.self.now.before c.args.p _ _ (search rules) (cc) (cc)
