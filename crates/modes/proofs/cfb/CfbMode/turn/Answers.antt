use Rattle.std.proofs.Common.{rules}
use Rattle.modes.specs.Modes.{cfb_row}
use Rattle.modes.proofs.Rows.{stream-turn}
use Rattle.modes.proofs.cfb.CfbMode.turn.Goals as goal

pub returns-clause-answer : goal.returns-clause-answer
returns-clause-answer g c x h =
    stream-turn (cfb_row g.F.Fed.fed (g.B.Block.meaning c.args.block.now).image) c.args.self.now.before c.args.p _ _ (search rules) (cc) (cc) x
