use Rattle.std.proofs.Common.{rules}
use Rattle.modes.specs.Modes.{ctr_row}
use Rattle.modes.proofs.Rows.{stream-turn}
use Rattle.modes.proofs.ctr.CounterMode.turn.Goals as goal

pub returns-clause-answer : goal.returns-clause-answer
returns-clause-answer g c x h =
    stream-turn (ctr_row (g.B.Block.meaning c.args.block.now).image) c.args.self.now.at c.args.p _ _ (search rules) (cc) (cc) x
