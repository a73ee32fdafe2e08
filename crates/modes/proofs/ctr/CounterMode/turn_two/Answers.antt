use Rattle.std.proofs.Common.{rules}
use Rattle.modes.specs.Modes.{ctr_row}
use Rattle.modes.proofs.Rows.{stream-turn-two}
use Rattle.modes.proofs.ctr.CounterMode.turn_two.Goals as goal

pub returns-clause-answer : goal.returns-clause-answer
returns-clause-answer g c x h =
    stream-turn-two (ctr_row (g.B.Block.meaning c.args.block.now).image) c.args.self.now.at c.args.p c.args.q _ _ _ (search rules) (search rules) (cc) (cc) (cc) x
