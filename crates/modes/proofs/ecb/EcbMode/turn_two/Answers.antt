use Rattle.std.proofs.Common.{[], refl, rules}
use Rattle.modes.specs.Modes.{ecb_row}
use Rattle.modes.proofs.Rows.{steal-turn-two}
use Rattle.modes.proofs.ecb.EcbMode.turn_two.Goals as goal

pub returns-clause-answer : goal.returns-clause-answer
returns-clause-answer g c =
    steal-turn-two (ecb_row (g.W.Way.way (g.B.Block.meaning c.args.block.now))) [] c.args.p c.args.q _ _ [] (search rules) (search rules) (cc) (cc) refl
