use Rattle.std.proofs.Common.{[], refl, rules}
use Rattle.modes.specs.Modes.{ecb_row}
use Rattle.modes.proofs.Rows.{steal-turn}
use Rattle.modes.proofs.ecb.EcbMode.turn.Goals as goal

pub returns-clause-answer : goal.returns-clause-answer
returns-clause-answer g c =
    steal-turn (ecb_row (g.W.Way.way (g.B.Block.meaning c.args.block.now))) [] c.args.p _ [] (search rules) (cc) refl
