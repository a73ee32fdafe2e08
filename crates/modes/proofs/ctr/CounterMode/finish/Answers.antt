use Rattle.std.proofs.Common.{arith}
use Rattle.modes.specs.Modes.{ctr_row}
use Rattle.modes.proofs.Rows.{stream_end}
use Rattle.modes.proofs.ctr.CounterMode.finish.Goals as goal

pub returns-clause-text : goal.returns-clause-text
returns-clause-text g c =
    let end = stream_end (ctr_row (g.B.Block.meaning c.args.block.now).image) c.args.self.now.at c.args.rest.now c.requires.0 (omega arith) in cc
