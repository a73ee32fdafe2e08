use Rattle.std.proofs.Common.{sym, ◌∙◌}
use Rattle.modes.proofs.Eight.{sum-given}
use Rattle.reports.specs.Sealing.{sum_of}
use Rattle.reports.proofs.sealing.sum_of.Goals as goal

pub returns-clause-answer : goal.returns-clause-answer
unfolding sum_of
returns-clause-answer g c =
    sum-given (g.C.Block.meaning c.args.check.now).image c.args.text.now c.unwrap.result c.requires (sym c.unwrap.ensures ∙ c.checksum.ensures.answer)
