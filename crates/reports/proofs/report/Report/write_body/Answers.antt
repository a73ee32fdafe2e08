use Rattle.std.proofs.Common.{arith}
use Rattle.reports.proofs.Turns.{write-visits-more}
use Rattle.reports.proofs.report.Report.write_body.Goals as goal

pub loop-i-preserved : goal.loop-i-preserved
loop-i-preserved c =
    write-visits-more c.args.self.now.visits.now c.loop-i.i _ c.to_octets-in-loop-i.result c.loop-i.rest c.put.new.out (omega arith) (omega arith) c.loop-i.invariant
    c.to_octets-in-loop-i.ensures c.put.ensures
