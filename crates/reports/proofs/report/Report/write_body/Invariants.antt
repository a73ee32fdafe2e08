use Rattle.std.proofs.Common.{◌≡◌, ◌*◌, take}
use Rattle.std.specs.List.{flat_map}
use Rattle.reports.specs.Layout.{visit_size, visit_of}
use Rattle.reports.proofs.report.Report.write_body.Given as goal

-- So many visits stand behind the head.
abbrev pub invariant-loop-i : goal.invariant-loop-i
invariant-loop-i l = take (visit_size * l.i) l.rest ≡ flat_map visit_of (take l.i l.self.visits.now)
