use Rattle.std.proofs.Common.{◌≡◌, ◌+◌, ◌*◌, drop, map}
use Rattle.reports.specs.Layout.{head_size, visit_size, visit_at}
use Rattle.reports.specs.Opening.{visits_fault}
use Rattle.reports.proofs.body.Body.check_visits.Given as goal

-- What is left of the visits has the fault of all.
abbrev pub invariant-loop-i : goal.invariant-loop-i
invariant-loop-i l =
    visits_fault head_size 0 (map visit_at l.self.visits.now)
    ≡ visits_fault (head_size + visit_size * l.i) l.last (map visit_at (drop l.i l.self.visits.now))
