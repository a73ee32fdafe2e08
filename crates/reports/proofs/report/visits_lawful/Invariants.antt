use Rattle.std.proofs.Common.{◌≡◌, drop}
use Rattle.reports.specs.Lawful.{LawfulVisits}
use Rattle.reports.specs.Sealing.{visits_ok}
use Rattle.reports.proofs.report.visits_lawful.Given as goal

-- All are lawful if those are that are left.
abbrev pub invariant-loop-v : goal.invariant-loop-v
invariant-loop-v l =
    (visits_ok 0 l.visits ≡ visits_ok l.last (drop l.v-index l.visits))
    × (LawfulVisits l.last (drop l.v-index l.visits) → LawfulVisits 0 l.visits)
