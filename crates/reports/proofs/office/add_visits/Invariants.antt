use Rattle.std.proofs.Common.{◌≡◌, ◌+◌, ◌-◌, ◌≤◌, ◌++◌, length, take, map}
use Rattle.books.specs.Books.{elements, capacity}
use Rattle.reports.specs.Layout.{visit_at}
use Rattle.reports.proofs.office.add_visits.Given as goal

-- So many visits are added, and there is room for the others.
abbrev pub invariant-loop-octets : goal.invariant-loop-octets
invariant-loop-octets l = record {
  added : elements l.book ≡ elements l.initial.book ++ map visit_at (take l.octets-index l.visits);
  room : length (elements l.book) + (length l.visits - l.octets-index) ≤ capacity l.book;
  capacity : capacity l.book ≡ capacity l.initial.book;
}
