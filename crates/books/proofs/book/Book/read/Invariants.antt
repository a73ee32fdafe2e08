use Rattle.std.proofs.Common.{◌≡◌}
use Rattle.books.proofs.Kth.{used_cell}
use Rattle.books.proofs.book.Book.read.Given as goal

abbrev pub invariant-loop-step : goal.invariant-loop-step
invariant-loop-step g l = l.n ≡ used_cell l.self l._step
