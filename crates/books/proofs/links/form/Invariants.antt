use Rattle.std.proofs.Common.{◌≤◌, length}
use Rattle.books.proofs.Forms.{Formed}
use Rattle.books.proofs.links.form.Given as goal

abbrev pub invariant-loop-n : goal.invariant-loop-n
invariant-loop-n g l = (l.n ≤ length l.cells) × Formed l.cells l.n l.free
