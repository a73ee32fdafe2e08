use Rattle.std.proofs.Common.{◌≡◌, ◌≤◌, length, take}
use Rattle.books.specs.Books.{elements}
use Rattle.vectors.proofs.book.copy_out.Given as goal

abbrev pub invariant-loop-i : goal.invariant-loop-i
invariant-loop-i l = (take l.i l.out ≡ take l.i (elements l.book)) × (l.i ≤ length (elements l.book))
