use Rattle.std.proofs.Common.{rules, arith}
use Rattle.books.proofs.Changes.{add_step}
use Rattle.books.proofs.Bound.{room}
use Rattle.books.proofs.book.Book.add_last.Goals as goal

pub invariant_of-self : goal.invariant_of-self
invariant_of-self g c =
    record { sound = (add_step c.args.self.now _ c.args.element _ _ (omega arith) (search rules) (search rules) (search rules) (search rules) (search rules)).0 }

pub returns-clause-added : goal.returns-clause-added
returns-clause-added g c = (
  room c.args.self.now (omega arith),
  (add_step c.args.self.now c.if-old-eq0.self.1.0.now c.args.element _ c.cell_at-free.result.next (omega arith) (search rules) (search rules) (search rules) (search rules) (search rules)).1,
)
