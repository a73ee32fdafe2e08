use Rattle.std.proofs.Common.{rules, arith}
use Rattle.books.proofs.Changes.{take_step}
use Rattle.books.proofs.book.Book.take_first.Goals as goal

pub invariant_of-self : goal.invariant_of-self
invariant_of-self g c =
    record { sound = (take_step c.args.self.now _ c.cell_at-value.result.value _ _ (omega arith) (search rules) (search rules) (search rules) (search rules) (search rules) (search rules)).0 }

pub returns-clause-taken : goal.returns-clause-taken
returns-clause-taken g c =
    (take_step c.args.self.now c.link_at.new.cells c.cell_at-value.result.value _ c.if-next-eq0.last (omega arith) (search rules) (search rules) (search rules) (search rules) (search rules) (search rules)).1
