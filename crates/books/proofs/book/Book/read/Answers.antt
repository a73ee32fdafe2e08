use Rattle.std.proofs.Common.{◌≡◌, ap, ◌∙◌, arith}
use Rattle.books.proofs.Changes.{length_elements}
use Rattle.books.proofs.Kth.{used_cell, kth_used}
use Rattle.books.proofs.book.Book.read.Goals as goal

pub returns : goal.returns
returns g c =
    let b = c.args.self.now in
    let e : c.loop-step._step ≡ c.args.k = omega arith in
    kth_used b c.args.k c.loop-step.n c.cell_at.result.value (omega arith) (omega (arith, length_elements b)) (c.loop-step.invariant ∙ ap (used_cell b) e) c.cell_at.ensures.value
