use Rattle.std.proofs.Common.{[], ◌∷◌, ◌++◌, sym, ap, ◌∙◌, arith, take, length}
use Rattle.std.proofs.lemmas.List.{take_more_set, set-get_or}
use Rattle.books.specs.Books.{elements}
use Rattle.books.proofs.Reading.{kth-some, kth-none}
use Rattle.vectors.proofs.book.copy_out.Goals as goal

pub returns-in_default : goal.returns-in_default
returns-in_default c =
    let i = c.loop-i.i in
    let same = set-get_or c.loop-i.out i 0 in record {
      copied = ap (take i) same ∙ c.loop-i.invariant.0;
      count = omega (arith, ap length same, kth-none (elements c.args.book.now) i c.in_default.ensures);
    }

pub loop-i-preserved : goal.loop-i-preserved
loop-i-preserved c =
    let i = c.loop-i.i in
    let v = c.in-Some.element in
    let t = kth-some (elements c.args.book.now) i v c.in-Some.ensures in (
      take_more_set c.loop-i.out i v (omega arith) ∙ ap (λ l. l ++ v ∷ []) c.loop-i.invariant.0 ∙ sym t.1,
      omega (arith, t.0),
    )
