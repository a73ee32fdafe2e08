use Rattle.std.proofs.Common.{length}
use Rattle.std.proofs.lemmas.Result.{err_from_is_err_and}
use Rattle.belt.proofs.Refused.{untransformed}
use Rattle.belt.proofs.transform.transform.Goals as goal

pub returns-in_err-full-clause-answer : goal.returns-in_err-full-clause-answer
returns-in_err-full-clause-answer c =
    let p = err_from_is_err_and c.from_residual.result c.from_residual.ensures.1 in
    rw (p.1, p.2) (untransformed c.args.key.now c.args.new_length (length c.args.out.now) _ c.in_err-full.ensures)
