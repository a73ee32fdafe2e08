use Rattle.std.proofs.lemmas.Result.{err_from_is_err_and}
use Rattle.belt.proofs.Refused.{refused}
use Rattle.belt.proofs.cipher.BeltBlock.new.Goals as goal

pub returns-in_err-expand : goal.returns-in_err-expand
returns-in_err-expand c =
    let p = err_from_is_err_and c.from_residual.result c.from_residual.ensures.1 in
    rw (p.1, p.2) (refused c.args.key.now _ c.in_err-expand.ensures)
