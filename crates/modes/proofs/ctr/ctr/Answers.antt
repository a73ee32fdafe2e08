use Rattle.modes.proofs.Laws.{ctr-keeps, ctr-undoes, ctr-apart}
use Rattle.modes.proofs.ctr.ctr.Goals as goal

pub returns-clause-keeps : goal.returns-clause-keeps
returns-clause-keeps g c = ctr-keeps

pub returns-clause-undone : goal.returns-clause-undone
returns-clause-undone g c = ctr-undoes

pub returns-clause-apart : goal.returns-clause-apart
returns-clause-apart g c = ctr-apart

pub returns-in_err-n-clause-keeps : goal.returns-in_err-n-clause-keeps
returns-in_err-n-clause-keeps g c = ctr-keeps

pub returns-in_err-n-clause-undone : goal.returns-in_err-n-clause-undone
returns-in_err-n-clause-undone g c = ctr-undoes

pub returns-in_err-n-clause-apart : goal.returns-in_err-n-clause-apart
returns-in_err-n-clause-apart g c = ctr-apart
