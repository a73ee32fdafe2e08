use Rattle.modes.proofs.Laws.{cbc-keeps, cbc-decrypt-undoes, cbc-apart}
use Rattle.modes.proofs.cbc.cbc_encrypt.Goals as goal

pub returns-clause-keeps : goal.returns-clause-keeps
returns-clause-keeps g c = cbc-keeps

pub returns-clause-undone : goal.returns-clause-undone
returns-clause-undone g c = cbc-decrypt-undoes

pub returns-clause-apart : goal.returns-clause-apart
returns-clause-apart g c = cbc-apart
