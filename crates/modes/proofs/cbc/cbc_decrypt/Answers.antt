use Rattle.modes.proofs.Laws.{cbc-keeps, cbc-encrypt-undoes}
use Rattle.modes.proofs.cbc.cbc_decrypt.Goals as goal

pub returns-clause-keeps : goal.returns-clause-keeps
returns-clause-keeps g c = cbc-keeps

pub returns-clause-undone : goal.returns-clause-undone
returns-clause-undone g c = cbc-encrypt-undoes
