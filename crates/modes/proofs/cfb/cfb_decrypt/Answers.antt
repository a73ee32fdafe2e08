use Rattle.modes.proofs.Laws.{cfb-keeps, cfb-encrypt-undoes}
use Rattle.modes.proofs.cfb.cfb_decrypt.Goals as goal

pub returns-clause-keeps : goal.returns-clause-keeps
returns-clause-keeps g c = cfb-keeps

pub returns-clause-undone : goal.returns-clause-undone
returns-clause-undone g c = cfb-encrypt-undoes
