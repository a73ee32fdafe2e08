use Rattle.modes.proofs.Laws.{ecb-keeps, ecb-encrypt-undoes}
use Rattle.modes.proofs.ecb.ecb_decrypt.Goals as goal

pub returns-clause-keeps : goal.returns-clause-keeps
returns-clause-keeps g c = ecb-keeps

pub returns-clause-undone : goal.returns-clause-undone
returns-clause-undone g c = ecb-encrypt-undoes
