use Rattle.modes.proofs.Laws.{ecb-keeps, ecb-decrypt-undoes, ecb-apart}
use Rattle.modes.proofs.ecb.ecb_encrypt.Goals as goal

pub returns-clause-keeps : goal.returns-clause-keeps
returns-clause-keeps g c = ecb-keeps

pub returns-clause-undone : goal.returns-clause-undone
returns-clause-undone g c = ecb-decrypt-undoes

pub returns-clause-apart : goal.returns-clause-apart
returns-clause-apart g c = ecb-apart
