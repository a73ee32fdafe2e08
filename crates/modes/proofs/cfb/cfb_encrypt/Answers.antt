use Rattle.modes.proofs.Laws.{cfb-keeps, cfb-decrypt-undoes, cfb-apart}
use Rattle.modes.proofs.cfb.cfb_encrypt.Goals as goal

pub returns-clause-keeps : goal.returns-clause-keeps
returns-clause-keeps g c = cfb-keeps

pub returns-clause-undone : goal.returns-clause-undone
returns-clause-undone g c = cfb-decrypt-undoes

pub returns-clause-apart : goal.returns-clause-apart
returns-clause-apart g c = cfb-apart
