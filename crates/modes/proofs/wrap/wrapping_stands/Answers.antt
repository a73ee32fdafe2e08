use Rattle.modes.proofs.WrapSteps.{wrap-exact}
use Rattle.modes.proofs.wrap.wrapping_stands.Goals as goal

pub returns : goal.returns
returns c = wrap-exact
