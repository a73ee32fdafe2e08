use Rattle.std.proofs.Common.{rules}
use Rattle.radio.proofs.muchqawi_cbc_encrypt.Goals as goal

pub returns : goal.returns
returns c = c.under_key.ensures _ _ (λ b b' o o' r m e p. search rules)
