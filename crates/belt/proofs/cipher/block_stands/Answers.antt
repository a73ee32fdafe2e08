use Rattle.std.proofs.Common.{refl}
use Rattle.belt.specs.Words.{g, h}
use Rattle.belt.specs.Cipher.{encrypt, decrypt, rounds_up, rounds_down, round_forward, round_backward, steps}
use Rattle.belt.specs.Undoing.{decrypt-encrypt, encrypt-decrypt}
use Rattle.belt.proofs.cipher.block_stands.Goals as goal

pub returns : goal.returns
unfolding encrypt decrypt rounds_up rounds_down round_forward round_backward steps g h
returns c = record { inverse = (decrypt-encrypt, encrypt-decrypt); cases = (refl, refl) }
