use Rattle.belt.proofs.Hashing.{filled-up}
use Rattle.belt.proofs.hash.filled.Goals as goal

pub returns : goal.returns
returns c = filled-up c.args.piece.now _ c.requires c.copy_from_slice.ensures.after
