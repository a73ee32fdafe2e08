use Rattle.belt.specs.Words.{h}
use Rattle.belt.specs.Wordwise.{h-octet}
use Rattle.belt.proofs.Entries.{entry, most}
use Rattle.belt.proofs.cipher.rotated.Goals as goal

pub returns : goal.returns
returns c =
    let p = c.args.place in
    let x = c.args.x in
    record { entry = entry p x c.requires; bound = rw (entry p x c.requires) (most p (h x) c.requires (h-octet x)) }
