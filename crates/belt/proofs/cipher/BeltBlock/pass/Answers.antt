use Rattle.std.proofs.Common.{arith}
use Rattle.std.proofs.lemmas.List.{take_all}
use Rattle.belt.proofs.cipher.BeltBlock.pass.Goals as goal

pub returns : goal.returns
returns g c =
    let whole = take_all c.loop-i.i-index c.ROUNDS-i-items.result (omega arith) in
    cc (g.met.W.Way.all c.args.self.now.key c.args.x)
