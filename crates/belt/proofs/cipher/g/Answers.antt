use Rattle.std.proofs.Common.{◌+◌, ◌≤◌, arith}
use Rattle.belt.proofs.Entries.{sum, room}
use Rattle.belt.proofs.cipher.g.Goals as goal

pub overflow_add-result-3 : goal.overflow_add-result-3
overflow_add-result-3 g c =
    let most : c.rotated.result + c.rotated-2.result + c.rotated-3.result + c.rotated-4.result ≤ 4294967295 =
    room _ c.requires _ _ _ _ c.rotated.ensures.bound c.rotated-2.ensures.bound c.rotated-3.ensures.bound c.rotated-4.ensures.bound in
    omega arith

pub returns : goal.returns
returns g c =
    sum _ c.args.u _ _ _ _ _ c.requires c.field.ensures.value
    c.rotated.ensures.entry c.rotated-2.ensures.entry c.rotated-3.ensures.entry c.rotated-4.ensures.entry
