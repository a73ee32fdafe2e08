use Rattle.std.proofs.Common.{◌≡◌, length, rules}
use Rattle.belt.proofs.Compressing.{σ₁-halves, σ₂-halves}
use Rattle.belt.proofs.hash.compress.Goals as goal

pub returns : goal.returns
returns c =
    let long : length c.args.x ≡ 32 = search rules in
    let one = σ₁-halves c.args.x c.args.h long in
    let two = σ₂-halves c.args.x c.args.h long in
    record { mix = cc; state = cc }
