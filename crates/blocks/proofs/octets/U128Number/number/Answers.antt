use Rattle.std.proofs.Common.{◌≡◌, length, arith, rules}
use Rattle.blocks.specs.Octets.{Octets, part}
use Rattle.blocks.specs.Fields.{number}
use Rattle.blocks.proofs.Numbers.{reads-back}
use Rattle.blocks.proofs.octets.U128Number.number.Goals as goal

pub returns-clause-undone : goal.returns-clause-undone
returns-clause-undone c =
    let x = c.args.octets.now in
    let long : length x ≡ 16 = search rules in
    let octet : Octets x = λ k. search rules in
    let sum : c.from_le_bytes.result ≡ number (part 0 16 x) = omega (arith, c.from_le_bytes.ensures) in
    reads-back 16 _ x long octet sum
