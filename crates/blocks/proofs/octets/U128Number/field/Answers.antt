use Rattle.std.proofs.Common.{◌^◌, ◌<◌, rules}
use Rattle.blocks.proofs.Numbers.{writes, writes-back}
use Rattle.blocks.proofs.octets.U128Number.field.Goals as goal

pub returns-clause-value : goal.returns-clause-value
returns-clause-value c = let fits : c.args.self < 256 ^ 16 = search rules in writes 15 _ _ fits c.to_le_bytes.ensures

pub returns-clause-undone : goal.returns-clause-undone
returns-clause-undone c = let fits : c.args.self < 256 ^ 16 = search rules in writes-back 15 _ _ fits c.to_le_bytes.ensures
