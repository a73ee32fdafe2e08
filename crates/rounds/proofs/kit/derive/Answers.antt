use Rattle.std.proofs.Common.{◌++◌, length, ◌∙◌, ap₂, arith, rules}
use Rattle.rounds.proofs.Joins.{put_three}
use Rattle.rounds.proofs.kit.derive.Goals as goal

pub returns : goal.returns
returns c =
    put_three (length c.args.key.now) c.args.out.now c.derive_one.new.out c.derive_one-2.new.out c.derive_one-3.new.out
    (omega arith) (search rules) (search rules)
    ∙ ap₂ ◌++◌ c.derive_one.ensures (ap₂ ◌++◌ c.derive_one-2.ensures c.derive_one-3.ensures)
