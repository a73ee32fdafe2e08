use Rattle.std.proofs.Common.{◌≡◌, ◌-◌}
use Rattle.modes.specs.Wrapping.{wrap_steps}
use Rattle.modes.proofs.wrap.wrap_steps.Given as goal

abbrev pub invariant-loop-i : goal.invariant-loop-i
invariant-loop-i g l =
    let m = g.B.Block.meaning l.initial.block in
    (l.text ≡ wrap_steps m.image (l.i - 1) l.initial.text) × (g.B.Block.meaning l.block ≡ m)
