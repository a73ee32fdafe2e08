use Rattle.std.proofs.Common.{◌≡◌, length}
use Rattle.modes.specs.Wrapping.{unwrap_steps, rounds}
use Rattle.modes.proofs.wrap.unwrap_steps.Given as goal

abbrev pub invariant-loop-i : goal.invariant-loop-i
invariant-loop-i g l =
    let m = g.B.Block.meaning l.initial.block in
    (unwrap_steps m.image l.i l.text ≡ unwrap_steps m.image (rounds (length l.initial.text)) l.initial.text) × (g.B.Block.meaning l.block ≡ m)
