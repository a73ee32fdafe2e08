use Rattle.std.proofs.Common.{◌≡◌, ◌*◌, take, drop}
use Rattle.modes.specs.Checksum.{absorbed}
use Rattle.modes.specs.Pieces.{pieces}
use Rattle.modes.proofs.checksum.absorb.Given as goal

-- From the state on, the pieces that are left give what all pieces give from the start on.
abbrev pub invariant-loop-p : goal.invariant-loop-p
invariant-loop-p g l =
    let m = g.B.Block.meaning l.initial.block in
    let left = drop (16 * l.p-index) l.fn.message in
    (absorbed m.image l.r l.s (take 16 left) (pieces (drop 16 left))
    ≡ absorbed m.image l.r l.initial.s (take 16 l.fn.message) (pieces (drop 16 l.fn.message)))
    × (g.B.Block.meaning l.block ≡ m)
