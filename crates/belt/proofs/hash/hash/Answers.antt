use Rattle.std.proofs.Common.{◌≡◌, min, length, ◌∙◌, arith}
use Rattle.std.specs.Slice.Iter.{chunks_rest}
use Rattle.belt.proofs.Hashing.{absorbed-piece, accepted}
use Rattle.belt.proofs.hash.hash.Goals as goal

pub loop-piece-preserved : goal.loop-piece-preserved
loop-piece-preserved c =
    let step = c.in-Some.ensures.steps in
    let left = chunks_rest c.loop-piece.piece-iterator in
    let long : length c.in-Some.piece.now ≡ min 32 (length left) = rw c.loop-piece.invariant.size at step.1.1 in
    let more = absorbed-piece c.loop-piece.running left c.in-Some.piece.now (chunks_rest c.next.new.self) step.1.0 long step.1.2 in
    record { size = step.0 ∙ c.loop-piece.invariant.size; whole = cc }

pub returns : goal.returns
returns c =
    accepted c.args.message.now _ _ c.loop-piece.running (omega arith) c.in-None.ensures.steps.1.0 c.loop-piece.invariant.whole c.finish.ensures
