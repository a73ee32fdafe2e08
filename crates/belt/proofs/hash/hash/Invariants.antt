use Rattle.std.proofs.Common.{◌≡◌}
use Rattle.std.specs.Slice.Iter.{chunks_rest, chunks_size}
use Rattle.belt.specs.Hash.{start}
use Rattle.belt.proofs.Hashing.{absorbed_whole}
use Rattle.belt.proofs.hash.hash.Given as goal

-- what is left of the message gives the whole
abbrev pub invariant-loop-piece : goal.invariant-loop-piece
invariant-loop-piece l = record {
  size : chunks_size l.piece-iterator ≡ 32;
  whole : absorbed_whole l.running (chunks_rest l.piece-iterator) ≡ absorbed_whole start l.message;
}
