use Rattle.std.proofs.Common.{◌≡◌, take, replicate, fold}
use Rattle.blocks.specs.Octets.{xor_each}
use Rattle.modes.proofs.wrap.mix.Given as goal

-- the mix of the blocks so far
abbrev pub invariant-loop-p : goal.invariant-loop-p
invariant-loop-p l = l.s ≡ fold xor_each (replicate 16 0) (take l.p-index l.p-items)
