use Rattle.std.proofs.Common.{◌≡◌, ◌+◌, fold, take}
use Rattle.belt.proofs.cipher.BeltBlock.pass.Given as goal

abbrev pub invariant-loop-i : goal.invariant-loop-i
invariant-loop-i g l = l.s ≡ fold (λ s i. g.W.Way.round l.self.key (i + 1) s) l.initial.s (take l.i-index l.i-items)
