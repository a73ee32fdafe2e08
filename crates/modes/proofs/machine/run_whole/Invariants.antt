use Rattle.std.proofs.Common.{◌≡◌, ℕ, ◌*◌, ◌≤◌, ◌⊎◌, List, [], ◌++◌, length, take, drop}
use Rattle.modes.proofs.machine.run_whole.Given as goal

-- What is written and what is still to be made are together what is to be made of the text.
abbrev pub invariant-loop-i : goal.invariant-loop-i
invariant-loop-i g l =
    let m = g.B.Block.meaning l.initial.block in
    ((x : List ℕ) → ((x ≡ []) ⊎ (g.T.Mode.LEAST ≤ length x))
    → g.T.Mode.makes l.initial.mode m (l.text ++ x) ≡ take (32 * l.i) l.out ++ g.T.Mode.makes l.mode m (drop (32 * l.i) l.text ++ x))
    × (g.B.Block.meaning l.block ≡ m)
