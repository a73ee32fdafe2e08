use Rattle.std.proofs.Common.{◌≡◌, ℕ, ◌%◌, ◌<◌, slice_index, rules, lit<}
use Rattle.belt.proofs.cipher.BeltBlock.round.Goals as goal

pub returns : goal.returns
returns g c =
    let key = c.args.self.now.key in
    let at : (j : ℕ) → j < 7 → slice_index c.from_fn-keys.result j ≡ slice_index key (g.W.Way.place c.args.i j % 8) =
    λ j h. let call = c.from_fn-keys.ensures.items.at j 0 h in search rules in
    cc (g.met.W.Way.one key c.args.i c.args.s, at 0 (lit< tt), at 1 (lit< tt), at 2 (lit< tt), at 3 (lit< tt), at 4 (lit< tt), at 5 (lit< tt), at 6 (lit< tt))
