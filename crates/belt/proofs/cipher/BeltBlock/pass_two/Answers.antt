use Rattle.std.proofs.Common.{◌≡◌, length, rules}
use Rattle.belt.proofs.Rounds.{eight}
use Rattle.belt.proofs.cipher.BeltBlock.pass_two.Goals as goal

pub returns : goal.returns
returns g c =
    let way = g.met.W.Way.all c.args.self.now.key in
    let same = c.ROUNDS-rounds.ensures in
    let long : length c.ROUNDS-rounds.result ≡ 8 = search rules in
    record {
      first = eight _ c.args.x _ (g.W.Way.round c.args.self.now.key) g.W.Way.swaps (way c.args.x) _ same long _ _ _ _ _ _ _ _ _ _ _ c.load.ensures
          c.round_two-s.ensures.first c.round_two-s-2.ensures.first c.round_two-s-3.ensures.first c.round_two-s-4.ensures.first
          c.round_two-s-5.ensures.first c.round_two-s-6.ensures.first c.round_two-s-7.ensures.first c.round_two-s-8.ensures.first c.swap.ensures c.store.ensures;
      second = eight _ c.args.y _ (g.W.Way.round c.args.self.now.key) g.W.Way.swaps (way c.args.y) _ same long _ _ _ _ _ _ _ _ _ _ _ c.load-2.ensures
          c.round_two-s.ensures.second c.round_two-s-2.ensures.second c.round_two-s-3.ensures.second c.round_two-s-4.ensures.second
          c.round_two-s-5.ensures.second c.round_two-s-6.ensures.second c.round_two-s-7.ensures.second c.round_two-s-8.ensures.second c.swap-2.ensures c.store-2.ensures;
    }
