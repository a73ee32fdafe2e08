use Rattle.std.proofs.Common.{◌≡◌, ◌-◌, ◌≤◌, length, take, drop, sym, ap, ◌∙◌, arith, rules}
use Rattle.std.proofs.lemmas.List.{take-append-le, length-append}
use Rattle.modes.specs.Wrapping.{unwrapped}
use Rattle.blocks.specs.Same.{same}
use Rattle.modes.proofs.WrapAnswered.{header-same, tests-ok, tests-header}
use Rattle.modes.proofs.wrap.unwrap_within.Goals as goal

pub returns-then-not-agree : goal.returns-then-not-agree
returns-then-not-agree g c =
    let f = (g.B.Block.meaning c.args.block.now).image in
    let y = c.args.text.now in
    let m = length y in
    let low : 32 ≤ m = search rules in
    let high : m ≤ 272 = search rules in
    let u = c.unwrap_steps.new.text in
    let u-is : u ≡ unwrapped f y = c.unwrap_steps.ensures.text ∙ ap (unwrapped f) c.copy_from_slice.ensures.after in
    let got : c.unwrap.result.now ≡ drop (m - 16) u = search rules in
    let test = header-same (unwrapped f y) u c.args.header c.unwrap.result.now m c.agree.result u-is got c.agree.ensures in
    record {
      answer =
          tests-header m (length c.args.scratch.now) c.args.room (same (drop (m - 16) (unwrapped f y)) c.args.header)
          low high (omega arith) (omega arith) (sym test ∙ c.if-not-agree.true);
      key = tt;
      same = c.unwrap_steps.ensures.same;
    }

pub returns : goal.returns
returns g c =
    let f = (g.B.Block.meaning c.args.block.now).image in
    let y = c.args.text.now in
    let m = length y in
    let low : 32 ≤ m = search rules in
    let high : m ≤ 272 = search rules in
    let u = c.unwrap_steps.new.text in
    let u-is : u ≡ unwrapped f y = c.unwrap_steps.ensures.text ∙ ap (unwrapped f) c.copy_from_slice.ensures.after in
    let got : c.unwrap.result.now ≡ drop (m - 16) u = search rules in
    let test = header-same (unwrapped f y) u c.args.header c.unwrap.result.now m c.agree.result u-is got c.agree.ensures in
    let lu : length u ≡ m = search rules in
    record {
      answer =
          tests-ok m (length c.args.scratch.now) c.args.room (same (drop (m - 16) (unwrapped f y)) c.args.header)
          low high (omega arith) (omega arith) (sym test ∙ c.if-not-agree.false);
      key = (take-append-le (m - 16) u _ (omega arith) ∙ ap (take (m - 16)) u-is, omega arith, simp length-append (omega arith));
      same = c.unwrap_steps.ensures.same;
    }
