use Rattle.hexadecimal.proofs.Each.{digits_more, digits-all}
use Rattle.hexadecimal.proofs.all_digits.Goals as goal

pub returns-then-not-is_digit : goal.returns-then-not-is_digit
returns-then-not-is_digit c = digits_more c.args.text.now c.loop-c.c-index _ c.loop-c-test.true c.if-not-is_digit.ensures c.loop-c.invariant

pub loop-c-preserved : goal.loop-c-preserved
loop-c-preserved c = digits_more c.args.text.now c.loop-c.c-index _ c.loop-c-test.true c.if-not-is_digit.ensures c.loop-c.invariant

pub returns : goal.returns
returns c = digits-all c.args.text.now c.loop-c.c-index c.loop-c-test.false c.loop-c.invariant
