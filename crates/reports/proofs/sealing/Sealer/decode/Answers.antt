use Rattle.std.proofs.Common.{◌-◌, ◌/◌, length, Ok, Err, ap, ◌∙◌, arith}
use Rattle.std.proofs.lemmas.Result.{err_from_is_err_and}
use Rattle.blocks.specs.Steps.{Step}
use Rattle.reports.specs.Layout.{head_size, visit_size}
use Rattle.reports.specs.Sealing.{sealer, start_of}
use Rattle.reports.proofs.Decoding.{sum-kept, body-is, said-is, decode-body, decode-start}
use Rattle.reports.proofs.sealing.Sealer.decode.Goals as goal

pub returns-in_err-header-clause-answer : goal.returns-in_err-header-clause-answer
returns-in_err-header-clause-answer g c =
    let m = sealer (g.S.Block.meaning c.args.self.now.seal.now) (g.C.Block.meaning c.args.self.now.check.now) in
    let t = c.args.text.now.octets.now in
    let x = c.decipher.new.out in
    let kept = sum-kept m t c.sum.result.now c.sum_of-sum.result c.front.result.now c.sum.ensures c.front.ensures c.sum_of-sum.ensures.answer c.if-ne.ensures in
    let is = body-is m t c.start.result.now c.body.result.now x c.start.ensures c.body.ensures.part c.decipher.ensures.text in
    let p = err_from_is_err_and c.from_residual.result c.from_residual.ensures.1 in
    p.1 ∙ ap Err p.2
    ∙ decode-body m t kept c.in_err-header.field-0.0
    (said-is m t x c.of.result.head.now c.of.result.visits.now ((length x - head_size) / visit_size) (Err c.in_err-header.field-0.0) is (omega arith) c.of.ensures.head c.of.ensures.visits c.in_err-header.ensures)

pub returns-then-ne-2-clause-answer : goal.returns-then-ne-2-clause-answer
returns-then-ne-2-clause-answer g c =
    let m = sealer (g.S.Block.meaning c.args.self.now.seal.now) (g.C.Block.meaning c.args.self.now.check.now) in
    let t = c.args.text.now.octets.now in
    let x = c.decipher.new.out in
    let kept = sum-kept m t c.sum.result.now c.sum_of-sum.result c.front.result.now c.sum.ensures c.front.ensures c.sum_of-sum.ensures.answer c.if-ne.ensures in
    let is = body-is m t c.start.result.now c.body.result.now x c.start.ensures c.body.ensures.part c.decipher.ensures.text in
    ap Err c.fault-then-ne-2.ensures
    ∙ decode-start m t kept c.in_ok-header.header _ c.start.result.now c.start_of-right.result
    (said-is m t x c.of.result.head.now c.of.result.visits.now ((length x - head_size) / visit_size) (Ok c.in_ok-header.header) is (omega arith) c.of.ensures.head c.of.ensures.visits c.in_ok-header.ensures)
    c.start.ensures (c.start_of-right.ensures.answer ∙ ap (λ (q : Step). start_of q c.in_ok-header.header.wand c.in_ok-header.header.number) c.decipher.ensures.same) c.if-ne-2.ensures

pub returns-clause-answer : goal.returns-clause-answer
returns-clause-answer g c =
    let m = sealer (g.S.Block.meaning c.args.self.now.seal.now) (g.C.Block.meaning c.args.self.now.check.now) in
    let t = c.args.text.now.octets.now in
    let x = c.decipher.new.out in
    let kept = sum-kept m t c.sum.result.now c.sum_of-sum.result c.front.result.now c.sum.ensures c.front.ensures c.sum_of-sum.ensures.answer c.if-ne.ensures in
    let is = body-is m t c.start.result.now c.body.result.now x c.start.ensures c.body.ensures.part c.decipher.ensures.text in
    decode-start m t kept c.in_ok-header.header _ c.start.result.now c.start_of-right.result
    (said-is m t x c.of.result.head.now c.of.result.visits.now ((length x - head_size) / visit_size) (Ok c.in_ok-header.header) is (omega arith) c.of.ensures.head c.of.ensures.visits c.in_ok-header.ensures)
    c.start.ensures (c.start_of-right.ensures.answer ∙ ap (λ (q : Step). start_of q c.in_ok-header.header.wand c.in_ok-header.header.number) c.decipher.ensures.same) c.if-ne-2.ensures
