use Rattle.std.proofs.Common.{◌≡◌, ℕ, ◌+◌, ◌*◌, ◌≤◌, List, [], length, take, drop, get_or, replicate, sym, ap, ◌∙◌, ap₂, arith}
use Rattle.std.proofs.lemmas.List.{length-drop, length-take-le}
use Rattle.blocks.specs.Steps.{Step}
use Rattle.modes.specs.Pieces.{pieces}
use Rattle.modes.specs.Checksum.{closed, absorbed}
use Rattle.modes.proofs.Loops.{cut-at, front-at}
use Rattle.modes.proofs.Sums.{absorbed-more, absorbed-last}
use Rattle.modes.proofs.checksum.absorb.Goals as goal

pub loop-p-preserved : goal.loop-p-preserved
loop-p-preserved g c =
    let f = (g.B.Block.meaning c.forward-r.new.self).image in
    let x = c.args.message.now in
    let i = c.loop-p.p-index in
    let k = c.before_last.result in
    let whole = c.whole_pieces-p-items.result.now in
    let front : length (take k x) ≡ k = length-take-le k x (omega arith) in
    let next : 16 * i + 16 ≡ 16 * (i + 1) = omega arith in
    let p-is : get_or whole i [] ≡ take 16 (drop (16 * i) x) =
    ap (λ ps. get_or ps i []) c.whole_pieces-p-items.ensures.pieces ∙ cut-at _ i _ (omega arith)
    ∙ ap (λ z. take 16 (drop (16 * i) z)) c.split_at.ensures.front ∙ front-at x k (16 * i) (omega arith) in
    let stepped = c.forward-s.ensures.answer ∙ ap₂ (λ (m : Step) z. m.image z) c.loop-p.invariant.1 c.xor.ensures in (
      ap (λ n. absorbed f c.forward-r.result c.forward-s.result (take 16 (drop n x)) (pieces (drop 16 (drop n x)))) (sym next)
          ∙ sym (absorbed-more f c.forward-r.result c.loop-p.s x _ c.forward-s.result (16 * i) (omega arith) p-is stepped) ∙ c.loop-p.invariant.0,
      c.forward-s.ensures.same ∙ c.loop-p.invariant.1,
    )

pub returns-clause-answer : goal.returns-clause-answer
returns-clause-answer g c =
    let m = g.B.Block.meaning c.args.block.now in
    let m₁ = g.B.Block.meaning c.forward-r.new.self in
    let x = c.args.message.now in
    let r = c.forward-r.result in
    let zeros : List ℕ = replicate 16 0 in
    let at : 16 * c.loop-p.p-index ≡ c.before_last.result = omega arith in
    let last = drop (16 * c.loop-p.p-index) x in
    let small : length last ≤ 16 = omega (arith, length-drop (16 * c.loop-p.p-index) x) in
    let state : c.close.result ≡ absorbed m₁.image r zeros (take 16 x) (pieces (drop 16 x)) =
    c.close.ensures ∙ ap (closed r c.loop-p.s) (c.split_at.ensures.back ∙ ap (λ n. drop n x) (sym at))
    ∙ sym (absorbed-last m₁.image r c.loop-p.s last small) ∙ c.loop-p.invariant.0 in
    ap (take 8)
    (c.forward.ensures.answer ∙ ap₂ (λ (a : Step) z. a.image z) c.loop-p.invariant.1 state
    ∙ ap₂ (λ (a : Step) z. a.image (absorbed a.image z zeros (take 16 x) (pieces (drop 16 x)))) c.forward-r.ensures.same c.forward-r.ensures.answer)
