use Rattle.std.proofs.Common.{◌≡◌, ◌++◌, length, drop, sym, ap, ◌∙◌, ap₂, arith}
use Rattle.std.proofs.lemmas.List.{append_assoc, drop-drop}
use Rattle.modes.specs.Checksum.{checksum}
use Rattle.rounds.specs.Tags.{tag_head, issued}
use Rattle.modes.proofs.Eight.{sum-given}
use Rattle.rounds.proofs.tag.issue.Goals as goal

pub returns-clause-text : goal.returns-clause-text
unfolding issued
returns-clause-text g c =
    let f = (g.B.Block.meaning c.args.block.now).image in
    let t = tag_head c.args.site c.args.checkpoint c.args.serial in
    let x = c.head-front.result in
    let h = c.head-front.ensures in
    let l : length x ≡ 16 = ap length h in
    let s : c.in_ok-sum.sum ≡ checksum f x = sum-given f x _ (omega arith) c.in_ok-sum.ensures.answer in
    ap₂ ◌++◌ (c.copy_from_slice.ensures.after ∙ h)
    (ap₂ ◌++◌ (c.copy_from_slice-2.ensures.after ∙ s ∙ ap (checksum f) h) (ap (drop 8) c.split_at_mut-text.ensures.back ∙ drop-drop 8 16 c.args.out.now))
    ∙ sym (append_assoc t (checksum f t) (drop 24 c.args.out.now))
