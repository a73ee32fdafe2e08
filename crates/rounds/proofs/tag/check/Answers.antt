use Rattle.std.proofs.Common.{◌≡◌, eqb, length, take, drop, sym, ◌∙◌, subst, ap₂, arith, rules}
use Rattle.std.proofs.lemmas.Bool.{cond-true, cond-false, eqb-true}
use Rattle.std.proofs.lemmas.List.{length-drop, length-take-le, take_all}
use Rattle.std.specs.Str.{bytes_eq}
use Rattle.blocks.specs.Octets.{Octets}
use Rattle.modes.specs.Checksum.{checksum}
use Rattle.modes.proofs.Eight.{sum-given}
use Rattle.rounds.specs.Checked.{TagExact, tag_parts, parts_answer}
use Rattle.rounds.proofs.Tagged.{tag-exact, no-parts, some-parts}
use Rattle.rounds.proofs.tag.check.Goals as goal

pub returns-in_default-clause-exact : goal.returns-in_default-clause-exact
returns-in_default-clause-exact g c =
    let m = g.B.Block.meaning c.args.block.now in
    let t = c.args.text.now in
    let o : Octets t = λ k. search rules in
    let e = sym (cond-false (eqb (length t) 24) _ _ (no-parts (eqb (length t) 24) (tag_parts t) c.in_default.ensures)) in
    subst (TagExact m.image c.args.site t) (sym e)
    (tag-exact m.image (g.met.B.Block.reversible c.args.block.now).forth c.args.site c.ranges.site.fits t o)

pub returns-clause-answer : goal.returns-clause-answer
returns-clause-answer g c =
    let f = (g.B.Block.meaning c.args.block.now).image in
    let t = c.args.text.now in
    let p = some-parts (eqb (length t) 24) (tag_parts t) c.in-Some.parts c.in-Some.ensures in
    let l : length t ≡ 24 = eqb-true (length t) 24 p.0 in
    let s : c.in_ok-sum.sum ≡ checksum f (take 16 t)
    = sum-given f (take 16 t) _ (omega (arith, length-take-le 16 t (omega arith))) c.in_ok-sum.ensures.answer in
    let b : c.eq.result ≡ bytes_eq (drop 16 t) (checksum f (take 16 t))
    = c.eq.ensures ∙ ap₂ bytes_eq (take_all 8 (drop 16 t) (omega (arith, length-drop 16 t))) s in
    c.judge.ensures ∙ ap₂ (parts_answer c.args.site) b p.1 ∙ sym (cond-true (eqb (length t) 24) _ _ p.0)

pub returns-clause-exact : goal.returns-clause-exact
returns-clause-exact g c =
    let f = (g.B.Block.meaning c.args.block.now).image in
    let t = c.args.text.now in
    let o : Octets t = λ k. search rules in
    subst (TagExact f c.args.site t) (sym (returns-clause-answer g c))
    (tag-exact f (g.met.B.Block.reversible c.args.block.now).forth c.args.site c.ranges.site.fits t o)
