-- Reversible meanings: of a pair, and what they say of a preimage.
use Rattle.std.proofs.Common.{ap, sym, ◌∙◌}
use Rattle.blocks.specs.Steps.{Step, Reversible, OnePreimage, and_then}

pub reversible-pair : (m n : Step) → Reversible m → Reversible n → Reversible (and_then m n)
reversible-pair m n a b = record {
  forth = λ p h. b.forth _ (a.forth p h);
  back = λ c h. a.back _ (b.back c h);
  undone = λ p h. ap m.preimage (b.undone _ (a.forth p h)) ∙ a.undone p h;
  met = λ c h. ap n.image (a.met _ (b.back c h)) ∙ b.met c h;
}

pub one-preimage : OnePreimage
one-preimage m r c h = record {
  block = r.back c h;
  meets = r.met c h;
  alone = λ q s e. sym (r.undone q s) ∙ ap m.preimage e;
}
