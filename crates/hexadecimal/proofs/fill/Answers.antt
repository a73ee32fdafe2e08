use Rattle.std.proofs.Common.{◌≡◌, ◌∙◌, [], ap, rules, below_more, get_or}
use Rattle.hexadecimal.specs.Digits.{octet_at}
use Rattle.hexadecimal.proofs.Each.{pair_octet}
use Rattle.hexadecimal.proofs.fill.Goals as goal

pub loop-i-preserved : goal.loop-i-preserved
loop-i-preserved c =
    let i = c.loop-i.i in
    let value : c.octet.result ≡ octet_at c.args.text.now i
    = c.octet.ensures ∙ ap (λ pairs. octet_at (get_or pairs i []) 0) c.as_chunks.ensures.front ∙ pair_octet c.args.text.now i (search rules) in
    below_more _ _ (λ k h. search rules) (search rules)
