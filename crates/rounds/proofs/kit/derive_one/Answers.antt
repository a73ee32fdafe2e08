use Rattle.std.proofs.Common.{◌≡◌, ◌++◌, length, replicate, Ok, ap, ◌∙◌, arith}
use Rattle.std.proofs.lemmas.List.{drop_all, append-nil}
use Rattle.std.proofs.lemmas.Bool.Decides.{nat_tests}
use Rattle.blocks.specs.Written.{written}
use Rattle.belt.specs.Transformation.{transformed, transform_answer}
use Rattle.rounds.specs.Kits.{kit_key}
use Rattle.rounds.proofs.kit.derive_one.Goals as goal

pub returns : goal.returns
unfolding kit_key
returns c =
    let key = c.args.key.now in
    let out = c.args.out.now in
    let n = length key in
    let t = transformed key (replicate 12 0) c.key_header.result n in
    let fits : transform_answer n n (length out) ≡ Ok n = grind (arith, nat_tests) in
    c.transform.ensures.text
    ∙ ap (λ r. written r t out) (c.transform.ensures.answer ∙ fits)
    ∙ ap (λ z. t ++ z) (drop_all n out (omega arith))
    ∙ append-nil t
    ∙ ap (λ h. transformed key (replicate 12 0) h n) c.key_header.ensures
