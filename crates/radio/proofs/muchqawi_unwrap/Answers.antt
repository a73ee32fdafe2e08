use Rattle.std.proofs.Common.{length, refl, ap, ◌∙◌}
use Rattle.belt.specs.Cipher.{belt}
use Rattle.modes.specs.Wrapping.{key_found}
use Rattle.modes.specs.WrapAnswers.{unwrap_answer}
use Rattle.radio.specs.Keyed.{sixteen}
use Rattle.radio.proofs.Faces.{told, untold}
use Rattle.radio.proofs.muchqawi_unwrap.Goals as goal

pub returns-in-Ok-clause-told : goal.returns-in-Ok-clause-told
returns-in-Ok-clause-told c =
    told c.args.key.now (λ k. unwrap_answer (belt k).image (sixteen c.args.first c.args.second) c.args.text.now (length c.args.scratch.now) (length c.args.out.now))
    (λ k. key_found (belt k).image c.args.text.now) c.args.out.now _ _ _ _
    c.in-Ok.ensures c.answer_number.ensures (c.unwrap-answer.ensures.answer ∙ ap (λ z. unwrap_answer (belt c.in-Ok.block.key).image z c.args.text.now (length c.args.scratch.now) (length c.args.out.now)) c.octets.ensures)
    c.unwrap-answer.ensures.text

pub returns-in-Err-clause-told : goal.returns-in-Err-clause-told
returns-in-Err-clause-told c =
    untold c.args.key.now (λ k. unwrap_answer (belt k).image (sixteen c.args.first c.args.second) c.args.text.now (length c.args.scratch.now) (length c.args.out.now))
    (λ k. key_found (belt k).image c.args.text.now) c.args.out.now _ _ _
    c.in-Err.ensures c.number.ensures.number refl
