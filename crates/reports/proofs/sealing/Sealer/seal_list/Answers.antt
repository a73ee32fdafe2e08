use Rattle.std.proofs.Common.{◌≡◌, ℕ, length, Err, Result, sym, ap, ◌∙◌, subst}
use Rattle.std.proofs.lemmas.Result.{err_from_is_err_and}
use Rattle.blocks.specs.declared.answers.Refusal.{Refusal}
use Rattle.reports.specs.Layout.{report_of}
use Rattle.reports.specs.Exact.{SealsExactly}
use Rattle.reports.proofs.Sealable.{seals-refused}
use Rattle.reports.proofs.sealing.Sealer.seal_list.Goals as goal

pub returns-in_err-report-clause-exact : goal.returns-in_err-report-clause-exact
returns-in_err-report-clause-exact g c =
    let r = report_of c.args.header c.args.visits.now in
    let room = length c.args.out.now in
    let e = c.in_err-report.field-0.0 in
    let p = err_from_is_err_and c.from_residual.result c.from_residual.ensures.1 in
    let is : c.from_residual.result ≡ Err e = p.1 ∙ ap Err p.2 in
    subst (λ (q : Result ℕ Refusal). SealsExactly r room q) (sym is) (seals-refused r room e c.in_err-report.ensures.answer)
