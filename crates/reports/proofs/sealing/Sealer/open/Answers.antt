use Rattle.std.proofs.Common.{◌≡◌, ℕ, ◌-◌, ◌/◌, ◌++◌, length, Ok, Err, Result, refl, ap, ◌∙◌, ap₂, sym, arith, rules}
use Rattle.std.proofs.lemmas.Result.{err_from_is_err_and}
use Rattle.std.proofs.lemmas.Bool.{true≢false}
use Rattle.blocks.specs.Octets.{Octets}
use Rattle.blocks.specs.declared.answers.Refusal.TheVariants.{ReportLength, TooFewCells}
use Rattle.books.specs.Books.{elements}
use Rattle.reports.specs.declared.fault.Fault.{Fault}
use Rattle.reports.specs.declared.office.Opened.{Opened}
use Rattle.reports.specs.declared.visit.Header.{Header}
use Rattle.reports.specs.Layout.{head_size, visit_size, report_at}
use Rattle.reports.specs.Sealing.{LawfulSealer, sealer}
use Rattle.reports.specs.Faults.{in_text, in_book}
use Rattle.reports.specs.Opening.{count_of, body_in, decode_answer, free_cells_in}
use Rattle.reports.proofs.Bodies.{length-visits_at}
use Rattle.reports.proofs.Pieces.{pieces-are}
use Rattle.reports.proofs.Decoding.{open-decode, open-room, open-all, opens}
use Rattle.reports.proofs.Opens.{body-size, refused}
use Rattle.reports.proofs.sealing.Sealer.open.Goals as goal

abbrev done : Header → ℕ → Result Opened Fault
done h n = Ok (record { header = h; visits = n })

pub returns-in_err-text : goal.returns-in_err-text
returns-in_err-text g c =
    let m = sealer (g.S.Block.meaning c.args.self.now.seal.now) (g.C.Block.meaning c.args.self.now.check.now) in
    let law : LawfulSealer m = record { reversible = g.met.S.Block.reversible c.args.self.now.seal.now; lands = (g.met.C.Block.reversible c.args.self.now.check.now).forth } in
    let t = c.args.text.now in
    let b = c.args.book.now in
    let o : Octets t = λ k. search rules in
    let p = err_from_is_err_and c.from_residual.result c.from_residual.ensures.1 in
    let is : c.from_residual.result ≡ Err (in_text ReportLength 0) = p.1 ∙ ap Err (p.2 ∙ c.in_err-text.ensures.0) in
    let w = opens m law (free_cells_in b) t o (elements b) (elements b) _ _ (refused m (free_cells_in b) t c.in_err-text.ensures.1) is refl in
    record {
      answer = w.answer;
      held = w.held;
      exact = w.exact;
      capacity = refl;
      untouched = λ _. refl;
      same = ((refl, refl), (refl, refl));
    }

pub returns-in_err-header : goal.returns-in_err-header
returns-in_err-header g c =
    let m = sealer (g.S.Block.meaning c.args.self.now.seal.now) (g.C.Block.meaning c.args.self.now.check.now) in
    let law : LawfulSealer m = record { reversible = g.met.S.Block.reversible c.args.self.now.seal.now; lands = (g.met.C.Block.reversible c.args.self.now.check.now).forth } in
    let t = c.args.text.now in
    let b = c.args.book.now in
    let o : Octets t = λ k. search rules in
    let f = c.in_err-header.field-0.0 in
    let h = c.in_err-header.ensures in
    let q = h.answer ∙ ap (λ y. decode_answer m (count_of (length y)) y) c.in_ok-text.ensures.0 in
    let p = err_from_is_err_and c.from_residual-in_err-header.result c.from_residual-in_err-header.ensures.1 in
    let w = opens m law (free_cells_in b) t o (elements b) (elements b) _ _ (open-decode m (free_cells_in b) t f c.in_ok-text.ensures.1 q) (p.1 ∙ ap Err p.2) refl in
    record {
      answer = w.answer;
      held = w.held;
      exact = w.exact;
      capacity = refl;
      untouched = λ _. refl;
      same = h.same;
    }

pub returns-then-visits-free : goal.returns-then-visits-free
returns-then-visits-free g c =
    let m = sealer (g.S.Block.meaning c.args.self.now.seal.now) (g.C.Block.meaning c.args.self.now.check.now) in
    let law : LawfulSealer m = record { reversible = g.met.S.Block.reversible c.args.self.now.seal.now; lands = (g.met.C.Block.reversible c.args.self.now.check.now).forth } in
    let t = c.args.text.now in
    let b = c.args.book.now in
    let o : Octets t = λ k. search rules in
    let h = c.in_ok-header.ensures in
    let e = c.in_ok-text.ensures.0 in
    let x = c.decode.new.body in
    let v = count_of (length t) in
    let is : x ≡ body_in m t = h.body refl ∙ ap (body_in m) e in
    let j = (length x - head_size) / visit_size in
    let size = ap length is ∙ body-size m law t o c.in_ok-text.ensures.1 in
    let n : j ≡ v = omega (arith, size) in
    let long = (pieces-are v j x x c.of-2.result.visits.now c.of-2.ensures.visits n refl).1 in
    let free : c.free-free.result ≡ free_cells_in b = omega (arith, c.free-free.ensures) in
    let q = h.answer ∙ ap (λ y. decode_answer m (count_of (length y)) y) e in
    let full : Err c.fault.result ≡ Err (in_book TooFewCells (free_cells_in b)) = ap Err (c.fault.ensures ∙ ap (in_book TooFewCells) free) in
    let w = opens m law (free_cells_in b) t o (elements b) (elements b) _ _
    (open-room m (free_cells_in b) t c.in_ok-header.header c.in_ok-text.ensures.1 q (omega (arith, c.if-visits-free.true))) full refl in
    record {
      answer = w.answer;
      held = w.held;
      exact = w.exact;
      capacity = refl;
      untouched = λ _. refl;
      same = h.same;
    }

pub returns : goal.returns
returns g c =
    let m = sealer (g.S.Block.meaning c.args.self.now.seal.now) (g.C.Block.meaning c.args.self.now.check.now) in
    let law : LawfulSealer m = record { reversible = g.met.S.Block.reversible c.args.self.now.seal.now; lands = (g.met.C.Block.reversible c.args.self.now.check.now).forth } in
    let t = c.args.text.now in
    let b = c.args.book.now in
    let o : Octets t = λ k. search rules in
    let h = c.in_ok-header.ensures in
    let e = c.in_ok-text.ensures.0 in
    let x = c.decode.new.body in
    let v = count_of (length t) in
    let is : x ≡ body_in m t = h.body refl ∙ ap (body_in m) e in
    let j = (length x - head_size) / visit_size in
    let size = ap length is ∙ body-size m law t o c.in_ok-text.ensures.1 in
    let n : j ≡ v = omega (arith, size) in
    let vs = pieces-are v j x (body_in m t) c.of-2.result.visits.now c.of-2.ensures.visits n is in
    let long = vs.1 in
    let free : c.free-free.result ≡ free_cells_in b = omega (arith, c.free-free.ensures) in
    let q = h.answer ∙ ap (λ y. decode_answer m (count_of (length y)) y) e in
    let a = open-all m (free_cells_in b) t c.in_ok-header.header c.in_ok-text.ensures.1 q (omega (arith, c.if-visits-free.false)) in
    let w = opens m law (free_cells_in b) t o (elements b) (elements c.add_visits.new.book) (Ok (report_at v (body_in m t))) _ a.0
    (ap₂ done a.1 (vs.1 ∙ sym (length-visits_at v _)))
    (c.add_visits.ensures.added ∙ ap (λ ws. elements b ++ ws) vs.0) in
    record {
      answer = w.answer;
      held = w.held;
      exact = w.exact;
      capacity = c.add_visits.ensures.capacity;
      untouched = λ z. absurd (true≢false z);
      same = h.same;
    }
