-- Opening accepts exactly the texts that sealing makes of lawful reports, and answers the report.
use Rattle.std.proofs.Common.{◌≡◌, ℕ, ◌-◌, ◌≤◌, true, false, eqb, leb, List, ◌++◌, length, take, drop, Ok, Err, sym, refl, ap, ◌∙◌, subst, ap₂, inl, inr, arith}
use Rattle.std.proofs.lemmas.Slice.Eq.{bytes_eq-Decides}
use Rattle.std.proofs.lemmas.List.{length-append, length-drop, length-take-le, take-append-drop, take-append-le, take-take, take_at, drop_at}
use Rattle.std.proofs.lemmas.Bool.{and_parts, and_from, leb-true, eqb-true, le-leb, eq-eqb}
use Rattle.blocks.specs.declared.answers.Refusal.TheVariants.{ReportLength, ReportChecksum, ReportStart, TooFewCells}
use Rattle.blocks.specs.Octets.{Octets, Sixteen}
use Rattle.reports.specs.Layout.{Report, head_size, most_visits, body_size, body_of, wand_at, num_at, report_at}
use Rattle.reports.specs.Lawful.{Lawful}
use Rattle.reports.specs.Sealing.{Sealer, LawfulSealer, start_size, sum_size, text_size, seed_of, start_of, enciphered, deciphered, sum_of, summed, sealed}
use Rattle.reports.specs.Faults.{in_text, in_book, rule}
use Rattle.reports.specs.Opening.{sum_fault, body_fault, start_fault, count_of, sized, front_part, body_in, open_answer}
use Rattle.reports.specs.Exact.{Sealed}
use Rattle.reports.specs.Cases.{OddLengths}
use Rattle.blocks.proofs.Numbers.{octets-append}
use Rattle.blocks.specs.Octetwise.{octets-take, octets-drop}
use Rattle.reports.proofs.FieldsAt.{octets-all}
use Rattle.reports.proofs.Ciphers.{Mixable, sum_is, forth, back, undone, met}
use Rattle.reports.proofs.Bodies.{wand-there, num-there, report-there, body_back, length-body, body-octets, length-visits_at}
use Rattle.reports.proofs.Rules.{kept_rule, rule-kept, past, passed, body-none, none-body}

-- what a start is made from
seed-is : (wand num : ℕ) → Sixteen (seed_of wand num)
seed-is wand num = (refl, octets-all (seed_of wand num) (omega arith))

-- A text put together of its parts s, z and their sum, taken apart again.
front_of : (c : Sealer) (y : List ℕ) → length (sum_of c.check y) ≡ sum_size → front_part (summed c y) ≡ y
front_of c y e = take_at y (sum_of c.check y) (length (summed c y) - sum_size) (omega (arith, length-append y (sum_of c.check y)))

sum-of : (c : Sealer) (y : List ℕ) → length (sum_of c.check y) ≡ sum_size → drop (length (summed c y) - sum_size) (summed c y) ≡ sum_of c.check y
sum-of c y e = drop_at y (sum_of c.check y) (length (summed c y) - sum_size) (omega (arith, length-append y (sum_of c.check y)))

-- how many visits a text of the right length has
count-of : (v n : ℕ) → n ≡ text_size v → count_of n ≡ v
count-of v n e = omega arith

-- A sealed lawful report opens to itself, where there is room.
pub opens-sealed : (c : Sealer) → LawfulSealer c → (free : ℕ) (r : Report) → Lawful r → length r.visits ≤ free → open_answer c free (sealed c r) ≡ Ok r
unfolding open_answer sealed
opens-sealed c law free r h room =
    let x = body_of r in
    let v = length r.visits in
    let s = start_of c.seal r.wand r.number in
    let sb : Sixteen s = law.reversible.forth _ (seed-is r.wand r.number) in
    let xl : length x ≡ body_size v = length-body r in
    let mix : Mixable s x = record { from = sb; long = omega arith; octets = body-octets r } in
    let z = enciphered c.seal s x in
    let zb = forth c law s x mix in
    let y = s ++ z in
    let yl = length-append s z in
    let ml = sum_is c law y (octets-append s z sb.1 zb.1) in
    let t = summed c y in
    let tl : length t ≡ text_size v = omega (arith, length-append y (sum_of c.check y), sb.0, zb.0) in
    let vi : count_of (length t) ≡ v = count-of v (length t) tl in
    let front : front_part t ≡ y = front_of c y ml in
    let st : take start_size t ≡ s = take-append-le start_size y (sum_of c.check y) (omega (arith, sb.0)) ∙ take_at s z start_size sb.0 in
    let body : body_in c t ≡ x = ap₂ (deciphered c.seal) st (ap (drop start_size) front ∙ drop_at s z start_size sb.0) ∙ undone c law s x mix in
    past _ _ _ (rule-kept (sized (length t)) (in_text ReportLength 0) (and_from _ _ (eq-eqb (length t) (text_size (count_of (length t))) (omega arith)) (le-leb (count_of (length t)) most_visits (omega (arith, h.few)))))
    (past _ _ _ (rule-kept _ (in_text ReportChecksum (length t - sum_size)) ((bytes_eq-Decides (drop (length t - sum_size) t) (sum_of c.check (front_part t))).1 (sum-of c y ml ∙ ap (sum_of c.check) (sym front))))
    (past _ _ _ (ap₂ body_fault vi body ∙ body-none r h)
    (past _ _ _ (rule-kept _ (in_text ReportStart 0) ((bytes_eq-Decides (take start_size t) (start_of c.seal (wand_at (body_in c t)) (num_at (body_in c t)))).1
    (st ∙ ap₂ (start_of c.seal) (sym (ap wand_at body ∙ wand-there r h)) (sym (ap num_at body ∙ num-there r h)))))
    (past _ _ _ (rule-kept _ (in_book TooFewCells free) (le-leb (count_of (length t)) free (omega arith)))
    (ap Ok (ap₂ report_at vi body ∙ report-there r h))))))

-- A text of the right length, in its parts.
count-is : (n : ℕ) → sized n ≡ true → (n ≡ text_size (count_of n)) × (count_of n ≤ most_visits)
count-is n e =
    let p = and_parts (eqb n (text_size (count_of n))) (leb (count_of n) most_visits) e in
    (eqb-true n (text_size (count_of n)) p.0, leb-true (count_of n) most_visits p.1)

mixed-size : (t : List ℕ) → sized (length t) ≡ true → length (drop start_size (front_part t)) ≡ body_size (count_of (length t))
mixed-size t e =
    let n = (count-is (length t) e).0 in
    let l : length (front_part t) ≡ length t - sum_size = length-take-le (length t - sum_size) t (omega arith) in
    omega (arith, length-drop start_size (front_part t))

mixable : (t : List ℕ) → Octets t → sized (length t) ≡ true → Mixable (take start_size t) (drop start_size (front_part t))
mixable t o e =
    let n = (count-is (length t) e).0 in
    let l = mixed-size t e in
    record {
      from = (length-take-le start_size t (omega arith), octets-take start_size t o);
      long = omega arith;
      octets = octets-drop start_size (front_part t) (octets-take (length t - sum_size) t o);
    }

pub body-size : (c : Sealer) → LawfulSealer c → (t : List ℕ) → Octets t → sized (length t) ≡ true → length (body_in c t) ≡ body_size (count_of (length t))
body-size c law t o e = (back c law (take start_size t) (drop start_size (front_part t)) (mixable t o e)).0 ∙ mixed-size t e

-- What opens is the sealed text of a lawful report.
pub opened-is-sealed : (c : Sealer) → LawfulSealer c → (free : ℕ) (t : List ℕ) → Octets t → (r : Report) → open_answer c free t ≡ Ok r → Sealed c free t r
unfolding open_answer sealed
opened-is-sealed c law free t o r e =
    let n = length t in
    let v = count_of n in
    let s = take start_size t in
    let y = front_part t in
    let z = drop start_size y in
    let x = body_in c t in
    let e1 = passed (rule (sized n) (in_text ReportLength 0)) _ r e in
    let e2 = passed (sum_fault c t) _ r e1.1 in
    let e3 = passed (body_fault v x) _ r e2.1 in
    let e4 = passed (start_fault c t) _ r e3.1 in
    let e5 = passed (rule (leb v free) (in_book TooFewCells free)) (Ok (report_at v x)) r e4.1 in
    let is : report_at v x ≡ r = cc e5.1 in
    let sized-is : sized n ≡ true = kept_rule (sized n) (in_text ReportLength 0) e1.0 in
    let few : v ≤ most_visits = (count-is n sized-is).1 in
    let sum : drop (n - sum_size) t ≡ sum_of c.check y = (bytes_eq-Decides (drop (n - sum_size) t) (sum_of c.check y)).0 (kept_rule _ (in_text ReportChecksum (n - sum_size)) e2.0) in
    let start : s ≡ start_of c.seal (wand_at x) (num_at x) = (bytes_eq-Decides s (start_of c.seal (wand_at x) (num_at x))).0 (kept_rule _ (in_text ReportStart 0) e4.0) in
    let fits : v ≤ free = leb-true v free (kept_rule _ (in_book TooFewCells free) e5.0) in
    let nl : n ≡ text_size v = (count-is n sized-is).0 in
    let mix = mixable t o sized-is in
    let zl = mixed-size t sized-is in
    let xb = back c law s z mix in
    let sound = none-body v x xb.1 (xb.0 ∙ zl) few e3.0 in
    let body : body_of (report_at v x) ≡ x = body_back v x xb.1 (xb.0 ∙ zl) sound.lettered sound.counted in
    let parted : s ++ z ≡ y = ap (λ q. q ++ z) (sym (take-take start_size (n - sum_size) t (omega arith))) ∙ take-append-drop start_size y in
    let mixed : start_of c.seal (wand_at x) (num_at x) ++ enciphered c.seal (start_of c.seal (wand_at x) (num_at x)) (body_of (report_at v x)) ≡ y =
    ap₂ ◌++◌ (sym start) (ap₂ (enciphered c.seal) (sym start) body ∙ met c law s z mix) ∙ parted in
    let whole : t ≡ sealed c (report_at v x) = sym (ap (summed c) mixed ∙ ap (λ q. y ++ q) (sym sum) ∙ take-append-drop (n - sum_size) t) in
    subst (λ (q : Report). Sealed c free t q) is
    (record {
      lawful = sound.lawful;
      made = whole;
      room = omega (arith, length-visits_at v (drop head_size x));
    })

-- Lengths that no text has.
pub refused : (c : Sealer) (free : ℕ) (t : List ℕ) → sized (length t) ≡ false → open_answer c free t ≡ Err (in_text ReportLength 0)
unfolding open_answer
refused c free t e = rw e

pub odd-lengths : OddLengths
odd-lengths c free t (inl e) = refused c free t (ap sized e)
odd-lengths c free t (inr e) = refused c free t (ap sized e)
