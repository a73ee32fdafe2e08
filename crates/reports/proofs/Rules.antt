-- A body breaks no rule exactly where its report is lawful.
use Rattle.std.proofs.Common.{◌≡◌, ℕ, zero, suc, ◌+◌, ◌*◌, ◌≤◌, Bool, true, false, ◌&&◌, eqb, ltb, leb, List, [], ◌∷◌, length, take, drop, Some, None, Ok, Err, Option, Result, refl, ap, ◌∙◌, arith}
use Rattle.std.specs.Str.{bytes_eq}
use Rattle.std.proofs.lemmas.Slice.Eq.{bytes_eq-Decides}
use Rattle.std.proofs.lemmas.List.{length-drop}
use Rattle.std.proofs.lemmas.Bool.{and_parts, and_from, ltb-true, leb-true, eqb-true, lt-ltb, le-leb, eq-eqb}
use Rattle.reports.specs.declared.visit.Visit.{Visit}
use Rattle.reports.specs.declared.fault.Fault.{Fault}
use Rattle.blocks.specs.declared.answers.Refusal.TheVariants.{ReportHeader, UnlawfulVisit}
use Rattle.blocks.specs.Octets.{Octets}
use Rattle.reports.specs.Layout.{Report, letters, head_size, visit_size, most_visits, body_size, body_of, visit_at, visits_at, wand_at, num_at, count_at, site_at, report_at}
use Rattle.reports.specs.Lawful.{Lawful, LawfulVisits, most_number}
use Rattle.reports.specs.Sealing.{numbered, visit_ok}
use Rattle.reports.specs.Faults.{in_body, rule, unless, or_else}
use Rattle.reports.specs.Opening.{head_fault, visits_fault, body_fault}
use Rattle.blocks.specs.Octetwise.{octets-drop}
use Rattle.reports.proofs.FieldsAt.{at_lt}
use Rattle.reports.proofs.Bodies.{wand-there, num-there, count-there, site-there, visits-there, length-visits_at}

-- A rule with no fault is kept, and the other way round.
pub kept_rule : (b : Bool) (f : Fault) → rule b f ≡ None → b ≡ true
kept_rule true f e = refl
kept_rule false f e = cc

pub rule-kept : (b : Bool) (f : Fault) → b ≡ true → rule b f ≡ None
rule-kept b f e = rw e

pub both-none : (a b : Option Fault) → a ≡ None → b ≡ None → or_else a b ≡ None
both-none a b p q = rw (p, q)

pub none_both : (a b : Option Fault) → or_else a b ≡ None → (a ≡ None) × (b ≡ None)
none_both None b e = (refl, e)
none_both (Some f) b e = cc

pub past : {A : Type 0} (o : Option Fault) (x y : Result A Fault) → o ≡ None → x ≡ y → unless o x ≡ y
past o x y p q = rw (p, q)

pub passed : {A : Type 0} (o : Option Fault) (x : Result A Fault) (a : A) → unless o x ≡ Ok a → (o ≡ None) × (x ≡ Ok a)
passed None x a e = (refl, e)
passed (Some f) x a e = cc

-- Lawful reports break no rule.
pub visits-none : (at last : ℕ) (vs : List Visit) → LawfulVisits last vs → visits_fault at last vs ≡ None
visits-none at last [] h = refl
visits-none at last (v ∷ vs) h =
    both-none _ _
    (rule-kept (visit_ok last v) (in_body UnlawfulVisit at)
    (and_from _ _ (lt-ltb 0 v.checkpoint h.0.named) (and_from _ _ (lt-ltb last v.read h.0.later) (le-leb v.read most_number h.0.within))))
    (visits-none (at + visit_size) v.read vs h.1)

pub body-none : (r : Report) → Lawful r → body_fault (length r.visits) (body_of r) ≡ None
body-none r h =
    let w = wand-there r h in
    let n = num-there r h in
    both-none _ _
    (both-none _ _ refl
    (both-none _ _ (rule-kept _ (in_body ReportHeader 4) (lt-ltb 0 (wand_at (body_of r)) (omega (arith, h.wand_named))))
    (both-none _ _ (rule-kept _ (in_body ReportHeader 8) (and_from _ _ (lt-ltb 0 (num_at (body_of r)) (omega (arith, h.numbered))) (le-leb (num_at (body_of r)) most_number (omega (arith, h.number_within)))))
    (both-none _ _ (rule-kept _ (in_body ReportHeader 12) (eq-eqb (count_at (body_of r)) (length r.visits) (count-there r h)))
    (rule-kept _ (in_body ReportHeader 14) (lt-ltb 0 (site_at (body_of r)) (omega (arith, site-there r h, h.site_named))))))))
    (ap (visits_fault head_size 0) (visits-there 0 r.visits h.rising) ∙ visits-none head_size 0 r.visits h.rising)

-- A body that breaks no rule has a lawful report.
none-visits : (n at last : ℕ) (x : List ℕ) → Octets x → visit_size * n ≤ length x → visits_fault at last (visits_at n x) ≡ None → LawfulVisits last (visits_at n x)
none-visits zero at last x o h e = tt
none-visits (suc n) at last x o h e =
    let v = visit_at x in
    let p = none_both (rule (visit_ok last v) (in_body UnlawfulVisit at)) (visits_fault (at + visit_size) v.read (visits_at n (drop visit_size x))) e in
    let q = and_parts (ltb 0 v.checkpoint) (ltb last v.read && leb v.read most_number) (kept_rule (visit_ok last v) (in_body UnlawfulVisit at) p.0) in
    let s = and_parts (ltb last v.read) (leb v.read most_number) q.1 in (
      record {
        named = ltb-true 0 v.checkpoint q.0;
        later = ltb-true last v.read s.0;
        within = leb-true v.read most_number s.1;
        checkpoint_fits = at_lt 0 2 x o (omega arith);
        serial_fits = at_lt 2 4 x o (omega arith);
        time_fits = at_lt 6 4 x o (omega arith);
      },
      none-visits n (at + visit_size) v.read (drop visit_size x) (octets-drop visit_size x o) (omega (arith, length-drop visit_size x)) p.1,
    )

-- What a body says that breaks no rule.
pub record Sound (v : ℕ) (x : List ℕ) : Type 0 where
  pub lettered : take 4 x ≡ letters
  pub counted : count_at x ≡ v
  pub lawful : Lawful (report_at v x)

pub none-body : (v : ℕ) (x : List ℕ) → Octets x → length x ≡ body_size v → v ≤ most_visits → body_fault v x ≡ None → Sound v x
none-body v x o l few e =
    let p = none_both (head_fault v x) (visits_fault head_size 0 (visits_at v (drop head_size x))) e in
    let a = none_both (rule (bytes_eq (take 4 x) letters) (in_body ReportHeader 0)) _ p.0 in
    let b = none_both (rule (ltb 0 (wand_at x)) (in_body ReportHeader 4)) _ a.1 in
    let d = none_both (rule (numbered (num_at x)) (in_body ReportHeader 8)) _ b.1 in
    let f = none_both (rule (eqb (count_at x) v) (in_body ReportHeader 12)) (rule (ltb 0 (site_at x)) (in_body ReportHeader 14)) d.1 in
    let n = and_parts (ltb 0 (num_at x)) (leb (num_at x) most_number) (kept_rule (numbered (num_at x)) (in_body ReportHeader 8) d.0) in
    record {
      lettered = (bytes_eq-Decides (take 4 x) letters).0 (kept_rule _ (in_body ReportHeader 0) a.0);
      counted = eqb-true (count_at x) v (kept_rule _ (in_body ReportHeader 12) f.0);
      lawful = record {
        wand_named = ltb-true 0 (wand_at x) (kept_rule _ (in_body ReportHeader 4) b.0);
        wand_fits = at_lt 4 4 x o (omega arith);
        numbered = ltb-true 0 (num_at x) n.0;
        number_within = leb-true (num_at x) most_number n.1;
        site_named = ltb-true 0 (site_at x) (kept_rule _ (in_body ReportHeader 14) f.1);
        site_fits = at_lt 14 2 x o (omega arith);
        few = omega (arith, length-visits_at v (drop head_size x));
        rising = none-visits v head_size 0 (drop head_size x) (octets-drop head_size x o) (omega (arith, length-drop head_size x)) p.1;
      };
    }

-- The first of two faults is the fault of both.
pub first-fault : {A : Type 0} (o q : Option Fault) (h k : A) (f : Fault) → Err f ≡ unless o (Ok h) → Err f ≡ unless (or_else o q) (Ok k)
first-fault (Some w) q h k f e = e
first-fault None q h k f e = cc
