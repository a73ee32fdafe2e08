-- The layout of a report's body: what is written of a report, and what is read from octets.
use Rattle.std.specs.Prelude.{ℕ, zero, suc, ◌+◌, ◌*◌, List, [], ◌∷◌, ◌++◌, length, drop}
use Rattle.std.specs.List.{flat_map}
use Rattle.blocks.specs.Fields.{field}
use Rattle.reports.specs.Places.{number_at}
use Rattle.reports.specs.declared.visit.Header.{Header}
use Rattle.reports.specs.declared.visit.Visit.{Visit}

-- The letters that a body begins with: BRPT.
abbrev pub letters : List ℕ
letters = 66 ∷ 82 ∷ 80 ∷ 84 ∷ []

-- The octets before the visits, those of a visit, and the most visits.
abbrev pub head_size : ℕ
head_size = 16

abbrev pub visit_size : ℕ
visit_size = 14

abbrev pub most_visits : ℕ
most_visits = 512

-- The octets of a body with v visits.
abbrev pub body_size : ℕ → ℕ
body_size v = head_size + visit_size * v

-- A report: who sealed it, its number, the site, and the visits in walking order.
pub record Report : Type 0 where
  pub wand : ℕ
  pub number : ℕ
  pub site : ℕ
  pub visits : List Visit

abbrev pub report_of : Header → List Visit → Report
report_of h vs = record { wand = h.wand; number = h.number; site = h.site; visits = vs }

-- As written: a visit, what stands before the visits, and the whole body.
abbrev pub visit_of : Visit → List ℕ
visit_of v = field 2 v.checkpoint ++ (field 4 v.serial ++ (field 4 v.time ++ field 4 v.read))

abbrev pub head_of : ℕ → Report → List ℕ
head_of v r = letters ++ (field 4 r.wand ++ (field 4 r.number ++ (field 2 v ++ field 2 r.site)))

abbrev pub body_of : Report → List ℕ
body_of r = head_of (length r.visits) r ++ flat_map visit_of r.visits

-- As read: the same from octets.
abbrev pub visit_at : List ℕ → Visit
visit_at x = record {
  checkpoint = number_at 0 2 x;
  serial = number_at 2 4 x;
  time = number_at 6 4 x;
  read = number_at 10 4 x;
}

abbrev pub visits_at : ℕ → List ℕ → List Visit
visits_at zero x = []
visits_at (suc n) x = visit_at x ∷ visits_at n (drop visit_size x)

abbrev pub wand_at : List ℕ → ℕ
wand_at x = number_at 4 4 x

abbrev pub num_at : List ℕ → ℕ
num_at x = number_at 8 4 x

abbrev pub count_at : List ℕ → ℕ
count_at x = number_at 12 2 x

abbrev pub site_at : List ℕ → ℕ
site_at x = number_at 14 2 x

abbrev pub header_at : List ℕ → Header
header_at x = record { wand = wand_at x; number = num_at x; site = site_at x }

abbrev pub report_at : ℕ → List ℕ → Report
report_at v x = report_of (header_at x) (visits_at v (drop head_size x))
