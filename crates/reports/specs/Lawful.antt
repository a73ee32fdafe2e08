-- Which reports are lawful.
use Rattle.std.specs.Prelude.{ℕ, ◌^◌, ◌<◌, ◌≤◌, List, [], ◌∷◌, length}
use Rattle.reports.specs.declared.visit.Visit.{Visit}
use Rattle.reports.specs.Layout.{Report, most_visits}

-- The last read number, and the last report number.
abbrev pub most_number : ℕ
most_number = 60000

-- A visit is lawful after the read number `last`: it has a checkpoint, a later read number, and numbers that fit their fields.
pub record LawfulVisit (last : ℕ) (v : Visit) : Type 0 where
  pub named : 0 < v.checkpoint
  pub later : last < v.read
  pub within : v.read ≤ most_number
  pub checkpoint_fits : v.checkpoint < 2 ^ 16
  pub serial_fits : v.serial < 2 ^ 32
  pub time_fits : v.time < 2 ^ 32

-- Read numbers rise strictly from above `last`.
abbrev pub LawfulVisits : ℕ → List Visit → Type 0
LawfulVisits last [] = Unit {0}
LawfulVisits last (v ∷ vs) = LawfulVisit last v × LawfulVisits v.read vs

-- Wand and site are named, the report's number is in range, there are not too many visits, and each is lawful after the one before it.
pub record Lawful (r : Report) : Type 0 where
  pub wand_named : 0 < r.wand
  pub wand_fits : r.wand < 2 ^ 32
  pub numbered : 0 < r.number
  pub number_within : r.number ≤ most_number
  pub site_named : 0 < r.site
  pub site_fits : r.site < 2 ^ 16
  pub few : length r.visits ≤ most_visits
  pub rising : LawfulVisits 0 r.visits
