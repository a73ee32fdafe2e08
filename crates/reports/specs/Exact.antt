-- Opening accepts exactly the texts that sealing makes of a lawful report, and answers that report.
use Rattle.std.specs.Prelude.{◌≡◌, ℕ, ◌≤◌, List, ◌++◌, length, Ok, Err, Result}
use Rattle.blocks.specs.declared.answers.Refusal.{Refusal}
use Rattle.reports.specs.declared.visit.Visit.{Visit}
use Rattle.reports.specs.declared.fault.Fault.{Fault}
use Rattle.reports.specs.declared.office.Opened.{Opened}
use Rattle.reports.specs.Layout.{Report}
use Rattle.reports.specs.Lawful.{Lawful}
use Rattle.reports.specs.Sealing.{Sealer, sealed, text_size}
use Rattle.reports.specs.Opening.{opened_of}

-- The text is what sealing makes of this lawful report, and the book has room for its visits.
pub record Sealed (s : Sealer) (free : ℕ) (t : List ℕ) (r : Report) : Type 0 where
  pub lawful : Lawful r
  pub made : t ≡ sealed s r
  pub room : length r.visits ≤ free

-- A text was opened with an answer, and the book's visits went from `before` to `after`. Accepted, there is such a report, it is what was answered, and its
-- visits were added in order at the end. Refused, there is none, and the visits are as they were.
abbrev pub OpensExactly : Sealer → ℕ → List ℕ → List Visit → List Visit → Result Opened Fault → Type 0
OpensExactly s free t before after (Ok o) =
    (r : Report) × Sealed s free t r × (Ok o ≡ opened_of (Ok r)) × (after ≡ before ++ r.visits)
OpensExactly s free t before after (Err f) = ((r : Report) → Sealed s free t r → ⊥) × (after ≡ before)

-- A list is sealed exactly where it is lawful and there is room.
pub record SealsExactly (r : Report) (room : ℕ) (answer : Result ℕ Refusal) : Type 0 where
  pub only : (n : ℕ) → answer ≡ Ok n → Lawful r × (n ≡ text_size (length r.visits)) × (n ≤ room)
  pub every : Lawful r → text_size (length r.visits) ≤ room → answer ≡ Ok (text_size (length r.visits))
