-- Examples that follow from the definitions.
use Rattle.std.specs.Prelude.{◌≡◌, ℕ, ◌⊎◌, List, [], ◌∷◌, ◌++◌, length, replicate, Err}
use Rattle.blocks.specs.Steps.{bench}
use Rattle.blocks.specs.declared.answers.Refusal.TheVariants.{ReportLength}
use Rattle.reports.specs.Layout.{Report}
use Rattle.reports.specs.Sealing.{Sealer, sealer, sealed}
use Rattle.reports.specs.Faults.{in_text}
use Rattle.reports.specs.Opening.{open_answer}

-- Report 1 of wand 5 at site 1, with no visits.
abbrev pub empty_report : Report
empty_report = record { wand = 5; number = 1; site = 1; visits = [] }

-- Its text under two bench blocks of zero mask: 00000000000000000000000100000005 05010000010000010000000554505242 4252505405000000.
abbrev pub EmptySealed : Type 0
EmptySealed =
    sealed (sealer (bench (replicate 16 0)) (bench (replicate 16 0))) empty_report
    ≡ (0 ∷ 0 ∷ 0 ∷ 0 ∷ 0 ∷ 0 ∷ 0 ∷ 0 ∷ 0 ∷ 0 ∷ 0 ∷ 1 ∷ 0 ∷ 0 ∷ 0 ∷ 5 ∷ [])
    ++ ((5 ∷ 1 ∷ 0 ∷ 0 ∷ 1 ∷ 0 ∷ 0 ∷ 1 ∷ 0 ∷ 0 ∷ 0 ∷ 5 ∷ 84 ∷ 80 ∷ 82 ∷ 66 ∷ [])
    ++ (66 ∷ 82 ∷ 80 ∷ 84 ∷ 5 ∷ 0 ∷ 0 ∷ 0 ∷ []))

-- A text of 39 octets or of 41 is refused for its length, whatever it holds.
abbrev pub OddLengths : Type 0
OddLengths =
    (s : Sealer) (free : ℕ) (t : List ℕ) → (length t ≡ 39) ⊎ (length t ≡ 41) → open_answer s free t ≡ Err (in_text ReportLength 0)
