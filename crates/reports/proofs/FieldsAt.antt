-- Numbers at places of a text.
use Rattle.std.proofs.Common.{◌≡◌, ℕ, zero, suc, ◌+◌, ◌^◌, ◌<◌, ◌≤◌, List, [], ◌∷◌, length, get_or, take, drop, arith, lit<}
use Rattle.std.specs.List.{AllByRecursion}
use Rattle.std.proofs.lemmas.List.{length-drop, length-take-le}
use Rattle.blocks.specs.Octets.{Octets}
use Rattle.blocks.specs.Fields.{field}
use Rattle.blocks.proofs.Numbers.{field-number-at, number_lt}
use Rattle.blocks.specs.Octetwise.{octets-take, octets-drop}
use Rattle.reports.specs.Places.{number_at}

-- a field of a text is what its number writes
pub field_at : (at w : ℕ) (x : List ℕ) → Octets x → at + w ≤ length x → field w (number_at at w x) ≡ take w (drop at x)
field_at at w x o h =
    field-number-at w (take w (drop at x)) (length-take-le w (drop at x) (omega (arith, length-drop at x))) (octets-take w (drop at x) (octets-drop at x o))

-- and its number fits
pub at_lt : (at w : ℕ) (x : List ℕ) → Octets x → at + w ≤ length x → number_at at w x < 256 ^ w
at_lt at w x o h =
    rw (length-take-le w (drop at x) (omega (arith, length-drop at x))) at (number_lt (take w (drop at x)) (octets-take w (drop at x) (octets-drop at x o)))

pub octets-all : (x : List ℕ) → AllByRecursion (λ d. d < 256) x → Octets x
octets-all [] h = λ k. lit< tt
octets-all (y ∷ x) h = λ k. elim k as (λ m. get_or (y ∷ x) m 0 < 256) [ zero ↦ h.0 | suc m ↦ octets-all x h.1 m ]
