-- How a mode goes through a row of pieces. What it keeps on the way is sixteen octets.
use Rattle.std.specs.Prelude.{ℕ, cond, List, [], ◌∷◌, length, ◌==◌}

-- A mode that takes a short last piece as it takes a whole one: its answer to a piece, and what it keeps after it,
-- both from what it kept before and from the piece.
pub record Stream : Type 0 where
  pub turn : List ℕ → List ℕ → List ℕ
  pub next : List ℕ → List ℕ → List ℕ

abbrev pub streamed : Stream → List ℕ → List (List ℕ) → List (List ℕ)
streamed M kept [] = []
streamed M kept (p ∷ ps) = M.turn kept p ∷ streamed M (M.next kept p) ps

-- A mode that takes a short last piece q only together with the whole piece p before it: `full` is then its answer of sixteen octets, which
-- stands in p's place, and `last` its answer as long as q, which stands at the end.
pub record Steal : Type 0 where
  pub turn : List ℕ → List ℕ → List ℕ
  pub next : List ℕ → List ℕ → List ℕ
  pub full : List ℕ → List ℕ → List ℕ → List ℕ
  pub last : List ℕ → List ℕ → List ℕ → List ℕ

-- From the piece p on.
abbrev pub stolen : Steal → List ℕ → List ℕ → List (List ℕ) → List (List ℕ)
stolen M kept p [] = M.turn kept p ∷ []
stolen M kept p (q ∷ qs) =
    cond (length q == 16)
    (M.turn kept p ∷ stolen M (M.next kept p) q qs)
    (M.full kept p q ∷ M.last kept p q ∷ [])

abbrev pub stealing : Steal → List ℕ → List (List ℕ) → List (List ℕ)
stealing M kept [] = []
stealing M kept (p ∷ ps) = stolen M kept p ps
