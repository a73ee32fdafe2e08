-- Walks over a list of next numbers: cell n, from 1, has its next number at the place n - 1, and 0 ends a walk.
use Rattle.std.specs.Prelude.{ℕ, zero, suc, ◌+◌, cond, List, [], ◌∷◌, length, ◌==◌, slice_index, slice_set}

-- The next number of cell n.
abbrev pub after : List ℕ → ℕ → ℕ
after nexts zero = 0
after nexts (suc i) = slice_index nexts i

-- A list with another entry for cell n.
abbrev pub put : {A : Type 0} → List A → ℕ → A → List A
put xs zero x = xs
put xs (suc i) x = slice_set xs i x

-- The entry of cell n, as a list of one; of none where there is no such cell.
abbrev pub value_of : {A : Type 0} → List A → ℕ → List A
value_of [] n = []
value_of (x ∷ xs) zero = []
value_of (x ∷ xs) (suc zero) = x ∷ []
value_of (x ∷ xs) (suc (suc i)) = value_of xs (suc i)

-- The numbers met from a start, in at most so many steps.
abbrev pub walk : List ℕ → ℕ → ℕ → List ℕ
walk nexts zero n = []
walk nexts (suc steps) zero = []
walk nexts (suc steps) (suc i) = suc i ∷ walk nexts steps (slice_index nexts i)

-- The same in one step more than there are cells: a walk that meets no more numbers than there are cells has come to its end.
abbrev pub numbers : List ℕ → ℕ → List ℕ
numbers nexts start = walk nexts (suc (length nexts)) start

-- How many times a number stands in a list.
abbrev pub times : ℕ → List ℕ → ℕ
times n [] = 0
times n (x ∷ xs) = cond (n == x) 1 0 + times n xs

-- The last number of a list, 0 where it is empty.
abbrev pub last_of : List ℕ → ℕ
last_of [] = 0
last_of (x ∷ []) = x
last_of (x ∷ (y ∷ ys)) = last_of (y ∷ ys)
