-- What adding, taking and reading do, on plain lists.
use Rattle.std.specs.Prelude.{◌≡◌, ℕ, zero, suc, ◌<◌, List, [], ◌∷◌, ◌++◌, length, None, Option, Result}
use Rattle.std.specs.List.{slice_get}
use Rattle.std.specs.Option as Options
use Rattle.std.specs.Result as Results

-- An element goes to the end of a list that has room for one more; a full list answers that it is full, and stays as it was.
abbrev pub Adds : {A X E : Type 0} → ℕ → E → List A → A → List A → Result X E → Type 0
Adds capacity full before element after answer =
    Results.MatchResult answer
    (λ _. (length before < capacity) × (after ≡ before ++ element ∷ []))
    (λ e. (e ≡ full) × (length before ≡ capacity) × (after ≡ before))

-- The first element of a list is answered, and the others stay; of an empty list there is none, and it stays empty.
abbrev pub Takes : {A : Type 0} → List A → List A → Option A → Type 0
Takes before after answer =
    Options.MatchOption answer ((before ≡ []) × (after ≡ [])) (λ element. before ≡ element ∷ after)

-- The k-th of a list, from 1; none at 0, and none past the end.
abbrev pub kth : {A : Type 0} → List A → ℕ → Option A
kth xs zero = None
kth xs (suc i) = slice_get xs i
