-- What the answers of reading tell of a list: for callers that read its elements one after the other.
use Rattle.std.proofs.Common.{◌≡◌, ℕ, zero, suc, ◌+◌, ◌<◌, ◌≤◌, List, [], ◌∷◌, ◌++◌, length, take, Some, None, sym, ap, ◌∙◌, add-one, arith}
use Rattle.std.specs.List.{slice_get}
use Rattle.std.proofs.lemmas.List.{take_more}
use Rattle.std.proofs.lemmas.Option.{slice_get_within, get_or_from_slice_get}
use Rattle.books.specs.Lists.{kth}

nth-none : {A : Type 0} (xs : List A) (i : ℕ) → None ≡ slice_get xs i → length xs ≤ i
nth-none [] i e = omega arith
nth-none (x ∷ xs) zero e = let z : ◌≡◌ {A = ℕ} 0 1 = cc in absurd (omega arith)
nth-none (x ∷ xs) (suc i) e = let t = nth-none xs i e in omega arith

-- An element that is read is the next one of the list.
pub kth-some : {A : Type 0} (xs : List A) (i : ℕ) (v : A) → Some v ≡ kth xs (i + 1) → (i < length xs) × (take (i + 1) xs ≡ take i xs ++ v ∷ [])
kth-some xs i v e =
    let h : slice_get xs i ≡ Some v = sym (e ∙ ap (kth xs) (add-one i)) in
    let l : i < length xs = slice_get_within xs i v h in
    (l, take_more xs i v l ∙ ap (λ w. take i xs ++ w ∷ []) (get_or_from_slice_get xs i v v h))

-- Where none is read, the list is at its end.
pub kth-none : {A : Type 0} (xs : List A) (i : ℕ) → None ≡ kth xs (i + 1) → length xs ≤ i
kth-none xs i e = nth-none xs i (e ∙ ap (kth xs) (add-one i))
