-- The k-th element, by a walk.
use Rattle.std.proofs.Common.{◌≡◌, ℕ, zero, suc, ◌+◌, ◌<◌, ◌≤◌, List, [], ◌∷◌, ◌++◌, length, get_or, Some, sym, refl, ap, ◌∙◌, add-one, arith}
use Rattle.std.specs.List.{slice_get, flat_map}
use Rattle.std.proofs.lemmas.List.{length-map}
use Rattle.books.specs.Books.{elements, used_cells}
use Rattle.books.specs.Chains.{nexts, values}
use Rattle.books.specs.Lists.{kth}
use Rattle.books.specs.Walks.{after, times, value_of}
use Rattle.books.specs.declared.book.Book.{Book}
use Rattle.books.proofs.Roads.{Road, times-here}
use Rattle.books.proofs.Steps.{held}
use Rattle.books.proofs.Changes.{one_value, in_values}

-- The numbers on a road, one after the other.
get_or-road : (nx xs : List ℕ) (n : ℕ) → Road nx n xs 0 → n ≡ get_or xs 0 0
get_or-road nx [] n r = r
get_or-road nx (x ∷ xs) n r = r.0

after-road : (nx xs : List ℕ) (n i : ℕ) → Road nx n xs 0 → i < length xs → after nx (get_or xs i 0) ≡ get_or xs (suc i) 0
after-road nx [] n i r h = absurd (omega arith)
after-road nx (x ∷ xs) n zero r h = get_or-road nx xs (after nx x) r.2
after-road nx (x ∷ xs) n (suc i) r h = after-road nx xs (after nx x) i r.2 (omega arith)

times-get_or : (xs : List ℕ) (s : ℕ) → s < length xs → 0 < times (get_or xs s 0) xs
times-get_or [] s h = absurd (omega arith)
times-get_or (x ∷ xs) zero h = omega (arith, times-here x xs)
times-get_or (x ∷ xs) (suc s) h = let k = times-get_or xs s (omega arith) in omega arith

-- A cell's element stands in the list where its number stands on the chain.
nth-skip : {A : Type 0} (l m : List A) (i : ℕ) → length l ≡ 1 → slice_get (l ++ m) (suc i) ≡ slice_get m i
nth-skip [] m i h = absurd (omega arith)
nth-skip (x ∷ []) m i h = refl
nth-skip (x ∷ (y ∷ ys)) m i h = absurd (omega arith)

nth-joined : {A : Type 0} (vs : List A) (xs : List ℕ) (s : ℕ) (v : A) → ((x : ℕ) → 0 < times x xs → (0 < x) × (x ≤ length vs)) → s < length xs → value_of vs (get_or xs s 0) ≡ v ∷ [] → slice_get (flat_map (value_of vs) xs) s ≡ Some v
nth-joined vs [] s v h l e = absurd (omega arith)
nth-joined vs (x ∷ xs) zero v h l e = ap (λ w. slice_get (w ++ flat_map (value_of vs) xs) 0) e
nth-joined vs (x ∷ xs) (suc s) v h l e =
    let k = h x (omega (arith, times-here x xs)) in
    nth-skip (value_of vs x) (flat_map (value_of vs) xs) s (one_value vs x k.0 k.1)
    ∙ nth-joined vs xs s v (λ y t. h y (omega arith)) (omega arith) e

-- The k-th cell on the used chain, from 1.
unfoldable pub used_cell : {T : Type 0} → Book T → ℕ → ℕ
used_cell b zero = 0
used_cell b (suc i) = get_or (used_cells b) i 0

-- The first, the next one, and that each is a cell with the element at its place.
pub used_first : {T : Type 0} (b : Book T) → b.chain.first ≡ used_cell b 1
unfolding used_cell
used_first b =
    get_or-road (nexts b.cells.now) (used_cells b) b.chain.first (held (nexts b.cells.now) b.chain b.sound).in_use

pub used_next : {T : Type 0} (b : Book T) (k : ℕ) → 0 < k → k ≤ b.chain.count → after (nexts b.cells.now) (used_cell b k) ≡ used_cell b (k + 1)
unfolding used_cell
used_next b zero p h = absurd (omega arith)
used_next b (suc i) p h =
    after-road (nexts b.cells.now) (used_cells b) b.chain.first i (held (nexts b.cells.now) b.chain b.sound).in_use (omega (arith, b.sound.3))
    ∙ ap (used_cell b) (sym (add-one (suc i)))

pub used_in : {T : Type 0} (b : Book T) (k : ℕ) → 0 < k → k ≤ b.chain.count → (0 < used_cell b k) × (used_cell b k ≤ length b.cells.now)
unfolding used_cell
used_in b zero p h = absurd (omega arith)
used_in b (suc i) p h =
    let g = in_values b (get_or (used_cells b) i 0) (times-get_or (used_cells b) i (omega (arith, b.sound.3))) in
    (g.0, omega (arith, g.1, length-map b.cells.now (λ x. x.value)))

pub kth_used : {T : Type 0} (b : Book T) (k n : ℕ) (v : T) → 0 < k → k ≤ b.chain.count → n ≡ used_cell b k → value_of (values b.cells.now) n ≡ v ∷ [] → Some v ≡ kth (elements b) k
unfolding used_cell
kth_used b zero n v p h at e = absurd (omega arith)
kth_used b (suc i) n v p h at e =
    sym (nth-joined (values b.cells.now) (used_cells b) i v (in_values b) (omega (arith, b.sound.3))
    (ap (value_of (values b.cells.now)) (sym at) ∙ e))
