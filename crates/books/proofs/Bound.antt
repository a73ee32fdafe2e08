-- What every book keeps.
use Rattle.std.proofs.Common.{◌≡◌, ℕ, zero, suc, ◌+◌, ◌<◌, ◌≤◌, ◌⊎◌, inl, inr, List, [], ◌∷◌, length, arith}
use Rattle.std.proofs.lemmas.List.{length-map}
use Rattle.books.specs.Books.{elements, capacity, used_cells, free_cells, EachOnOneChain}
use Rattle.books.specs.Chains.{nexts, most_cells}
use Rattle.books.specs.Walks.{times, last_of}
use Rattle.books.specs.declared.book.Book.{Book}
use Rattle.books.proofs.Roads.{times-here}
use Rattle.books.proofs.Changes.{free-held, used-held, in_values, length_elements}
use Rattle.books.proofs.Kth.{used_first, used_next, used_in}
use Rattle.books.proofs.Steps.{on_one, fresh, leaving}

one_of_two : (a b : ℕ) → a + b ≡ 1 → ((a ≡ 1) × (b ≡ 0)) ⊎ ((a ≡ 0) × (b ≡ 1))
one_of_two zero b e = inr (omega arith, omega arith)
one_of_two (suc a) b e = inl (omega arith, omega arith)

pub each_on_one : {T : Type 0} (b : Book T) → EachOnOneChain b
unfolding EachOnOneChain
each_on_one b n l m =
    one_of_two (times n (used_cells b)) (times n (free_cells b))
    (on_one _ b.chain (used_cells b) (free_cells b) b.sound n l (omega (arith, length-map b.cells.now (λ x. x.next))))

-- The numbers in its chain are cells'.
pub first_in : {T : Type 0} (b : Book T) → 0 < b.chain.first → b.chain.first ≤ length b.cells.now
first_in b p =
    let nx : List ℕ = nexts b.cells.now in
    let r = used-held nx b.chain b.sound p in
    let t = leaving nx b.chain r.0 (free_cells b) r.1 in
    omega (arith, t.1, length-map b.cells.now (λ x. x.next))

pub free_in : {T : Type 0} (b : Book T) → 0 < b.chain.free → b.chain.free ≤ length b.cells.now
free_in b p =
    let nx : List ℕ = nexts b.cells.now in
    let r = free-held nx b.chain b.sound p in
    let t = fresh nx b.chain (used_cells b) r.0 r.1 in
    omega (arith, t.1, length-map b.cells.now (λ x. x.next))

last-times : (xs : List ℕ) → 0 < last_of xs → 0 < times (last_of xs) xs
last-times [] h = absurd (omega arith)
last-times (x ∷ []) h = omega (arith, times-here x [])
last-times (x ∷ (y ∷ ys)) h = let k = last-times (y ∷ ys) h in omega arith

pub last_in : {T : Type 0} (b : Book T) → 0 < b.chain.last → b.chain.last ≤ length b.cells.now
last_in b p =
    let used : List ℕ = used_cells b in
    let t : 0 < times (last_of used) used = last-times used (omega (arith, b.sound.2)) in
    omega (arith, (in_values b (last_of used) t).1, b.sound.2, length-map b.cells.now (λ x. x.value))

-- There is room exactly where a cell is free.
pub within : {T : Type 0} (b : Book T) → (b.chain.count ≤ capacity b) × (capacity b ≤ most_cells)
within b =
    let e : length (nexts b.cells.now) ≡ capacity b = length-map b.cells.now (λ x. x.next) in
    (omega (arith, b.sound.0, b.sound.3), omega (arith, b.sound.4))

pub full : {T : Type 0} (b : Book T) → b.chain.free ≡ 0 → length (elements b) ≡ capacity b
full b z =
    let e : length (free_cells b) ≡ 0 = rw z in
    omega (arith, length_elements b, b.sound.0, b.sound.3, length-map b.cells.now (λ x. x.next))

pub room : {T : Type 0} (b : Book T) → 0 < b.chain.free → length (elements b) < capacity b
room b p =
    let r = free-held (nexts b.cells.now) b.chain b.sound p in
    omega (arith, length_elements b, r.1.parted.0, b.sound.3, length-map b.cells.now (λ x. x.next))

-- For the goals that need no answer.
pub ruleset kept = (each_on_one, first_in, last_in, free_in, length_elements, within, full, room, used_first, used_next, used_in)
