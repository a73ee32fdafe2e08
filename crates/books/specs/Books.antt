-- What a book's contracts speak of: its elements, first to last, and its capacity.
use Rattle.std.specs.Prelude.{◌≡◌, ℕ, ◌<◌, ◌≤◌, ◌⊎◌, List, length}
use Rattle.books.specs.Chains.{nexts, items}
use Rattle.books.specs.Walks.{numbers, times}
use Rattle.books.specs.declared.book.Book.{Book}

-- The elements, first to last.
abbrev pub elements : {T : Type 0} → Book T → List T
elements b = items b.cells.now b.chain

-- How many elements it has room for in all.
abbrev pub capacity : {T : Type 0} → Book T → ℕ
capacity b = length b.cells.now

-- The numbers of the used cells, in the order of their elements, and those of the free ones.
abbrev pub used_cells : {T : Type 0} → Book T → List ℕ
used_cells b = numbers (nexts b.cells.now) b.chain.first

abbrev pub free_cells : {T : Type 0} → Book T → List ℕ
free_cells b = numbers (nexts b.cells.now) b.chain.free

-- Each of its cells, from 1, lies on exactly one of the two chains, and once.
unfoldable pub EachOnOneChain : {T : Type 0} → Book T → Type 0
EachOnOneChain b =
    (n : ℕ) → 0 < n → n ≤ capacity b →
    ((times n (used_cells b) ≡ 1) × (times n (free_cells b) ≡ 0)) ⊎ ((times n (used_cells b) ≡ 0) × (times n (free_cells b) ≡ 1))

-- Two books over the same lent cells, where one became the other.
abbrev pub SameCells : {T : Type 0} → Book T → Book T → Type 0
SameCells before after = after.cells.ghost_name ≡ before.cells.ghost_name
