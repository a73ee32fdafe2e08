-- Two chains over cells: every cell is used or free.
use Rattle.std.specs.Prelude.{◌≡◌, ℕ, zero, suc, ◌+◌, ◌≤◌, cond, List, map, length, nat_lt}
use Rattle.std.specs.List.{flat_map}
use Rattle.books.specs.Walks.{value_of, numbers, times, last_of}
use Rattle.books.specs.declared.links.Cell.{Cell}
use Rattle.books.specs.declared.links.Chain.{Chain}

-- The most cells that two chains are laid over.
abbrev pub most_cells : ℕ
most_cells = 4096

-- The next numbers and the elements, cell by cell.
abbrev pub nexts : {T : Type 0} → List (Cell T) → List ℕ
nexts cells = map (λ c. c.next) cells

abbrev pub values : {T : Type 0} → List (Cell T) → List T
values cells = map (λ c. c.value) cells

-- The elements, first to last: those of the cells on the used chain.
abbrev pub items : {T : Type 0} → List (Cell T) → Chain → List T
items cells chain = flat_map (value_of (values cells)) (numbers (nexts cells) chain.first)

-- How often a number stands on two chains that part n cells: once if it is a cell's, that is from 1 to n, and else never.
abbrev pub cell_times : ℕ → ℕ → ℕ
cell_times n zero = 0
cell_times n (suc i) = cond (nat_lt i n) 1 0

-- The used and the free chain part n cells between them: both come to their ends, each cell stands on exactly one of them, once, and
-- nothing else does; the used one's last cell and its length are known; and there are not too many cells.
abbrev pub Parted : ℕ → Chain → List ℕ → List ℕ → Type 0
Parted n chain used free =
    (length used + length free ≡ n)
    × ((k : ℕ) → times k used + times k free ≡ cell_times n k)
    × (chain.last ≡ last_of used)
    × (chain.count ≡ length used)
    × (n ≤ most_cells)

-- The same, of next numbers.
abbrev pub SoundAt : List ℕ → Chain → Type 0
SoundAt nexts chain = Parted (length nexts) chain (numbers nexts chain.first) (numbers nexts chain.free)

-- The cells are parted into the two chains that begin at the chain's first and at its free cell.
abbrev pub Sound : {T : Type 0} → List (Cell T) → Chain → Type 0
Sound cells chain = SoundAt (nexts cells) chain
