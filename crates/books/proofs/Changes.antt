-- The same of a book, with its elements.
use Rattle.std.proofs.Common.{◌≡◌, ℕ, zero, suc, ◌+◌, ◌-◌, ◌<◌, ◌≤◌, List, [], ◌∷◌, ◌++◌, length, sym, refl, ap, ◌∙◌, subst, ⊎_elim, arith}
use Rattle.std.specs.List.{flat_map}
use Rattle.std.proofs.lemmas.List.{flat_map_more, length-map, length-append}
use Rattle.std.proofs.lemmas.Bool.{cases_eq}
use Rattle.books.specs.Walks.{after, put, numbers, times, last_of, value_of}
use Rattle.books.specs.Books.{elements, used_cells, free_cells}
use Rattle.books.specs.Chains.{nexts, values, items, Sound, SoundAt}
use Rattle.books.specs.declared.book.Book.{Book}
use Rattle.books.specs.declared.links.Cell.{Cell}
use Rattle.books.specs.declared.links.Chain.{Chain}
use Rattle.books.proofs.Roads.{times_none, times-here}
use Rattle.books.proofs.Steps.{Held, held, used-is, sound, road-first, ranged, fresh, longer, add-first, add-more, shorter, take-held, left-none, left-some}

-- What stands at a cell, after one was put.
value_of-put-other : {A : Type 0} (vs : List A) (n : ℕ) (v : A) (x : ℕ) → (x ≡ n → ⊥) → value_of (put vs n v) x ≡ value_of vs x
value_of-put-other vs zero v x h = refl
value_of-put-other [] (suc i) v x h = refl
value_of-put-other (w ∷ ws) (suc zero) v zero h = refl
value_of-put-other (w ∷ ws) (suc zero) v (suc zero) h = absurd (h refl)
value_of-put-other (w ∷ ws) (suc zero) v (suc (suc j)) h = refl
value_of-put-other (w ∷ ws) (suc (suc i)) v zero h = refl
value_of-put-other (w ∷ ws) (suc (suc i)) v (suc zero) h = refl
value_of-put-other (w ∷ ws) (suc (suc i)) v (suc (suc j)) h = value_of-put-other ws (suc i) v (suc j) (λ e. h (ap suc e))

value_of-put-same : {A : Type 0} (vs : List A) (n : ℕ) (v : A) → 0 < n → n ≤ length vs → value_of (put vs n v) n ≡ v ∷ []
value_of-put-same vs zero v h l = absurd (omega arith)
value_of-put-same [] (suc i) v h l = absurd (omega arith)
value_of-put-same (w ∷ ws) (suc zero) v h l = refl
value_of-put-same (w ∷ ws) (suc (suc i)) v h l = value_of-put-same ws (suc i) v (omega arith) (omega arith)

joined-put : {A : Type 0} (vs : List A) (n : ℕ) (v : A) (xs : List ℕ) → times n xs ≡ 0 → flat_map (value_of (put vs n v)) xs ≡ flat_map (value_of vs) xs
joined-put vs n v [] h = refl
joined-put vs n v (x ∷ xs) h =
    let t = times_none n x xs h in
    let a : value_of (put vs n v) x ≡ value_of vs x = value_of-put-other vs n v x t.0 in
    let b : flat_map (value_of (put vs n v)) xs ≡ flat_map (value_of vs) xs = joined-put vs n v xs t.1 in
    cc (a, b)

add-items : {A : Type 0} (vs : List A) (n : ℕ) (v : A) (xs : List ℕ) → times n xs ≡ 0 → 0 < n → n ≤ length vs → flat_map (value_of (put vs n v)) (xs ++ n ∷ []) ≡ flat_map (value_of vs) xs ++ v ∷ []
add-items vs n v xs h p l =
    sym (flat_map_more (value_of (put vs n v)) [] xs n)
    ∙ ap (λ l. l ++ value_of (put vs n v) n) (joined-put vs n v xs h)
    ∙ ap (λ l. flat_map (value_of vs) xs ++ l) (value_of-put-same vs n v p l)

-- The free chain begins with its first cell, and the used one with its own.
pub free-held : (nx : List ℕ) (c : Chain) → SoundAt nx c → 0 < c.free → (rest : List ℕ) × Held nx c (numbers nx c.first) (c.free ∷ rest)
free-held nx c s p =
    let h = held nx c s in
    let r = road-first nx (numbers nx c.free) c.free h.unused p in
    let P : List ℕ → Type 0 = λ xs. Held nx c (numbers nx c.first) xs in
    (r.0, subst P r.1 h)

pub used-held : (nx : List ℕ) (c : Chain) → SoundAt nx c → 0 < c.first → (used : List ℕ) × Held nx c (c.first ∷ used) (numbers nx c.free) × (numbers nx c.first ≡ c.first ∷ used)
used-held nx c s p =
    let h = held nx c s in
    let r = road-first nx (numbers nx c.first) c.first h.in_use p in
    let P : List ℕ → Type 0 = λ xs. Held nx c xs (numbers nx c.free) in
    (r.0, subst P r.1 h, r.1)

-- One more element at the end.
abbrev pub Grown : {T : Type 0} → Book T → List (Cell T) → Chain → T → Type 0
Grown b cells' c' v = Sound cells' c' × (items cells' c' ≡ elements b ++ v ∷ [])

grown : {T : Type 0} (b : Book T) (cells' : List (Cell T)) (c' : Chain) (v : T) (rest : List ℕ) →
    Held (nexts b.cells.now) b.chain (used_cells b) (b.chain.free ∷ rest) →
    Held (nexts cells') c' (used_cells b ++ b.chain.free ∷ []) rest →
    values cells' ≡ put (values b.cells.now) b.chain.free v →
    Grown b cells' c' v
grown b cells' c' v rest h h' e =
    let cells = b.cells.now in
    let n : ℕ = b.chain.free in
    let used : List ℕ = used_cells b in
    let t = fresh (nexts cells) b.chain used rest h in
    let l : n ≤ length (values cells) = omega (arith, t.1, length-map cells (λ x. x.next), length-map cells (λ x. x.value)) in (
      sound (nexts cells') c' (used ++ n ∷ []) rest h',
      ap (λ xs. flat_map (value_of (values cells')) xs) (used-is (nexts cells') c' (used ++ n ∷ []) rest h')
          ∙ ap (λ vs. flat_map (value_of vs) (used ++ n ∷ [])) e
          ∙ add-items (values cells) n v used t.2 t.0 l,
    )

-- As the code leaves them, in words that fit both ways of linking: put at 0 changes nothing.
pub add_step : {T : Type 0} (b : Book T) (cells' : List (Cell T)) (v : T) (first' free' : ℕ) → 0 < b.chain.free →
    values cells' ≡ put (values b.cells.now) b.chain.free v →
    nexts cells' ≡ put (put (nexts b.cells.now) b.chain.free 0) b.chain.last b.chain.free →
    free' ≡ after (nexts b.cells.now) b.chain.free →
    (b.chain.last ≡ 0 → first' ≡ b.chain.free) → (0 < b.chain.last → first' ≡ b.chain.first) →
    Grown b cells' (record { first = first'; last = b.chain.free; free = free'; count = b.chain.count + 1 }) v
add_step {T = T} b cells' v first' free' p ev en ef z nz =
    let nx : List ℕ = nexts b.cells.now in
    let c : Chain = b.chain in
    let r = free-held nx c b.sound p in
    let used : List ℕ = used_cells b in
    let P : ℕ → Type 0 = λ m. Grown b cells' (record { first = first'; last = c.free; free = m; count = c.count + 1 }) v in
    let Q : ℕ → Type 0 = λ m. Grown b cells' (longer nx c m) v in
    let at : (first : ℕ) → Held (nexts cells') (longer nx c first) (used ++ c.free ∷ []) r.0 → Q first =
    λ first h. grown b cells' (longer nx c first) v r.0 r.1 h ev in
    subst P (sym ef)
    (⊎_elim
    (λ (e : c.last ≡ 0).
    let R : List ℕ → Type 0 = λ m. Held m (longer nx c c.free) (used ++ c.free ∷ []) r.0 in
    subst Q (sym (z e)) (at c.free (subst R (sym (en ∙ ap (λ l. put (put nx c.free 0) l c.free) e)) (add-first nx c used r.0 r.1 e))))
    (λ (ne : c.last ≡ 0 → ⊥).
    let q : 0 < c.last = omega (arith, ne) in
    let R : List ℕ → Type 0 = λ m. Held m (longer nx c c.first) (used ++ c.free ∷ []) r.0 in
    subst Q (sym (nz q)) (at c.first (subst R (sym en) (add-more nx c used r.0 r.1 q))))
    (cases_eq c.last 0))

-- The first element less.
pub take_step : {T : Type 0} (b : Book T) (cells' : List (Cell T)) (v : T) (first' last' : ℕ) → 0 < b.chain.first →
    nexts cells' ≡ put (nexts b.cells.now) b.chain.first b.chain.free →
    values cells' ≡ values b.cells.now →
    value_of (values b.cells.now) b.chain.first ≡ v ∷ [] →
    first' ≡ after (nexts b.cells.now) b.chain.first →
    (first' ≡ 0 → last' ≡ 0) → (0 < first' → last' ≡ b.chain.last) →
    Sound cells' (record { first = first'; last = last'; free = b.chain.first; count = b.chain.count - 1 })
    × (elements b ≡ v ∷ items cells' (record { first = first'; last = last'; free = b.chain.first; count = b.chain.count - 1 }))
take_step {T = T} b cells' v first' last' p en ev eg ef z nz =
    let cells = b.cells.now in
    let nx : List ℕ = nexts cells in
    let c : Chain = b.chain in
    let u : ℕ = c.first in
    let r = used-held nx c b.sound p in
    let used : List ℕ = r.0 in
    let rest : List ℕ = free_cells b in
    let h = r.1 in
    let el : last' ≡ last_of used =
    ⊎_elim (λ (e : first' ≡ 0). z e ∙ left-none nx used (after nx u) h.in_use.2 (sym ef ∙ e))
    (λ (ne : first' ≡ 0 → ⊥). let q : 0 < first' = omega (arith, ne) in nz q ∙ h.parted.2 ∙ left-some nx used u (after nx u) h.in_use.2 (omega (arith, ef)))
    (cases_eq first' 0) in
    let c' : Chain = record { first = first'; last = last'; free = u; count = c.count - 1 } in
    let P : List ℕ → Type 0 = λ m. Held m (shorter nx c last') used (u ∷ rest) in
    let Q : ℕ → Type 0 = λ m. Held (nexts cells') (record { first = m; last = last'; free = u; count = c.count - 1 }) used (u ∷ rest) in
    let h' : Held (nexts cells') c' used (u ∷ rest) = subst Q (sym ef) (subst P (sym en) (take-held nx c last' used rest h el)) in
    let ui : numbers (nexts cells') first' ≡ used = used-is (nexts cells') c' used (u ∷ rest) h' in (
      sound (nexts cells') c' used (u ∷ rest) h',
      ap (λ xs. flat_map (value_of (values cells)) xs) r.2
          ∙ ap (λ l. l ++ flat_map (value_of (values cells)) used) eg
          ∙ ap (λ xs. v ∷ flat_map (value_of (values cells)) xs) (sym ui)
          ∙ ap (λ vs. v ∷ flat_map (value_of vs) (numbers (nexts cells') first')) (sym ev),
    )

-- How many elements there are.
pub one_value : {A : Type 0} (vs : List A) (x : ℕ) → 0 < x → x ≤ length vs → length (value_of vs x) ≡ 1
one_value vs zero h l = absurd (omega arith)
one_value [] (suc i) h l = absurd (omega arith)
one_value (v ∷ vs) (suc zero) h l = refl
one_value (v ∷ vs) (suc (suc i)) h l = one_value vs (suc i) (omega arith) (omega arith)

length-joined : {A : Type 0} (vs : List A) (xs : List ℕ) → ((x : ℕ) → 0 < times x xs → (0 < x) × (x ≤ length vs)) → length (flat_map (value_of vs) xs) ≡ length xs
length-joined vs [] h = refl
length-joined vs (x ∷ xs) h =
    let k = h x (omega (arith, times-here x xs)) in
    let a : length (value_of vs x) ≡ 1 = one_value vs x k.0 k.1 in
    let b : length (value_of vs x ++ flat_map (value_of vs) xs) ≡ length (value_of vs x) + length (flat_map (value_of vs) xs) = length-append (value_of vs x) (flat_map (value_of vs) xs) in
    let d : length (flat_map (value_of vs) xs) ≡ length xs = length-joined vs xs (λ y t. h y (omega arith)) in
    omega arith

-- Each number on the used chain has an element.
pub in_values : {T : Type 0} (b : Book T) (x : ℕ) → 0 < times x (used_cells b) → (0 < x) × (x ≤ length (values b.cells.now))
in_values b x t =
    let nx : List ℕ = nexts b.cells.now in
    let k = ranged nx b.chain (used_cells b) (free_cells b) (held nx b.chain b.sound) x t in
    (k.0, omega (arith, k.1, length-map b.cells.now (λ y. y.next), length-map b.cells.now (λ y. y.value)))

pub length_elements : {T : Type 0} (b : Book T) → length (elements b) ≡ b.chain.count
length_elements b = length-joined (values b.cells.now) (used_cells b) (in_values b) ∙ sym b.sound.3
