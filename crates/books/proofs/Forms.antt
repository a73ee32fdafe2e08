-- All the cells on the free chain.
use Rattle.std.proofs.Common.{◌≡◌, ℕ, zero, suc, ◌+◌, ◌-◌, ◌<◌, ◌≤◌, cond, eqb, List, [], ◌∷◌, length, sym, refl, ap, ◌∙◌, subst, ⊎_elim, arith}
use Rattle.std.proofs.lemmas.List.{length-map}
use Rattle.std.proofs.lemmas.Bool.{ne_eqb, eq-eqb, cond-true, cond-false, cases_eq, cases_lt}
use Rattle.books.specs.Walks.{after, put, times}
use Rattle.books.specs.Chains.{nexts, cell_times, Sound, Parted, most_cells}
use Rattle.books.specs.declared.links.Cell.{Cell}
use Rattle.books.specs.declared.links.Chain.{Chain}
use Rattle.books.proofs.Roads.{Road, length-put, after-put-same, road-put}
use Rattle.books.proofs.Steps.{sound, cell-once, cell-past}

-- The m numbers above n.
abbrev pub above : ℕ → ℕ → List ℕ
above n zero = []
above n (suc m) = suc n ∷ above (suc n) m

length_above : (n m : ℕ) → length (above n m) ≡ m
length_above n zero = refl
length_above n (suc m) = ap suc (length_above (suc n) m)

times_below : (n m k : ℕ) → k ≤ n → times k (above n m) ≡ 0
times_below n zero k h = refl
times_below n (suc m) k h =
    let u : cond {A = ℕ} (eqb k (suc n)) 1 0 ≡ 0 = cond-false (eqb k (suc n)) 1 0 (ne_eqb k (suc n) (λ e. omega arith)) in
    omega (arith, times_below (suc n) m k (omega arith))

times-past : (n m k : ℕ) → n + m < k → times k (above n m) ≡ 0
times-past n zero k h = refl
times-past n (suc m) k h =
    let u : cond {A = ℕ} (eqb k (suc n)) 1 0 ≡ 0 = cond-false (eqb k (suc n)) 1 0 (ne_eqb k (suc n) (λ e. omega arith)) in
    omega (arith, times-past (suc n) m k (omega arith))

times-among : (n m k : ℕ) → n < k → k ≤ n + m → times k (above n m) ≡ 1
times-among n zero k h l = absurd (omega arith)
times-among n (suc m) k h l =
    ⊎_elim
    (λ (e : k ≡ suc n).
    let u : cond {A = ℕ} (eqb k (suc n)) 1 0 ≡ 1 = cond-true (eqb k (suc n)) 1 0 (eq-eqb k (suc n) e) in
    omega (arith, times_below (suc n) m k (omega arith)))
    (λ (ne : k ≡ suc n → ⊥).
    let u : cond {A = ℕ} (eqb k (suc n)) 1 0 ≡ 0 = cond-false (eqb k (suc n)) 1 0 (ne_eqb k (suc n) ne) in
    omega (arith, times-among (suc n) m k (omega (arith, h, ne)) (omega arith)))
    (cases_eq k (suc n))

times-all : (n k : ℕ) → times k (above 0 n) ≡ cell_times n k
times-all n zero = times_below 0 n 0 (omega arith)
times-all n (suc i) =
    ⊎_elim (λ (l : n < suc i). times-past 0 n (suc i) (omega arith) ∙ sym (cell-past n (suc i) l))
    (λ (l : suc i ≤ n). times-among 0 n (suc i) (omega arith) (omega arith) ∙ sym (cell-once n (suc i) (omega arith) l))
    (cases_lt n (suc i))

-- The cells above n are linked, each to the one after it, and the first of them is free.
unfoldable pub Formed : {T : Type 0} → List (Cell T) → ℕ → ℕ → Type 0
Formed cells n free = Road (nexts cells) free (above n (length cells - n)) 0

pub formed_none : {T : Type 0} (cells : List (Cell T)) (n : ℕ) → n ≡ length cells → Formed cells n 0
unfolding Formed
formed_none cells n e = let z : length cells - n ≡ 0 = omega arith in rw z

pub formed_more : {T : Type 0} (cells cells' : List (Cell T)) (n free : ℕ) → 0 < n → n ≤ length cells → nexts cells' ≡ put (nexts cells) n free → Formed cells n free → Formed cells' (n - 1) n
unfolding Formed
formed_more cells cells' zero free p l e r = absurd (omega arith)
formed_more {T = T} cells cells' (suc k) free p l e r =
    let nx : List ℕ = nexts cells in
    let len : length cells' ≡ length cells = sym (length-map cells' (λ c. c.next)) ∙ ap length e ∙ length-put nx (suc k) free ∙ length-map cells (λ c. c.next) in
    let m : ℕ = length cells - suc k in
    let a : length cells' - (suc k - 1) ≡ suc m = omega arith in
    let b : suc k - 1 ≡ k = omega arith in
    let rest : Road (put nx (suc k) free) free (above (suc k) m) 0 = road-put nx (suc k) free (above (suc k) m) free 0 (times_below (suc k) m (suc k) (omega arith)) r in
    let s : after (put nx (suc k) free) (suc k) ≡ free = after-put-same nx (suc k) free p (omega (arith, length-map cells (λ c. c.next))) in
    let P : ℕ → Type 0 = λ z. Road (put nx (suc k) free) z (above (suc k) m) 0 in
    let whole : Road (put nx (suc k) free) (suc k) (above k (suc m)) 0 = (refl, p, subst P (sym s) rest) in
    let Q : List ℕ → Type 0 = λ y. Road y (suc k) (above k (suc m)) 0 in
    let R : ℕ → Type 0 = λ j. Road (nexts cells') (suc k) (above k j) 0 in
    let S : ℕ → Type 0 = λ j. Road (nexts cells') (suc k) (above j (length cells' - (suc k - 1))) 0 in
    subst S (sym b) (subst R (sym a) (subst Q (sym e) whole))

pub formed_all : {T : Type 0} (cells : List (Cell T)) (free : ℕ) → length cells ≤ most_cells → Formed cells 0 free → Sound cells (record { first = 0; last = 0; free = free; count = 0 })
unfolding Formed
formed_all {T = T} cells free few r =
    let nx : List ℕ = nexts cells in
    let n : ℕ = length cells in
    let c : Chain = record { first = 0; last = 0; free = free; count = 0 } in
    let z : n - 0 ≡ n = omega arith in
    let P : ℕ → Type 0 = λ j. Road nx free (above 0 j) 0 in
    let Q : ℕ → Type 0 = λ j. Parted j c [] (above 0 n) in
    let p : Parted n c [] (above 0 n) = (
      omega (arith, length_above 0 n),
      λ k. omega (arith, times-all n k),
      refl,
      refl,
      few,
    ) in
    sound nx c [] (above 0 n) (record { in_use = refl; unused = subst P z r; parted = subst Q (sym (length-map cells (λ x. x.next))) p })

-- For the goals that need no answer.
pub ruleset forming = (formed_none, formed_more, formed_all)
