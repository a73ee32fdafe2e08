-- Walks as roads: the numbers met from a start to an end, without a count of steps.
use Rattle.std.proofs.Common.{◌≡◌, ℕ, zero, suc, ◌+◌, ◌<◌, ◌≤◌, cond, eqb, List, [], ◌∷◌, ◌++◌, length, get_or, sym, refl, ap, subst, arith}
use Rattle.std.proofs.lemmas.List.{get_or-set_same, get_or-set_other, length-set}
use Rattle.std.proofs.lemmas.Bool.{eq-eqb, cond-true}
use Rattle.books.specs.Walks.{after, put, walk, times, last_of}

-- From n by the numbers of the list, all of them cells, to e.
abbrev pub Road : List ℕ → ℕ → List ℕ → ℕ → Type 0
Road nx n [] e = n ≡ e
Road nx n (x ∷ xs) e = (n ≡ x) × (0 < x) × Road nx (after nx x) xs e

pub road-walk : (nx : List ℕ) (f n : ℕ) → length (walk nx f n) < f → Road nx n (walk nx f n) 0
road-walk nx zero n h = omega arith
road-walk nx (suc f) zero h = refl
road-walk nx (suc f) (suc i) h = (refl, omega arith, road-walk nx f (get_or nx i 0) (omega arith))

pub walk-road : (nx xs : List ℕ) (f n : ℕ) → Road nx n xs 0 → length xs < f → walk nx f n ≡ xs
walk-road nx xs zero n r h = absurd (omega arith)
walk-road nx [] (suc f) zero r h = refl
walk-road nx [] (suc f) (suc i) r h = absurd (omega arith)
walk-road nx (x ∷ xs) (suc f) zero r h = absurd (omega arith)
walk-road nx (x ∷ xs) (suc f) (suc i) r h =
    let P : ℕ → Type 0 = λ y. Road nx (after nx y) xs 0 in
    let s : P (suc i) = subst P (sym r.0) r.2 in
    let ih : walk nx f (get_or nx i 0) ≡ xs = walk-road nx xs f (get_or nx i 0) s (omega arith) in
    cc (r.0, ih)

-- One entry put.
pub length-put : {A : Type 0} (xs : List A) (n : ℕ) (v : A) → length (put xs n v) ≡ length xs
length-put xs zero v = refl
length-put xs (suc i) v = length-set xs i v

pub after-put-other : (nx : List ℕ) (n v x : ℕ) → (x ≡ n → ⊥) → after (put nx n v) x ≡ after nx x
after-put-other nx zero v x h = refl
after-put-other nx (suc i) v zero h = refl
after-put-other nx (suc i) v (suc j) h = get_or-set_other nx i j v 0 (λ e. h (ap suc e))

pub after-put-same : (nx : List ℕ) (n v : ℕ) → 0 < n → n ≤ length nx → after (put nx n v) n ≡ v
after-put-same nx zero v h l = absurd (omega arith)
after-put-same nx (suc i) v h l = get_or-set_same nx i v 0 l

-- How often a number stands in a list.
pub times-append : (n : ℕ) (xs ys : List ℕ) → times n (xs ++ ys) ≡ times n xs + times n ys
times-append n [] ys = omega arith
times-append n (x ∷ xs) ys = let ih = times-append n xs ys in omega arith

pub times-here : (n : ℕ) (xs : List ℕ) → times n (n ∷ xs) ≡ 1 + times n xs
times-here n xs = let u : cond {A = ℕ} (eqb n n) 1 0 ≡ 1 = cond-true (eqb n n) 1 0 (eq-eqb n n refl) in omega arith

pub times_none : (n x : ℕ) (xs : List ℕ) → times n (x ∷ xs) ≡ 0 → (x ≡ n → ⊥) × (times n xs ≡ 0)
times_none n x xs h =
    (λ e. let u : cond {A = ℕ} (eqb n x) 1 0 ≡ 1 = cond-true (eqb n x) 1 0 (eq-eqb n x (sym e)) in omega arith, omega arith)

-- Roads that do not meet the cell put, roads one after the other, and a road without its last cell.
pub road-put : (nx : List ℕ) (n v : ℕ) (xs : List ℕ) (m e : ℕ) → times n xs ≡ 0 → Road nx m xs e → Road (put nx n v) m xs e
road-put nx n v [] m e h r = r
road-put nx n v (x ∷ xs) m e h r =
    let t = times_none n x xs h in
    let a : after (put nx n v) x ≡ after nx x = after-put-other nx n v x t.0 in
    let P : ℕ → Type 0 = λ y. Road (put nx n v) y xs e in
    (r.0, r.1, subst P (sym a) (road-put nx n v xs (after nx x) e t.1 r.2))

pub road-append : (nx xs ys : List ℕ) (n m e : ℕ) → Road nx n xs m → Road nx m ys e → Road nx n (xs ++ ys) e
road-append nx [] ys n m e r s = let P : ℕ → Type 0 = λ y. Road nx y ys e in subst P (sym r) s
road-append nx (x ∷ xs) ys n m e r s = (r.0, r.1, road-append nx xs ys (after nx x) m e r.2 s)

pub road-cut : (nx xs : List ℕ) (x n e : ℕ) → Road nx n (xs ++ x ∷ []) e → Road nx n xs x × (0 < x) × (after nx x ≡ e)
road-cut nx [] x n e r = (r.0, r.1, r.2)
road-cut nx (y ∷ xs) x n e r =
    let t = road-cut nx xs x (after nx y) e r.2 in ((r.0, r.1, t.0), t.1, t.2)

-- The last number.
pub split-last : (xs : List ℕ) → 0 < length xs → (front : List ℕ) × (xs ≡ front ++ last_of xs ∷ [])
split-last [] h = absurd (omega arith)
split-last (x ∷ []) h = ([], refl)
split-last (x ∷ (y ∷ ys)) h =
    let t = split-last (y ∷ ys) (omega arith) in (x ∷ t.0, ap (λ l. x ∷ l) t.1)

pub last_of-push : (xs : List ℕ) (x : ℕ) → last_of (xs ++ x ∷ []) ≡ x
last_of-push [] x = refl
last_of-push (y ∷ []) x = refl
last_of-push (y ∷ (z ∷ zs)) x = last_of-push (z ∷ zs) x
