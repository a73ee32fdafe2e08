-- The loop over the whole pieces of a text, two at a time.
use Rattle.std.proofs.Common.{◌≡◌, ℕ, zero, suc, ◌+◌, ◌-◌, ◌*◌, ◌/◌, ◌%◌, ◌<◌, ◌≤◌, ◌⊎◌, List, [], ◌∷◌, ◌++◌, length, take, drop, get_or, sym, refl, ap, ◌∙◌, ap₂, inr, ⊎_elim, arith}
use Rattle.std.specs.Simd.{first_chunks}
use Rattle.std.proofs.lemmas.List.{append_assoc, length-append, length-drop, drop-drop, take-append-drop, drop-take, take-take, nil_from_length, take_all, get_or-drop}
use Rattle.std.proofs.lemmas.Bool.{cases_lt}
use Rattle.modes.specs.Pieces.{cut}

-- A piece by its place.
pub cut-at : (n i : ℕ) (x : List ℕ) → i < n → get_or (cut n x) i [] ≡ take 16 (drop (16 * i) x)
cut-at zero i x h = absurd (omega arith)
cut-at (suc n) zero x h = refl
cut-at (suc n) (suc i) x h =
    let e : 16 + 16 * i ≡ 16 * suc i = omega arith in
    cut-at n i (drop 16 x) (omega arith) ∙ ap (take 16) (drop-drop (16 * i) 16 x ∙ ap (λ k. drop k x) e)

-- The piece at a place, and what follows it.
piece-at : (x p : List ℕ) (at : ℕ) → p ≡ take 16 (drop at x) → drop at x ≡ p ++ drop (at + 16) x
piece-at x p at e = sym (take-append-drop 16 (drop at x)) ∙ ap₂ ◌++◌ (sym e) (drop-drop 16 at x)

-- A piece within the front of a text.
pub front-at : (x : List ℕ) (k at : ℕ) → at + 16 ≤ k → take 16 (drop at (take k x)) ≡ take 16 (drop at x)
front-at x k at h =
    let e : k ≡ at + (k - at) = omega arith in
    ap (λ m. take 16 (drop at (take m x))) e ∙ ap (take 16) (drop-take at (k - at) x) ∙ take-take 16 (k - at) (drop at x) (omega arith)

length-cut : (n : ℕ) (x : List ℕ) → length (cut n x) ≡ n
length-cut zero x = refl
length-cut (suc n) x = ap suc (length-cut n (drop 16 x))

-- A pair by its place.
pair-at : (xs : List (List ℕ)) (k i : ℕ) → i < k → k * 2 ≤ length xs
    → get_or (first_chunks 2 k xs) i [] ≡ get_or xs (2 * i) [] ∷ get_or xs (2 * i + 1) [] ∷ []
pair-at xs zero i h l = absurd (omega arith)
pair-at [] (suc k) i h l = absurd (omega arith)
pair-at (a ∷ []) (suc k) i h l = absurd (omega arith)
pair-at (a ∷ b ∷ xs) (suc k) zero h l = refl
pair-at (a ∷ b ∷ xs) (suc k) (suc i) h l =
    let e : suc (suc (2 * i)) ≡ 2 * suc i = omega arith in
    let d : suc (suc (2 * i + 1)) ≡ 2 * suc i + 1 = omega arith in
    pair-at xs k i (omega arith) (omega arith)
    ∙ ap₂ (λ p q. p ∷ q ∷ []) (ap (λ j. get_or (a ∷ b ∷ xs) j []) e) (ap (λ j. get_or (a ∷ b ∷ xs) j []) d)

-- The two pieces of a pair, as they stand in the text, and what follows them.
pub paired : (t : List ℕ) (pieces : List (List ℕ)) (pairs : List (List (List ℕ))) (i : ℕ) → pieces ≡ cut (length t / 16) t
    → pairs ≡ first_chunks 2 (length pieces / 2) pieces → i < length t / 16 / 2
    → drop (32 * i) t ≡ get_or (get_or pairs i []) 0 [] ++ (get_or (get_or pairs i []) 1 [] ++ drop (32 * (i + 1)) t)
paired t pieces pairs i pieces-is pairs-is h =
    let n = length t / 16 in
    let size : length pieces ≡ n = ap length pieces-is ∙ length-cut n t in
    let pair : get_or pairs i [] ≡ get_or pieces (2 * i) [] ∷ get_or pieces (2 * i + 1) [] ∷ [] =
    ap (λ ps. get_or ps i []) pairs-is ∙ pair-at pieces (length pieces / 2) i (omega arith) (omega arith) in
    let first : get_or (get_or pairs i []) 0 [] ≡ take 16 (drop (16 * (2 * i)) t) =
    ap (λ p. get_or p 0 []) pair ∙ ap (λ ps. get_or ps (2 * i) []) pieces-is ∙ cut-at n (2 * i) t (omega arith) in
    let second : get_or (get_or pairs i []) 1 [] ≡ take 16 (drop (16 * (2 * i + 1)) t) =
    ap (λ p. get_or p 1 []) pair ∙ ap (λ ps. get_or ps (2 * i + 1) []) pieces-is ∙ cut-at n (2 * i + 1) t (omega arith) in
    let a : 32 * i ≡ 16 * (2 * i) = omega arith in
    let b : 16 * (2 * i) + 16 ≡ 16 * (2 * i + 1) = omega arith in
    let c : 16 * (2 * i + 1) + 16 ≡ 32 * (i + 1) = omega arith in
    ap (λ k. drop k t) a ∙ piece-at t _ (16 * (2 * i)) first
    ∙ ap (λ z. get_or (get_or pairs i []) 0 [] ++ z)
    (ap (λ k. drop k t) b ∙ piece-at t _ (16 * (2 * i + 1)) second ∙ ap (λ k. get_or (get_or pairs i []) 1 [] ++ drop k t) c)

-- The piece that no pair holds.
pub odd-one : (t : List ℕ) (pieces odd : List (List ℕ)) → pieces ≡ cut (length t / 16) t → odd ≡ drop (length pieces / 2 * 2) pieces
    → length t % 16 ≡ 0 → length t / 16 % 2 ≡ 1 → drop (32 * (length t / 16 / 2)) t ≡ get_or odd 0 []
odd-one t pieces odd pieces-is odd-is whole one =
    let n = length t / 16 in
    let size : length pieces ≡ n = ap length pieces-is ∙ length-cut n t in
    let at : length pieces / 2 * 2 + 0 ≡ n - 1 = omega arith in
    let place : 16 * (n - 1) ≡ 32 * (n / 2) = omega arith in
    let is : get_or odd 0 [] ≡ take 16 (drop (16 * (n - 1)) t) =
    ap (λ ps. get_or ps 0 []) odd-is ∙ get_or-drop (length pieces / 2 * 2) pieces 0 [] ∙ ap₂ (λ ps k. get_or ps k []) pieces-is at
    ∙ cut-at n (n - 1) t (omega arith) in
    sym (is ∙ take_all 16 (drop (16 * (n - 1)) t) (omega (arith, length-drop (16 * (n - 1)) t)) ∙ ap (λ k. drop k t) place)

-- What is written, with two answers more, and what is still to be made.
pub two-more : (out out' a b made rest whole : List ℕ) (at more : ℕ) → whole ≡ take at out ++ made → made ≡ a ++ (b ++ rest)
    → take more out' ≡ take at out ++ (a ++ b) → whole ≡ take more out' ++ rest
two-more out out' a b made rest whole at more inv step put =
    inv ∙ ap (λ z. take at out ++ z) (step ∙ sym (append_assoc a b rest)) ∙ sym (append_assoc (take at out) (a ++ b) rest) ∙ ap (λ z. z ++ rest) (sym put)

-- Before whole pieces as before what follows them: there is nothing, or enough.
pub follows : (t x : List ℕ) (least : ℕ) → (least ≡ 0) ⊎ (least ≡ 16) → length t % 16 ≡ 0
    → (x ≡ []) ⊎ (least ≤ length x) → (t ++ x ≡ []) ⊎ (least ≤ length (t ++ x))
follows t x least sized e h =
    ⊎_elim
    (λ (z : length t < 16). let none : t ≡ [] = nil_from_length t (omega arith) in rw none h)
    (λ (l : 16 ≤ length t).
    let few : least ≤ 16 = ⊎_elim (λ (z : least ≡ 0). omega arith) (λ (z : least ≡ 16). omega arith) sized in
    inr (omega (arith, length-append t x)))
    (cases_lt (length t) 16)
