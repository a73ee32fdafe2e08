-- The blocks of a message, as the loop takes them in.
use Rattle.std.proofs.Common.{◌≡◌, ℕ, suc, ◌+◌, ◌-◌, ◌/◌, ◌<◌, ◌≤◌, min, cond, leb, List, ◌++◌, length, take, drop, replicate, Ok, Err, Result, sym, refl, ap, ◌∙◌, ap₂, ⊎_elim, arith}
use Rattle.std.proofs.lemmas.List.{take_all, take_at, drop_at, drop_all, drop-replicate, length-append}
use Rattle.std.proofs.lemmas.Bool.{cases_lt}
use Rattle.std.proofs.lemmas.Bool.Decides.{nat_tests}
use Rattle.blocks.specs.declared.answers.Refusal.{Refusal}
use Rattle.blocks.specs.declared.answers.Refusal.TheVariants.{LongMessage}
use Rattle.belt.specs.declared.hash.Running.{Running}
use Rattle.blocks.specs.Octets.{longest}
use Rattle.belt.specs.Hash.{padded, start, absorbed, absorbed_all, finished, hash_of, hash_answer}

-- a text's octets, as many as there are but 32 at most
at_most : (x : List ℕ) (n : ℕ) → n ≡ min (length x) 32 → take n x ≡ take 32 x
at_most x n is =
    ⊎_elim
    (λ (h : length x < 32). take_all n x (omega arith) ∙ sym (take_all 32 x (omega arith)))
    (λ (h : 32 ≤ length x). let k : n ≡ 32 = omega arith in ap (λ m. take m x) k)
    (cases_lt (length x) 32)

-- and what is left after them
at_most_left : (x : List ℕ) (n : ℕ) → n ≡ min (length x) 32 → drop 32 x ≡ drop n x
at_most_left x n is =
    ⊎_elim
    (λ (h : length x < 32). drop_all 32 x (omega arith) ∙ sym (drop_all n x (omega arith)))
    (λ (h : 32 ≤ length x). let k : 32 ≡ n = omega arith in ap (λ m. drop m x) k)
    (cases_lt (length x) 32)

zeros-left : (o w n m : ℕ) → w - n ≡ m → drop n (replicate w o) ≡ replicate m o
zeros-left o w n m e = drop-replicate n w o ∙ ap (λ k. replicate k o) e

-- a piece as it is copied over zeros
pub filled-up : (x w : List ℕ) → length x ≤ 32 → w ≡ x → w ++ drop (length x) (replicate 32 0) ≡ padded x
filled-up x w le e = ap₂ ◌++◌ (e ∙ sym (take_all 32 x le)) (zeros-left 0 32 (length x) (32 - length x) (omega arith))

-- all the blocks of a text
abbrev pub absorbed_whole : Running → List ℕ → Running
absorbed_whole k x = absorbed_all ((length x + 31) / 32) k x

-- nothing is left
pub absorbed-none : (k : Running) (x : List ℕ) → length x ≡ 0 → absorbed_whole k x ≡ k
unfolding absorbed_all
absorbed-none k x e = let n : (length x + 31) / 32 ≡ 0 = omega arith in ap (λ j. absorbed_all j k x) n

-- a piece of 32 octets, or of what there is, and the rest
pub absorbed-piece : (k : Running) (x y rest : List ℕ) → x ≡ y ++ rest → length y ≡ min 32 (length x) → 0 < length x
    → absorbed_whole k x ≡ absorbed_whole (absorbed k (padded y)) rest
unfolding absorbed_all
absorbed-piece k x y rest e long some =
    let total : length x ≡ length y + length rest = ap length e ∙ length-append y rest in
    let m = (length rest + 31) / 32 in
    let more : (length x + 31) / 32 ≡ suc m = omega arith in
    let front : y ≡ take 32 x = sym (ap (take (length y)) e ∙ take_at y rest (length y) refl) ∙ at_most x (length y) (omega arith) in
    let same : padded x ≡ padded y =
    ap₂ (λ t n. t ++ replicate n 0) (sym front ∙ sym (take_all 32 y (omega arith))) (omega arith) in
    let left : drop 32 x ≡ rest = at_most_left x (length y) (omega arith) ∙ ap (drop (length y)) e ∙ drop_at y rest (length y) refl in
    ap (λ j. absorbed_all j k x) more ∙ ap₂ (λ b r. absorbed_all m (absorbed k b) r) same left

-- a message that is not too long is hashed
allowed : (x y : List ℕ) → length x ≤ longest → ◌≡◌ {A = Result (List ℕ) Refusal} (Ok y) (cond (leb (length x) longest) (Ok y) (Err LongMessage))
allowed x y h = grind (arith, nat_tests)

-- the answer, once all blocks are taken in
pub accepted : (x rest r : List ℕ) (k : Running) → length x ≤ longest → length rest ≡ 0
    → absorbed_whole k rest ≡ absorbed_whole start x
    → r ≡ finished k (length x)
    → Ok r ≡ hash_answer x
accepted x rest r k h none inv e =
    let all : k ≡ absorbed_whole start x = sym (absorbed-none k rest none) ∙ inv in
    let same : r ≡ hash_of x = e ∙ ap (λ q. finished q (length x)) all in
    ap Ok same ∙ allowed x (hash_of x) h
