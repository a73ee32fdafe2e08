-- Cells as two lists: their next numbers and their values.
use Rattle.std.proofs.Common.{◌≡◌, ℕ, zero, suc, ◌-◌, ◌<◌, ◌≤◌, List, [], ◌∷◌, length, get_or, set, sym, refl, ap, ◌∙◌, arith}
use Rattle.std.proofs.lemmas.List.{get_or-map, map-set, set-get_or}
use Rattle.books.specs.declared.links.Cell.{Cell}
use Rattle.books.specs.Walks.{after, put, value_of}
use Rattle.books.specs.Chains.{nexts, values}

set-put : {A : Type 0} (xs : List A) (n : ℕ) (v : A) → 0 < n → set xs (n - 1) v ≡ put xs n v
set-put xs zero v h = absurd (omega arith)
set-put xs (suc i) v h = let e : suc i - 1 ≡ i = omega arith in rw e

-- Cell n is read.
pub next_read : {T : Type 0} (cells : List (Cell T)) (n : ℕ) (d : Cell T) → 0 < n → n ≤ length cells → (get_or cells (n - 1) d).next ≡ after (nexts cells) n
next_read cells zero d h l = absurd (omega arith)
next_read cells (suc i) d h l = let e : suc i - 1 ≡ i = omega arith in rw e (sym (get_or-map (λ c. c.next) cells i d 0 l))

value_at : {T : Type 0} (cs : List (Cell T)) (i : ℕ) (d : Cell T) → i < length cs → value_of (values cs) (suc i) ≡ (get_or cs i d).value ∷ []
value_at [] i d l = absurd (omega arith)
value_at (x ∷ xs) zero d l = refl
value_at (x ∷ xs) (suc i) d l = value_at xs i d (omega arith)

pub value_read : {T : Type 0} (cells : List (Cell T)) (n : ℕ) (d : Cell T) → 0 < n → n ≤ length cells → value_of (values cells) n ≡ (get_or cells (n - 1) d).value ∷ []
value_read cells zero d h l = absurd (omega arith)
value_read cells (suc i) d h l = let e : suc i - 1 ≡ i = omega arith in rw e (value_at cells i d l)

-- Cell n is another.
pub nexts-set : {T : Type 0} (cells : List (Cell T)) (n : ℕ) (x : Cell T) → 0 < n → nexts (set cells (n - 1) x) ≡ put (nexts cells) n x.next
nexts-set cells n x h = map-set (λ c. c.next) cells (n - 1) x ∙ set-put (nexts cells) n x.next h

pub values-set : {T : Type 0} (cells : List (Cell T)) (n : ℕ) (x : Cell T) → 0 < n → values (set cells (n - 1) x) ≡ put (values cells) n x.value
values-set cells n x h = map-set (λ c. c.value) cells (n - 1) x ∙ set-put (values cells) n x.value h

-- Cell n is only linked elsewhere.
pub values-set_same : {T : Type 0} (cells : List (Cell T)) (n : ℕ) (x d : Cell T) → 0 < n → n ≤ length cells → x.value ≡ (get_or cells (n - 1) d).value → values (set cells (n - 1) x) ≡ values cells
values-set_same cells n x d h l e =
    map-set (λ c. c.value) cells (n - 1) x
    ∙ ap (set (values cells) (n - 1)) (e ∙ sym (get_or-map (λ c. c.value) cells (n - 1) d d.value (omega arith)))
    ∙ set-get_or (values cells) (n - 1) d.value

-- For the goals that need no answer.
pub ruleset rows = (next_read, value_read, nexts-set, values-set, values-set_same)
