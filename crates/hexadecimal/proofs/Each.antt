-- A text of digits, digit by digit and pair by pair.
use Rattle.std.proofs.Common.{◌≡◌, ℕ, zero, suc, ◌+◌, ◌*◌, ◌/◌, ◌<◌, ◌≤◌, Bool, true, List, [], ◌∷◌, ◌&&◌, length, get_or, drop, refl, sym, ap, ap₂, ◌∙◌, arith}
use Rattle.std.proofs.lemmas.List.{at_drop_more, at_drop_all}
use Rattle.std.proofs.lemmas.List.Elements.{All-get_or}
use Rattle.std.proofs.lemmas.List.Sums.{AllPass-from_list_all}
use Rattle.std.specs.Simd.{first_chunks}
use Rattle.hexadecimal.specs.Digits.{is_digit, all_digits, octet_at}

-- The k-th pair of a text.
pair_at : (n : ℕ) (text : List ℕ) (k : ℕ) → k < n → n * 2 ≤ length text
    → get_or (first_chunks 2 n text) k [] ≡ get_or text (2 * k) 0 ∷ get_or text (2 * k + 1) 0 ∷ []
pair_at zero text k h l = absurd (omega arith)
pair_at (suc n) [] k h l = absurd (omega arith)
pair_at (suc n) (x ∷ []) k h l = absurd (omega arith)
pair_at (suc n) (x ∷ y ∷ rest) zero h l = refl
pair_at (suc n) (x ∷ y ∷ rest) (suc j) h l =
    let even : suc (suc (2 * j)) ≡ 2 * suc j = omega arith in
    let odd : suc (suc (2 * j + 1)) ≡ 2 * suc j + 1 = omega arith in
    let at : ℕ → ℕ = λ i. get_or (x ∷ y ∷ rest) i 0 in
    pair_at n rest j (omega arith) (omega arith) ∙ ap₂ (λ a b. a ∷ b ∷ []) (ap at even) (ap at odd)

digit_at : (text : List ℕ) (k : ℕ) → all_digits text ≡ true → k < length text → is_digit (get_or text k 0) ≡ true
digit_at text k a h = All-get_or (λ c. is_digit c ≡ true) text k 0 h (AllPass-from_list_all is_digit text a)

-- Each pair of a text of digits is one too, and writes the octet of its place.
pub pair_digits : (text : List ℕ) (k : ℕ) → all_digits text ≡ true → k < length text / 2
    → all_digits (get_or (first_chunks 2 (length text / 2) text) k []) ≡ true
pair_digits text k a h =
    ap all_digits (pair_at (length text / 2) text k h (omega arith))
    ∙ ap₂ (λ s t. s && (t && true)) (digit_at text (2 * k) a (omega arith)) (digit_at text (2 * k + 1) a (omega arith))

pub pair_octet : (text : List ℕ) (k : ℕ) → k < length text / 2 → octet_at (get_or (first_chunks 2 (length text / 2) text) k []) 0 ≡ octet_at text k
pair_octet text k h = ap (λ p. octet_at p 0) (pair_at (length text / 2) text k h (omega arith))

-- The loop over a text: the test of the digit at i and of what follows is the test of all.
pub digits_more : (text : List ℕ) (i : ℕ) (b : Bool) → i < length text → b ≡ is_digit (get_or text i 0)
    → all_digits (drop i text) ≡ all_digits text → (b && all_digits (drop (i + 1) text)) ≡ all_digits text
digits_more text i b h e inv = ap (λ t. t && all_digits (drop (i + 1) text)) e ∙ sym (at_drop_more (λ x. all_digits x) text i 0 h) ∙ inv

pub digits-all : (text : List ℕ) (i : ℕ) → length text ≤ i → all_digits (drop i text) ≡ all_digits text → true ≡ all_digits text
digits-all text i h inv = sym (at_drop_all (λ x. all_digits x) text i h) ∙ inv
