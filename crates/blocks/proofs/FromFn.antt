-- The items of an array that is made of calls at each of its places.
use Rattle.std.proofs.Common.{◌≡◌, ℕ, zero, suc, ◌+◌, ◌<◌, List, get_or, subst, ◌∙◌, arith}
use denote.Param.Members.{Mut, Called}
use Rattle.std.specs.Array.{IsFromFnResultFrom, IsFromFnResult}

-- Where each call keeps what is known of the callee and answers h, the items are those of h.
module _ {F : Type 0} (g : Mut F (ℕ × Unit {0}) ℕ) (K : F → Type 0) (h : ℕ → ℕ) (turn : (p : F) (i y : ℕ) (q : F) → K p → Called g p (i, tt) y q → (y ≡ h i) × K q) where
  pub made_from : (n i : ℕ) (f : F) (ys : List ℕ) → K f → IsFromFnResultFrom g f ys i n → (k : ℕ) → k < n → get_or ys (i + k) 0 ≡ h (i + k)
  made_from zero i f ys w e k l = absurd (omega arith)
  made_from (suc n) i f ys w e zero l =
      subst (λ j. get_or ys j 0 ≡ h j) (omega arith) (e.2.1 0 ∙ (turn f i e.1 e.0 w e.3).0)
  made_from (suc n) i f ys w e (suc k) l =
      subst (λ j. get_or ys j 0 ≡ h j) (omega arith) (made_from n (i + 1) e.0 ys (turn f i e.1 e.0 w e.3).1 e.4 k (omega arith))

  -- From the first place on.
  pub made : (n : ℕ) (f : F) (ys : List ℕ) → K f → IsFromFnResult g f ys n → (k : ℕ) → k < n → get_or ys k 0 ≡ h k
  made n f ys w e k l = subst (λ j. get_or ys j 0 ≡ h j) (omega arith) (made_from n 0 f ys w e.each k l)
