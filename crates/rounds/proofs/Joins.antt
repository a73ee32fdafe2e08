-- What is written after a front.
use Rattle.std.proofs.Common.{◌≡◌, ℕ, ◌-◌, ◌*◌, ◌≤◌, List, ◌++◌, length, drop, sym, ap, ◌∙◌, ap₂, arith}
use borrow.Rule.Slice.PartMut.{put_mid}
use Rattle.std.proofs.lemmas.List.{take_at, drop_at, drop_all, append-nil, append_assoc, length-append, length-drop}

pub put-after : (a b zs : List ℕ) (n k : ℕ) → length a ≡ n → length zs ≤ k → put_mid n k (a ++ zs) b ≡ a ++ b
put-after a b zs n k e l =
    ap₂ ◌++◌ (take_at a zs n e) (ap (λ r. b ++ r) (ap (drop k) (drop_at a zs n e) ∙ drop_all k zs l) ∙ append-nil b)

-- Three parts written one after another fill an output of three times their length.
pub put_three : (n : ℕ) (out a b c : List ℕ) → length out ≡ 3 * n → length a ≡ n → length b ≡ n
    → put_mid (2 * n) (3 * n - 2 * n) (put_mid n (2 * n - n) (a ++ drop (n - 0) out) b) c ≡ a ++ (b ++ c)
put_three n out a b c lo la lb =
    let r = drop (n - 0) out in
    let s = drop (2 * n - n) r in
    let e : put_mid n (2 * n - n) (a ++ r) b ≡ (a ++ b) ++ s
    = ap₂ (λ x y. x ++ (b ++ drop (2 * n - n) y)) (take_at a r n la) (drop_at a r n la) ∙ sym (append_assoc a b s) in
    ap (λ x. put_mid (2 * n) (3 * n - 2 * n) x c) e
    ∙ put-after (a ++ b) c s (2 * n) (3 * n - 2 * n) (simp length-append (omega arith)) (omega (arith, length-drop (2 * n - n) r, length-drop (n - 0) out))
    ∙ append_assoc a b c
