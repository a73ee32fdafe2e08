-- What an answer of unwrapping tells.
use Rattle.std.proofs.Common.{◌≡◌, ℕ, ◌+◌, ◌-◌, ◌≤◌, Bool, true, false, List, ◌++◌, length, take, drop, Ok, Err, Decides, Result, sym, ap, ◌∙◌, ap₂, arith}
use Rattle.std.proofs.lemmas.List.{length-append, length-take-le, take-append-drop, take_at, drop_at}
use Rattle.std.proofs.lemmas.Bool.Decides.{nat_tests, same_from_decides}
use Rattle.blocks.specs.Octets.{Octets, Sixteen}
use Rattle.blocks.specs.Same.{same}
use Rattle.blocks.specs.Written.{written}
use Rattle.blocks.specs.declared.answers.Refusal.{Refusal}
use Rattle.blocks.specs.declared.answers.Refusal.TheVariants.{HeaderDiffers}
use Rattle.blocks.specs.Octetwise.{octets-take}
use Rattle.blocks.proofs.Sameness.{same_true, same_self}
use Rattle.modes.specs.Wrapping.{wrapped, unwrapped}
use Rattle.modes.specs.WrapAnswers.{by_tests, unwrap_answer}
use Rattle.blocks.specs.Steps.{Lands}
use Rattle.modes.specs.WrapExact.{KeyText, Found, UnwrapsExactly}
use Rattle.modes.proofs.WrapSteps.{wrap-exact, wrapped-keeps, unwrapped-keeps}

-- an accepted text passed every test, and one that passes all is accepted or refused by its header
pub record Passed (m n : ℕ) (b : Bool) : Type 0 where
  pub size : n ≡ m - 16
  pub least : 32 ≤ m
  pub most : m ≤ 272
  pub test : b ≡ true

passed : (m scratch room n : ℕ) (b : Bool) → by_tests m scratch room b ≡ Ok n → Passed m n b
passed m scratch room n b e = record {
  size = grind (arith, nat_tests);
  least = grind (arith, nat_tests);
  most = grind (arith, nat_tests);
  test = grind (arith, nat_tests);
}

pub tests-ok : (m scratch room : ℕ) (b : Bool) → 32 ≤ m → m ≤ 272 → m - 16 ≤ room → 272 ≤ scratch → b ≡ true → Ok (m - 16) ≡ by_tests m scratch room b
tests-ok m scratch room b l h k s e = grind (arith, nat_tests)

pub tests-header : (m scratch room : ℕ) (b : Bool) → 32 ≤ m → m ≤ 272 → m - 16 ≤ room → 272 ≤ scratch → b ≡ false
    → Err HeaderDiffers ≡ by_tests m scratch room b
tests-header m scratch room b l h k s e = grind (arith, nat_tests)

-- what the call wrote and answered, by its definitions
module _ (f : List ℕ → List ℕ) (lands : Lands f) (header y out₀ out₁ : List ℕ) (scratch : ℕ) (r : Result ℕ Refusal) (s : Sixteen header) (o : Octets y)
    (answer : r ≡ unwrap_answer f header y scratch (length out₀))
    (text : out₁ ≡ written r (take (length y - 16) (unwrapped f y)) out₀) where
  found : (n : ℕ) → r ≡ Ok n → Found f header y out₀ out₁ n
  found n is =
      let m = length y - 16 in
      let u = unwrapped f y in
      let p = passed (length y) scratch (length out₀) n (same (drop m u) header) (sym answer ∙ is) in
      let like = unwrapped-keeps f lands y o p.least in
      let size : length (take m u) ≡ m = length-take-le m u (omega (arith, like.0)) in
      let keyed = octets-take m u like.1 in
      let e : u ≡ take m u ++ header = sym (take-append-drop m u) ∙ ap (λ z. take m u ++ z) (same_true (drop m u) header p.test) in
      record {
        key = take m u;
        lawful = record { octets = keyed; least = omega (arith, size, p.least); most = omega (arith, size, p.most) };
        size = size ∙ sym p.size;
        from = (wrap-exact f lands header (take m u) y s keyed (omega (arith, size, p.least)) o p.least).forth e;
        there = text ∙ ap (λ q. written q (take m u) out₀) is;
      }

  given : (x : List ℕ) → KeyText x → y ≡ wrapped f header x → length x ≤ length out₀ → 272 ≤ scratch
      → (r ≡ Ok (length x)) × (out₁ ≡ x ++ drop (length x) out₀)
  given x k from room work =
      let m = length y - 16 in
      let u = unwrapped f y in
      let long : length y ≡ length x + 16 =
      omega (arith, ap length from, (wrapped-keeps f lands header x s k.octets k.least).0, length-append x header, s.0) in
      let size : m ≡ length x = omega (arith, long) in
      let e : u ≡ x ++ header = (wrap-exact f lands header x y s k.octets k.least o (omega (arith, long, k.least))).back from in
      let test : same (drop m u) header ≡ true = ap (λ z. same z header) (ap (drop m) e ∙ drop_at x header m (sym size)) ∙ same_self header in
      let is : r ≡ Ok m =
      answer ∙ sym (tests-ok (length y) scratch (length out₀) (same (drop m u) header) (omega (arith, long, k.least)) (omega (arith, long, k.most)) (omega (arith, long, room)) work test) in
      let key : take m u ≡ x = ap (take m) e ∙ take_at x header m (sym size) in (
        is ∙ ap Ok size,
        text ∙ ap (λ q. written q (take m u) out₀) is ∙ ap₂ (λ a b. a ++ drop b out₀) key size,
      )

  pub exactly : UnwrapsExactly f header y scratch out₀ out₁ r
  exactly = record { only = found; every = given }

-- the test of the last sixteen octets, as the code takes it
pub header-same : (y u header got : List ℕ) (m : ℕ) (b : Bool) → u ≡ y → got ≡ drop (m - 16) u → Decides b (got ≡ header)
    → b ≡ same (drop (m - 16) y) header
header-same y u header got m b e is h =
    let d : got ≡ drop (m - 16) y = is ∙ ap (drop (m - 16)) e in
    same_from_decides b (same (drop (m - 16) y) header) h
    ((λ t. d ∙ same_true (drop (m - 16) y) header t), (λ t. ap (λ z. same z header) (sym d ∙ t) ∙ same_self header))
