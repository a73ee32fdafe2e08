-- Unwrapping accepts exactly what wrapping makes of a key text under its header, and answers that key text.
use Rattle.std.specs.Prelude.{◌≡◌, ℕ, ◌≤◌, List, ◌++◌, length, drop, Ok, Result}
use Rattle.blocks.specs.Octets.{Octets, Sixteen}
use Rattle.blocks.specs.Steps.{Lands}
use Rattle.blocks.specs.declared.answers.Refusal.{Refusal}
use Rattle.modes.specs.Wrapping.{wrapped, unwrapped}

-- The steps back from y leave x and the header exactly when y is what wrapping makes of x under the header.
pub record Exact (f : List ℕ → List ℕ) (header x y : List ℕ) : Type 0 where
  pub forth : unwrapped f y ≡ x ++ header → y ≡ wrapped f header x
  pub back : y ≡ wrapped f header x → unwrapped f y ≡ x ++ header

-- For every function, header, key text and text.
abbrev pub WrapExact : Type 0
WrapExact =
    (f : List ℕ → List ℕ) → Lands f → (header x y : List ℕ) → Sixteen header → Octets x → 16 ≤ length x → Octets y → 32 ≤ length y
    → Exact f header x y

-- A key text: 16 to 256 octets.
pub record KeyText (x : List ℕ) : Type 0 where
  pub octets : Octets x
  pub least : 16 ≤ length x
  pub most : length x ≤ 256

-- A key text of n octets was wrapped to y, and stands at the front of the output, which is past it as it was.
pub record Found (f : List ℕ → List ℕ) (header y out₀ out₁ : List ℕ) (n : ℕ) : Type 0 where
  pub key : List ℕ
  pub lawful : KeyText key
  pub size : length key ≡ n
  pub from : y ≡ wrapped f header key
  pub there : out₁ ≡ key ++ drop n out₀

-- Both ways of a call of unwrapping with an answer r: accepted is only what wrapping makes of some key text, and that key text is given;
-- and whatever wrapping makes of a key text is accepted where there is room, and that very key text is given.
pub record UnwrapsExactly (f : List ℕ → List ℕ) (header y : List ℕ) (scratch : ℕ) (out₀ out₁ : List ℕ) (r : Result ℕ Refusal) : Type 0 where
  pub only : (n : ℕ) → r ≡ Ok n → Found f header y out₀ out₁ n
  pub every : (x : List ℕ) → KeyText x → y ≡ wrapped f header x → length x ≤ length out₀ → 272 ≤ scratch
      → (r ≡ Ok (length x)) × (out₁ ≡ x ++ drop (length x) out₀)
