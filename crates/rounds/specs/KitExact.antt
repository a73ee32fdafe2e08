-- The kit accepts exactly what wrapping makes of a key under its header, and gives the keys of that key.
use Rattle.std.specs.Prelude.{◌≡◌, ℕ, ◌*◌, ◌≤◌, true, List, ◌++◌, length, drop, Ok, Result}
use Rattle.blocks.specs.Octets.{Octets}
use Rattle.blocks.specs.declared.answers.Refusal.{Refusal}
use Rattle.belt.specs.Keys.{key_length}
use Rattle.modes.specs.Wrapping.{wrapped}
use Rattle.rounds.specs.Kits.{kit_keys, kit_size}

-- A key: octets, 16, 24 or 32 of them.
pub record Key (x : List ℕ) : Type 0 where
  pub octets : Octets x
  pub known : key_length (length x) ≡ true

-- A site key was wrapped to y under the header, and its three keys stand at the front of the output, which is past them as it was.
pub record FromKey (f : List ℕ → List ℕ) (header y : List ℕ) (site : ℕ) (out₀ out₁ : List ℕ) (n : ℕ) : Type 0 where
  pub key : List ℕ
  pub lawful : Key key
  pub size : n ≡ 3 * length key
  pub from : y ≡ wrapped f header key
  pub there : out₁ ≡ kit_keys key site ++ drop n out₀

-- Both ways of a call of the kit with an answer r.
pub record KitExact (f : List ℕ → List ℕ) (header y : List ℕ) (site scratch : ℕ) (out₀ out₁ : List ℕ) (r : Result ℕ Refusal) : Type 0 where
  pub only : (n : ℕ) → r ≡ Ok n → FromKey f header y site out₀ out₁ n
  pub every : (x : List ℕ) → Key x → y ≡ wrapped f header x → kit_size ≤ length out₀ → 272 ≤ scratch
      → (r ≡ Ok (3 * length x)) × (out₁ ≡ kit_keys x site ++ drop (3 * length x) out₀)
