-- What a block means.
use Rattle.std.specs.Prelude.{◌≡◌, ℕ, List, reverse}
use Rattle.blocks.specs.Octets.{Sixteen, xor_each}

-- A forward image, and the way back from it.
pub record Step : Type 0 where
  pub image : List ℕ → List ℕ
  pub preimage : List ℕ → List ℕ

-- f takes sixteen octets to sixteen octets; it need not be reversible.
abbrev pub Lands : (List ℕ → List ℕ) → Type 0
Lands f = (p : List ℕ) → Sixteen p → Sixteen (f p)

-- On sixteen octets the two undo each other.
pub record Reversible (m : Step) : Type 0 where
  pub forth : (p : List ℕ) → Sixteen p → Sixteen (m.image p)
  pub back : (c : List ℕ) → Sixteen c → Sixteen (m.preimage c)
  pub undone : (p : List ℕ) → Sixteen p → m.preimage (m.image p) ≡ p
  pub met : (c : List ℕ) → Sixteen c → m.image (m.preimage c) ≡ c

-- p is the one block of sixteen octets whose image is c.
pub record OnlyOne (f : List ℕ → List ℕ) (c p : List ℕ) : Type 0 where
  pub block : Sixteen p
  pub meets : f p ≡ c
  pub alone : (q : List ℕ) → Sixteen q → f q ≡ c → q ≡ p

-- Under every reversible meaning, each c has exactly one such block, the preimage.
abbrev pub OnePreimage : Type 0
OnePreimage = (m : Step) → Reversible m → (c : List ℕ) → Sixteen c → OnlyOne m.image c (m.preimage c)

-- The bench block: octet j of the image is octet 15 - j of p, exclusive-or octet j of the mask.
abbrev pub bench : List ℕ → Step
bench mask = record {
  image = λ p. xor_each (reverse p) mask;
  preimage = λ c. reverse (xor_each c mask);
}

-- The pair block: the second's image of the first's.
abbrev pub and_then : Step → Step → Step
and_then a b = record {
  image = λ p. b.image (a.image p);
  preimage = λ c. a.preimage (b.preimage c);
}
