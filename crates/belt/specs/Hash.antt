-- The BelT hash: blocks of 32 octets are taken in one by one, and then the length in bits.
use Rattle.std.specs.Prelude.{ℕ, zero, suc, ◌+◌, ◌-◌, ◌*◌, ◌/◌, cond, List, ◌++◌, length, take, drop, replicate, Ok, Err, Result, nat_le}
use Rattle.blocks.specs.Octets.{xor_each, longest}
use Rattle.blocks.specs.Fields.{field}
use Rattle.blocks.specs.declared.answers.Refusal.{Refusal}
use Rattle.blocks.specs.declared.answers.Refusal.TheVariants.{LongMessage}
use Rattle.belt.specs.Table.{table}
use Rattle.belt.specs.Compression.{σ₁, σ₂}
use Rattle.belt.specs.declared.hash.Running.{Running}

-- The first block of 32 octets of a text, filled with zeros where the text is shorter.
abbrev pub padded : List ℕ → List ℕ
padded x = take 32 x ++ replicate (32 - length x) 0

-- Before the first block: a mix of zeros, and the first 32 entries of the substitution table.
abbrev pub start : Running
start = record { mix = replicate 16 0; state = take 32 table }

-- One block more: the mix takes in σ₁, and σ₂ is the new state.
abbrev pub absorbed : Running → List ℕ → Running
absorbed k block = record { mix = xor_each k.mix (σ₁ (block ++ k.state)); state = σ₂ (block ++ k.state) }

-- So many blocks of a text, one after another.
unfoldable pub absorbed_all : ℕ → Running → List ℕ → Running
absorbed_all zero k x = k
absorbed_all (suc n) k x = absorbed_all n (absorbed k (padded x)) (drop 32 x)

-- The end: σ₂ of the length in bits as 16 octets, the mix and the state.
abbrev pub finished : Running → ℕ → List ℕ
finished k octets = σ₂ ((field 16 (8 * octets) ++ k.mix) ++ k.state)

-- The hash of a message: all its blocks, the last one filled with zeros, and the end.
abbrev pub hash_of : List ℕ → List ℕ
hash_of x = finished (absorbed_all ((length x + 31) / 32) start x) (length x)

-- What hashing answers.
abbrev pub hash_answer : List ℕ → Result (List ℕ) Refusal
hash_answer x = cond (nat_le (length x) longest) (Ok (hash_of x)) (Err LongMessage)
