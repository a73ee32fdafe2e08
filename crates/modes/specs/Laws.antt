-- What holds of the modes over every block.
use Rattle.std.specs.Prelude.{◌≡◌, ℕ, ◌≤◌, List, length}
use Rattle.blocks.specs.Octets.{Octets, Sixteen}
use Rattle.blocks.specs.Steps.{Step, Reversible, Lands}
use Rattle.modes.specs.Modes.{ecb, cbc_encrypt, cbc_decrypt, cfb_encrypt, cfb_decrypt, ctr}

-- Reading undoes writing: every message of octets, at least so long, comes back.
abbrev pub Undoes : ℕ → (List ℕ → List ℕ) → (List ℕ → List ℕ) → Type 0
Undoes least read write = (x : List ℕ) → Octets x → least ≤ length x → read (write x) ≡ x

-- What is written of a message of octets is octets, as many.
abbrev pub Keeps : ℕ → (List ℕ → List ℕ) → Type 0
Keeps least write = (x : List ℕ) → Octets x → least ≤ length x → (length (write x) ≡ length x) × Octets (write x)

-- Two messages of one length of which the same is written are the same.
abbrev pub Apart : ℕ → (List ℕ → List ℕ) → Type 0
Apart least write =
    (x y : List ℕ) → Octets x → Octets y → least ≤ length x → length x ≡ length y → write x ≡ write y → x ≡ y

-- ECB, over every reversible meaning: decryption undoes encryption.
abbrev pub EcbDecryptUndoes : Type 0
EcbDecryptUndoes = (m : Step) → Reversible m → Undoes 16 (ecb m.preimage) (ecb m.image)

-- Encryption undoes decryption.
abbrev pub EcbEncryptUndoes : Type 0
EcbEncryptUndoes = (m : Step) → Reversible m → Undoes 16 (ecb m.image) (ecb m.preimage)

-- A text has as many octets as its message, both ways.
abbrev pub EcbKeeps : Type 0
EcbKeeps = (m : Step) → Reversible m → Keeps 16 (ecb m.image) × Keeps 16 (ecb m.preimage)

-- No two messages share a text.
abbrev pub EcbApart : Type 0
EcbApart = (m : Step) → Reversible m → Apart 16 (ecb m.image)

-- CBC, over every reversible meaning and every start: decryption undoes encryption.
abbrev pub CbcDecryptUndoes : Type 0
CbcDecryptUndoes =
    (m : Step) → Reversible m → (start : List ℕ) → Sixteen start
    → Undoes 16 (cbc_decrypt m.preimage start) (cbc_encrypt m.image start)

-- Encryption undoes decryption.
abbrev pub CbcEncryptUndoes : Type 0
CbcEncryptUndoes =
    (m : Step) → Reversible m → (start : List ℕ) → Sixteen start
    → Undoes 16 (cbc_encrypt m.image start) (cbc_decrypt m.preimage start)

-- A text has as many octets as its message, both ways.
abbrev pub CbcKeeps : Type 0
CbcKeeps =
    (m : Step) → Reversible m → (start : List ℕ) → Sixteen start
    → Keeps 16 (cbc_encrypt m.image start) × Keeps 16 (cbc_decrypt m.preimage start)

-- No two messages share a text.
abbrev pub CbcApart : Type 0
CbcApart = (m : Step) → Reversible m → (start : List ℕ) → Sixteen start → Apart 16 (cbc_encrypt m.image start)

-- CFB and CTR never step back, so their laws are over every function on sixteen octets, and every start. In CFB decryption undoes encryption.
abbrev pub CfbDecryptUndoes : Type 0
CfbDecryptUndoes =
    (f : List ℕ → List ℕ) → Lands f → (start : List ℕ) → Sixteen start → Undoes 0 (cfb_decrypt f start) (cfb_encrypt f start)

-- Encryption undoes decryption.
abbrev pub CfbEncryptUndoes : Type 0
CfbEncryptUndoes =
    (f : List ℕ → List ℕ) → Lands f → (start : List ℕ) → Sixteen start → Undoes 0 (cfb_encrypt f start) (cfb_decrypt f start)

-- A text has as many octets as its message, both ways.
abbrev pub CfbKeeps : Type 0
CfbKeeps =
    (f : List ℕ → List ℕ) → Lands f → (start : List ℕ) → Sixteen start → Keeps 0 (cfb_encrypt f start) × Keeps 0 (cfb_decrypt f start)

-- No two messages share a text.
abbrev pub CfbApart : Type 0
CfbApart = (f : List ℕ → List ℕ) → Lands f → (start : List ℕ) → Sixteen start → Apart 0 (cfb_encrypt f start)

-- CTR undoes itself.
abbrev pub CtrUndoes : Type 0
CtrUndoes = (f : List ℕ → List ℕ) → Lands f → (start : List ℕ) → Sixteen start → Undoes 0 (ctr f start) (ctr f start)

-- A text has as many octets as its message.
abbrev pub CtrKeeps : Type 0
CtrKeeps = (f : List ℕ → List ℕ) → Lands f → (start : List ℕ) → Sixteen start → Keeps 0 (ctr f start)

-- No two messages share a text.
abbrev pub CtrApart : Type 0
CtrApart = (f : List ℕ → List ℕ) → Lands f → (start : List ℕ) → Sixteen start → Apart 0 (ctr f start)
