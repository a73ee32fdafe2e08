-- The four modes over a step on sixteen octets: f is its image, g its preimage.
use Rattle.std.specs.Prelude.{ℕ, ◌+◌, ◌-◌, ◌%◌, ◌^◌, List, [], ◌++◌, length, take, drop, replicate}
use Rattle.blocks.specs.Octets.{xor_each}
use Rattle.blocks.specs.Fields.{field, number}
use Rattle.modes.specs.Pieces.{pieces, glue}
use Rattle.modes.specs.Rows.{Stream, streamed, Steal, stealing}

-- ECB: each piece is stepped. A short last piece q is filled up with the last octets of the answer c to the piece before it and stepped, which goes in
-- c's place; the first octets of c, as many as q has, go last. Nothing is kept.
abbrev pub ecb_row : (List ℕ → List ℕ) → Steal
ecb_row f = record {
  turn = λ kept p. f p;
  next = λ kept p. kept;
  full = λ kept p q. f (q ++ drop (length q) (f p));
  last = λ kept p q. take (length q) (f p);
}

-- Encryption with the image, decryption with the preimage.
abbrev pub ecb : (List ℕ → List ℕ) → List ℕ → List ℕ
ecb f x = glue (stealing (ecb_row f) [] (pieces x))

-- CBC encryption: each piece is mixed with the answer y before it, and then stepped. With a short last piece q, the answer c to the piece before it
-- lends as in ECB, and q is mixed with the octets of c that it displaces.
abbrev pub cbc_forth : (List ℕ → List ℕ) → Steal
cbc_forth f = record {
  turn = λ y p. f (xor_each p y);
  next = λ y p. f (xor_each p y);
  full = λ y p q. f (xor_each q (take (length q) (f (xor_each p y))) ++ drop (length q) (f (xor_each p y)));
  last = λ y p q. take (length q) (f (xor_each p y));
}

abbrev pub cbc_encrypt : (List ℕ → List ℕ) → List ℕ → List ℕ → List ℕ
cbc_encrypt f start x = glue (stealing (cbc_forth f) start (pieces x))

-- A short piece, filled up with zeros.
abbrev pub zeroed : List ℕ → List ℕ
zeroed q = q ++ replicate (16 - length q) 0

-- CBC decryption: each piece is stepped back, and then mixed with the piece x before it. With a short last piece q, the piece c before it is stepped back and
-- mixed with q and zeros: the first octets of that are the last piece of the answer, and the others fill q up.
abbrev pub cbc_back : (List ℕ → List ℕ) → Steal
cbc_back g = record {
  turn = λ x c. xor_each (g c) x;
  next = λ x c. c;
  full = λ x c q. xor_each (g (q ++ drop (length q) (xor_each (g c) (zeroed q)))) x;
  last = λ x c q. take (length q) (xor_each (g c) (zeroed q));
}

abbrev pub cbc_decrypt : (List ℕ → List ℕ) → List ℕ → List ℕ → List ℕ
cbc_decrypt g start x = glue (stealing (cbc_back g) start (pieces x))

-- CFB: each piece is mixed with the image of the text y that was fed back before it; fed says what is fed back of a piece and its answer.
abbrev pub cfb_row : (List ℕ → List ℕ → List ℕ) → (List ℕ → List ℕ) → Stream
cfb_row fed f = record { turn = λ y p. xor_each p (f y); next = λ y p. fed p (xor_each p (f y)) }

-- CFB encryption: each piece is mixed with the image of the answer y before it. (`xor_each` stops at the end of a short piece.)
abbrev pub cfb_forth : (List ℕ → List ℕ) → Stream
cfb_forth f = record { turn = λ y p. xor_each p (f y); next = λ y p. xor_each p (f y) }

abbrev pub cfb_encrypt : (List ℕ → List ℕ) → List ℕ → List ℕ → List ℕ
cfb_encrypt f start x = glue (streamed (cfb_forth f) start (pieces x))

-- CFB decryption: each piece is mixed with the image of the piece x before it.
abbrev pub cfb_back : (List ℕ → List ℕ) → Stream
cfb_back f = record { turn = λ x c. xor_each c (f x); next = λ x c. c }

abbrev pub cfb_decrypt : (List ℕ → List ℕ) → List ℕ → List ℕ → List ℕ
cfb_decrypt f start x = glue (streamed (cfb_back f) start (pieces x))

-- One more: sixteen octets as one number, the first octet the least; after the largest comes zero.
abbrev pub counted : List ℕ → List ℕ
counted s = field 16 ((number s + 1) % 2 ^ 128)

-- CTR: what is kept counts up by one before each piece, and the piece is mixed with its image. The count starts at the image of the start.
abbrev pub ctr_row : (List ℕ → List ℕ) → Stream
ctr_row f = record { turn = λ s p. xor_each p (f (counted s)); next = λ s p. counted s }

-- Encryption and decryption alike.
abbrev pub ctr : (List ℕ → List ℕ) → List ℕ → List ℕ → List ℕ
ctr f start x = glue (streamed (ctr_row f) (f start) (pieces x))
