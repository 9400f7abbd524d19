-- Requests, what a device holds, and what comes of performing a request.
use Rattle.std.specs.Prelude.{ℕ, ◌/◌, ◌%◌, List, [], ◌∷◌, ◌++◌, length, drop}

-- a request: the client's tag, a kind of its class, an address below the reach, and a payload of bytes
pub record Request : Type 0 where
  pub tag : ℕ
  pub kind : ℕ
  pub address : ℕ
  pub payload : List ℕ

-- contents: all that a device of any class holds, as counters and a memory of bytes
pub record Contents : Type 0 where
  pub counters : List ℕ
  pub memory : List ℕ

-- what performing a request comes to: the contents after it, and the bytes of the answer
pub record Outcome : Type 0 where
  pub contents : Contents
  pub answer : List ℕ

-- nothing changes, and the answer is empty
abbrev pub untouched : Contents → Outcome
untouched x = record { contents = x; answer = [] }

-- an answer at the front of a buffer, every other byte as it was
abbrev pub onto : List ℕ → List ℕ → List ℕ
onto answer buffer = answer ++ drop (length answer) buffer

-- a number below 2^32 as four bytes, the least first
abbrev pub le4 : ℕ → List ℕ
le4 x = (x % 256) ∷ (x / 256 % 256) ∷ (x / 65536 % 256) ∷ (x / 16777216 % 256) ∷ []

-- two counters as an answer of eight bytes
abbrev pub counts : ℕ → ℕ → List ℕ
counts n t = le4 n ++ le4 t
