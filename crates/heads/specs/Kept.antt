-- What a queue keeps: requests with their marks, and what the calls make of a list of them.
use Rattle.std.specs.Prelude.{ℕ, zero, suc, ◌+◌, Bool, true, false, cond, List, [], ◌∷◌, length, Ok, Err, sum_by, Result, nat_le, nat_lt}
use Rattle.model.specs.Requests.{Request}
use Rattle.model.specs.declared.header.Header.{Header}
use Rattle.model.specs.Headers.{request_of, header_of}
use Rattle.model.specs.declared.refusal.Refusal.{Refusal}
use Rattle.model.specs.declared.refusal.Refusal.TheVariants.{Full, Room}
use Rattle.heads.specs.Limits.{most, capacity}
use Rattle.heads.specs.declared.head.Head.{Head}

-- a request that is kept, and whether it has been handed on
pub record Kept : Type 0 where
  pub request : Request
  pub handed : Bool

-- a request as it is added: not handed on yet
abbrev pub fresh : Header → List ℕ → Kept
fresh h p = record { request = request_of h p; handed = false }

-- the same request with another mark
abbrev pub marked : Bool → Kept → Kept
marked m k = record { request = k.request; handed = m }

-- what a caller is told of a request: all but the bytes of its payload
abbrev pub head_of : Kept → Head
head_of k = record { header = header_of k.request; size = length k.request.payload; handed = k.handed }

-- its payload
abbrev pub payload_of : Kept → List ℕ
payload_of k = k.request.payload

-- how many bytes the payloads have, in all
abbrev pub weight : List Kept → ℕ
weight ks = sum_by (λ k. length (payload_of k)) ks

-- whether a request with n payload bytes is taken beside others: FULL is tested first, then ROOM
abbrev pub admitted : ℕ → ℕ → ℕ → Result Unit Refusal
admitted count used n = cond (nat_le most count) (Err Full) (cond (nat_lt capacity (used + n)) (Err Room) (Ok tt))

-- the same beside the requests of a list
abbrev pub verdict : List Kept → ℕ → Result Unit Refusal
verdict ks n = admitted (length ks) (weight ks) n

-- the i-th is handed on and the others are as they were; past the end nothing changes
abbrev pub handed_at : ℕ → List Kept → List Kept
handed_at i [] = []
handed_at zero (k ∷ ks) = marked true k ∷ ks
handed_at (suc i) (k ∷ ks) = k ∷ handed_at i ks
