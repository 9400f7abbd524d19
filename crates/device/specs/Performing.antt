-- Which requests a device performs, and what its one call comes to.
use Rattle.std.specs.Prelude.{◌≡◌, ℕ, ◌<◌, ◌≤◌, Bool, true, cond, ◌&&◌, List, length, nat_le, nat_lt, None, Option}
use Rattle.model.specs.Requests.{Contents, Outcome, untouched, onto}
use Rattle.model.specs.Rules.{Rules, greatest}

-- whether a device of this reach performs a request: its level, kind, address and payload length, and the
-- length of the buffer, are ones that the class allows
abbrev pub allowed : Rules → ℕ → ℕ → ℕ → ℕ → ℕ → ℕ → Bool
allowed u reach level kind address size room =
    nat_le level (greatest u 0) && (u.kind kind && (nat_lt address reach && (u.takes kind size && nat_le u.longest room)))

-- the kind of such a request; none where it is not allowed
abbrev pub permitted : {A : Type 0} → Rules → (ℕ → Option A) → ℕ → ℕ → ℕ → ℕ → ℕ → ℕ → Option A
permitted u of reach level kind address size room = cond (allowed u reach level kind address size room) (of kind) None

-- the same, by its parts
pub record Allowed (u : Rules) (reach l k a n m : ℕ) : Type 0 where
  pub level : l ≤ greatest u 0
  pub kind : u.kind k ≡ true
  pub address : a < reach
  pub size : u.takes k n ≡ true
  pub room : u.longest ≤ m

-- what a call comes to: the request performed where it is allowed, and nothing where it is not
abbrev pub outcome : Rules → ℕ → Contents → ℕ → ℕ → ℕ → List ℕ → ℕ → Outcome
outcome u reach x level kind address payload room =
    cond (allowed u reach level kind address (length payload) room) (u.perform x level kind address payload) (untouched x)

-- a call by what it leaves: the reach and the buffer before it, its outcome, and then the reach, the contents,
-- the whole buffer and the length of the answer after it
pub record Performed (reach₀ : ℕ) (buffer₀ : List ℕ) (o : Outcome) (reach₁ : ℕ) (contents₁ : Contents) (buffer₁ : List ℕ) (n : ℕ) : Type 0 where
  pub reach : reach₁ ≡ reach₀
  pub contents : contents₁ ≡ o.contents
  pub buffer : buffer₁ ≡ onto o.answer buffer₀
  pub count : n ≡ length o.answer

-- an answer that is put into a buffer: whole, or not at all where it is longer
abbrev pub put : List ℕ → List ℕ → List ℕ
put answer buffer = cond (nat_le (length answer) (length buffer)) (onto answer buffer) buffer

-- how many bytes of it were put there
abbrev pub put_count : List ℕ → List ℕ → ℕ
put_count answer buffer = cond (nat_le (length answer) (length buffer)) (length answer) 0
