-- The kinds of requests that numbers stand for.
use Rattle.std.specs.Prelude.{◌≡◌, ℕ, Bool, false, Some, None, Option, Ok, Err, Result}
use Rattle.model.specs.declared.kind.UnknownKind.{UnknownKind}

module _ {A : Type 0} where
  -- what reading a number answers: the kind that it stands for, and the number itself where there is none
  abbrev pub read : Option A → ℕ → Result A UnknownKind
  read None k = Err (record { kind = k })
  read (Some op) k = Ok op

  -- every number is read as the kind that it stands for
  abbrev pub Decodes : (ℕ → Option A) → (ℕ → Result A UnknownKind → Type 0) → Type 0
  Decodes of gives = (k : ℕ) (r : Result A UnknownKind) → gives k r → r ≡ read (of k) k

  -- the payload lengths of a kind; none where there is no such kind
  abbrev pub takes_of : (A → ℕ → Bool) → Option A → ℕ → Bool
  takes_of takes None n = false
  takes_of takes (Some op) n = takes op n

  -- whether a kind is declared; no kind is not
  abbrev pub declared_of : (A → Bool) → Option A → Bool
  declared_of declared None = false
  declared_of declared (Some op) = declared op
