-- Blocks that are written to a medium, or looked for on it, one after the other.
use Rattle.std.specs.Prelude.{◌≡◌, ℕ, ◌+◌, Bool, true, false, List, [], ◌∷◌, Ok, Err, Result}

-- blocks were to be written from an address on, each by the medium's own step, up to the first that fails
pub data Puts {M E : Type 0} (puts : M → ℕ → List ℕ → Result Unit E → M → Type 0) : M → ℕ → List (List ℕ) → Result Unit E → M → Type 0 where
  all_put : {s t : M} {a : ℕ} {x : Unit} → t ≡ s → Puts puts s a [] (Ok x) t
  next_put : {s m t : M} {a : ℕ} {b : List ℕ} {bs : List (List ℕ)} {x : Unit} {r : Result Unit E} → puts s a b (Ok x) m → Puts puts m (a + 1) bs r t → Puts puts s a (b ∷ bs) r t
  not_put : {s t : M} {a : ℕ} {b : List ℕ} {bs : List (List ℕ)} {e : E} → puts s a b (Err e) t → Puts puts s a (b ∷ bs) (Err e) t

-- blocks were to be looked for from an address on, up to the first that is another or that is not read
pub data Finds {M E : Type 0} (looks : M → ℕ → List ℕ → Result Bool E → M → Type 0) : M → ℕ → List (List ℕ) → Result Bool E → M → Type 0 where
  all_found : {s t : M} {a : ℕ} → t ≡ s → Finds looks s a [] (Ok true) t
  next_found : {s m t : M} {a : ℕ} {b : List ℕ} {bs : List (List ℕ)} {r : Result Bool E} → looks s a b (Ok true) m → Finds looks m (a + 1) bs r t → Finds looks s a (b ∷ bs) r t
  other_found : {s t : M} {a : ℕ} {b : List ℕ} {bs : List (List ℕ)} → looks s a b (Ok false) t → Finds looks s a (b ∷ bs) (Ok false) t
  not_found : {s t : M} {a : ℕ} {b : List ℕ} {bs : List (List ℕ)} {e : E} → looks s a b (Err e) t → Finds looks s a (b ∷ bs) (Err e) t
