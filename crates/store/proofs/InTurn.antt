-- Blocks one after the other: what is left to do, and one step of it.
use Rattle.std.proofs.Common.{◌≡◌, ℕ, suc, ◌+◌, ◌-◌, ◌<◌, ◌≤◌, ◌⊎◌, inl, inr, Bool, true, false, List, [], ◌∷◌, length, take, Ok, Err, Result, refl, subst, arith}
use Rattle.std.proofs.lemmas.List.{take_all, length-take}
use Rattle.store.specs.Media.{Puts, all_put, next_put, not_put, Finds, all_found, next_found, other_found, not_found}

module _ {M E : Type 0} (puts : M → ℕ → List ℕ → Result Unit E → M → Type 0) where
  -- what comes of the rest is what comes of the whole
  abbrev pub Left_put : M → ℕ → List (List ℕ) → M → ℕ → List (List ℕ) → Type 0
  Left_put s a bs m b cs = (r : Result Unit E) (t : M) → Puts puts m b cs r t → Puts puts s a bs r t

  module _ {s m n : M} {a x b : ℕ} {bs cs ds : List (List ℕ)} {y : List ℕ} (l : Left_put s a bs m b cs) (e : cs ≡ y ∷ ds) (h : x ≡ b) where
    pub put_turn : {u : Unit} {c : ℕ} → c ≡ b + 1 → puts m x y (Ok u) n → Left_put s a bs n c ds
    put_turn k p r t q = l r t (rw (e, ← h) (next_put {t = t} {bs = ds} {r = r} p (rw h (rw (← k) q))))

    pub put_fails : {v : E} → puts m x y (Err v) n → Puts puts s a bs (Err v) n
    put_fails p = l _ n (rw (e, ← h) (not_put p))

  pub put_ends : {s m : M} {a b : ℕ} {bs : List (List ℕ)} (cs : List (List ℕ)) → Left_put s a bs m b cs → length cs ≡ 0 → Puts puts s a bs (Ok tt) m
  put_ends [] l e = l _ _ (all_put refl)
  put_ends (c ∷ cs) l e = absurd (omega arith)

module _ {M E : Type 0} (looks : M → ℕ → List ℕ → Result Bool E → M → Type 0) where
  abbrev pub Left_has : M → ℕ → List (List ℕ) → M → ℕ → List (List ℕ) → Type 0
  Left_has s a bs m b cs = (r : Result Bool E) (t : M) → Finds looks m b cs r t → Finds looks s a bs r t

  module _ {s m n : M} {a x b : ℕ} {bs cs ds : List (List ℕ)} {y : List ℕ} (l : Left_has s a bs m b cs) (e : cs ≡ y ∷ ds) (h : x ≡ b) where
    pub has_turn : {v : Bool} {c : ℕ} → c ≡ b + 1 → v ≡ true → looks m x y (Ok v) n → Left_has s a bs n c ds
    has_turn k w p r t q = l r t (rw (e, ← h) (next_found {t = t} {bs = ds} {r = r} (rw w at p) (rw h (rw (← k) q))))

    pub has_other : {v : Bool} → v ≡ false → looks m x y (Ok v) n → Finds looks s a bs (Ok false) n
    has_other w p = l _ n (rw (e, ← h) (other_found (rw w at p)))

    pub has_fails : {v : E} → looks m x y (Err v) n → Finds looks s a bs (Err v) n
    has_fails p = l _ n (rw (e, ← h) (not_found p))

  pub has_ends : {s m : M} {a b : ℕ} {bs : List (List ℕ)} (cs : List (List ℕ)) → Left_has s a bs m b cs → length cs ≡ 0 → Finds looks s a bs (Ok true) m
  has_ends [] l e = l _ _ (all_found refl)
  has_ends (c ∷ cs) l e = absurd (omega arith)

-- one block more of those that still have an address
pub taken_turn : (n a : ℕ) {cs ds : List (List ℕ)} {y : List ℕ} → cs ≡ y ∷ ds → a < n → take (n - a) cs ≡ y ∷ take (n - (a + 1)) ds
taken_turn n a {ds} {y} e h =
    let k : n - a ≡ suc (n - (a + 1)) = omega arith in
    rw (e, k) refl

-- no block is left, or no address
pub taken_end : (n a : ℕ) (cs : List (List ℕ)) → (n ≤ a) ⊎ (length cs ≡ 0) → length (take (n - a) cs) ≡ 0
taken_end n a cs (inl h) = simp length-take (omega (arith, h))
taken_end n a cs (inr h) = simp length-take (omega (arith, h))

-- blocks that all have an address
module _ (first : ℕ) (bs : List (List ℕ)) (h : first + length bs < 4294967296) where
  all_near : take (4294967295 - first) bs ≡ bs
  all_near = take_all (4294967295 - first) bs (omega (arith, h))

  pub near_puts : {M E : Type 0} {puts : M → ℕ → List ℕ → Result Unit E → M → Type 0} {s t : M} {r : Result Unit E} → Puts puts s first (take (4294967295 - first) bs) r t → Puts puts s first bs r t
  near_puts {puts} {s} {t} {r} p = subst (λ (xs : List (List ℕ)). Puts puts s first xs r t) all_near p

  pub near_finds : {M E : Type 0} {looks : M → ℕ → List ℕ → Result Bool E → M → Type 0} {s t : M} {r : Result Bool E} → Finds looks s first (take (4294967295 - first) bs) r t → Finds looks s first bs r t
  near_finds {looks} {s} {t} {r} p = subst (λ (xs : List (List ℕ)). Finds looks s first xs r t) all_near p
