-- What the record of a frame says of it, and where there is room for it.
use Rattle.std.proofs.Common.{◌≡◌, ℕ, ◌+◌, ◌*◌, ◌<◌, ◌≤◌, List, length, Some, None, Ok, Err, Result, sym, ap, ◌∙◌, subst, inl, inr, arith}
use Rattle.std.proofs.lemmas.Bool.{cases_lt, cond-true, cond-false, lt-ltb, le-ltb}
use Rattle.std.specs.Simd.{first_chunks}
use Rattle.store.specs.declared.records.Record.{Record}
use Rattle.store.specs.declared.store.StoreError.{StoreError}
use Rattle.store.specs.declared.store.StoreError.TheVariants.{TooLong, Full}
use Rattle.store.specs.Records.{blocks_for, padded, blocks_of}
use Rattle.store.specs.Blocks.{record_blocks, fitted}
use Rattle.store.proofs.Turns.{padded_length, some_blocks, many_blocks}

pub record Recorded (frame : List ℕ) (r : Record) : Type 0 where
  pub short : length frame ≤ 1514
  pub count : r.count ≡ blocks_for (length frame)
  pub bytes : r.bytes ≡ padded frame

-- a frame with a record
pub recorded : (frame : List ℕ) (r : Record) → Some r ≡ record_blocks frame → Recorded frame r
recorded frame r e = elim (cases_lt 1514 (length frame)) [
  | inl h ↦ let w : Some r ≡ None = e ∙ cond-true _ _ _ (lt-ltb _ _ h) in let z : ◌≡◌ {A = ℕ} 0 1 = cc in absurd (omega arith)
  | inr h ↦ let w : Some r ≡ Some (record { count = blocks_for (length frame); bytes = padded frame }) = e ∙ cond-false _ _ _ (le-ltb _ _ h) in
      let q : r ≡ record { count = blocks_for (length frame); bytes = padded frame } = cc in
      record { short = h; count = ap (λ (x : Record). x.count) q; bytes = ap (λ (x : Record). x.bytes) q }
]

-- a frame without
pub unrecorded : (frame : List ℕ) → None ≡ record_blocks frame → 1514 < length frame
unrecorded frame e = elim (cases_lt 1514 (length frame)) [
  | inl h ↦ h
  | inr h ↦ let w = e ∙ cond-false _ _ _ (le-ltb _ _ h) in let z : ◌≡◌ {A = ℕ} 0 1 = cc in absurd (omega arith)
]

-- a record has the bytes of all its blocks
pub enough : (frame : List ℕ) (r : Record) → Recorded frame r → r.count * 512 ≤ length r.bytes
enough frame r w =
    let h = w.short in
    let k = w.count in
    let n = ap length w.bytes ∙ padded_length frame h in
    omega (arith, n)

-- where a disk of this reach has room for it
pub record Fits (frame : List ℕ) (first reach : ℕ) (r : Record) : Type 0 where
  pub short : length frame ≤ 1514
  pub within : first + blocks_for (length frame) ≤ reach
  pub count : r.count ≡ blocks_for (length frame)
  pub bytes : r.bytes ≡ padded frame

pub data Unfit (frame : List ℕ) (first reach : ℕ) : StoreError → Type 0 where
  too_long : 1514 < length frame → Unfit frame first reach TooLong
  too_few : length frame ≤ 1514 → reach < first + blocks_for (length frame) → Unfit frame first reach Full

ok_same : {x y : Record} → ◌≡◌ {A = Result Record StoreError} (Ok x) (Ok y) → x ≡ y
ok_same e = cc

err_same : {x y : StoreError} → ◌≡◌ {A = Result Record StoreError} (Err x) (Err y) → x ≡ y
err_same e = cc

not_both : {x : Record} {y : StoreError} → ◌≡◌ {A = Result Record StoreError} (Ok x) (Err y) → ⊥
not_both e = let z : ◌≡◌ {A = ℕ} 0 1 = cc in omega arith

module _ (frame : List ℕ) (first reach : ℕ) where
  long : 1514 < length frame → fitted frame first reach ≡ Err TooLong
  long h = cond-true _ _ _ (lt-ltb _ _ h)

  full : length frame ≤ 1514 → reach < first + blocks_for (length frame) → fitted frame first reach ≡ Err Full
  full h f = cond-false _ _ _ (le-ltb _ _ h) ∙ cond-true _ _ _ (lt-ltb _ _ f)

  fine : length frame ≤ 1514 → first + blocks_for (length frame) ≤ reach → fitted frame first reach ≡ Ok (record { count = blocks_for (length frame); bytes = padded frame })
  fine h f = cond-false _ _ _ (le-ltb _ _ h) ∙ cond-false _ _ _ (le-ltb _ _ f)

  fits_here : (r : Record) → Ok r ≡ fitted frame first reach → Fits frame first reach r
  fits_here r e = elim (cases_lt 1514 (length frame)) [
    | inl h ↦ absurd (not_both (e ∙ long h))
    | inr h ↦ elim (cases_lt reach (first + blocks_for (length frame))) [
      | inl f ↦ absurd (not_both (e ∙ full h f))
      | inr f ↦ let q = ok_same (e ∙ fine h f) in record { short = h; within = f; count = ap (λ (x : Record). x.count) q; bytes = ap (λ (x : Record). x.bytes) q }
    ]
  ]

  unfit_here : (x : StoreError) → Err x ≡ fitted frame first reach → Unfit frame first reach x
  unfit_here x e = elim (cases_lt 1514 (length frame)) [
    | inl h ↦ subst (Unfit frame first reach) (sym (err_same (e ∙ long h))) (too_long h)
    | inr h ↦ elim (cases_lt reach (first + blocks_for (length frame))) [
      | inl f ↦ subst (Unfit frame first reach) (sym (err_same (e ∙ full h f))) (too_few h f)
      | inr f ↦ absurd (not_both (sym (e ∙ fine h f)))
    ]
  ]

  -- by the reach that the code sees
  pub fits : (r : Record) (n : ℕ) → n ≡ reach → Ok r ≡ fitted frame first n → Fits frame first reach r
  fits r n h e = fits_here r (e ∙ ap (fitted frame first) h)

  pub unfit : (x : StoreError) (n : ℕ) → n ≡ reach → Err x ≡ fitted frame first n → Unfit frame first reach x
  unfit x n h e = unfit_here x (e ∙ ap (fitted frame first) h)

  -- the blocks of the record
  pub its_blocks : (r : Record) → Fits frame first reach r → blocks_of r.count r.bytes ≡ first_chunks 512 (blocks_for (length frame)) (padded frame)
  its_blocks r w =
      let h = w.short in
      ap (λ (k : ℕ). blocks_of k r.bytes) w.count ∙ (ap (blocks_of (blocks_for (length frame))) w.bytes ∙ some_blocks (blocks_for (length frame)) (padded frame) (omega arith))

  -- how many they are
  pub so_many : (r : Record) (bs : List (List ℕ)) → Fits frame first reach r → bs ≡ blocks_of r.count r.bytes → length bs ≡ blocks_for (length frame)
  so_many r bs w e = ap length (e ∙ its_blocks r w) ∙ many_blocks (blocks_for (length frame)) (padded frame)
