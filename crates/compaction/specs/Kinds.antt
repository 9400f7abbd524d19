-- A kind of entries: which names are the same, and what content a name has by default.
use Rattle.std.specs.Prelude.{◌≡◌, ℕ, Bool, true, eqb}

-- a kind of entries
pub record Kind : Type 0 where
  -- whether two names are the same
  pub same : ℕ → ℕ → Bool
  -- the content of a name that no entry has given another
  pub default : ℕ → ℕ

-- what every kind keeps: being the same is an equivalence, and names that are the same have one default
pub record Lawful (k : Kind) : Type 0 where
  pub reflexive : (a : ℕ) → k.same a a ≡ true
  pub symmetric : (a b : ℕ) → k.same a b ≡ true → k.same b a ≡ true
  pub transitive : (a b c : ℕ) → k.same a b ≡ true → k.same b c ≡ true → k.same a c ≡ true
  pub shared : (a b : ℕ) → k.same a b ≡ true → k.default a ≡ k.default b

-- a kind in which no two numbers are the same name
abbrev pub Exact : Kind → Type 0
Exact k = (a b : ℕ) → k.same a b ≡ true → a ≡ b

-- the kind with these defaults in which names are the same where they are equal
abbrev pub by_number : (ℕ → ℕ) → Kind
by_number default = record { same = eqb; default = default }
