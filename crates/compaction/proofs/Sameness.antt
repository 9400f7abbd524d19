-- Lawful kinds: names apart, and the kinds in which names are the same where they are equal.
use Rattle.std.proofs.Common.{◌≡◌, ℕ, true, false, rules, arith}
use Rattle.std.proofs.lemmas.Bool.{eqb-true}
use Rattle.compaction.specs.Kinds.{Kind, Lawful, Exact, by_number}

module _ (k : Kind) (law : Lawful k) where
  -- of two names that are the same, a third is the same as both or as neither
  pub apart : (a b c : ℕ) → k.same a b ≡ true → k.same b c ≡ false → k.same a c ≡ false
  apart a b c p q = grind (arith, law.transitive b a c, law.symmetric a b)

  pub flip : (a b : ℕ) → k.same a b ≡ false → k.same b a ≡ false
  flip a b q = grind (arith, law.symmetric b a)

  pub alike : (a b c : ℕ) → k.same b c ≡ true → k.same a b ≡ k.same a c
  alike a b c p = grind (arith, law.transitive a b c, law.transitive a c b, law.symmetric b c)

pub by_number_lawful : (default : ℕ → ℕ) → Lawful (by_number default)
by_number_lawful default = search rules

pub by_number_exact : (default : ℕ → ℕ) → Exact (by_number default)
by_number_exact default = eqb-true
