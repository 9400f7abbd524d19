-- As many names end with a content other than their default as the compaction has entries.
use Rattle.std.proofs.Common.{◌≡◌, ℕ, zero, suc, ◌+◌, ◌<◌, ◌≤◌, true, false, cond, not, ◌||◌, List, [], ◌∷◌, length, sym, refl, ap, ◌∙◌, arith}
use mathlib.Core.Path.{fun_ext}
use Rattle.std.specs.List.{AllByRecursion}
use Rattle.compaction.specs.declared.entry.Entry.{Entry}
use Rattle.compaction.specs.Kinds.{Kind, Lawful, Exact}
use Rattle.compaction.specs.Compaction.{named, holds_default, compact, Apart}
use Rattle.compaction.specs.Replay.{replay}
use Rattle.compaction.specs.Tally.{tally, named_below, tally_names}
use Rattle.compaction.proofs.Sameness.{flip, alike}
use Rattle.compaction.proofs.Replaying.{after_absent, replay_absent, replays}
use Rattle.compaction.proofs.Standing.{named_alike, apart_compact}

-- how many of the numbers below a bound are the least that is the same name as a
hits : Kind → ℕ → ℕ → ℕ
hits k a zero = 0
hits k a (suc n) = cond (named_below k n n || not (k.same a n)) 0 1 + hits k a n

pub tally_names_none : (k : Kind) (n : ℕ) → tally_names k k.default n ≡ 0
unfolding tally_names
tally_names_none k zero = refl
tally_names_none k (suc n) = grind (arith, tally_names_none k n)

pub tally_le : (default content : ℕ → ℕ) (n : ℕ) → tally default content n ≤ n
unfolding tally
tally_le d f zero = omega arith
tally_le d f (suc n) = grind (arith, tally_le d f n)

-- where no two numbers are the same name, every number counts
below_exact : (k : Kind) → Exact k → (n m : ℕ) → m ≤ n → named_below k n m ≡ false
unfolding named_below
below_exact k ex n zero le = refl
below_exact k ex n (suc m) le = grind (arith, ex m n, below_exact k ex n m)

pub tally_exact : (k : Kind) → Exact k → (content : ℕ → ℕ) (n : ℕ) → tally_names k content n ≡ tally k.default content n
unfolding tally tally_names
tally_exact k ex f zero = refl
tally_exact k ex f (suc n) = grind (arith, tally_exact k ex f n, below_exact k ex n n)

module _ (k : Kind) (law : Lawful k) where
  below_alike : (a b m : ℕ) → k.same a b ≡ true → named_below k a m ≡ named_below k b m
  unfolding named_below
  below_alike a b zero p = refl
  below_alike a b (suc m) p = grind (arith, below_alike a b m, alike k law m a b)

  below_itself : (a m : ℕ) → a < m → named_below k a m ≡ true
  unfolding named_below
  below_itself a zero lt = absurd (omega arith)
  below_itself a (suc m) lt = grind (arith, below_itself a m, law.reflexive a)

  -- a name that some number below the bound is counts once, and any other not at all
  hits_is : (a m : ℕ) → hits k a m + cond (named_below k a m) 0 1 ≡ 1
  unfolding hits named_below
  hits_is a zero = refl
  hits_is a (suc m) = grind (arith, hits_is a m, below_alike m a m, law.symmetric m a, flip k law m a)

  -- an entry that no later one of its name follows gives its name its content
  pub replay_cons : (e : Entry) (h : List Entry) (n : ℕ) → named k e.name h ≡ false → replay k (e ∷ h) n ≡ cond (k.same e.name n) e.content (replay k h n)
  replay_cons e h n p = grind (arith, after_absent k n e.content h, named_alike k law e.name n h)

  -- such an entry, if it does not hold the default, adds one name
  tally_cons : (e : Entry) (h : List Entry) (n : ℕ) → named k e.name h ≡ false → holds_default k e ≡ false
      → tally_names k (replay k (e ∷ h)) n ≡ hits k e.name n + tally_names k (replay k h) n
  unfolding hits tally_names
  tally_cons e h zero p q = refl
  tally_cons e h (suc n) p q =
      grind (arith, tally_cons e h n, replay_cons e h n, law.shared e.name n, replay_absent k h n, named_alike k law e.name n h)

  pub tallied_names : (c : List Entry) (n : ℕ) → Apart k c → AllByRecursion (λ e. e.name < n) c → tally_names k (replay k c) n ≡ length c
  tallied_names [] n a p = tally_names_none k n
  tallied_names (e ∷ c) n a p = grind (arith, tallied_names c n a.2 p.1, tally_cons e c n a.0 a.1, below_itself e.name n p.0, hits_is e.name n)

  pub counts_names : (h : List Entry) (bound : ℕ) → AllByRecursion (λ e. e.name < bound) (compact k h) → tally_names k (replay k h) bound ≡ length (compact k h)
  counts_names h n p =
      ap (λ f. tally_names k f n) (fun_ext (λ m. sym (replays k law h m))) ∙ tallied_names (compact k h) n (apart_compact k h) p

  -- where no two numbers are the same name
  pub tallied : Exact k → (c : List Entry) (n : ℕ) → Apart k c → AllByRecursion (λ e. e.name < n) c → tally k.default (replay k c) n ≡ length c
  tallied ex c n a p = sym (tally_exact k ex (replay k c) n) ∙ tallied_names c n a p

  pub counts : Exact k → (h : List Entry) (bound : ℕ) → AllByRecursion (λ e. e.name < bound) (compact k h) → tally k.default (replay k h) bound ≡ length (compact k h)
  counts ex h n p = sym (tally_exact k ex (replay k h) n) ∙ counts_names h n p

  -- a list apart has no more entries than there are names below the bound
  pub apart_few : Exact k → (c : List Entry) (n : ℕ) → Apart k c → AllByRecursion (λ e. e.name < n) c → length c ≤ n
  apart_few ex c n a p = let t = tallied ex c n a p in let l = tally_le k.default (replay k c) n in omega arith

  pub compact_few : Exact k → (h : List Entry) (bound : ℕ) → AllByRecursion (λ e. e.name < bound) (compact k h) → length (compact k h) ≤ bound
  compact_few ex h n p = apart_few ex (compact k h) n (apart_compact k h) p
