-- A compaction replays to what its list does.
use Rattle.std.proofs.Common.{◌≡◌, ℕ, true, false, cond, List, [], ◌∷◌, ◌++◌, fold, refl, ap, ◌∙◌, arith}
use Rattle.std.proofs.lemmas.List.{append-nil}
use Rattle.compaction.specs.declared.entry.Entry.{Entry}
use Rattle.compaction.specs.Kinds.{Kind, Lawful}
use Rattle.compaction.specs.Compaction.{named, compact, others, update}
use Rattle.compaction.specs.Replay.{content_after, replay}
use Rattle.compaction.proofs.Sameness.{apart, flip, alike}
use Rattle.compaction.proofs.Compacting.{compact_run}

-- the last entry decides
after_push : (k : Kind) (n c : ℕ) (h : List Entry) (e : Entry) → content_after k n c (h ++ e ∷ []) ≡ cond (k.same e.name n) e.content (content_after k n c h)
after_push k n c [] e = refl
after_push k n c (x ∷ h) e = after_push k n (cond (k.same x.name n) x.content c) h e

pub replay_push : (k : Kind) (h : List Entry) (e : Entry) (n : ℕ) → replay k (h ++ e ∷ []) n ≡ cond (k.same e.name n) e.content (replay k h n)
replay_push k h e n = after_push k n (k.default n) h e

-- a name that no entry has keeps its content
pub after_absent : (k : Kind) (n c : ℕ) (h : List Entry) → named k n h ≡ false → content_after k n c h ≡ c
after_absent k n c [] p = refl
after_absent k n c (e ∷ h) p = grind (arith, after_absent k n c h)

pub replay_absent : (k : Kind) (h : List Entry) (n : ℕ) → named k n h ≡ false → replay k h n ≡ k.default n
replay_absent k h n p = after_absent k n (k.default n) h p

module _ (k : Kind) (law : Lawful k) where
  after_same : (n m c : ℕ) (h : List Entry) → k.same m n ≡ true → content_after k n c (others k m h) ≡ c
  after_same n m c [] p = refl
  after_same n m c (x ∷ h) p =
      grind (arith, after_same n m c h, law.symmetric m n, flip k law x.name m, apart k law n m x.name, flip k law n x.name)

  after_other : (n m c : ℕ) (h : List Entry) → k.same m n ≡ false → content_after k n c (others k m h) ≡ content_after k n c h
  after_other n m c [] q = refl
  after_other n m c (x ∷ h) q = grind (arith, after_other n m c h, after_other n m x.content h, apart k law x.name m n)

  -- the update in place gives the entry's name its content, and no other name another
  pub update_replay : (h : List Entry) (e : Entry) (n : ℕ) → replay k (update k h e) n ≡ cond (k.same e.name n) e.content (replay k h n)
  update_replay h e n =
      grind (arith, append-nil, after_push k n (k.default n) (others k e.name h) e, after_same n e.name (k.default n) h, after_other n e.name (k.default n) h, law.shared e.name n)

  run_replay : (c rest : List Entry) (n : ℕ) → replay k (fold (update k) c rest) n ≡ content_after k n (replay k c n) rest
  run_replay c [] n = refl
  run_replay c (e ∷ rest) n = run_replay (update k c e) rest n ∙ ap (λ d. content_after k n d rest) (update_replay c e n)

  pub replays : (h : List Entry) (n : ℕ) → replay k (compact k h) n ≡ replay k h n
  replays h n = ap (λ c. replay k c n) (compact_run k law [] h) ∙ run_replay [] h n

  -- names that are the same have the same content
  after_alike : (a b c : ℕ) (h : List Entry) → k.same a b ≡ true → content_after k a c h ≡ content_after k b c h
  after_alike a b c [] p = refl
  after_alike a b c (e ∷ h) p = grind (arith, after_alike a b c h, after_alike a b e.content h, alike k law e.name a b)

  pub replay_same : (h : List Entry) (a b : ℕ) → k.same a b ≡ true → replay k h a ≡ replay k h b
  replay_same h a b p = after_alike a b (k.default a) h p ∙ ap (λ c. content_after k b c h) (law.shared a b p)
