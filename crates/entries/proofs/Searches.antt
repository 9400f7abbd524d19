-- What the searches of a log's entries find.
use Rattle.std.proofs.Common.{◌≡◌, ℕ, ◌+◌, Bool, cond, ◌||◌, List, [], ◌∷◌, reverse, Some, Option, refl, ap, ◌∙◌, subst, arith, Bor, Iter}
use Rattle.std.specs.Option.{option_map, unwrap_or, option_or, MatchOption}
use Rattle.std.specs.List.{find, position, position_from, list_any}
use Rattle.std.proofs.lemmas.List.Folds.{find-append}
use Rattle.std.proofs.lemmas.List.{reverse-append, length-reverse}
use Rattle.std.specs.Slice.Iter.{iter_rest, iter_steps_back}
use Rattle.std.proofs.lemmas.Iterator.{YieldsList}
use Rattle.std.proofs.lemmas.Iterator.Adapters.{position_from-zero}
use Rattle.std.proofs.lemmas.Iterator.Consumers.{YieldsList-from_shown}
use Rattle.compaction.specs.declared.entry.Entry.{Entry}
use Rattle.compaction.specs.Kinds.{Kind}
use Rattle.compaction.specs.Compaction.{named}
use Rattle.compaction.specs.Replay.{content_after, replay}
use Rattle.entries.specs.declared.item.Item.{Item}
use Rattle.compaction.specs.Places.{place_from}
use Rattle.entries.specs.Items.{entries_of}

-- the first place of the name n
place_first : (k : Kind) (n i : ℕ) (is : List Item) → position_from (λ x. k.same x.entry.name n) i is ≡ place_from k n i (entries_of is)
place_first k n i [] = refl
place_first k n i (x ∷ is) = ap (λ o. cond (k.same x.entry.name n) (Some i) o) (place_first k n (i + 1) is)

pub place_position : (k : Kind) (n : ℕ) (is : List Item) → position (λ x. k.same x.entry.name n) is ≡ place_from k n 0 (entries_of is)
place_position k n is = position_from-zero (λ x. k.same x.entry.name n) is ∙ place_first k n 0 is

-- whether the name n comes later
pub named_any : (k : Kind) (n : ℕ) (h : List Entry) → named k n h ≡ list_any (λ e. k.same e.name n) h
named_any k n [] = refl
named_any k n (e ∷ h) = ap (λ b. k.same e.name n || b) (named_any k n h)

-- the last content of the name n
content_last : (k : Kind) (n c : ℕ) (is : List Item)
    → content_after k n c (entries_of is) ≡ unwrap_or (option_map (λ x. x.entry.content) (find (λ x. k.same x.entry.name n) (reverse is))) c
content_last k n c [] = refl
content_last k n c (x ∷ is) =
    let t : Item → Bool = λ y. k.same y.entry.name n in
    let f : find t (reverse (x ∷ is)) ≡ option_or (find t (reverse is)) (find t (x ∷ [])) = ap (find t) (reverse-append (x ∷ []) is) ∙ find-append t (reverse is) (x ∷ []) in
    grind (arith, f, content_last k n (cond (t x) x.entry.content c) is)

pub content_found : (k : Kind) (n : ℕ) (is : List Item) (o : Option (Bor Item)) (r : ℕ)
    → MatchOption o (r ≡ k.default n) (λ x. r ≡ x.now.entry.content)
    → option_map (λ x. x.now) o ≡ find (λ x. k.same x.entry.name n) (reverse is)
    → r ≡ replay k (entries_of is) n
content_found k n is o r m f = grind (arith, content_last k n (k.default n) is)

-- a slice from its end
pub backwards : {A : Type 0} {s : Iter A} (xs : List A) → iter_rest s ≡ xs → YieldsList iter_steps_back (λ y. y.now) s (reverse xs)
backwards {A} {s} xs e = subst (λ l. YieldsList iter_steps_back (λ y. y.now) s (reverse l)) e
    (YieldsList-from_shown iter_steps_back (λ y. y.now) (λ u. reverse (iter_rest u)) (λ u t p. length-reverse _ ∙ p.0)
    (λ u x t p. ap reverse p ∙ reverse-append (iter_rest t) (x.now ∷ [])) s)
