-- The compaction of a list of entries.
use Rattle.std.specs.Prelude.{◌≡◌, ℕ, Bool, false, cond, not, ◌||◌, List, [], ◌∷◌, ◌++◌, filter, ◌==◌}
use Rattle.compaction.specs.declared.entry.Entry.{Entry}
use Rattle.compaction.specs.Kinds.{Kind}

-- whether some entry of a list has this name
abbrev pub named : Kind → ℕ → List Entry → Bool
named k n [] = false
named k n (e ∷ h) = k.same e.name n || named k n h

-- a list without each entry that has a later one of its name
abbrev pub latest : Kind → List Entry → List Entry
latest k [] = []
latest k (e ∷ h) = cond (named k e.name h) (latest k h) (e ∷ latest k h)

-- whether an entry holds the default of its name
abbrev pub holds_default : Kind → Entry → Bool
holds_default k e = e.content == k.default e.name

-- the compaction: first each entry goes that has a later one of its name,
-- then each that holds the default, and the others keep their order
-- (`filter` keeps those that pass its test)
abbrev pub compact : Kind → List Entry → List Entry
compact k h = filter (λ e. not (holds_default k e)) (latest k h)

-- each name stands once, and no entry holds the default
abbrev pub Apart : Kind → List Entry → Type 0
Apart k [] = Unit {0}
Apart k (e ∷ h) = (named k e.name h ≡ false) × (holds_default k e ≡ false) × Apart k h

-- the entries of other names
abbrev pub others : Kind → ℕ → List Entry → List Entry
others k n h = filter (λ e. not (k.same e.name n)) h

-- one more entry, in place: those of its name go, and it stands last unless it holds the default
abbrev pub update : Kind → List Entry → Entry → List Entry
update k h e = others k e.name h ++ cond (holds_default k e) [] (e ∷ [])

-- an entry of this name and content
abbrev pub entry_of : ℕ → ℕ → Entry
entry_of n c = record { name = n; content = c }
