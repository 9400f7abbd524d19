-- The row of a key in a table whose rows have been tested.
use Rattle.std.proofs.Common.{◌≡◌, ℕ, zero, suc, ◌^◌, ◌<◌, ◌≤◌, Bool, true, false, ◌&&◌, ltb, leb, List, [], ◌∷◌, get_or, slice_get, Some, None, inl, inr, sym, ap, ◌∙◌, arith}
use Rattle.std.proofs.lemmas.Bool.{and_parts, leb-true, ltb-true, lt-ltb, cases_Bool}
use Rattle.std.proofs.lemmas.Option.{none-some, slice_get_within, slice_get-get_or, get_or_from_slice_get}
use Rattle.model.specs.Rules.{Rules, no_range, has_setting, greatest}
use Rattle.model.specs.declared.setting.SettingRange.{SettingRange}

-- one test of a whole table: no row has a first value above its greatest, or a greatest of 2^32 and more
abbrev pub in_range : List SettingRange → Bool
in_range [] = true
in_range (r ∷ rs) = (leb r.initial r.greatest && ltb r.greatest (2 ^ 32)) && in_range rs

-- what the test says of each key
pub row_in_range : (xs : List SettingRange) (k : ℕ) → in_range xs ≡ true → ((get_or xs k no_range).initial ≤ (get_or xs k no_range).greatest) × ((get_or xs k no_range).greatest < 2 ^ 32)
row_in_range [] k e = (omega arith, omega arith)
row_in_range (r ∷ rs) zero e =
    let row = and_parts (leb r.initial r.greatest) _ (and_parts (leb r.initial r.greatest && ltb r.greatest (2 ^ 32)) _ e).0 in
    (leb-true _ _ row.0, ltb-true _ _ row.1)
row_in_range (r ∷ rs) (suc k) e = row_in_range rs k (and_parts (leb r.initial r.greatest && ltb r.greatest (2 ^ 32)) _ e).1

-- a key with a row is a setting, whose greatest value is the row's
pub row_of_setting : (u : Rules) (k : ℕ) (r : SettingRange) → slice_get u.settings k ≡ Some r → (has_setting u k ≡ true) × (greatest u k ≡ r.greatest)
row_of_setting u k r e = (lt-ltb _ _ (slice_get_within u.settings k r e), ap (λ (x : SettingRange). x.greatest) (get_or_from_slice_get u.settings k r no_range e))

-- a key with no row is no setting
pub no_row : (u : Rules) (k : ℕ) → slice_get u.settings k ≡ None → has_setting u k ≡ false
no_row u k e =
    elim (cases_Bool (has_setting u k)) [
      | inl h ↦ absurd (none-some _ (sym e ∙ slice_get-get_or u.settings k no_range (ltb-true _ _ h)))
      | inr h ↦ h
    ]
