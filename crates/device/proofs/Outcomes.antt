-- The tests of a request by their parts, and answers that fit their buffer.
use Rattle.std.proofs.Common.{◌≡◌, ℕ, ◌≤◌, Bool, true, false, ltb, leb, List, length, Some, Option, sym, refl, ◌∙◌, ⊎_elim, le_trans}
use Rattle.std.proofs.lemmas.Option.{none-some}
use Rattle.std.proofs.lemmas.Bool.{and_parts, leb-true, ltb-true, le-leb, cond-true, cond-false, cases_Bool}
use Rattle.model.specs.Requests.{Contents, untouched, onto}
use Rattle.model.specs.Rules.{Rules, greatest}
use Rattle.device.specs.Performing.{allowed, permitted, Allowed, outcome, Performed, put, put_count}

pub parts : (u : Rules) (reach level kind address size room : ℕ) → allowed u reach level kind address size room ≡ true → Allowed u reach level kind address size room
parts u reach level kind address size room e =
    let e₁ = and_parts (leb level (greatest u 0)) _ e in
    let e₂ = and_parts (u.kind kind) _ e₁.1 in
    let e₃ = and_parts (ltb address reach) _ e₂.1 in
    let e₄ = and_parts (u.takes kind size) _ e₃.1 in
    record { level = leb-true _ _ e₁.0; kind = e₂.0; address = ltb-true _ _ e₃.0; size = e₄.0; room = leb-true _ _ e₄.1 }

-- a request that is permitted is allowed, and its kind is the one that was found
pub allowed_if : {A : Type 0} (u : Rules) (of : ℕ → Option A) (reach level kind address size room : ℕ) (op : A)
    → permitted u of reach level kind address size room ≡ Some op → (allowed u reach level kind address size room ≡ true) × (of kind ≡ Some op)
allowed_if u of reach level kind address size room op e =
    ⊎_elim
    (λ t. (t, sym (cond-true _ _ _ t) ∙ e))
    (λ f. absurd (none-some op (sym (cond-false _ _ _ f) ∙ e)))
    (cases_Bool (allowed u reach level kind address size room))

-- the outcome of a call whose test came out true, or false
pub performed : (u : Rules) (reach : ℕ) (x : Contents) (level kind address : ℕ) (payload : List ℕ) (room : ℕ) (b : Bool)
    → b ≡ allowed u reach level kind address (length payload) room → b ≡ true → outcome u reach x level kind address payload room ≡ u.perform x level kind address payload
performed u reach x level kind address payload room b e t = cond-true _ _ _ (sym e ∙ t)

pub passed_over : (u : Rules) (reach : ℕ) (x : Contents) (level kind address : ℕ) (payload : List ℕ) (room : ℕ) (b : Bool)
    → b ≡ allowed u reach level kind address (length payload) room → b ≡ false → outcome u reach x level kind address payload room ≡ untouched x
passed_over u reach x level kind address payload room b e f = cond-false _ _ _ (sym e ∙ f)

-- an answer that fits its buffer is put there whole
pub put_fits : (answer buffer : List ℕ) → length answer ≤ length buffer → put answer buffer ≡ onto answer buffer
put_fits answer buffer h = cond-true _ _ _ (le-leb _ _ h)

pub put_count_fits : (answer buffer : List ℕ) → length answer ≤ length buffer → put_count answer buffer ≡ length answer
put_count_fits answer buffer h = cond-true _ _ _ (le-leb _ _ h)

-- a request that the class allows, and whose answer was put into the buffer
pub answered : (u : Rules) (reach : ℕ) (x y : Contents) (level kind address n : ℕ) (payload bytes buffer buffer' : List ℕ) (b : Bool)
    → b ≡ allowed u reach level kind address (length payload) (length buffer) → b ≡ true
    → u.perform x level kind address payload ≡ record { contents = y; answer = bytes } → length bytes ≤ u.longest
    → buffer' ≡ put bytes buffer → n ≡ put_count bytes buffer
    → Performed reach buffer (outcome u reach x level kind address payload (length buffer)) reach y buffer' n
answered u reach x y level kind address n payload bytes buffer buffer' b allow t e short buf count =
    let room : length bytes ≤ length buffer = le_trans short (parts u reach level kind address (length payload) (length buffer) (sym allow ∙ t)).room in
    rw (performed u reach x level kind address payload (length buffer) b allow t ∙ e)
    record { reach = refl; contents = refl; buffer = buf ∙ put_fits bytes buffer room; count = count ∙ put_count_fits bytes buffer room }
