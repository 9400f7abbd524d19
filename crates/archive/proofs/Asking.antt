-- What a driver makes of a request to write or to read one block of its disk.
use Rattle.std.proofs.Common.{◌≡◌, ℕ, ◌<◌, ◌≤◌, Bool, false, List, [], length, take, Ok, Err, Decides, Result, sym, refl, ap, ◌∙◌, subst, inl, inr, arith}
use Rattle.std.proofs.lemmas.List.{take_all, length-take}
use Rattle.std.proofs.lemmas.Bool.{false≢true, true≢false, eq-eqb}
use Rattle.model.specs.Requests.{Contents}
use Rattle.model.specs.declared.refusal.Fault.{Fault}
use Rattle.model.specs.declared.refusal.Refusal.TheVariants.{Failed}
use Rattle.block.specs.declared.op.BlockOp.TheVariants.{Read, Write}
use Rattle.block.specs.Blocks.{block_rules, block_at, with_block}
use Rattle.driver.specs.Calls.{Call, Reply}
use Rattle.driver.specs.States.{State}
use Rattle.model.specs.Headers.{request_of}
use Rattle.driver.specs.Rules.{Perhaps}
use Rattle.model.specs.declared.header.Header.{Header}
use Rattle.exchange.specs.declared.silence.Silence.{Silence}
use Rattle.exchange.specs.Hearing.{Heard}
use Rattle.exchange.proofs.Coming.{Came, came_done, came_lost, came_open, came_failed, heard_came}
use Rattle.archive.specs.declared.archive.StoreError.{StoreError}
use Rattle.archive.specs.declared.archive.StoreError.TheVariants.{Refused}
use Rattle.archive.specs.Disks.{disk, with_disk, header_of, Stuck, stuck_failed, stuck_open, Wrote, wrote, not_wrote, Compared, compared, not_compared}
use Rattle.archive.specs.Errors.{from_silence}

-- a request for a block whose answer was heard, by the state of the driver
module _ {D : Type 0} {state : D → State} {fault : D → Fault} {steps : D → Call → Reply → D → Type 0} {d e : D} {h : Header} {a : ℕ} {buffer buffer' : List ℕ} {r : Result ℕ Silence}
    (free : (state d).waiting ≡ []) (near : a < (state d).reach) (wide : 512 ≤ length buffer) where
  pub write_heard : {block : List ℕ} → h ≡ header_of Write a → length block ≡ 512 → Heard block_rules state fault steps d (request_of h block) buffer buffer' r e
      → Came block_rules (state d) (request_of (header_of Write a) block) (fault e) buffer' r (state e)
  write_heard {block} op size w =
      heard_came (subst (λ (x : Header). Heard block_rules state fault steps d (request_of x block) buffer buffer' r e) op w) free refl near (eq-eqb (length block) 512 size) (omega arith) wide

  pub read_heard : h ≡ header_of Read a → Heard block_rules state fault steps d (request_of h []) buffer buffer' r e
      → Came block_rules (state d) (request_of (header_of Read a) []) (fault e) buffer' r (state e)
  read_heard op w = heard_came (subst (λ (x : Header). Heard block_rules state fault steps d (request_of x []) buffer buffer' r e) op w) free refl near refl (omega arith) wide

-- the bytes that are on the disk after a write that was perhaps made
perhaps : {s t : State} {f : Fault} {a : ℕ} {block : List ℕ} {x : StoreError} (y : Contents) → t.reach ≡ s.reach → t.contents ≡ y → Stuck f t x → Perhaps block_rules s (request_of (header_of Write a) block) y
    → Wrote s a block f (Err x) t
perhaps {s} y d c z (inl p) = not_wrote (disk s) (inl refl) d (c ∙ p) z
perhaps {s} {a} {block} y d c z (inr p) = not_wrote (with_block a block (disk s)) (inr refl) d (c ∙ p) z

-- what a read that was answered says: nothing changed, and the first n bytes of the buffer are the block
record Got (s t : State) (a : ℕ) (buffer : List ℕ) (n : ℕ) : Type 0 where
  pub after : t ≡ with_disk s (disk s)
  pub bytes : take n buffer ≡ block_at a (disk s)

unread : (s : State) (a : ℕ) (y : Contents) → Perhaps block_rules s (request_of (header_of Read a) []) y → y ≡ s.contents
unread s a y (inl p) = p
unread s a y (inr p) = p

module _ {s t : State} {f : Fault} {a : ℕ} {buffer : List ℕ} where
  module _ {block : List ℕ} where
    pub wrote_ok : {n : ℕ} → Came block_rules s (request_of (header_of Write a) block) f buffer (Ok n) t → Wrote s a block f (Ok tt) t
    wrote_ok (came_done up b e) = wrote e

    pub wrote_err : {x : Silence} → Came block_rules s (request_of (header_of Write a) block) f buffer (Err x) t → Wrote s a block f (Err (from_silence x)) t
    wrote_err (came_lost y up d p e) = absurd (true≢false d)
    wrote_err (came_open y up p e) = perhaps y (ap (λ (z : State). z.reach) e) (ap (λ (z : State). z.contents) e) (stuck_open (request_of (header_of Write a) block) (ap (λ (z : State). z.waiting) e)) p
    wrote_err (came_failed y g up d c p) = perhaps y d c (subst (λ (z : Fault). Stuck f t (Refused (Failed z))) (sym g) (stuck_failed up)) p

  got : {n : ℕ} → Came block_rules s (request_of (header_of Read a) []) f buffer (Ok n) t → Got s t a buffer n
  got (came_done up b e) = record { after = e; bytes = b }

  pub read_err : {x : Silence} (bytes : List ℕ) → Came block_rules s (request_of (header_of Read a) []) f buffer (Err x) t → Compared s a bytes f (Err (from_silence x)) t
  read_err bytes (came_lost y up d p e) = absurd (true≢false d)
  read_err bytes (came_open y up p e) =
      not_compared (ap (λ (z : State). z.reach) e) (ap (λ (z : State). z.contents) e ∙ unread s a y p) (stuck_open (request_of (header_of Read a) []) (ap (λ (z : State). z.waiting) e))
  read_err bytes (came_failed y g up d c p) = not_compared d (c ∙ unread s a y p) (subst (λ (z : Fault). Stuck f t (Refused (Failed z))) (sym g) (stuck_failed up))

  -- a buffer of one block is compared
  pub compared_by : {n : ℕ} {b : Bool} (bytes : List ℕ) → length buffer ≡ 512 → 512 ≤ n → Decides b (buffer ≡ bytes) → Came block_rules s (request_of (header_of Read a) []) f buffer (Ok n) t
      → Compared s a bytes f (Ok b) t
  compared_by {n} bytes l h d c =
      let w = got c in
      let e : buffer ≡ block_at a (disk s) = sym (take_all n buffer (omega arith)) ∙ w.bytes in
      compared w.after ((λ z. sym e ∙ d.0 z), (λ z. d.1 (e ∙ z)))

  -- an answer of fewer bytes is no block
  pub too_few : {n : ℕ} (bytes : List ℕ) → length bytes ≡ 512 → n < 512 → Came block_rules s (request_of (header_of Read a) []) f buffer (Ok n) t → Compared s a bytes f (Ok false) t
  too_few {n} bytes l h c =
      let w = got c in
      compared w.after (
        (λ z. absurd (false≢true z)),
        (λ z.
            let e : length (take n buffer) ≡ 512 = ap length (w.bytes ∙ z) ∙ l in
            let k = length-take n buffer in
            absurd (omega arith)),
      )
