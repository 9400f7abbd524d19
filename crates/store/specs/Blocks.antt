-- The record of a frame as the code makes it.
use Rattle.std.specs.Prelude.{ℕ, ◌+◌, cond, List, length, Some, None, Ok, Err, Option, Result, nat_lt}
use Rattle.store.specs.declared.records.Record.{Record}
use Rattle.store.specs.declared.store.StoreError.{StoreError}
use Rattle.store.specs.declared.store.StoreError.TheVariants.{TooLong, Full}
use Rattle.store.specs.Records.{blocks_for, padded}

-- how many blocks a record has, and their bytes; none for what is longer than any frame
abbrev pub record_blocks : List ℕ → Option Record
record_blocks frame = cond (nat_lt 1514 (length frame)) None (Some (record { count = blocks_for (length frame); bytes = padded frame }))

-- the record of a frame for which a disk of this reach has blocks, from one of them on, or why there is no room
abbrev pub fitted : List ℕ → ℕ → ℕ → Result Record StoreError
fitted frame first reach =
    cond (nat_lt 1514 (length frame)) (Err TooLong)
    (cond (nat_lt reach (first + blocks_for (length frame))) (Err Full) (Ok (record { count = blocks_for (length frame); bytes = padded frame })))
