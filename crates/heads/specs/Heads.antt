-- The heads of requests: how many payload bytes they account for, and their marks.
use Rattle.std.specs.Prelude.{ℕ, Bool, List, sum_by}
use Rattle.heads.specs.declared.head.Head.{Head}

-- the payload bytes that heads account for
abbrev pub total : List Head → ℕ
total hs = sum_by (λ h. h.size) hs

-- a head with another mark
abbrev pub remark : Bool → Head → Head
remark m h = record { header = h.header; size = h.size; handed = m }
