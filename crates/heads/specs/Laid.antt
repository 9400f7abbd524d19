-- How heads and bytes say what is kept.
use Rattle.std.specs.Prelude.{ℕ, List, [], ◌∷◌, take, drop}
use Rattle.model.specs.Headers.{request_of}
use Rattle.heads.specs.Kept.{Kept}
use Rattle.heads.specs.declared.head.Head.{Head}

-- the request of a head, with the payload at the front of the bytes
abbrev pub kept_as : Head → List ℕ → Kept
kept_as h bytes = record { request = request_of h.header (take h.size bytes); handed = h.handed }

-- the requests that heads describe, whose payloads lie one after another in a list of bytes
abbrev pub laid : List Head → List ℕ → List Kept
laid [] bytes = []
laid (h ∷ hs) bytes = kept_as h bytes ∷ laid hs (drop h.size bytes)
