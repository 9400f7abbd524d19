-- A request's header: all of it but its payload.
use Rattle.std.specs.Prelude.{ℕ, List}
use Rattle.model.specs.Requests.{Request}
use Rattle.model.specs.declared.header.Header.{Header}

-- a header and a payload as a request, and its header again
abbrev pub request_of : Header → List ℕ → Request
request_of h p = record { tag = h.tag; kind = h.kind; address = h.address; payload = p }

abbrev pub header_of : Request → Header
header_of q = record { tag = q.tag; kind = q.kind; address = q.address }
