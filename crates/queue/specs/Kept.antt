-- What a queue keeps, as `heads` has it.
pub use Rattle.heads.specs.Kept.{Kept, fresh, marked, head_of, payload_of, weight, admitted, verdict, handed_at}
