-- The kinds of entries, as the log has them.
pub use Rattle.kinds.specs.Kinds.{setting_kind, membership_kind}
