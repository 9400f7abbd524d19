-- The frames of the arrivals, as `arrivals` has them.
pub use Rattle.arrivals.specs.Frames.{Found, ended, usable, split, to_group, passes, arrival, seek, next_frame}
pub use Rattle.arrivals.specs.Runs.{frames_from, frames_of, taken, frames_left}
