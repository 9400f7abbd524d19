-- How many frames there are, as `arrivals` counts them.
pub use Rattle.arrivals.specs.Surveys.{nothing, counted, survey_from, survey_of, survey_frames}
