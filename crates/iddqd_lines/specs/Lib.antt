pub mod Split
pub mod Stream
pub mod Line
pub mod Program
pub mod Replies
pub mod Serve
-- what a caller's clauses cite, from one place: of the crate below, and of this one
pub use Rattle.iddqd_driver.specs.State
pub use Rattle.iddqd_driver.specs.Machine
pub use Rattle.iddqd_lines.specs.Line.{line_feed, space, max_line, lines_of, whole_lines_of, command_of, request_of, overwritten_index, text_of}
pub use Rattle.iddqd_lines.specs.Program.{record_keys, IsCheckText, Serves, AnswersInPart, EndsAt, ServesUntil, ServesAll, most_reads, FailsAt, fault_text}
pub use Rattle.iddqd_lines.specs.Stream.{FailsOnErr}
