pub mod Runs
pub mod Replays
