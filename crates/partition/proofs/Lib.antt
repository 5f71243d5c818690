-- The laws. For callers: `Placed` and `Apart`, how cuts lie, `Blocks`, the blocks between them, and `Runs`, equal bytes.
pub mod Digits
pub mod Reading
pub mod Shifted
pub mod Running
pub mod Level
pub mod Steps
pub mod Candidates
pub mod Search
pub mod Placed
pub mod Blocks
pub mod Apart
pub mod Runs
