-- Theorems about the definitions.
pub mod DayRuns
pub mod DaySizes
