pub mod OutputLaws
pub mod OutputExamples
pub mod Steps
