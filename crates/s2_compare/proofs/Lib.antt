pub mod AnswerLemmas
pub mod SpellingLemmas
pub mod CountLemmas
pub mod EachLemmas
